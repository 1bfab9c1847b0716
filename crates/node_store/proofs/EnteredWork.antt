-- What a recorded unit of work makes of a node.
use Rattle.std.proofs.Common.{◌≡◌, inl, inr, ⊎_elim, ℕ, ◌<◌, Bool, List, Option, Some, refl, sym, ◌∙◌, ap, subst}
use Rattle.std.specs.Prelude.{option_and_then}
use Rattle.std.specs.Option.{option_map_or}
use Rattle.disk_core.specs.Images.{EachImage, Only}
use Rattle.checkpoint.specs.Halves.{layout_2, layout_of}
use Rattle.event_log.specs.Doubts.{Either, of_event}
use Rattle.event_log.specs.Holds.{Holds, StandsFor}
use Rattle.event_log.specs.declared.log.Log.{Log}
use Rattle.ucm_base.specs.Limits.{entry_limit}
use Rattle.pm_types.specs.declared.history.Happened.TheVariants.{Unit as UnitAfter}
use Rattle.pm_types.specs.declared.replies.Worked.{Worked as Answer}
use Rattle.pm_types.specs.declared.replies.Worked.TheVariants.{Unit as UnitDone}
use Rattle.pm_types.specs.declared.status.Status.{Status}
use Rattle.pm_types.specs.Steps.{with_entry}
use Rattle.pm_types.specs.Stored.{Areas, State}
use Rattle.slot_store.specs.Extents.{HasExtents, held_in, node_places}
use Rattle.node_core.specs.declared.prepared.Prepared.{Prepared}
use Rattle.node_core.specs.Core.{Holding, IsSound, Readied, node_of, over}
use Rattle.node_core.specs.Units.{IsReservedWork, IsWorked, after_work, answer_to, state_worked}
use Rattle.node_core.proofs.UnitsDone.{worked-unit}
use Rattle.event_codec.specs.DecidingStates.{state_told}
use Rattle.event_codec.specs.Records.{RecordFits, record_spelled}
use Rattle.event_codec.specs.declared.records.Record.TheVariants.{Worked}
use Rattle.node_recovery.specs.Deciding.{after_record}
use Rattle.node_recovery.specs.Images.{after_bytes}
use Rattle.node_recovery.proofs.RecordedWork.{work_done, work_recorded}
use Rattle.node_store.specs.Open.{IsOpen}
use Rattle.node_store.specs.Serving.{ServesEither}
use Rattle.node_store.proofs.Entered.{on-image, told-back}

-- a unit for which all is ready, answered so
module _ (r : Readied) (areas : Areas) (fails : List (List ℕ)) (passed : Bool) (after : Status)
    (room : r.state.entries < entry_limit) (sound : IsSound (over areas r)) (ready : IsReservedWork (over areas r))
    (due : answer_to fails (node_of (over areas r)) ≡ UnitDone passed after) where
  abbrev v : Holding
  v = over areas r

  -- the state behind it
  abbrev pub unit_state : State
  unit_state = state_worked r (UnitDone passed after)

  done : (p : Prepared)
      → IsWorked v fails (UnitDone passed after) (record { areas = areas; state = unit_state; prepared = p })
  done p =
      let is = work_done v fails passed after sound ready due in
      worked-unit v fails sound ready passed (sym is.passes) is.state is.is after is.leads unit_state
      (ap (λ (o : Option State). option_map_or (with_entry (UnitAfter after)) o r.state) is.is
      ∙ ap (λ (s : Status). with_entry (UnitAfter s) is.state) (sym is.leads)) p

  -- its record makes this state
  pub unit_makes : RecordFits (Worked passed after)
      → after_bytes r.state (record_spelled (Worked passed after)) ≡ Some unit_state
  unit_makes fits = ap (option_and_then (after_record r.state)) (told-back (Worked passed after) fits)
      ∙ work_recorded v fails passed after sound ready due room

  -- an image of before its record or after it
  pub unit_serves : (text : List ℕ) → after_bytes r.state text ≡ Some unit_state → (image : List ℕ)
      → Either state_told after_bytes layout_2 (of_event after_bytes r.state text) image
      → HasExtents node_places image → held_in node_places image ≡ areas
      → ServesEither (node_of v) (after_work fails (node_of v)) image
  unit_serves text makes image either has same = ⊎_elim
      (λ before. inl (
        r.state,
        record {
          log = before;
          node = on-image areas r.prepared r.state (node_of v) image has same sound refl;
        },
      ))
      (λ behind. inr (
        unit_state,
        record {
          log = subst (λ o. StandsFor state_told after_bytes layout_2 o image) makes behind;
          node = on-image areas r.prepared unit_state (after_work fails (node_of v)) image has same
              (done r.prepared).sound (done r.prepared).node;
        },
      )) either

  -- the node behind its record
  pub unit_opened : (log : Log) (images : List ℕ → Type 0) (new : Readied) (given : Answer) (seen text : List ℕ)
      → layout_of log.half ≡ layout_2 → HasExtents node_places seen → held_in node_places seen ≡ areas
      → after_bytes r.state text ≡ Some unit_state → IsWorked v fails given (over areas new)
      → new.state ≡ state_worked r given
      → EachImage images (Holds state_told after_bytes log (after_bytes r.state text)) → Only seen images
      → IsOpen log new seen images
  unit_opened log images new given seen text pair has same makes done is holds only = record {
    pair = pair;
    extents = has;
    sound = subst (λ held. IsSound (over held new)) (sym same) done.sound;
    holds = λ c now. subst (λ o. Holds state_told after_bytes log o c)
        (makes ∙ sym (ap Some (is ∙ ap (state_worked r) (done.answer ∙ due)))) (holds c now);
    durable = only;
  }
