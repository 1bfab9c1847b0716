-- What is known after a run of calls.
use Rattle.std.proofs.Common.{◌≡◌, ℕ, List, [], ◌∷◌, Option, refl, ◌∙◌, subst}
use Rattle.std.specs.Prelude.{Result, Ok, Err, Some, OnOk, OnErr, IfOk, IsErrOf}
use Rattle.disk_core.specs.Images.{EachImage}
use Rattle.checkpoint.specs.declared.fault.StoreError.{StoreError}
use Rattle.checkpoint.specs.declared.fault.StoreError.TheVariants.{Failed, OutOfMemory}
use Rattle.event_log.specs.Meaning.{after_all}
use Rattle.event_log.specs.Holds.{Holds}
use Rattle.event_log.specs.Doubts.{InDoubt, of_event, ended}
use Rattle.event_log.specs.declared.revive.Revived.{Revived}
use Rattle.event_log.specs.declared.revive.Revived.TheVariants.{Stood, Lost}
use Rattle.event_log.specs.Runs.{Pending, nothing, event, Known, Turn, added, failed, stood, lost, unchanged, then_known, Knows, KnowsAfter, settled, in_doubt, append_turn, revive_turn, acknowledged, known_after, Station, turns_of, last_log, last_disk, IsRun}
use Rattle.event_log.specs.declared.log.Log.{Log}

module _ {S : Type 0} (step : S → List ℕ → Option S) where
  -- the state behind a call, and the events of the calls behind it
  one_turn : (now : Option S) (pending : Pending) (turn : Turn) (turns : List Turn)
      → after_all step (then_known step (record { now = now; pending = pending }) turn).now
      (acknowledged (then_known step (record { now = now; pending = pending }) turn).pending turns)
      ≡ after_all step now (acknowledged pending (turn ∷ turns))
  one_turn now pending (added payload) turns = refl
  one_turn now pending (failed payload) turns = refl
  one_turn now nothing stood turns = refl
  one_turn now (event payload) stood turns = refl
  one_turn now nothing lost turns = refl
  one_turn now (event payload) lost turns = refl
  one_turn now nothing unchanged turns = refl
  one_turn now (event payload) unchanged turns = refl

  -- the state after a run is that of the acknowledged events
  pub state_after : (k : Known S) (turns : List Turn)
      → (known_after step k turns).now ≡ after_all step k.now (acknowledged k.pending turns)
  state_after k [] = refl
  state_after k (turn ∷ turns) = state_after (then_known step k turn) turns ∙ one_turn k.now k.pending turn turns

  module _ {D : Type 0} (images : D → List ℕ → Type 0) (start : List ℕ → Option S) where
    pub at_last : (k : Known S) (log : Log) (disk : D) (stations : List (Station D))
        → Knows start step log k.now k.pending (images disk) → IsRun images start step k stations
        → Knows start step (last_log log stations) (known_after step k (turns_of stations)).now
        (known_after step k (turns_of stations)).pending (images (last_disk disk stations))
    at_last k log disk [] knows run = knows
    at_last k log disk (station ∷ stations) knows run =
        at_last (then_known step k station.turn) station.log station.disk stations run.0 run.1

    pub stands : (k : Known S) (log : Log) (disk : D) (stations : List (Station D))
        → Knows start step log k.now k.pending (images disk) → IsRun images start step k stations
        → Knows start step (last_log log stations) (after_all step k.now (acknowledged k.pending (turns_of stations)))
        (known_after step k (turns_of stations)).pending (images (last_disk disk stations))
    stands k log disk stations knows run =
        subst (λ (now : Option S). Knows start step (last_log log stations) now
        (known_after step k (turns_of stations)).pending (images (last_disk disk stations)))
        (state_after k (turns_of stations)) (at_last k log disk stations knows run)

-- what the clauses of an append say together
pub append_known : {S T : Type 0} (start : List ℕ → Option S) (step : S → List ℕ → Option S) (log : Log) (state : S)
    (payload : List ℕ) (images : List ℕ → Type 0) (result : Result T StoreError)
    → OnOk result (EachImage images (Holds start step log (step state payload)))
    → (IsErrOf result Failed → EachImage images (InDoubt start step log (of_event step state payload)))
    → (IsErrOf result OutOfMemory → EachImage images (Holds start step log (Some state)))
    → KnowsAfter start step log (settled state) (append_turn payload result) images
append_known start step log state payload images (Ok t) ok doubt memory = ok
append_known start step log state payload images (Err Failed) ok doubt memory = doubt refl
append_known start step log state payload images (Err OutOfMemory) ok doubt memory = memory refl

-- and of a revive
pub revive_known : {S : Type 0} (start : List ℕ → Option S) (step : S → List ℕ → Option S) (log : Log) (state : S)
    (payload : List ℕ) (images : List ℕ → Type 0) (result : Result Revived StoreError)
    → IfOk result (λ revived. EachImage images (Holds start step log (ended revived (of_event step state payload))))
    → OnErr result (EachImage images (InDoubt start step log (of_event step state payload)))
    → KnowsAfter start step log (in_doubt state payload) (revive_turn result) images
revive_known start step log state payload images (Ok Stood) ok doubt = ok
revive_known start step log state payload images (Ok Lost) ok doubt = ok
revive_known start step log state payload images (Err e) ok doubt = doubt
