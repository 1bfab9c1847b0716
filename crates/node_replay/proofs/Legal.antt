-- What was done is one history of the node.
use Rattle.std.proofs.Common.{◌≡◌, ◌⊎◌, inl, inr, ℕ, ◌<◌, Bool, true, List, [], ◌∷◌, ◌++◌, Option, Some, None, refl, ap, subst, sym, arith}
use Rattle.std.specs.Prelude.{◌||◌, not, option_map}
use Rattle.ucm_base.specs.Limits.{client_limit}
use Rattle.ucm_base.specs.declared.ids.CallNo.{CallNo}
use Rattle.pm_types.specs.declared.calls.Call.{Call as NumberedCall}
use Rattle.pm_types.specs.declared.history.Entry.{Entry}
use Rattle.pm_types.specs.declared.history.Entry.TheVariants.{Numbered, Unit as UnitDone}
use Rattle.pm_types.specs.declared.replies.Reached.{Reached as CallReached}
use Rattle.pm_types.specs.declared.replies.Reached.TheVariants.{Done, Again, Stale}
use Rattle.pm_types.specs.declared.status.Status.TheVariants.{Verifying}
use Rattle.pm_types.specs.Histories.{IsLegal, IsTrueTo, after_entry, passes, state_after, unit_passes}
use Rattle.pm_types.specs.NodeState.{NodeState, has_status}
use Rattle.pm_types.specs.Work.{unit}
use Rattle.node_core.specs.Packages.{package_reading}
use Rattle.node_core.specs.Units.{answer_of}
use Rattle.node_store.specs.Serving.{stepped}
use Rattle.scenario.specs.declared.events.Event.{Event}
use Rattle.scenario.specs.declared.events.Event.TheVariants.{Call, Work, Ask}
use Rattle.scenario.specs.declared.script.Script.{Script}
use Rattle.scenario.specs.Events.{call_meant}
use Rattle.node_replay.specs.declared.given.Given.{Given}
use Rattle.node_replay.specs.Done.{AreDone, AreOfClients, Did, IsGiven, IsOfClient, history_of}
use Rattle.node_replay.specs.Lines.{entry_of, entry_of_call, entry_of_unit}

module _ (fails : List (List ℕ)) where
  -- a history that the node can have, true to the clusters that fail
  abbrev IsOne : NodeState → List Entry → Type 0
  IsOne n entries = IsLegal package_reading n entries × IsTrueTo fails package_reading n entries

  one-more : (es gs : List Entry) (n : NodeState) → IsOne n es → IsOne (state_after package_reading n es) gs
      → IsOne n (es ++ gs)
  one-more [] gs n one more = more
  one-more (Numbered client call_no call reply ∷ es) gs n one more =
      let e = Numbered client call_no call reply in
      let rest = one-more es gs (after_entry package_reading n e) (one.0.1, one.1) more in
      ((one.0.0, rest.0), rest.1)
  one-more (UnitDone passed after ∷ es) gs n one more =
      let e = UnitDone passed after in
      let rest = one-more es gs (after_entry package_reading n e) (one.0.1, one.1.1) more in
      ((one.0.0, rest.0), (one.1.0, rest.1))

  call-one : (n : NodeState) (client : ℕ) (call_no : CallNo) (call : NumberedCall) (reached : CallReached)
      → client < client_limit → (stepped n client call_no call).1 ≡ reached
      → IsOne n (entry_of_call client call_no call reached)
  call-one n client call_no call (Done reply) few is = (((few, is), tt), tt)
  call-one n client call_no call (Again reply) few is = (tt, tt)
  call-one n client call_no call (Stale last) few is = (tt, tt)

  verdict : (v q : Bool) → ((not v || q) || v) ≡ true
  verdict v q = grind arith

  unit-one : (n : NodeState) (o : Option NodeState) → unit n (unit_passes fails n) ≡ o
      → IsOne n (entry_of_unit (answer_of n.status (unit_passes fails n) o))
  unit-one n None is = (tt, tt)
  unit-one n (Some m) is = (
    ((ap (option_map (λ (t : NodeState). t.status)) is, verdict (has_status Verifying n) (passes fails n)), tt),
    (refl, tt),
  )

event-one : (script : Script) (attached : List ℕ) (n : NodeState) (event : Event) → IsOfClient event
    → IsOne script.fails n (entry_of script attached n event)
event-one script attached n (Call client call_no call) few =
    call-one script.fails n client call_no (call_meant attached call) _ few refl
event-one script attached n (Work client) few =
    unit-one script.fails n (unit n (unit_passes script.fails n)) refl
event-one script attached n (Ask client query) few = (tt, tt)

added-one : (script : Script) (attached : List ℕ) (n : NodeState) (event : Event) (given : Given) (gave : Option Given)
    (added : List Entry) (before now : ℕ) → IsOfClient event
    → IsGiven given (entry_of script attached n event) gave added before now → IsOne script.fails n added
added-one script attached n event given (Some g) added before now few is =
    subst (IsOne script.fails n) (sym is.1) (event-one script attached n event few)
added-one script attached n event given None added before now few (inl none, risen) =
    subst (IsOne script.fails n) (sym none) (tt, tt)
added-one script attached n event given None added before now few (inr same, risen) =
    subst (IsOne script.fails n) (sym same) (event-one script attached n event few)

pub done_is_legal : (script : Script) (attached : List ℕ) (start : NodeState) (before : ℕ) (done : List Did)
    → AreOfClients done → AreDone script attached start before done → IsOne script.fails start (history_of done)
done_is_legal script attached start before [] few are = (tt, tt)
done_is_legal script attached start before (d ∷ done) few are =
    one-more script.fails (history_of done) d.added start
    (done_is_legal script attached start before done few.1 are.1)
    (added-one script attached (state_after package_reading start (history_of done)) d.line.event _ d.given d.added _
    d.faults few.0 are.0)
