-- What an event's entry makes of a node.
use Rattle.std.proofs.Common.{◌≡◌, ℕ, ◌≤◌, Bool, List, [], ◌∷◌, ◌++◌, length, Option, Some, None, refl, ap, arith}
use Rattle.std.specs.Prelude.{unwrap_or, option_map}
use Rattle.std.specs.declared.cmp.Ordering.{Ordering}
use Rattle.std.specs.declared.cmp.Ordering.TheVariants.{Less, Equal, Greater}
use Rattle.ucm_base.specs.declared.ids.CallNo.{CallNo}
use Rattle.pm_types.specs.declared.calls.Call.{Call as NumberedCall}
use Rattle.pm_types.specs.declared.history.Entry.{Entry}
use Rattle.pm_types.specs.declared.history.Happened.TheVariants.{Unit as UnitAfter}
use Rattle.pm_types.specs.declared.replies.Reached.{Reached as CallReached}
use Rattle.pm_types.specs.declared.replies.Reached.TheVariants.{Done, Again, Stale}
use Rattle.pm_types.specs.declared.replies.Worked.{Worked as WorkGave}
use Rattle.pm_types.specs.declared.replies.Worked.TheVariants.{Unit, Nothing}
use Rattle.pm_types.specs.declared.state.Kept.{Kept}
use Rattle.pm_types.specs.Histories.{after_entry, state_after, unit_passes, verdict_for}
use Rattle.pm_types.specs.NodeState.{NodeState, of_client}
use Rattle.pm_types.specs.Steps.{by_last, by_order, call_no_cmp, executed, with_entry}
use Rattle.pm_types.specs.Work.{unit}
use Rattle.node_core.specs.Packages.{package_reading}
use Rattle.node_core.specs.Units.{answer_of}
use Rattle.scenario.specs.declared.events.Event.{Event}
use Rattle.scenario.specs.declared.events.Event.TheVariants.{Call, Work, Ask}
use Rattle.scenario.specs.declared.script.Script.{Script}
use Rattle.scenario.specs.Events.{call_meant}
use Rattle.node_replay.specs.Lines.{after_event, entry_of, entry_of_call, entry_of_unit}

-- entries one after another
pub after_more : (es gs : List Entry) (n : NodeState)
    → state_after package_reading n (es ++ gs) ≡ state_after package_reading (state_after package_reading n es) gs
after_more [] gs n = refl
after_more (e ∷ es) gs n = after_more es gs (after_entry package_reading n e)

module _ (n : NodeState) (client : ℕ) (call_no : CallNo) (call : NumberedCall) where
  abbrev made : NodeState × CallReached
  made = executed n client call_no call (verdict_for package_reading n client call)

  -- an executed call makes its entry, and another one none
  abbrev IsMade : NodeState × CallReached → Type 0
  IsMade gave = state_after package_reading n (entry_of_call client call_no call gave.1) ≡ gave.0

  by-order : (kept : Kept) (order : Ordering) → IsMade (by_order n made kept order)
  by-order kept Less = refl
  by-order kept Equal = refl
  by-order kept Greater = refl

  by-kept : (o : Option Kept) → IsMade (by_last n made call_no o)
  by-kept None = refl
  by-kept (Some kept) = by-order kept (call_no_cmp call_no kept.no)

unit-made : (n : NodeState) (passed : Bool) (o : Option NodeState) → unit n passed ≡ o
    → state_after package_reading n (entry_of_unit (answer_of n.status passed o))
    ≡ unwrap_or (option_map (λ (t : NodeState). with_entry (UnitAfter t.status) t) o) n
unit-made n passed None is = refl
unit-made n passed (Some m) is =
    ap (λ o. unwrap_or (option_map (λ (t : NodeState). with_entry (UnitAfter t.status) t) o) n) is

-- an event leaves the node that its entry makes
pub event-made : (script : Script) (attached : List ℕ) (n : NodeState) (event : Event)
    → state_after package_reading n (entry_of script attached n event) ≡ after_event script attached n event
event-made script attached n (Call client call_no call) =
    by-kept n client call_no (call_meant attached call) (of_client n.last client)
event-made script attached n (Work client) =
    unit-made n (unit_passes script.fails n) (unit n (unit_passes script.fails n)) refl
event-made script attached n (Ask client query) = refl

call-few : (client : ℕ) (call_no : CallNo) (call : NumberedCall) (gave : CallReached)
    → length (entry_of_call client call_no call gave) ≤ 1
call-few client call_no call (Done reply) = omega arith
call-few client call_no call (Again reply) = omega arith
call-few client call_no call (Stale last) = omega arith

unit-few : (gave : WorkGave) → length (entry_of_unit gave) ≤ 1
unit-few (Unit passed after) = omega arith
unit-few (Nothing status) = omega arith

pub few-made : (script : Script) (attached : List ℕ) (n : NodeState) (event : Event)
    → length (entry_of script attached n event) ≤ 1
few-made script attached n (Call client call_no call) = call-few client call_no (call_meant attached call) _
few-made script attached n (Work client) = unit-few _
few-made script attached n (Ask client query) = omega arith
