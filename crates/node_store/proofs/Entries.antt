-- A call or a unit makes one entry, or changes nothing.
use Rattle.std.proofs.Common.{◌≡◌, ℕ, ◌+◌, List, Bool, Option, Some, None, refl, inl, inr, ap, arith}
use Rattle.std.specs.Prelude.{unwrap_or, option_map, option_and_then}
use Rattle.std.specs.declared.cmp.Ordering.{Ordering}
use Rattle.std.specs.declared.cmp.Ordering.TheVariants.{Less, Equal, Greater}
use Rattle.ucm_base.specs.declared.ids.CallNo.{CallNo}
use Rattle.pm_types.specs.declared.calls.Call.{Call}
use Rattle.pm_types.specs.declared.history.Happened.TheVariants.{Unit as UnitAfter}
use Rattle.pm_types.specs.declared.replies.Reached.{Reached}
use Rattle.pm_types.specs.declared.replies.Reply.{Reply}
use Rattle.pm_types.specs.declared.state.Kept.{Kept}
use Rattle.pm_types.specs.Histories.{unit_passes, verdict_for}
use Rattle.pm_types.specs.declared.status.Status.{Status}
use Rattle.pm_types.specs.NodeState.{NodeState, Session, of_client}
use Rattle.pm_types.specs.Steps.{answer_with, by_last, by_order, call_no_cmp, executed, reply_to, with_entry}
use Rattle.pm_types.specs.Transfers.{Verdict, with_bytes}
use Rattle.pm_types.specs.Work.{unit, unit_of}
use Rattle.node_core.specs.Packages.{package_reading}
use Rattle.node_core.specs.Units.{after_work}
use Rattle.node_store.specs.Serving.{MakesOne, stepped}

-- calls

judged-entries : (n : NodeState) (client : ℕ) (call : Call) (verdict : Verdict) (reply : Reply)
    → (answer_with (with_bytes verdict) n client call reply).entries ≡ n.entries
judged-entries n client call verdict reply = grind arith

in-order : (n : NodeState) (done : NodeState × Reached) (kept : Kept) (order : Ordering)
    → MakesOne n done.0 → MakesOne n (by_order n done kept order).0
in-order n done kept Less one = inl refl
in-order n done kept Equal one = inl refl
in-order n done kept Greater one = one

by-kept : (n : NodeState) (done : NodeState × Reached) (call_no : CallNo) (o : Option Kept)
    → MakesOne n done.0 → MakesOne n (by_last n done call_no o).0
by-kept n done call_no None one = one
by-kept n done call_no (Some kept) one = in-order n done kept (call_no_cmp call_no kept.no) one

pub call_makes_one : (n : NodeState) (client : ℕ) (call_no : CallNo) (call : Call)
    → MakesOne n (stepped n client call_no call).0
call_makes_one n client call_no call =
    let verdict = verdict_for package_reading n client call in
    let reply = reply_to n client call verdict in
    by-kept n (executed n client call_no call verdict) call_no (of_client n.last client)
    (inr (ap (λ k. k + 1) (judged-entries n client call verdict reply)))

-- units

unit-by : (n : NodeState) (x : Session) (passed : Bool) (status : Status) (m : NodeState)
    → unit_of n x passed status ≡ Some m → m.entries ≡ n.entries
unit-by n x passed status m is = grind (arith, is)

unit-entries : (n : NodeState) (passed : Bool) (o : Option Session) (m : NodeState)
    → option_and_then (λ x. unit_of n x passed n.status) o ≡ Some m → m.entries ≡ n.entries
unit-entries n passed None m is = absurd (cc is)
unit-entries n passed (Some x) m is = unit-by n x passed n.status m is

worked-one : (n : NodeState) (o : Option NodeState) → ((m : NodeState) → o ≡ Some m → m.entries ≡ n.entries)
    → MakesOne n (unwrap_or (option_map (λ (t : NodeState). with_entry (UnitAfter t.status) t) o) n)
worked-one n None same = inl refl
worked-one n (Some m) same = inr (ap (λ k. k + 1) (same m refl))

pub unit_makes_one : (n : NodeState) (fails : List (List ℕ)) → MakesOne n (after_work fails n)
unit_makes_one n fails =
    worked-one n (unit n (unit_passes fails n)) (unit-entries n (unit_passes fails n) n.session)
