use Rattle.std.proofs.Common.{◌≡◌, ℕ, List, Option, Some, sym, ◌∙◌, ap, subst}
use Rattle.event_log.specs.Holds.{Holds}
use Rattle.event_log.specs.Doubts.{InDoubt, of_event, ended}
use Rattle.event_log.specs.declared.revive.Revived.{Revived}
use Rattle.disk_tries.specs.Tallies.{tally_of, with_note}
use Rattle.disk_tries.specs.TallyLogs.{Knows}
use Rattle.disk_tries.specs.declared.tally.Tally.{Tally}
use Rattle.disk_tries.proofs.tally_log.TallyLog.revive.Goals as goal

pub revive-requires : goal.revive-requires
revive-requires g c =
    let d = g.D.Disk in
    let old = c.args.self.now in
    let known = subst (λ (p : Option (List ℕ)). Knows (d.seen old.disk) (d.images old.disk) old.log old.tally p)
    c.in-Some.is c.requires.knows in
    record {
      in_doubt = λ x now. subst (λ (n : List ℕ). InDoubt tally_of with_note old.log (of_event with_note old.tally n) x)
          (sym c.as_slice-2.ensures) (known.1 x now);
    }

pub returns-in_err-revived-clause-knows : goal.returns-in_err-revived-clause-knows
returns-in_err-revived-clause-knows g c =
    let d = g.D.Disk in
    let old = c.args.self.now in
    let new = c.revive.new.disk in
    let known =
    subst (λ (p : Option (List ℕ)). Knows (d.seen old.disk) (d.images old.disk) old.log old.tally p) c.in-Some.is
    c.requires.knows in
    subst (λ (p : Option (List ℕ)). Knows (d.seen new) (d.images new) c.revive.new.self old.tally p)
    (sym c.in-Some.is) (
      known.0,
      λ x now.
          subst (λ (n : List ℕ). InDoubt tally_of with_note c.revive.new.self (of_event with_note old.tally n) x)
          c.as_slice-2.ensures (c.in_err-revived.ensures.in_doubt x now),
    )

pub returns-in-Stood-clause-knows : goal.returns-in-Stood-clause-knows
returns-in-Stood-clause-knows g c =
    let old = c.args.self.now in
    let next : with_note old.tally c.as_slice-2.result.now ≡ Some c.in-Some-with_note.next =
    ap (λ (n : List ℕ). with_note old.tally n) (c.as_slice-2.ensures ∙ sym c.as_slice.ensures)
    ∙ sym c.with_note.ensures ∙ c.in-Some-with_note.is in (
      λ x now. subst (λ (o : Option Tally). Holds tally_of with_note c.revive.new.self o x) next
          (subst (λ (r : Revived). Holds tally_of with_note c.revive.new.self
          (ended r (of_event with_note old.tally c.as_slice-2.result.now)) x) c.in-Stood.is
          (c.in_ok-revived.ensures.decided x now)),
      c.in_ok-revived.ensures.durable,
    )

pub returns-in-Lost-clause-knows : goal.returns-in-Lost-clause-knows
returns-in-Lost-clause-knows g c =
    let old = c.args.self.now in (
      λ x now.
          subst (λ (r : Revived). Holds tally_of with_note c.revive.new.self
          (ended r (of_event with_note old.tally c.as_slice-2.result.now)) x) c.in-Lost.is
          (c.in_ok-revived.ensures.decided x now),
      c.in_ok-revived.ensures.durable,
    )
