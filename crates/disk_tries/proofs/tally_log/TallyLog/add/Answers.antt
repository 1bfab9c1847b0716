use Rattle.std.proofs.Common.{◌≡◌, ℕ, List, Option, Some, Err, inl, refl, sym, ◌∙◌, ap, subst}
use Rattle.std.specs.Option.{IsSome}
use Rattle.disk_core.proofs.Moments.{started}
use Rattle.checkpoint.specs.Halves.{layout_of}
use Rattle.event_log.specs.Holds.{Holds}
use Rattle.event_log.specs.Doubts.{Either, InDoubt, of_event}
use Rattle.event_log.proofs.Steps.{stands_for}
use Rattle.disk_tries.specs.Tallies.{tally_of, with_note}
use Rattle.disk_tries.specs.TallyLogs.{Knows}
use Rattle.disk_tries.specs.declared.tally.Tally.{Tally}
use Rattle.disk_tries.proofs.tally_log.TallyLog.add.Goals as goal

pub returns-in-Ok-clause-knows : goal.returns-in-Ok-clause-knows
returns-in-Ok-clause-knows g c =
    let d = g.D.Disk in
    let new = c.append.new.disk in
    let next : with_note c.args.self.now.tally c.as_slice-2.result.now ≡ Some c.in-Some.next =
    ap (λ (n : List ℕ). with_note c.args.self.now.tally n) (c.as_slice-2.ensures ∙ sym c.as_slice.ensures)
    ∙ sym c.with_note.ensures ∙ c.in-Some.is in
    subst (λ (p : Option (List ℕ)). Knows (d.seen new) (d.images new) c.append.new.self c.in-Some.next p)
    (sym c.requires.open) (
      λ x now. subst (λ (o : Option Tally). Holds tally_of with_note c.append.new.self o x) next
          (c.in-Ok.ensures.acknowledged x now),
      c.in-Ok.ensures.durable,
    )

pub returns-in-Err-Failed-clause-knows : goal.returns-in-Err-Failed-clause-knows
returns-in-Err-Failed-clause-knows g c =
    let tally = c.args.self.now.tally in
    let next : with_note tally c.args.note ≡ Some c.in-Some.next =
    ap (λ (n : List ℕ). with_note tally n) (sym c.as_slice.ensures) ∙ sym c.with_note.ensures ∙ c.in-Some.is in (
      subst (λ (o : Option Tally). IsSome o) (sym next) refl,
      λ x now. subst (λ (n : List ℕ). InDoubt tally_of with_note c.append.new.self (of_event with_note tally n) x)
          c.as_slice-2.ensures (c.in-Err-Failed.ensures.in_doubt (ap Err c.in-Err-Failed.field-0-is) x now),
    )

pub returns-in-Err-OutOfMemory-clause-knows : goal.returns-in-Err-OutOfMemory-clause-knows
returns-in-Err-OutOfMemory-clause-knows g c =
    let d = g.D.Disk in
    let new = c.append.new.disk in
    subst (λ (p : Option (List ℕ)). Knows (d.seen new) (d.images new) c.append.new.self c.args.self.now.tally p)
    (sym c.requires.open)
    (c.in-Err-OutOfMemory.ensures.memory (ap Err c.in-Err-OutOfMemory.field-0-is))

pub returns-in_default-clause-any_moment : goal.returns-in_default-clause-any_moment
returns-in_default-clause-any_moment g c =
    let d = g.D.Disk in
    let old = c.args.self.now in
    let known =
    subst (λ (p : Option (List ℕ)). Knows (d.seen old.disk) (d.images old.disk) old.log old.tally p)
    c.requires.open c.requires.knows in
    started d.moment d.left_since old.disk
    (Either tally_of with_note (layout_of old.log.half) (of_event with_note old.tally c.args.note)) (λ x left.
    inl (stands_for tally_of with_note old.log (Some old.tally) x
    (known.0 x (g.met.D.Disk.only_now old.disk x left))))
