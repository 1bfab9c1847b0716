use Rattle.std.proofs.Common.{◌+◌, ◌≤◌, ◌∙◌, ℕ, sym, ap, subst, Option}
use Rattle.std.specs.Prelude.{IfSome}
use Rattle.turn_gate.specs.Parts.{MayBecome, at_most_last, numbers_of}
use Rattle.turn_gate.specs.Views.{at_rest, published}
use Rattle.turn_gate.specs.declared.view.Account.{Account}
use Rattle.campaign_core.specs.declared.events.MasterEvent.{MasterEvent}
use Rattle.master_gate.specs.Adds.{LooksAt}
use Rattle.plan_numbers.specs.Plans.{plan_numbers}
use Rattle.master_gate.specs.Seats.{opening_of}
use Rattle.master_gate.specs.Stands.{Knows, StandsFor, account_of, listing_in, tells}
use Rattle.master_gate.proofs.Becomes.{by_look}
use Rattle.master_gate.proofs.Rises.{look_covers}
use Rattle.master_gate.proofs.Seats.{looks_so, at_opening, has_all, one_part}
use Rattle.master_gate.proofs.gate.MasterGate.look.Goals as goal

pub look-answer-requires : goal.look-answer-requires
look-answer-requires g c =
    let d = g.D.Disk in
    let found = c.turn-shared.result in
    record {
      known = at_opening (λ o. StandsFor d.moment d.left_since d.seen d.images o found.log found.events.items)
          (λ f. Knows d.seen d.images found.log) (plan_numbers (d.armed found.log.disk)) c.args.seat.now.view.fixed
          c.requires.ours.seat.made c.turn-shared.ensures.is_true (λ o stands. stands.known);
    }

pub publish-requires-clause-goes_on : goal.publish-requires-clause-goes_on
publish-requires-clause-goes_on g c =
    let d = g.D.Disk in
    let old = c.args.seat.now in
    let v = c.turn-shared.new.seat.view in
    let found = c.turn-shared.result in
    let later = c.look-answer.new.self in
    let a = account_of d.fault_count found in
    let b = account_of d.fault_count later in
    let rise = c.faults.result in
    let turn = c.turn-shared.ensures.turn in
    let one = ap (λ w. numbers_of w.parts) turn ∙ one_part c.args.self.now old c.requires.ours a in
    let rose : at_most_last (a.faults + rise) ≤ b.faults = subst (λ (n : ℕ). at_most_last (a.faults + n) ≤ b.faults)
    (sym c.faults.ensures)
    (look_covers c.look-answer.result a.faults b.faults c.look-answer.ensures.faults c.look-answer.ensures.carries) in
    let done = at_opening (λ o. StandsFor d.moment d.left_since d.seen d.images o found.log found.events.items)
    (λ f. LooksAt f c.look-answer.result (listing_in found) (listing_in later))
    (plan_numbers (d.armed found.log.disk)) old.view.fixed c.requires.ours.seat.made c.turn-shared.ensures.is_true
    c.look-answer.ensures.looks in
    subst (λ (h : Option (Account MasterEvent)). IfSome h (λ x. MayBecome tells v.parts x b rise))
    (sym (ap (λ w. w.held) turn))
    (by_look v.parts one a b rise rose (opening_of old.view) c.look-answer.result done)

pub returns-clause-looks : goal.returns-clause-looks
returns-clause-looks g c =
    let d = g.D.Disk in
    let old = c.args.seat.now in
    let found = c.turn-shared.result in
    let later = c.look-answer.new.self in
    let rise = c.faults.result in
    let b = account_of d.fault_count later in
    let same = c.give.ensures.same_gate ∙ c.publish.ensures.same_gate ∙ c.turn-shared.ensures.same_gate in
    let is = c.give.ensures.given ∙ ap at_rest c.publish.ensures.published
    ∙ ap (λ v. at_rest (published tells b rise v)) c.turn-shared.ensures.turn in
    let done = at_opening (λ o. StandsFor d.moment d.left_since d.seen d.images o found.log found.events.items)
    (λ f. LooksAt f c.look-answer.result (listing_in found) (listing_in later))
    (plan_numbers (d.armed found.log.disk)) old.view.fixed c.requires.ours.seat.made c.turn-shared.ensures.is_true
    c.look-answer.ensures.looks in
    looks_so c.args.self.now old c.requires.ours c.give.new.seat (account_of d.fault_count found) b rise same is
    (c.turn-shared.ensures.nothing_came (has_all c.args.self.now old c.requires.ours))
    c.turn-shared.ensures.own_entries (opening_of old.view) c.look-answer.result done
