use Rattle.std.proofs.Common.{◌+◌, ◌≤◌, ◌<◌, ◌∙◌, ℕ, List, sym, ap, subst}
use Rattle.std.specs.Prelude.{IfSome}
use mathlib.Core.List.{IsPrefix}
use Rattle.turn_gate.specs.Parts.{MayBecome, at_most_last, times}
use Rattle.turn_gate.specs.Views.{at_rest, published}
use Rattle.client_calls.specs.Arrivals.{MayArrive}
use Rattle.pm_types.specs.NodeState.{NodeState}
use Rattle.node_gate.specs.Calls.{CallsTo}
use Rattle.node_gate.specs.Clients.{known_of, posted}
use Rattle.node_gate.specs.Seats.{opened_as}
use Rattle.node_gate.specs.Stands.{account_of, listing_in, node_at, tells}
use Rattle.node_gate.proofs.Arrivals.{arrives}
use Rattle.node_gate.proofs.Becomes.{by_call}
use Rattle.node_gate.proofs.Machines.{from_opening, known_in}
use Rattle.node_gate.proofs.Rises.{covers}
use Rattle.node_gate.proofs.Seats.{part_found, part_left, parts_in, still_clients, turned}
use Rattle.node_gate.proofs.gate.NodeGate.call.Goals as goal

pub call-answer-requires : goal.call-answer-requires
call-answer-requires g c = record {
  known = known_in g.D.Disk c.turn-shared.result c.args.seat.now.view.fixed c.requires.ours.seat.made
      c.turn-shared.ensures.is_true;
}

pub publish-requires-clause-goes_on : goal.publish-requires-clause-goes_on
publish-requires-clause-goes_on g c =
    let d = g.D.Disk in
    let old = c.args.seat.now.view in
    let it = c.turn-shared.result in
    let later = c.call-answer.new.self in
    let a = account_of d.fault_count it in
    let b = account_of d.fault_count later in
    let rise = c.faults_of.result in
    let answer = c.call-answer.result in
    let rose : at_most_last (a.faults + rise) ≤ b.faults = subst (λ (n : ℕ). at_most_last (a.faults + n) ≤ b.faults)
    (sym c.faults_of.ensures)
    (covers answer a.faults b.faults c.call-answer.ensures.faults c.call-answer.ensures.carries) in
    let does = λ (n : NodeState). CallsTo n c.args.client c.args.no c.args.call answer in
    let done = from_opening d it (λ n. does n (listing_in it) (listing_in later)) old.fixed
    c.requires.ours.seat.made c.turn-shared.ensures.is_true c.call-answer.ensures.calls in
    subst (λ w. IfSome w.held (λ x. MayBecome tells w.parts x b rise)) (sym c.turn-shared.ensures.turn)
    (by_call _ a b rise rose (opened_as d.seen old) c.args.client
    (subst (λ (ns : List ℕ). 0 < times c.args.client ns) (sym (parts_in old a)) c.requires.ours.part)
    c.args.no c.args.call answer done)

pub returns-clause-called : goal.returns-clause-called
returns-clause-called g c =
    let d = g.D.Disk in
    let old = c.args.seat.now in
    let it = c.turn-shared.result in
    let later = c.call-answer.new.self in
    let b = account_of d.fault_count later in
    let rise = c.faults_of.result in
    let answer = c.call-answer.result in
    let does = λ (n : NodeState). CallsTo n c.args.client c.args.no c.args.call answer in
    let turn = c.turn-shared.ensures in
    let given = c.give.ensures.given ∙ ap at_rest c.publish.ensures.published
    ∙ ap (λ v. at_rest (published tells b rise v)) turn.turn in
    turned old c.give.new.seat (account_of d.fault_count it) b rise
    (c.give.ensures.same_gate ∙ c.publish.ensures.same_gate ∙ turn.same_gate)
    given (does (opened_as d.seen old.view)) turn.goes_on
    (subst (λ v. IsPrefix v.seen b.entries) turn.turn c.publish.ensures.goes_on) turn.own_entries turn.nothing_came
    (from_opening d it (λ n. does n (listing_in it) (listing_in later)) old.view.fixed
    c.requires.ours.seat.made turn.is_true c.call-answer.ensures.calls)

pub returns-clause-ours : goal.returns-clause-ours
returns-clause-ours g c =
    still_clients _ c.args.self.now c.args.seat.now c.give.new.seat (returns-clause-called g c)
    c.args.client c.requires.ours

pub returns-clause-arrives : goal.returns-clause-arrives
returns-clause-arrives g c =
    let d = g.D.Disk in
    let old = c.args.seat.now in
    let it = c.turn-shared.result in
    let later = c.call-answer.new.self in
    let a = account_of d.fault_count it in
    let b = account_of d.fault_count later in
    let rise = c.faults_of.result in
    let turn = c.turn-shared.ensures in
    let given = c.give.ensures.given ∙ ap at_rest c.publish.ensures.published
    ∙ ap (λ v. at_rest (published tells b rise v)) turn.turn in
    let new = c.give.new.seat in
    let was = part_found old.view a c.args.client c.requires.ours.part turn.own_entries in
    let is = part_left old new a b rise (c.give.ensures.same_gate ∙ c.publish.ensures.same_gate ∙ turn.same_gate) given
    c.args.client c.requires.ours.part in
    from_opening d it (λ n. MayArrive (posted c.args.no c.args.call) (known_of c.args.client old.view)
    (known_of c.args.client new.view)) old.view.fixed c.requires.ours.seat.made turn.is_true (λ o stands.
    arrives (node_at d.seen o) stands.fit c.args.client c.args.no c.args.call old.view new.view (listing_in it)
    (listing_in later) was is (c.call-answer.ensures.stands o stands).legal c.call-answer.result
    (c.call-answer.ensures.calls o stands))
