use Rattle.std.proofs.Common.{rules, arith, ◌≡◌, ◌∙◌, None, ap, subst, sym}
use mathlib.Core.List.{IsPrefix}
use Rattle.turn_gate.specs.Rule.{AllBegin}
use Rattle.turn_gate.specs.Views.{longer}
use Rattle.turn_gate.proofs.Polls.{compares_them}
use Rattle.turn_gate.proofs.Prefixes.{is_some}
use Rattle.turn_gate.proofs.Shares.{joins, both_begin}
use Rattle.turn_gate.proofs.Slots.{no_slot}
use Rattle.turn_gate.proofs.gate.Gate.join.Goals as goal

pub join_seat-requires : goal.join_seat-requires
join_seat-requires g c =
    let f = is_some _ c.seat.invariant.made in
    let h = is_some _ c.other.invariant.made in
    let rests = subst (λ k. k.view.held ≡ None) (sym c.seat.view_is) c.requires.no_turn.0 in
    let other_rests = subst (λ k. k.view.held ≡ None) (sym c.other.view_is) c.requires.no_turn.1 in (
      search rules,
      search rules,
      no_slot _ _ _ c.other.invariant.slot other_rests,
      search (rules, arith),
      joins _ _ c.seat.inside.inner.me.0 f.0 _ c.other.inside.inner.me.0 h.0 f.1 h.1 rests other_rests,
    )

pub load-requires : goal.load-requires
load-requires g c =
    let f = is_some _ c.seat.invariant.made in (
      search rules,
      search (rules, arith),
      compares_them _ _ _ c.join_seat.new.seat.me f.0 (ap (λ m. m.0.fixed) c.join_seat.ensures.2 ∙ f.1),
    )

pub returns-clause-goes_on : goal.returns-clause-goes_on
returns-clause-goes_on g c =
    let t = c.load.ensures.2.1 in
    let all = subst (λ m. AllBegin t.0 m.0.earlier) c.join_seat.ensures.2 t.2 in
    let seen = ap (λ m. m.0.seen) c.load.ensures.2.0 ∙ ap (λ m. m.0.seen) c.join_seat.ensures.2 in
    subst (λ l. IsPrefix c.args.seat.now.view.seen l) (sym seen)
    (subst (λ l. IsPrefix l (longer c.seat.inside.inner.me.0.seen c.other.inside.inner.me.0.seen))
    (ap (λ k. k.view.seen) c.seat.view_is) (both_begin _ _ _ all.0 all.1.0).0)

pub returns-clause-has_seen : goal.returns-clause-has_seen
returns-clause-has_seen g c =
    let t = c.load.ensures.2.1 in
    let all = subst (λ m. AllBegin t.0 m.0.earlier) c.join_seat.ensures.2 t.2 in
    let seen = ap (λ m. m.0.seen) c.load.ensures.2.0 ∙ ap (λ m. m.0.seen) c.join_seat.ensures.2 in
    subst (λ l. IsPrefix c.args.other.view.seen l) (sym seen)
    (subst (λ l. IsPrefix l (longer c.seat.inside.inner.me.0.seen c.other.inside.inner.me.0.seen))
    (ap (λ k. k.view.seen) c.other.view_is) (both_begin _ _ _ all.0 all.1.0).1)
