use Rattle.std.proofs.Common.{rules, ◌≡◌, None, IfSome, subst, ap, ◌∙◌, sym, arith}
use mathlib.Core.List.{IsPrefix}
use Rattle.turn_gate.specs.Parts.{MayBecome}
use Rattle.turn_gate.proofs.Prefixes.{is_some}
use Rattle.turn_gate.proofs.Slots.{one_slot}
use Rattle.turn_gate.proofs.Becomes.{goes_on_by}
use Rattle.turn_gate.proofs.Turns.{tells_all}
use Rattle.turn_gate.proofs.gate.Gate.publish_as.Goals as goal

pub store-requires : goal.store-requires
store-requires g c =
    let v = c.seat.inside.inner.me.0 in
    let it = c.args.machine.now in
    let f = is_some v.fixed c.seat.invariant.made in
    let a = is_some v.held (subst (λ k. k.view.held ≡ None → ⊥) (sym c.seat.view_is) c.requires.in_turn) in
    let goes_on = subst
    (λ k. IfSome k.view.held
    (λ found. MayBecome g.M.Machine.tells k.view.parts found (g.M.Machine.account it) c.args.rise))
    (sym c.seat.view_is) c.requires.goes_on in
    let may = subst (λ rise. MayBecome g.M.Machine.tells v.parts a.0 (g.M.Machine.account it) rise)
    (sym c.requires.told.1)
    (subst (λ o. IfSome o (λ found. MayBecome g.M.Machine.tells v.parts found (g.M.Machine.account it) c.args.rise))
    a.1 goes_on) in
    let is_true = subst
    (λ k. IfSome k.view.fixed (λ x. (g.M.Machine.fixed it ≡ x.numbers) × g.M.Machine.stands it x.opening))
    (sym c.seat.view_is) c.requires.is_true in
    let stands = subst (λ o. IfSome o (λ x. (g.M.Machine.fixed it ≡ x.numbers) × g.M.Machine.stands it x.opening))
    f.1 is_true in
    let code = c.code.ensures f.0.opening stands.1 in (
      search rules,
      search rules,
      tells_all _ _ _ c.seat.inside.inner.me f.0 _ it a.0 g.J.Told.rise _ f.1 a.1 may c.requires.told.0
          (omega (arith, c.count.ensures, code)),
    )

pub returns-clause-goes_on : goal.returns-clause-goes_on
returns-clause-goes_on g c =
    let v = c.args.seat.now.view in
    let it = c.args.machine.now in
    let a = is_some v.held c.requires.in_turn in
    let may = subst
    (λ o. IfSome o (λ found. MayBecome g.M.Machine.tells v.parts found (g.M.Machine.account it) c.args.rise))
    a.1 c.requires.goes_on in
    let seen = (one_slot _ a.0 _ _ c.seat.invariant.slot (ap (λ k. k.view.held) c.seat.view_is ∙ a.1)).1 in
    subst (λ l. IsPrefix l (g.M.Machine.account it).entries) (sym seen ∙ ap (λ k. k.view.seen) c.seat.view_is)
    (goes_on_by _ _ _ _ _ may)
