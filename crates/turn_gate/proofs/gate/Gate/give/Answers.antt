use Rattle.std.proofs.Common.{rules, ◌≡◌, Some, IfSome, subst, sym}
use Rattle.turn_gate.proofs.Prefixes.{is_some}
use Rattle.turn_gate.proofs.Turns.{returns_it}
use Rattle.turn_gate.proofs.gate.Gate.give.Goals as goal

pub store-requires : goal.store-requires
store-requires g c =
    let it = c.args.machine in
    let f = is_some _ c.seat.invariant.made in
    let holds = subst (λ k. k.view.held ≡ Some (g.M.Machine.account it)) (sym c.seat.view_is) c.requires.as_published in
    let is_true = subst
    (λ k. IfSome k.view.fixed (λ x. (g.M.Machine.fixed it ≡ x.numbers) × g.M.Machine.stands it x.opening))
    (sym c.seat.view_is) c.requires.is_true in
    let stands = subst (λ o. IfSome o (λ x. (g.M.Machine.fixed it ≡ x.numbers) × g.M.Machine.stands it x.opening))
    f.1 is_true in (
      search rules,
      search rules,
      returns_it _ _ _ c.exchange-none.new.seat.me f.0 it (search rules) (search rules) (search rules)
          stands.0 stands.1,
    )
