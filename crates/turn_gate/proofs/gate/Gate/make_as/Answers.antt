use Rattle.std.proofs.Common.{rules, arith, refl, ◌<◌, length, subst, sym}
use Rattle.turn_gate.specs.Parts.{AllDiffer, TellsOnly}
use Rattle.turn_gate.specs.Views.{fixed_by}
use Rattle.turn_gate.proofs.Makings.{opens, begins}
use Rattle.turn_gate.proofs.Turns.{returns_it}
use Rattle.turn_gate.proofs.gate.Gate.make_as.Goals as goal

pub swap-requires : goal.swap-requires
swap-requires g c = (search rules, search rules, opens _ _ _ _ (search rules))

pub store-requires : goal.store-requires
store-requires g c =
    let it = c.args.machine in
    let code = c.code.ensures (g.M.Machine.opening it) c.requires.stands_for in
    let all = sym c.requires.numbers in (
      search rules,
      search rules,
      begins _ _ _ _ it g.M.Machine.opening g.J.Numbers.all _ (search rules) (omega (arith, c.count.ensures, code))
          (subst (λ l. 0 < length l) all c.requires.some_part)
          (subst AllDiffer all c.requires.parts_differ)
          (subst (λ l. TellsOnly g.M.Machine.tells l (g.M.Machine.account it)) all c.requires.tells_only_parts),
    )

pub store-requires-2 : goal.store-requires-2
store-requires-2 g c =
    let it = c.args.machine in (
      search rules,
      search rules,
      returns_it _ _ _ c.store.new.seat.me
          (fixed_by g.M.Machine.opening g.M.Machine.fixed g.M.Machine.account it g.J.Numbers.all) it (search rules)
          (search rules) (search rules) refl c.requires.stands_for,
    )
