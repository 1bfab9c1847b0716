use Rattle.std.proofs.Common.{rules, arith, ◌≡◌, None, subst, sym}
use Rattle.turn_gate.proofs.Prefixes.{is_some}
use Rattle.turn_gate.proofs.Shares.{splits}
use Rattle.turn_gate.proofs.gate.Gate.split_as.Goals as goal

pub split_seat-requires : goal.split_seat-requires
split_seat-requires g c =
    let f = is_some _ c.seat.invariant.made in
    let rests = subst (λ k. k.view.held ≡ None) (sym c.seat.view_is) c.requires.no_turn in
    (search rules, search (rules, arith), splits _ _ c.seat.inside.inner.me.0 f.0 g.J.Moved.part f.1 rests)
