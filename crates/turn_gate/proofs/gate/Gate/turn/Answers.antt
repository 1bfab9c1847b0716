use Rattle.std.proofs.Common.{rules, ◌≡◌, ◌<◌, [], ◌∷◌, None, Some, length, sym, subst, ◌∙◌, ap, eq-eqb, ne_eqb}
use Rattle.std.proofs.lemmas.Bool.{MatchBool-at_true, MatchBool-at_false}
use Rattle.atomic_table.specs.Table.{rest}
use Rattle.turn_gate.proofs.Prefixes.{is_some}
use Rattle.turn_gate.proofs.Slots.{no_slot}
use Rattle.turn_gate.proofs.Turns.{turns}
use Rattle.turn_gate.proofs.gate.Gate.turn.Goals as goal

pub swap-free-requires : goal.swap-free-requires
swap-free-requires g c =
    let f = is_some _ c.seat.invariant.made in
    let slots = no_slot _ _ _ c.seat.invariant.slot
    (subst (λ k. k.view.held ≡ None) (sym c.seat.view_is) c.requires.no_turn) in
    let has = subst (λ k. 0 < length k.view.parts) (sym c.seat.view_is) c.requires.has_a_part in
    let same = sym c.loop.invariant.4 in (
      search rules,
      search rules,
      turns _ _ _ _ f.0 (subst (λ m. m.0.fixed ≡ Some f.0) same f.1) (subst (λ m. m.1 ≡ []) same slots)
          (subst (λ m. 0 < length m.0.parts) same has),
    )

pub exchange-machine-requires : goal.exchange-machine-requires
exchange-machine-requires g c =
    let has = MatchBool-at_true _ _ (eq-eqb _ _ c.if-free.true) c.swap-free.ensures.2 in
    (search rules, (Some has.machine, has.slot ∙ ap (λ r. (0, Some has.machine) ∷ r) (sym (ap rest has.slot))))

pub loop-preserved : goal.loop-preserved
loop-preserved g c =
    let same = MatchBool-at_false _ _ (ne_eqb _ _ c.if-free.false) c.swap-free.ensures.2 in (
      tt,
      tt,
      c.swap-free.ensures.0 ∙ c.loop.invariant.2,
      c.swap-free.ensures.1 ∙ c.loop.invariant.3,
      same
          ∙ c.loop.invariant.4,
    )
