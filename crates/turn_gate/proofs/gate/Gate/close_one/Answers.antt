use Rattle.std.proofs.Common.{◌≡◌, None, ap, subst}
use Rattle.turn_gate.proofs.Prefixes.{some_none, same_some}
use Rattle.turn_gate.proofs.Shares.{ends, Ended}
use Rattle.turn_gate.proofs.gate.Gate.close_one.Goals as goal

pub unreachable-requires : goal.unreachable-requires
unreachable-requires g c =
    let same = ap (λ k. k.view) c.seat.view_is in
    let made = subst (λ v. v.fixed ≡ None → ⊥) same c.seat.invariant.made in
    let e = ends _ _ _ _ _ _ c.take-slot.result same made c.requires.no_turn c.requires.all_parts
    c.close_with-closed.ensures.values.2 c.take-slot.ensures.value in
    some_none _ e.0 e.1 c.in_default.is

pub returns-clause-list : goal.returns-clause-list
returns-clause-list g c =
    let same = ap (λ k. k.view) c.seat.view_is in
    let made = subst (λ v. v.fixed ≡ None → ⊥) same c.seat.invariant.made in
    let e = ends _ _ _ _ _ _ c.take-slot.result same made c.requires.no_turn c.requires.all_parts
    c.close_with-closed.ensures.values.2 c.take-slot.ensures.value in
    (subst (Ended _ c.args.seat.view) (same_some _ e.0 c.in-Some.machine e.1 c.in-Some.is) e.2).list_is

pub returns-clause-own_entries : goal.returns-clause-own_entries
returns-clause-own_entries g c =
    let same = ap (λ k. k.view) c.seat.view_is in
    let made = subst (λ v. v.fixed ≡ None → ⊥) same c.seat.invariant.made in
    let e = ends _ _ _ _ _ _ c.take-slot.result same made c.requires.no_turn c.requires.all_parts
    c.close_with-closed.ensures.values.2 c.take-slot.ensures.value in
    (subst (Ended _ c.args.seat.view) (same_some _ e.0 c.in-Some.machine e.1 c.in-Some.is) e.2).own_is

pub returns-clause-tells_parts : goal.returns-clause-tells_parts
returns-clause-tells_parts g c =
    let same = ap (λ k. k.view) c.seat.view_is in
    let made = subst (λ v. v.fixed ≡ None → ⊥) same c.seat.invariant.made in
    let e = ends _ _ _ _ _ _ c.take-slot.result same made c.requires.no_turn c.requires.all_parts
    c.close_with-closed.ensures.values.2 c.take-slot.ensures.value in
    (subst (Ended _ c.args.seat.view) (same_some _ e.0 c.in-Some.machine e.1 c.in-Some.is) e.2).tells_parts

pub returns-clause-polled : goal.returns-clause-polled
returns-clause-polled g c =
    let same = ap (λ k. k.view) c.seat.view_is in
    let made = subst (λ v. v.fixed ≡ None → ⊥) same c.seat.invariant.made in
    let e = ends _ _ _ _ _ _ c.take-slot.result same made c.requires.no_turn c.requires.all_parts
    c.close_with-closed.ensures.values.2 c.take-slot.ensures.value in
    (subst (Ended _ c.args.seat.view) (same_some _ e.0 c.in-Some.machine e.1 c.in-Some.is) e.2).notes_are

pub returns-clause-faults : goal.returns-clause-faults
returns-clause-faults g c =
    let same = ap (λ k. k.view) c.seat.view_is in
    let made = subst (λ v. v.fixed ≡ None → ⊥) same c.seat.invariant.made in
    let e = ends _ _ _ _ _ _ c.take-slot.result same made c.requires.no_turn c.requires.all_parts
    c.close_with-closed.ensures.values.2 c.take-slot.ensures.value in
    (subst (Ended _ c.args.seat.view) (same_some _ e.0 c.in-Some.machine e.1 c.in-Some.is) e.2).faults_are

pub returns-clause-is_true : goal.returns-clause-is_true
returns-clause-is_true g c =
    let same = ap (λ k. k.view) c.seat.view_is in
    let made = subst (λ v. v.fixed ≡ None → ⊥) same c.seat.invariant.made in
    let e = ends _ _ _ _ _ _ c.take-slot.result same made c.requires.no_turn c.requires.all_parts
    c.close_with-closed.ensures.values.2 c.take-slot.ensures.value in
    (subst (Ended _ c.args.seat.view) (same_some _ e.0 c.in-Some.machine e.1 c.in-Some.is) e.2).is_true
