use Rattle.std.proofs.Common.{◌≡◌, ◌∙◌, List, ℕ, true, false, sym, ap, subst}
use Rattle.std.specs.Prelude.{◌||◌}
use Rattle.range_set.specs.Ranges.{is_apart, is_met, meets, track_range}
use Rattle.range_set.proofs.Meeting.{IsAdded, from-none, insert-added}
use Rattle.range_set.proofs.set.RangeSet.add.Goals as goal

pub invariant_of-self-2 : goal.invariant_of-self-2
invariant_of-self-2 c =
    let free = ap (λ es. is_met es c.args.track c.args.first c.args.last) c.self.view_is ∙ c.requires.free in
    let one = insert-added 0 0 c.self.inside.firsts.entries c.args.track c.args.first c.args.last c.self.invariant
    (from-none c.args.track c.args.first) c.requires.order free in
    subst (λ (es : List ((ℕ × ℕ) × ℕ)). is_apart 0 0 es ≡ true) (sym c.in_ok-insert.ensures.entries) one.apart

pub returns : goal.returns
returns c =
    let free = ap (λ es. is_met es c.args.track c.args.first c.args.last) c.self.view_is ∙ c.requires.free in
    let one = insert-added 0 0 c.self.inside.firsts.entries c.args.track c.args.first c.args.last c.self.invariant
    (from-none c.args.track c.args.first) c.requires.order free in
    λ t a b. ap (λ es. is_met es t a b) c.in_ok-insert.ensures.entries ∙ one.met t a b
    ∙ ap (λ es. meets t a b (track_range c.args.track c.args.first c.args.last) || is_met es t a b) c.self.view_is
