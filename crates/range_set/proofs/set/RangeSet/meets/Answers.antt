use Rattle.std.proofs.Common.{◌≡◌, ◌∙◌, ◌∷◌, true, false, sym, ap, refl}
use Rattle.std.specs.Prelude.{◌&&◌, ◌==◌, nat_le}
use Rattle.range_set.specs.Ranges.{is_met}
use Rattle.range_set.proofs.Meeting.{found-first, found-none, same-track, other-track}
use Rattle.range_set.proofs.set.RangeSet.meets.Goals as goal

pub returns-then-at-track : goal.returns-then-at-track
returns-then-at-track c =
    let found = found-first c.args.track c.args.first c.args.last c.self.inside.firsts.entries _ _ c.self.invariant
    (sym (c.range.ensures.between tt) ∙ c.in-Some.ensures.steps) in
    same-track c.in-Some.at.now.0 c.args.track (nat_le c.in-Some.from.now c.args.last) c.if-at-track.true
    ∙ sym found ∙ ap (λ es. is_met es c.args.track c.args.first c.args.last) c.self.view_is

pub returns-else-at-track : goal.returns-else-at-track
returns-else-at-track c =
    let found = found-first c.args.track c.args.first c.args.last c.self.inside.firsts.entries _ _ c.self.invariant
    (sym (c.range.ensures.between tt) ∙ c.in-Some.ensures.steps) in
    other-track c.in-Some.at.now.0 c.args.track (nat_le c.in-Some.from.now c.args.last) c.if-at-track.false
    ∙ sym found ∙ ap (λ es. is_met es c.args.track c.args.first c.args.last) c.self.view_is

pub returns-in-None : goal.returns-in-None
returns-in-None c =
    let found = found-none c.args.track c.args.first c.args.last c.self.inside.firsts.entries c.self.invariant
    (sym (c.range.ensures.between tt) ∙ c.in-None.ensures.steps.0) in
    sym found ∙ ap (λ es. is_met es c.args.track c.args.first c.args.last) c.self.view_is
