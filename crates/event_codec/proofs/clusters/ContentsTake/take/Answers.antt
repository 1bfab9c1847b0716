use Rattle.std.proofs.Common.{◌∷◌, sym, ◌∙◌}
use Rattle.event_codec.specs.Outside.{no_one, no_several}
use Rattle.event_codec.proofs.clusters.ContentsTake.take.Goals as goal

pub returns-in-Err-clause-outside : goal.returns-in-Err-clause-outside
returns-in-Err-clause-outside c = λ is v rest f e.
    let first = c.in_ok-kind.ensures.taken.1 ∙ (λ i. c.in-1.is i ∷ c.in_ok-kind.rest.now) in
    no_one c.in_ok-kind.rest.now (c.in-Err.ensures.outside is) v rest f (sym first ∙ e)

pub returns-in-Err-take-clause-outside : goal.returns-in-Err-take-clause-outside
returns-in-Err-take-clause-outside c = λ is v rest f e.
    let first = c.in_ok-kind.ensures.taken.1 ∙ (λ i. c.in-2.is i ∷ c.in_ok-kind.rest.now) in
    no_several c.in_ok-kind.rest.now (c.in-Err-take.ensures.outside is) v rest f (sym first ∙ e)
