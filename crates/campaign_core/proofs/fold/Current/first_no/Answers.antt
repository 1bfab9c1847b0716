use Rattle.std.proofs.Common.{◌∙◌, ◌+◌, ap, sym, arith, rules, tests}
use Rattle.std.specs.Prelude.{option_map}
use Rattle.std.proofs.lemmas.Iterator.{YieldsList-from_slice}
use Rattle.std.proofs.lemmas.Iterator.Search.{position_from_yields_List}
use Rattle.std.proofs.lemmas.Iterator.Adapters.{position_from-zero}
use Rattle.campaign_core.specs.Campaign.{voted_no}
use Rattle.campaign_core.proofs.Flagged.{position-from, node-found}
use Rattle.campaign_core.proofs.fold.Current.first_no.Goals as goal

pub returns-in_err-place : goal.returns-in_err-place
returns-in_err-place c =
    let votes = c.args.self.now.votes in
    let found = position_from_yields_List voted_no _ _ c.position.result c.position.ensures.ran
    (YieldsList-from_slice votes cc) (λ x b q k. search (rules, tests)) ∙ position_from-zero voted_no votes in
    c.from_residual.ensures
    ∙ sym (position-from voted_no 0 votes ∙ ap (option_map (λ i. i + 1)) (sym found ∙ c.in_err-place.was))

pub returns : goal.returns
returns c =
    let votes = c.args.self.now.votes in
    let found = position_from_yields_List voted_no _ _ c.position.result c.position.ensures.ran
    (YieldsList-from_slice votes cc) (λ x b q k. search (rules, tests)) ∙ position_from-zero voted_no votes in
    c.of.ensures ∙ node-found voted_no votes c.in_ok-place.place (omega arith) (sym found ∙ c.in_ok-place.was)
