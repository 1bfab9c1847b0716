use Rattle.std.proofs.Common.{◌∙◌, Bool, rules, tests, arith}
use Rattle.std.specs.Prelude.{not, ◌||◌, Option}
use Rattle.std.proofs.lemmas.Iterator.{YieldsList-from_slice, YieldsList-from_zip}
use Rattle.std.proofs.lemmas.Iterator.Search.{all_from_yields_List}
use Rattle.campaign_core.specs.declared.events.Vote.{Vote}
use Rattle.campaign_core.specs.Campaign.{voted_yes}
use Rattle.campaign_core.proofs.Flagged.{all-flagged}
use Rattle.campaign_core.proofs.fold.Current.all_yes.Goals as goal

pub returns : goal.returns
returns c =
    let self = c.args.self.now in
    all_from_yields_List (λ (p : Bool × Option Vote). not p.0 || voted_yes p.1)
    c.all.new.self _ c.all.result c.all.ensures.ran
    (YieldsList-from_zip (YieldsList-from_slice self.named.flags cc) (YieldsList-from_slice self.votes cc))
    (λ x b q k. search (rules, tests))
    ∙ all-flagged voted_yes self.named.flags self.votes (omega arith)
