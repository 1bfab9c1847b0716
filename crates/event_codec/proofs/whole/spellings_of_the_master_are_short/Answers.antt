use Rattle.event_codec.proofs.Sizes.{event_short, fold_short}
use Rattle.event_codec.proofs.whole.spellings_of_the_master_are_short.Goals as goal

pub returns-clause-events : goal.returns-clause-events
returns-clause-events c event fits = event_short event fits

pub returns-clause-folds : goal.returns-clause-folds
returns-clause-folds c fold fits few = fold_short fold fits few
