use Rattle.campaign_core.proofs.Changes.{changes, keeps}
use Rattle.campaign_core.proofs.laws.an_allowed_event_changes_the_fold.Goals as goal

pub returns-clause-changes : goal.returns-clause-changes
returns-clause-changes c fold event placed may same = changes fold event placed may same

pub returns-clause-keeps : goal.returns-clause-keeps
returns-clause-keeps c fold event placed few may = keeps fold event placed few
