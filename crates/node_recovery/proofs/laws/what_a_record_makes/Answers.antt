use Rattle.std.proofs.Common.{◌∙◌}
use Rattle.node_recovery.proofs.Recorded.{allowed_effect, record_makes}
use Rattle.node_recovery.proofs.laws.what_a_record_makes.Goals as goal

pub returns : goal.returns
returns c = record { law = λ s t r. (record_makes s t r, λ p. allowed_effect s r p.0 ∙ p.1) }
