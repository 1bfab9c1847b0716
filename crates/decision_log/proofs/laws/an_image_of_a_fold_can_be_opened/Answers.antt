use Rattle.decision_log.proofs.Left.{may_open}
use Rattle.decision_log.proofs.laws.an_image_of_a_fold_can_be_opened.Goals as goal

pub returns-clause-size : goal.returns-clause-size
returns-clause-size c fold image stands = stands.size

pub returns-clause-may : goal.returns-clause-may
returns-clause-may c fold image within stands = may_open image fold within stands
