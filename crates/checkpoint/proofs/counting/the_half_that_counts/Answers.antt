use Rattle.checkpoint.proofs.Counts.{counting_told, none_counts}
use Rattle.checkpoint.proofs.counting.the_half_that_counts.Goals as goal

pub returns-clause-reads : goal.returns-clause-reads
returns-clause-reads c tells half body image lt is = counting_told tells half lt body image is

pub returns-clause-none : goal.returns-clause-none
returns-clause-none c tells low image is = none_counts low _ _ is
