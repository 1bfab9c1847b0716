-- What a series of failed attempts comes to, and which fates of a message are losses.
use Rattle.std.specs.Prelude.{ℕ, Bool, true, false, List, sum_by}
use Rattle.sub_core.specs.declared.answers.Rises.{Rises}
use Rattle.sub_core.specs.declared.subordinate.Fate.{Fate}

-- the last value of a count of faults or losses
abbrev pub last_count : ℕ
last_count = 18446744073709551615

-- the losses of all attempts
abbrev pub losses_in : List Rises → ℕ
losses_in rises = sum_by (λ r. r.losses) rises

-- the faults of all attempts
abbrev pub faults_in : List Rises → ℕ
faults_in rises = sum_by (λ r. r.faults) rises

-- the fates that raise the losses of a link
abbrev pub is_losing : Fate → Bool
is_losing Fate.Lost = true
is_losing Fate.Unanswered = true
is_losing (Fate.Delayed after) = true
is_losing _ = false
