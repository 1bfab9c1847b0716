-- The series of failed attempts: what each is the cause of, and what the rises of all come to.
use Rattle.std.specs.Prelude.{◌≡◌, ◌⊎◌, ℕ, ◌+◌, ◌≤◌, max, min, Bool, true, false, not, ◌&&◌, ◌==◌, if◌then◌else◌, nat_eq, IsTrue, ⊤, List, [], ◌∷◌, length, filter, sum_by, Option, Some}
use Rattle.std.specs.List.{AllByRecursion, list_any, list_all, range_with_len}
use Rattle.ucm_base.specs.Limits.{attempt_limit, node_limit}
use Rattle.campaign_core.specs.declared.events.MasterEvent.{MasterEvent}
use Rattle.campaign_core.specs.declared.events.MasterEvent.TheVariants.{VoteOf}
use Rattle.campaign_core.specs.declared.events.Vote.{Vote}
use Rattle.sub_core.specs.Failures.{faults_in, is_losing, last_count, losses_in}
use Rattle.run_script.specs.declared.lines.FateLine.{FateLine}
use Rattle.run_script.specs.Plans.{fate_at}
use Rattle.run_claim.specs.Script.{ClientLine}
use Rattle.run_claim.specs.Ended.{Failure, OfVote, OfEnd, OfLine, OfFormatting, OfMaster, Series, Unfinished, LineReply, Gave, NoReply, gave_of, is_no_reply}
use Rattle.sub_core.specs.declared.answers.Rises.{Rises}

-- whether both are of the same
abbrev pub is_failure : Failure → Failure → Bool
is_failure OfVote OfVote = true
is_failure OfEnd OfEnd = true
is_failure (OfLine m) (OfLine n) = nat_eq m n
is_failure OfFormatting OfFormatting = true
is_failure OfMaster OfMaster = true
is_failure _ _ = false

-- the series of this at a disk
abbrev pub series_of : Failure → ℕ → List Series → List Series
series_of failure disk series = filter (λ s. is_failure s.failure failure && (s.disk == disk)) series

-- a disk's count of faults before and after the run
pub record Counted : Type 0 where
  pub before : ℕ
  pub after : ℕ

-- whether an attempt had a rise
abbrev pub has_risen : Rises → Bool
has_risen r = not ((r.losses == 0) && (r.faults == 0))

-- as many attempts as one call has, each with a rise
pub record IsSeries (s : Series) : Type 0 where
  pub disk : s.disk ≤ node_limit
  pub eight : length s.rises ≡ attempt_limit
  pub each : IsTrue (list_all has_risen s.rises)

-- these sums of a series; a sum above the last value is that value
pub record HasSums (s : Series) (lost failed : ℕ) : Type 0 where
  pub losses : lost ≡ min last_count (losses_in s.rises)
  pub faults : failed ≡ min last_count (faults_in s.rises)

-- there is just one series of this, and P holds of it
abbrev pub OneSeries : List Series → (Series → Type 0) → Type 0
OneSeries (s ∷ []) P = P s
OneSeries _ P = ⊥

-- a vote Unreached has its series, with its sums
abbrev pub VoteHasSeries : List Series → MasterEvent → Type 0
VoteHasSeries series (VoteOf n (Vote.Unreached losses faults)) =
    OneSeries (series_of OfVote n series) (λ s. HasSums s losses faults)
VoteHasSeries series _ = ⊤

-- of what the attempts of an open line failed: at the master, at a formatting, or in the end phase
abbrev pub failure_of : Bool → ℕ → Failure
failure_of true disk = OfFormatting
failure_of false disk = if disk == 0 then OfMaster else OfEnd

-- an open line has its series, with its sums
abbrev pub UnfinishedHasSeries : Bool → List Series → Unfinished → Type 0
UnfinishedHasSeries unformatted series u =
    OneSeries (series_of (failure_of unformatted u.disk) u.disk series) (λ s. HasSums s u.losses u.faults)

-- a line with NoReply has its series
abbrev pub LineHasSeries : List Series → ClientLine → Option Gave → Type 0
LineHasSeries series l (Some NoReply) = OneSeries (series_of (OfLine l.line) l.node series) (λ s. ⊤)
LineHasSeries series l _ = ⊤

-- whether an event is the vote Unreached of a node
abbrev pub is_unreached : ℕ → MasterEvent → Bool
is_unreached n (VoteOf m (Vote.Unreached losses faults)) = nat_eq m n
is_unreached n _ = false

-- whether this is what a vote Unreached, an open line or a line with NoReply has failed by
abbrev pub is_owned : List MasterEvent → List LineReply → List Unfinished → Failure → ℕ → Bool
is_owned list replies unfinished OfVote disk = list_any (is_unreached disk) list
is_owned list replies unfinished (OfLine line) disk = is_no_reply (gave_of replies line)
is_owned list replies unfinished _ disk = list_any (λ u. u.disk == disk) unfinished

-- only votes and ends have losses
abbrev pub may_lose : Failure → Bool
may_lose OfVote = true
may_lose OfEnd = true
may_lose _ = false

-- a series without losses, where it isn't of a vote or an end
abbrev pub LosesOnlyIf : Series → Type 0
LosesOnlyIf s = IsTrue (may_lose s.failure) ⊎ (losses_in s.rises ≡ 0)

-- the last attempt of which a line says anything
abbrev pub last_attempt : List FateLine → ℕ
last_attempt [] = 0
last_attempt (f ∷ fates) = max f.last (last_attempt fates)

-- how many attempts at a node the fate lines make lost, unanswered or delayed
abbrev pub losing_attempts : List FateLine → ℕ → ℕ
losing_attempts fates n =
    length (filter (λ attempt. is_losing (fate_at fates n attempt)) (range_with_len 1 (last_attempt fates)))

-- the losses, and the faults, of all series of one disk
abbrev pub losses_on : ℕ → List Series → ℕ
losses_on disk series = sum_by (λ s. losses_in s.rises) (filter (λ s. s.disk == disk) series)

abbrev pub faults_on : ℕ → List Series → ℕ
faults_on disk series = sum_by (λ s. faults_in s.rises) (filter (λ s. s.disk == disk) series)

-- so many faults have their rise in the count; where this stands at its last value it says nothing
abbrev pub IsBounded : ℕ → Counted → Type 0
IsBounded n c = (c.after ≡ last_count) ⊎ (n + c.before ≤ c.after)

-- what a list of series keeps to, whatever they are of
pub record SeriesFit (fates : List FateLine) (counted : ℕ → Counted) (series : List Series) : Type 0 where
  pub each : AllByRecursion IsSeries series
  pub lost : AllByRecursion LosesOnlyIf series
  pub faults : AllByRecursion (λ s. IsBounded (faults_on s.disk series) (counted s.disk)) series
  pub losses : AllByRecursion (λ s. losses_on s.disk series ≤ losing_attempts fates s.disk) series
