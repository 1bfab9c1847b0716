-- What a word of a run's lines says, or that it isn't in its form or range.
use Rattle.std.specs.Prelude.{ℕ, nat_le, if◌then◌else◌, List, codes, Option, Some, None, ok_or, Result, Ok, Err}
use Rattle.std.specs.Str.{bytes_eq}
use Rattle.ucm_base.specs.Limits.{node_limit}
use Rattle.campaign_core.specs.declared.events.Phase.TheVariants.{Transferring, Processing, Activating}
use Rattle.disk_core.specs.declared.plan.FailKind.{FailKind}
use Rattle.disk_core.specs.declared.plan.FailKind.TheVariants.{Read, Write, Sync}
use Rattle.sub_core.specs.declared.subordinate.Fate.{Fate}
use Rattle.sub_core.specs.declared.subordinate.Fate.TheVariants.{Lost, Unanswered, Twice, Late, Delayed}
use Rattle.scenario.specs.declared.why.Why.{Why}
use Rattle.scenario.specs.declared.why.Why.TheVariants.{Value}
use Rattle.scenario.specs.Readings.{◌>>=◌, given}
use Rattle.scenario.specs.Words.{cut, from_one_in, number_in, small_in}
use Rattle.run_script.specs.declared.lines.Point.{Point}
use Rattle.run_script.specs.declared.lines.Point.TheVariants.{Syncing, InPhase, Voted, Decided}
use Rattle.run_script.specs.declared.words.Span.{Span}

-- disk 0 is the master's, disk n that of node n
abbrev pub disk_in : List ℕ → Result ℕ Why
disk_in word = number_in word >>= λ n. given (nat_le n node_limit) n Value

-- a campaign's number, from 1 on
abbrev pub campaign_in : List ℕ → Result ℕ Why
campaign_in word = small_in word >>= λ n. given (nat_le 1 n) n Value

-- the numbers from the first to the last
abbrev pub range_between : List ℕ → List ℕ → Result Span Why
range_between first last = do
  a ← from_one_in first
  b ← number_in last
  given (nat_le a b) (record { first = a; last = b }) Value

-- one number alone
abbrev pub range_at : List ℕ → Result Span Why
range_at word = from_one_in word >>= λ n. Ok (record { first = n; last = n })

abbrev pub range_by : List ℕ → Option (List ℕ × List ℕ) → Result Span Why
range_by word None = range_at word
range_by word (Some parts) = range_between parts.0 parts.1

-- `<a>` or `<a>-<b>`, a from 1 and b not below a
abbrev pub range_in : List ℕ → Result Span Why
range_in word = range_by word (cut 45 word)

abbrev pub kind_in : List ℕ → Result FailKind Why
kind_in word =
    if bytes_eq word (codes "read") then Ok Read
    else if bytes_eq word (codes "write") then Ok Write
    else if bytes_eq word (codes "sync") then Ok Sync
    else Err Value

-- the record after which a campaign is cancelled
abbrev pub point_in : List ℕ → Result Point Why
point_in word =
    if bytes_eq word (codes "syncing") then Ok Syncing
    else if bytes_eq word (codes "transferring") then Ok (InPhase Transferring)
    else if bytes_eq word (codes "processing") then Ok (InPhase Processing)
    else if bytes_eq word (codes "activating") then Ok (InPhase Activating)
    else if bytes_eq word (codes "voted") then Ok Voted
    else if bytes_eq word (codes "decided") then Ok Decided
    else Err Value

-- an attempt not below the last one of a range, or the end
abbrev pub after_in : ℕ → List ℕ → Result (Option ℕ) Why
after_in last word =
    if bytes_eq word (codes "end") then Ok None
    else (number_in word >>= λ n. given (nat_le last n) (Some n) Value)

abbrev pub timed_fate : ℕ → List ℕ → List ℕ → Result Fate Why
timed_fate last kind after =
    if bytes_eq kind (codes "late") then (after_in last after >>= λ j. Ok (Late j))
    else if bytes_eq kind (codes "delayed") then (after_in last after >>= λ j. Ok (Delayed j))
    else Err Value

abbrev pub named_fate : List ℕ → Option Fate
named_fate word =
    if bytes_eq word (codes "lost") then Some Lost
    else if bytes_eq word (codes "unanswered") then Some Unanswered
    else if bytes_eq word (codes "twice") then Some Twice
    else None

abbrev pub fate_by : ℕ → List ℕ → Option (List ℕ × List ℕ) → Result Fate Why
fate_by last word None = ok_or (named_fate word) Value
fate_by last word (Some parts) = timed_fate last parts.0 parts.1

-- the fate of attempts of which this is the last
abbrev pub fate_in : ℕ → List ℕ → Result Fate Why
fate_in last word = fate_by last word (cut 58 word)
