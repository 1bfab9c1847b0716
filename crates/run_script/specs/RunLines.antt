-- Lines of a run, by their words: the form first, then each word from left to right.
use Rattle.std.specs.Prelude.{ℕ, ◌&&◌, ◌||◌, nat_le, if◌then◌else◌, Bool, List, [], ◌∷◌, length, codes, Result, Ok, Err}
use Rattle.std.specs.Str.{bytes_eq}
use Rattle.scenario.specs.declared.why.Why.{Why}
use Rattle.scenario.specs.declared.why.Why.TheVariants.{Form, Value}
use Rattle.scenario.specs.declared.words.Reach.TheVariants.{Vehicle}
use Rattle.scenario.specs.declared.events.NodeEvent.{NodeEvent}
use Rattle.scenario.specs.Readings.{◌>>=◌}
use Rattle.scenario.specs.Attached.{Places}
use Rattle.scenario.specs.Words.{from_one_in, node_in, number_in}
use Rattle.scenario.specs.Lines.{event_line, is_event, shared_line}
use Rattle.run_script.specs.declared.read.RunLine.{RunLine}
use Rattle.run_script.specs.declared.read.RunLine.TheVariants.{Shared, Setup, Stop, Fault, Campaign, Cancel, Fate}
use Rattle.run_script.specs.Words.{campaign_in, disk_in, fate_in, kind_in, point_in, range_in}

-- `<disk> <write> <keep>`, the write from 1
abbrev pub stop_line : ℕ → List (List ℕ) → Result RunLine Why
stop_line line (disk ∷ write ∷ keep ∷ []) = do
  d ← disk_in disk
  w ← from_one_in write
  k ← number_in keep
  Ok (Stop (record { line = line; disk = d; write = w; keep = k }))
stop_line line _ = Err Form

-- `<disk> <kind> <a>` or `<a>-<b>`
abbrev pub fault_line : ℕ → List (List ℕ) → Result RunLine Why
fault_line line (disk ∷ kind ∷ calls ∷ []) = do
  d ← disk_in disk
  k ← kind_in kind
  s ← range_in calls
  Ok (Fault (record { line = line; disk = d; kind = k; first = s.first; last = s.last }))
fault_line line _ = Err Form

-- `<k>`
abbrev pub campaign_line : List (List ℕ) → Result RunLine Why
campaign_line (word ∷ []) = campaign_in word >>= λ k. Ok (Campaign k)
campaign_line _ = Err Form

-- `<point>`
abbrev pub cancel_line : List (List ℕ) → Result RunLine Why
cancel_line (word ∷ []) = point_in word >>= λ p. Ok (Cancel p)
cancel_line _ = Err Form

-- `<node> <a>` or `<a>-<b>`, then the fate
abbrev pub fate_line : ℕ → List (List ℕ) → Result RunLine Why
fate_line line (node ∷ attempts ∷ fate ∷ []) = do
  n ← node_in Vehicle node
  s ← range_in attempts
  f ← fate_in s.last fate
  Ok (Fate (record { line = line; node = n; first = s.first; last = s.last; fate = f }))
fate_line line _ = Err Form

-- a number of words that no line has together with its first is a matter of that word
abbrev pub as_word : Why → Why
as_word Form = Value
as_word why = why

-- what a client does in the setup
abbrev pub in_setup : Result NodeEvent Why → Result RunLine Why
in_setup (Ok e) = Ok (Setup e)
in_setup (Err why) = Err (as_word why)

abbrev pub event_behind : Places → List ℕ → List (List ℕ) → Result RunLine Why
event_behind places word words =
    if is_event word then in_setup (event_line Vehicle places word words) else Err Value

-- a line of the setup has three to eight words behind its first
abbrev pub is_setup_form : List (List ℕ) → Bool
is_setup_form words = nat_le 2 (length words) && nat_le (length words) 7

-- one of the lines by which clients do something
abbrev pub setup_line : Places → List (List ℕ) → Result RunLine Why
setup_line places [] = Err Form
setup_line places (word ∷ words) = if is_setup_form words then event_behind places word words else Err Form

-- the first words of lines that only scripts of a run have
abbrev pub is_own : List ℕ → Bool
is_own word =
    bytes_eq word (codes "fate") || bytes_eq word (codes "stop") || bytes_eq word (codes "fault")
    || bytes_eq word (codes "campaign") || bytes_eq word (codes "cancel")

abbrev pub own_line : ℕ → List ℕ → List (List ℕ) → Result RunLine Why
own_line line word words =
    if bytes_eq word (codes "fate") then fate_line line words
    else if bytes_eq word (codes "stop") then stop_line line words
    else if bytes_eq word (codes "fault") then fault_line line words
    else if bytes_eq word (codes "campaign") then campaign_line words
    else cancel_line words

-- a line of this number, by its first word
abbrev pub line_named : ℕ → Places → List ℕ → List (List ℕ) → Result RunLine Why
line_named line places word words =
    if bytes_eq word (codes "setup") then setup_line places words
    else if is_own word then own_line line word words
    else (shared_line Vehicle places word words >>= λ l. Ok (Shared l))

abbrev pub line_in : ℕ → Places → List (List ℕ) → Result RunLine Why
line_in line places [] = Err Form
line_in line places (word ∷ words) = line_named line places word words
