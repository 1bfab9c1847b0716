-- Scripts: a fold over lines that carries what the lines above said.
use Rattle.std.specs.Prelude.{◌≡◌, ℕ, IfErr, IfOk, ◌+◌, ◌-◌, ◌&&◌, ◌==◌, nat_lt, nat_le, Bool, true, if◌then◌else◌, List, [], ◌∷◌, ◌++◌, length, codes, Option, Some, None, is_some, is_none, option_copied, unwrap_or, Result, Ok, Err}
use Rattle.std.specs.List.{list_any, slice_split}
use Rattle.std.specs.Str.{bytes_eq}
use Rattle.std.specs.Borrow.{Bor}
use Rattle.ucm_base.specs.Limits.{cluster_limit, package_limit, input_limit}
use Rattle.scenario.specs.declared.why.Why.{Why}
use Rattle.scenario.specs.declared.why.Why.TheVariants.{Twice, Limit, Bytes}
use Rattle.scenario.specs.declared.why.ScriptError.{ScriptError}
use Rattle.scenario.specs.declared.why.ScriptError.TheVariants.{BadScenario}
use Rattle.scenario.specs.declared.lines.Installed.{Installed as Cluster}
use Rattle.scenario.specs.declared.lines.ScriptLine.{ScriptLine}
use Rattle.scenario.specs.declared.lines.ScriptLine.TheVariants.{Time, Installed, Happens, Fails, Attach}
use Rattle.scenario.specs.declared.script.Above.{Above}
use Rattle.scenario.specs.declared.script.Script.{Script}
use Rattle.scenario.specs.declared.script.Command.{Command}
use Rattle.scenario.specs.declared.script.Command.TheVariants.{Replay}
use Rattle.scenario.specs.Readings.{◌>>=◌, given}
use Rattle.scenario.specs.Attached.{attached_by, with_attached}
use Rattle.scenario.specs.Blocks.{length_meant}
use Rattle.scenario.specs.Lines.{line_in}

-- the first line that is refused, and why; line 0 where it is judged behind all lines
pub record Refused : Type 0 where
  pub line : ℕ
  pub why : Why

-- what stands between the bytes of a value
abbrev pub pieces : ℕ → List ℕ → List (List ℕ)
pieces at text = slice_split (λ b. b == at) text

abbrev pub lines_of : List ℕ → List (List ℕ)
lines_of text = pieces 10 text

abbrev pub words_of : List ℕ → List (List ℕ)
words_of line = pieces 32 line

-- an empty line, or one that begins with `#`
abbrev pub is_passed_over : List ℕ → Bool
is_passed_over [] = true
is_passed_over (b ∷ rest) = b == 35

-- the line behind which the attached bytes lie
abbrev pub is_end : List ℕ → Bool
is_end line = bytes_eq line (codes "end")

-- what is known before the first line
abbrev pub nothing_above : Above
nothing_above = record { time = None; installed = []; fails = []; events = []; attachments = []; attached = 0 }

abbrev pub time_added : Above → ℕ → Result Above Why
time_added above n = given (is_none above.time) (record above { time = Some n }) Twice

abbrev pub has_installed : List Cluster → List ℕ → Bool
has_installed clusters name = list_any (λ c. bytes_eq c.name name) clusters

-- at most 64 clusters, each of at most 16,777,216 bytes
abbrev pub has_room : Above → Cluster → Bool
has_room above c = nat_lt (length above.installed) cluster_limit && nat_le (length_meant c.block) package_limit

abbrev pub installed_added : Above → Cluster → Result Above Why
installed_added above c =
    if has_installed above.installed c.name then Err Twice
    else given (has_room above c) (record above { installed = above.installed ++ c ∷ [] }) Limit

-- the attached bytes with some more, at most 67,108,864
abbrev pub attached_with : ℕ → ℕ → Option ℕ
attached_with attached len = if nat_le (attached + len) input_limit then Some (attached + len) else None

-- what is known below an attachment, where this many bytes are attached then
abbrev pub attached_to : Above → List ℕ → ℕ → Option ℕ → Result Above Why
attached_to above name len (Some all) =
    Ok (record above {
      attachments = with_attached above.attachments name (record { at = above.attached; len = len });
      attached = all;
    })
attached_to above name len None = Err Limit

abbrev pub attach_added : Above → List ℕ → ℕ → Result Above Why
attach_added above name len =
    if is_some (attached_by above.attachments name) then Err Twice
    else attached_to above name len (attached_with above.attached len)

-- what is known below a line, unless it stands twice or passes a limit
abbrev pub added : ℕ → Above → ScriptLine → Result Above Why
added n above (Time t) = time_added above t
added n above (Installed node c) = installed_added above c
added n above (Happens e) = Ok (record above { events = above.events ++ record { line = n; event = e.event } ∷ [] })
added n above (Fails node name) = Ok (record above { fails = above.fails ++ name ∷ [] })
added n above (Attach name len) = attach_added above name len

-- what is known below a line that isn't `end`
abbrev pub line_read : ℕ → Above → List ℕ → Result Above Why
line_read n above line = if is_passed_over line then Ok above
    else (line_in above.attachments (words_of line) >>= added n above)

-- the script of all lines, whose attached bytes begin at a place of the input
abbrev pub script : Above → ℕ → Script
script above at =
    record {
      time = unwrap_or above.time 0;
      installed = above.installed;
      fails = above.fails;
      events = above.events;
      attached_at = at;
    }

-- the script, where the bytes from that place on are as many as the attached ones
abbrev pub finished : ℕ → Above → ℕ → Result Script Refused
finished size above at = if above.attached == size - at then Ok (script above at)
    else Err (record { line = 0; why = Bytes })

-- a reading of lines that goes on below the n-th, unless that is refused
abbrev pub followed : {A B : Type 0} → ℕ → (A → Result B Refused) → Result A Why → Result B Refused
followed n more (Ok above) = more above
followed n more (Err why) = Err (record { line = n; why = why })

-- the script of an input of this size, whose lines from the n-th on begin at a place
abbrev pub read_from : ℕ → Above → ℕ → ℕ → List (List ℕ) → Result Script Refused
read_from size above at n [] = finished size above at
read_from size above at n (line ∷ lines) =
    if is_end line then finished size above (at + length line + 1)
    else followed n (λ a. read_from size a (at + length line + 1) (n + 1) lines) (line_read n above line)

-- the script that an input is, or why it is none
abbrev pub script_of : Command → List ℕ → Result Script Refused
script_of Replay input = read_from (length input) nothing_above 0 1 (lines_of input)

-- what is answered is the script, or its refusal, unless memory was wanting
abbrev pub IsScript : Result Script ScriptError → Result Script Refused → Type 0
IsScript result reading = IfOk result (λ s. reading ≡ Ok s) × IfErr result (λ e. (line : ℕ) (why : Why)
    → e ≡ BadScenario line why → reading ≡ Err (record { line = line; why = why }))

-- a text that may be left
abbrev pub text_left : Option (Bor (List ℕ)) → Option (List ℕ)
text_left left = option_copied left

-- its pieces
abbrev pub pieces_left : ℕ → Option (List ℕ) → List (List ℕ)
pieces_left at None = []
pieces_left at (Some text) = pieces at text

-- its bytes, with the one before them
abbrev pub size_left : Option (List ℕ) → ℕ
size_left None = 0
size_left (Some text) = length text + 1
