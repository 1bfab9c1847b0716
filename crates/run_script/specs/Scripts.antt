-- Scripts: what the lines above `end` say, and what lies behind it.
use Rattle.std.specs.Prelude.{◌≡◌, ⊤, ℕ, IfErr, IfOk, ◌+◌, ◌==◌, if◌then◌else◌, List, [], ◌∷◌, length, take, drop, codes, ok_or, Result, Ok, Err}
use Rattle.std.specs.Option.{option_map_or}
use Rattle.vehicle_package.specs.declared.fault.VehicleError.{VehicleError}
use Rattle.vehicle_package.specs.declared.fault.VehicleError.TheVariants.{OutOfMemory as NoMemory}
use Rattle.vehicle_package.specs.declared.vehicle.Vehicle.{Vehicle as AnyVehicle}
use Rattle.vehicle_package.specs.Reading.{vehicle_of}
use Rattle.scenario.specs.declared.why.Why.{Why}
use Rattle.scenario.specs.declared.why.Why.TheVariants.{Bytes, Missing}
use Rattle.scenario.specs.declared.why.WordError.{WordError}
use Rattle.scenario.specs.declared.why.WordError.TheVariants.{Refused as WordRefused, OutOfMemory as WordMemory}
use Rattle.scenario.specs.declared.attachments.Attached.{Attached}
use Rattle.scenario.specs.Readings.{◌>>=◌, given}
use Rattle.scenario.specs.Attached.{Places, attached_by}
use Rattle.scenario.specs.Words.{name_in}
use Rattle.scenario.specs.Scripts.{is_end, is_passed_over, lines_of, words_of}
use Rattle.run_script.specs.declared.fault.Refusal.{Refusal}
use Rattle.run_script.specs.declared.fault.Refusal.TheVariants.{Line, Vehicle}
use Rattle.run_script.specs.declared.fault.ScriptError.{ScriptError}
use Rattle.run_script.specs.declared.fault.ScriptError.TheVariants.{Refused, OutOfMemory}
use Rattle.run_script.specs.declared.above.Above.{Above}
use Rattle.run_script.specs.declared.lines.Lines.{Lines}
use Rattle.run_script.specs.declared.script.Script.{Script}
use Rattle.run_script.specs.Above.{added, nothing_above}
use Rattle.run_script.specs.RunLines.{line_in}

-- a script without where its attached bytes lie in memory
pub record Said : Type 0 where
  pub campaign : ℕ
  pub lines : Lines
  pub vehicle : AnyVehicle
  pub attached : List ℕ

abbrev pub said : Script → Said
said s = record { campaign = s.campaign; lines = s.lines; vehicle = s.vehicle; attached = s.attached.now }

-- the start time, 0 where no line gives it
abbrev pub start_time : Said → ℕ
start_time s = option_map_or (λ t. t.time) s.lines.time 0

-- the lines above the line `end`; all lines, where there is none
abbrev pub above_end : List (List ℕ) → List (List ℕ)
above_end [] = []
above_end (line ∷ lines) = if is_end line then [] else line ∷ above_end lines

-- how many bytes the lines up to `end` have, each with its line feed
abbrev pub end_at : List (List ℕ) → ℕ
end_at [] = 0
end_at (line ∷ lines) = (length line + 1) + (if is_end line then 0 else end_at lines)

-- what is known below the n-th line
abbrev pub line_read : ℕ → Above → List ℕ → Result Above Why
line_read n above line =
    if is_passed_over line then Ok above
    else (line_in n above.attachments (words_of line) >>= added n above)

-- a reading that goes on, unless what was before is refused
abbrev pub followed : {A B : Type 0} → Result A Refusal → (A → Result B Refusal) → Result B Refusal
followed (Ok a) more = more a
followed (Err refusal) more = Err refusal

-- what the n-th line is refused for; line 0 is judged behind all lines
abbrev pub at_line : {A : Type 0} → ℕ → Result A Why → Result A Refusal
at_line n (Ok a) = Ok a
at_line n (Err why) = Err (Line n why)

-- what is known below some lines, of which the first is the n-th
abbrev pub lines_read : Above → ℕ → List (List ℕ) → Result Above Refusal
lines_read above n [] = Ok above
lines_read above n (line ∷ lines) =
    followed (at_line n (line_read n above line)) (λ a. lines_read a (n + 1) lines)

-- the attachment that the vehicle package is
abbrev pub vehicle_place : Places → Result Attached Why
vehicle_place places = name_in (codes "vehicle") >>= λ name. ok_or (attached_by places name) Missing

-- the campaign and the vehicle package's place, where so many bytes are attached
abbrev pub needed : Above → ℕ → Result (ℕ × Attached) Why
needed above size = do
  _ ← given (above.attached == size) size Bytes
  first ← ok_or above.lines.campaign Missing
  place ← vehicle_place above.attachments
  Ok (first.campaign, place)

-- the bytes of an attachment
abbrev pub piece_of : List ℕ → Attached → List ℕ
piece_of attached place = take place.len (drop place.at attached)

abbrev pub as_vehicle : Result AnyVehicle VehicleError → Result AnyVehicle Refusal
as_vehicle (Ok v) = Ok v
as_vehicle (Err fault) = Err (Vehicle fault)

-- the script of all lines and of what is attached
abbrev pub whole : Above → List ℕ → Result Said Refusal
whole above attached =
    followed (at_line 0 (needed above (length attached)))
    (λ found. followed (as_vehicle (vehicle_of (piece_of attached found.1)))
    (λ v. Ok (record { campaign = found.0; lines = above.lines; vehicle = v; attached = attached })))

-- the script that an input is, or its first refusal
abbrev pub script_of : List ℕ → Result Said Refusal
script_of input =
    followed (lines_read nothing_above 1 (above_end (lines_of input)))
    (λ above. whole above (drop (end_at (lines_of input)) input))

-- what a line's fault is at its number
abbrev pub fault_of : ℕ → WordError → ScriptError
fault_of line (WordRefused why) = Refused (Line line why)
fault_of line WordMemory = OutOfMemory

-- a refusal is that of the reading
abbrev pub IsRefusedAs : {A B : Type 0} → Result A ScriptError → Result B Refusal → Type 0
IsRefusedAs result reading = IfErr result (λ e. (r : Refusal) → e ≡ Refused r → reading ≡ Err r)

-- what the lines say is known, and where they end, unless memory was wanting
abbrev pub AreRead : Result ℕ ScriptError → Above → List ℕ → Type 0
AreRead result above input =
    IfOk result (λ at. (lines_read nothing_above 1 (above_end (lines_of input)) ≡ Ok above)
    × (at ≡ end_at (lines_of input)))
    × IsRefusedAs result (lines_read nothing_above 1 (above_end (lines_of input)))

-- want of memory is told as such, and never as a refusal
abbrev pub IsTold : ScriptError → Type 0
IsTold (Refused (Vehicle NoMemory)) = ⊥
IsTold e = ⊤

-- what is answered is the script, or its refusal, unless memory was wanting
abbrev pub IsScript : Result Script ScriptError → Result Said Refusal → Type 0
IsScript result reading = IfOk result (λ s. reading ≡ Ok (said s)) × IsRefusedAs result reading
