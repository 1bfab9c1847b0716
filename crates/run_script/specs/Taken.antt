-- What the lines above take, and that no line takes any of it again.
use Rattle.std.specs.Prelude.{◌≡◌, ℕ, ◌||◌, Bool, true, IfErr, List, [], map, filter, Result}
use Rattle.disk_core.specs.declared.plan.FailKind.{FailKind}
use Rattle.disk_core.specs.declared.plan.FailKind.TheVariants.{Read, Write, Sync}
use Rattle.disk_mem.specs.Strikes.{same_kind}
use Rattle.range_set.specs.Ranges.{is_met, meets, track_range}
use Rattle.scenario.specs.declared.why.Why.{Why}
use Rattle.scenario.specs.declared.why.Why.TheVariants.{Twice}
use Rattle.scenario.specs.declared.why.WordError.{WordError}
use Rattle.scenario.specs.declared.why.WordError.TheVariants.{Refused}
use Rattle.run_script.specs.declared.lines.FateLine.{FateLine}
use Rattle.run_script.specs.declared.lines.FaultLine.{FaultLine}
use Rattle.run_script.specs.declared.lines.StopLine.{StopLine}
use Rattle.run_script.specs.declared.lines.Lines.{Lines}
use Rattle.run_script.specs.declared.taken.Taken.{Taken}

abbrev pub Ranges : Type 0
Ranges = List ((ℕ × ℕ) × ℕ)

-- the attempts of each line, on the track of its node
abbrev pub attempts_of : List FateLine → Ranges
attempts_of fates = map (λ f. track_range f.node f.first f.last) fates

-- the write of each line, on the track of its disk
abbrev pub stops_of : List StopLine → Ranges
stops_of stops = map (λ s. track_range s.disk s.write s.write) stops

-- the calls of a kind of each line that has them, on the track of its disk
abbrev pub faults_of : FailKind → List FaultLine → Ranges
faults_of kind faults =
    map (λ f. track_range f.disk f.first f.last) (filter (λ f. same_kind f.kind kind) faults)

-- the taken calls of a kind
abbrev pub calls_of : Taken → FailKind → Ranges
calls_of taken Read = taken.reads
calls_of taken Write = taken.writes
calls_of taken Sync = taken.syncs

-- nothing is taken
abbrev pub IsEmpty : Taken → Type 0
IsEmpty taken = taken ≡ record { attempts = []; stops = []; reads = []; writes = []; syncs = [] }

-- one range more is taken
abbrev pub HasMore : Ranges → Ranges → ℕ → ℕ → ℕ → Type 0
HasMore old new track first last =
    (t a b : ℕ) → is_met new t a b ≡ (meets t a b (track_range track first last) || is_met old t a b)

-- a refusal is that it was taken
abbrev pub IsTwice : {A : Type 0} → Result A WordError → Bool → Type 0
IsTwice result met = IfErr result (λ e. (why : Why) → e ≡ Refused why → (why ≡ Twice) × (met ≡ true))

-- the same ranges are met
abbrev pub IsMetAlike : Ranges → Ranges → Type 0
IsMetAlike one other = (t a b : ℕ) → is_met one t a b ≡ is_met other t a b

-- what is taken is what the lines take
pub record IsTaken (taken : Taken) (lines : Lines) : Type 0 where
  pub attempts : IsMetAlike taken.attempts (attempts_of lines.fates)
  pub stops : IsMetAlike taken.stops (stops_of lines.stops)
  pub calls : (kind : FailKind) → IsMetAlike (calls_of taken kind) (faults_of kind lines.faults)

-- no line more takes anything
abbrev pub TakesNothing : Lines → Lines → Type 0
TakesNothing old new = (new.fates ≡ old.fates) × (new.stops ≡ old.stops) × (new.faults ≡ old.faults)
