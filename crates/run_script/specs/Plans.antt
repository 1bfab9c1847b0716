-- What a script says of an attempt at a node, and of a call of a disk.
use Rattle.std.specs.Prelude.{◌≡◌, ℕ, ◌+◌, ◌-◌, ◌&&◌, ◌==◌, nat_le, if◌then◌else◌, Bool, List, [], ◌∷◌, ◌++◌, Option, None, option_map, map}
use Rattle.std.specs.List.{find, list_any, range_with_len}
use Rattle.disk_core.specs.declared.plan.FailKind.{FailKind}
use Rattle.disk_core.specs.declared.plan.FailKind.TheVariants.{Read, Write, Sync}
use Rattle.disk_core.specs.declared.plan.FaultPlan.{FaultPlan}
use Rattle.disk_mem.specs.declared.strikes.Fate.{Fate as CallFate}
use Rattle.disk_mem.specs.Strikes.{fate_by, planned, same_kind}
use Rattle.sub_core.specs.declared.subordinate.Fate.{Fate}
use Rattle.sub_core.specs.Subordinates.{fate_or}
use Rattle.run_script.specs.declared.lines.FateLine.{FateLine}
use Rattle.run_script.specs.declared.lines.FaultLine.{FaultLine}
use Rattle.run_script.specs.declared.lines.Lines.{Lines}
use Rattle.run_script.specs.declared.lines.StopLine.{StopLine}

-- whether a line is of this attempt at a node
abbrev pub has_attempt : ℕ → ℕ → FateLine → Bool
has_attempt node attempt f = (f.node == node) && (nat_le f.first attempt && nat_le attempt f.last)

-- what becomes of an attempt at a node, where a line says it
abbrev pub fate_given : List FateLine → ℕ → ℕ → Option Fate
fate_given fates node attempt = option_map (λ f. f.fate) (find (has_attempt node attempt) fates)

-- what becomes of it in any case: where no line says it, it is delivered
abbrev pub fate_at : List FateLine → ℕ → ℕ → Fate
fate_at fates node attempt = fate_or (fate_given fates node attempt)

-- how many bytes of a write stay, where a disk stops at it
abbrev pub stop_given : List StopLine → ℕ → ℕ → Option ℕ
stop_given stops disk write =
    option_map (λ s. s.keep) (find (λ s. (s.disk == disk) && (s.write == write)) stops)

-- whether a line has a call of a disk
abbrev pub has_call : ℕ → FailKind → ℕ → FaultLine → Bool
has_call disk kind call f =
    (f.disk == disk) && (same_kind f.kind kind && (nat_le f.first call && nat_le call f.last))

-- whether a call of a disk fails by a line
abbrev pub is_failing : List FaultLine → ℕ → FailKind → ℕ → Bool
is_failing faults disk kind call = list_any (has_call disk kind call) faults

-- what becomes of a call of a disk: a stop strikes alone
abbrev pub call_given : Lines → ℕ → FailKind → ℕ → CallFate
call_given lines disk Read call = fate_by None (is_failing lines.faults disk Read call)
call_given lines disk Write call =
    fate_by (stop_given lines.stops disk call) (is_failing lines.faults disk Write call)
call_given lines disk Sync call = fate_by None (is_failing lines.faults disk Sync call)

-- a plan is the script's for a disk: it says of each call what the lines say
abbrev pub IsPlanOf : Lines → ℕ → FaultPlan → Type 0
IsPlanOf lines disk plan =
    (kind : FailKind) → (call : ℕ) → planned plan kind call ≡ call_given lines disk kind call

-- a line's write and what stays of it, where it is of this disk
abbrev pub stops_by : ℕ → StopLine → List (ℕ × ℕ)
stops_by disk s = if s.disk == disk then (s.write, s.keep) ∷ [] else []

-- each call of a line, one by one
abbrev pub calls_by : FaultLine → List (FailKind × ℕ)
calls_by f = map (λ call. (f.kind, call)) (range_with_len f.first (f.last + 1 - f.first))

-- those of a line that is of this disk
abbrev pub fails_by : ℕ → FaultLine → List (FailKind × ℕ)
fails_by disk f = if f.disk == disk then calls_by f else []

-- the disks of which a line lets a call fail
abbrev pub disks_of : Lines → List ℕ
disks_of lines = map (λ s. s.disk) lines.stops ++ map (λ f. f.disk) lines.faults
