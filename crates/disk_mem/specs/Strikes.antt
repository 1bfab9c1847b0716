-- What a plan says of a disk's calls.
use Rattle.std.specs.Prelude.{ℕ, min, Bool, true, false, ◌&&◌, ◌==◌, if◌then◌else◌, List, Option, Some, None}
use Rattle.std.specs.Option.{option_map}
use Rattle.std.specs.List.{list_any, find}
use Rattle.fault_count.specs.Faults.{one_more}
use Rattle.disk_core.specs.declared.plan.FailKind.{FailKind}
use Rattle.disk_core.specs.declared.plan.FailKind.TheVariants.{Read, Write, Sync}
use Rattle.disk_core.specs.declared.plan.FaultPlan.{FaultPlan}
use Rattle.disk_mem.specs.declared.strikes.Fate.{Fate}
use Rattle.disk_mem.specs.declared.strikes.Fate.TheVariants.{Whole, Fails, Stops}
use Rattle.disk_mem.specs.declared.strikes.Strikes.{Strikes}

-- the bytes that the first stop of this write keeps
abbrev pub stop_of : List (ℕ × ℕ) → ℕ → Option ℕ
stop_of stops number = option_map (λ stop. stop.1) (find (λ stop. stop.0 == number) stops)

abbrev pub same_kind : FailKind → FailKind → Bool
same_kind Read Read = true
same_kind Write Write = true
same_kind Sync Sync = true
same_kind _ _ = false

-- this call is one of the failures
abbrev pub is_listed : List (FailKind × ℕ) → FailKind → ℕ → Bool
is_listed fails kind number = list_any (λ fail. same_kind fail.0 kind && (fail.1 == number)) fails

-- a stop strikes alone
abbrev pub fate_by : Option ℕ → Bool → Fate
fate_by (Some keep) listed = Stops keep
fate_by None true = Fails
fate_by None false = Whole

-- what the plan says of the call of this kind and number
abbrev pub planned : FaultPlan → FailKind → ℕ → Fate
planned plan Read number = fate_by None (is_listed plan.fails Read number)
planned plan Write number = fate_by (stop_of plan.stops number) (is_listed plan.fails Write number)
planned plan Sync number = fate_by None (is_listed plan.fails Sync number)

-- the number of the next call of this kind
abbrev pub number_of : FailKind → Strikes → ℕ
number_of Read s = one_more s.reads
number_of Write s = one_more s.writes
number_of Sync s = one_more s.syncs

-- what becomes of the next call of this kind: after a stop each fails
abbrev pub fate_of : FailKind → Strikes → Fate
fate_of kind s = if s.stopped then Fails else planned s.plan kind (number_of kind s)

-- the numbers of the last read, write and sync
abbrev pub numbers_of : Strikes → ℕ × ℕ × ℕ
numbers_of s = (s.reads, s.writes, s.syncs)

-- the same after one more call of this kind
abbrev pub counted : FailKind → Strikes → ℕ × ℕ × ℕ
counted Read s = (one_more s.reads, s.writes, s.syncs)
counted Write s = (s.reads, one_more s.writes, s.syncs)
counted Sync s = (s.reads, s.writes, one_more s.syncs)

-- the call fails
abbrev pub is_bad : Fate → Bool
is_bad Whole = false
is_bad Fails = true
is_bad (Stops keep) = true

-- power goes
abbrev pub is_stop : Fate → Bool
is_stop Whole = false
is_stop Fails = false
is_stop (Stops keep) = true

-- how many of n bytes a write keeps
abbrev pub kept_of : Fate → ℕ → ℕ
kept_of Whole n = n
kept_of Fails n = 0
kept_of (Stops keep) n = min keep n
