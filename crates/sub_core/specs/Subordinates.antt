-- Words of subordinates and links.
use Rattle.std.specs.Prelude.{◌≡◌, ℕ, ◌+◌, ◌<◌, ◌≤◌, ⊤, if◌then◌else◌, min, Option, Some, None}
use Rattle.fault_count.specs.Faults.{one_more}
use Rattle.sub_core.specs.declared.subordinate.Fate.{Fate}
use Rattle.sub_core.specs.declared.subordinate.Sent.{Sent}
use Rattle.sub_core.specs.declared.subordinate.UnitSent.{UnitSent}
use Rattle.sub_core.specs.Failures.{is_losing, last_count}

-- the counts of losses and of faults
pub record Counted : Type 0 where
  pub losses : ℕ
  pub faults : ℕ

-- no count has fallen
abbrev pub IsNoFewer : Counted → Counted → Type 0
IsNoFewer before now = (before.losses ≤ now.losses) × (before.faults ≤ now.faults)

-- a count rose by so much, or stands at its last value
abbrev pub HasRisenTo : ℕ → ℕ → ℕ → Type 0
HasRisenTo rise before now = now ≡ min (before + rise) last_count

-- it rose by at least so much. Faults are said so: messages that come late with an attempt may fail beside it
abbrev pub HasRisenBy : ℕ → ℕ → ℕ → Type 0
HasRisenBy rise before now = min (before + rise) last_count ≤ now

-- what an attempt failed by is in the counts: one loss, with the faults that it met, or no loss and at least one fault;
-- an answered attempt has no loss. Where memory was wanting, the link may have lost the answer
abbrev pub IsCounted : Sent → Counted → Counted → Type 0
IsCounted (Sent.Answered reply) before now = now.losses ≡ before.losses
IsCounted (Sent.Lost faults) before now =
    HasRisenTo 1 before.losses now.losses × HasRisenBy faults before.faults now.faults
IsCounted (Sent.NoReply faults) before now =
    (1 ≤ faults) × (now.losses ≡ before.losses) × HasRisenBy faults before.faults now.faults
IsCounted Sent.OutOfMemory before now = ⊤

-- and a unit goes over no link
abbrev pub IsCountedUnit : UnitSent → Counted → Counted → Type 0
IsCountedUnit (UnitSent.Worked unit) before now = now.losses ≡ before.losses
IsCountedUnit (UnitSent.NoReply faults) before now =
    (1 ≤ faults) × (now.losses ≡ before.losses) × HasRisenBy faults before.faults now.faults
IsCountedUnit UnitSent.OutOfMemory before now = now.losses ≡ before.losses

-- an attempt after the last one
abbrev pub IsAbove : Option ℕ → ℕ → Type 0
IsAbove None attempt = ⊤
IsAbove (Some last) attempt = last < attempt

-- an attempt of which nothing is said is delivered
abbrev pub fate_or : Option Fate → Fate
fate_or None = Fate.Deliver
fate_or (Some fate) = fate

-- a loss raises the count
abbrev pub lost_after : ℕ → Fate → ℕ
lost_after lost fate = if is_losing fate then one_more lost else lost
