-- What an add and a revival do to the fold and to what is pending.
use Rattle.std.specs.Prelude.{◌≡◌, ⊤, ℕ, ◌+◌, ◌-◌, ◌^◌, min, max, Option, Some, None, IsSome}
use Rattle.campaign_core.specs.declared.events.MasterEvent.{MasterEvent}
use Rattle.campaign_core.specs.declared.fold.Fold.{Fold}
use Rattle.campaign_core.specs.Campaign.{after_event, refusal_of}
use Rattle.event_log.specs.declared.revive.Revived.{Revived}
use Rattle.decision_log.specs.declared.answers.AddAnswer.{AddAnswer}
use Rattle.decision_log.specs.declared.answers.AddAnswer.TheVariants.{Added, Refused, NoReply, OutOfMemory}
use Rattle.decision_log.specs.declared.answers.MasterRevived.{MasterRevived}
use Rattle.decision_log.specs.declared.answers.MasterRevived.TheVariants.{Stood, Lost, Nothing}

-- the fold and the pending event after this answer to an event
abbrev pub Adds : MasterEvent → AddAnswer → Fold → Fold → Option MasterEvent → Type 0
Adds e Added old new pending = (refusal_of old e ≡ None) × (new ≡ after_event old e) × (pending ≡ None)
Adds e (Refused r) old new pending = (refusal_of old e ≡ Some r) × (new ≡ old) × (pending ≡ None)
Adds e (NoReply faults) old new pending = (refusal_of old e ≡ None) × (new ≡ old) × (pending ≡ Some e)
Adds e OutOfMemory old new pending = (refusal_of old e ≡ None) × (new ≡ old) × (pending ≡ None)

-- an allowed event isn't acknowledged: the disk failed, or memory was wanting
abbrev pub IsUnacknowledged : AddAnswer → Type 0
IsUnacknowledged (NoReply faults) = ⊤
IsUnacknowledged OutOfMemory = ⊤
IsUnacknowledged Added = ⊥
IsUnacknowledged (Refused r) = ⊥

-- how much a count of faults rose: one that stands at its last value counts as one rise
abbrev pub IsRise : ℕ → ℕ → ℕ → Type 0
IsRise before now faults = (faults ≡ max (now - before) 1) × (min (before + faults) (2 ^ 64 - 1) ≡ now)

-- what a call without a reply carries
abbrev pub Carries : AddAnswer → ℕ → ℕ → Type 0
Carries (NoReply faults) before now = IsRise before now faults
Carries _ before now = Unit {0}

-- how many events the list has
abbrev pub counted : AddAnswer → ℕ → ℕ
counted Added count = min (count + 1) (2 ^ 64 - 1)
counted _ count = count

-- how what was pending ended, and the fold then
abbrev pub Revives : MasterRevived → Fold → Option MasterEvent → Fold → Type 0
Revives (Stood e) old pending new = (pending ≡ Some e) × (new ≡ after_event old e)
Revives Lost old pending new = IsSome pending × (new ≡ old)
Revives Nothing old pending new = (pending ≡ None) × (new ≡ old)

-- how a pending event ended, by how the log below ended its record
abbrev pub told : MasterEvent → Revived → MasterRevived
told e Revived.Stood = Stood e
told e Revived.Lost = Lost

abbrev pub counted_again : MasterRevived → ℕ → ℕ
counted_again (Stood e) count = min (count + 1) (2 ^ 64 - 1)
counted_again _ count = count
