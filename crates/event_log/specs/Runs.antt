-- Runs of calls on a log: what is known after each, and the events that were acknowledged.
use Rattle.std.specs.Prelude.{ℕ, List, [], ◌∷◌, Option, Some, Result, Ok, Err}
use Rattle.disk_core.specs.Images.{EachImage}
use Rattle.checkpoint.specs.declared.fault.StoreError.{StoreError}
use Rattle.checkpoint.specs.declared.fault.StoreError.TheVariants.{Failed, OutOfMemory}
use Rattle.event_log.specs.Meaning.{after_one}
use Rattle.event_log.specs.Holds.{Holds}
use Rattle.event_log.specs.Doubts.{InDoubt}
use Rattle.event_log.specs.declared.log.Log.{Log}
use Rattle.event_log.specs.declared.revive.Revived.{Revived}
use Rattle.event_log.specs.declared.revive.Revived.TheVariants.{Stood, Lost}

-- what is in doubt: nothing, or an event
pub data Pending : Type 0 where
  nothing : Pending
  event : (payload : List ℕ) → Pending

-- the state after the acknowledged events, and what is in doubt behind it
pub record Known (S : Type 0) : Type 0 where
  pub now : Option S
  pub pending : Pending

-- with nothing in doubt, and with an event in doubt behind the state
abbrev pub settled : {S : Type 0} → S → Known S
settled state = record { now = Some state; pending = nothing }

abbrev pub in_doubt : {S : Type 0} → S → List ℕ → Known S
in_doubt state payload = record { now = Some state; pending = event payload }

-- a call and how it ended; an append switches the halves where the record doesn't fit behind the others
pub data Turn : Type 0 where
  added : (payload : List ℕ) → Turn
  failed : (payload : List ℕ) → Turn
  stood : Turn
  lost : Turn
  -- a call that changed nothing: want of memory, or a revive that failed
  unchanged : Turn

abbrev pub append_turn : {T : Type 0} → List ℕ → Result T StoreError → Turn
append_turn payload (Ok t) = added payload
append_turn payload (Err Failed) = failed payload
append_turn payload (Err OutOfMemory) = unchanged

abbrev pub revive_turn : Result Revived StoreError → Turn
revive_turn (Ok Stood) = stood
revive_turn (Ok Lost) = lost
revive_turn (Err e) = unchanged

-- the state with what is in doubt
abbrev pub with_pending : {S : Type 0} → (S → List ℕ → Option S) → Option S → Pending → Option S
with_pending step now nothing = now
with_pending step now (event payload) = after_one step now payload

-- what is known after a call
abbrev pub then_known : {S : Type 0} → (S → List ℕ → Option S) → Known S → Turn → Known S
then_known step k (added payload) = record { now = after_one step k.now payload; pending = nothing }
then_known step k (failed payload) = record { now = k.now; pending = event payload }
then_known step k stood = record { now = with_pending step k.now k.pending; pending = nothing }
then_known step k lost = record { now = k.now; pending = nothing }
then_known step k unchanged = k

-- each image stands for the state, or for what is in doubt behind it
abbrev pub Knows : {S : Type 0} → (List ℕ → Option S) → (S → List ℕ → Option S) → Log → Option S → Pending
    → (List ℕ → Type 0) → Type 0
Knows start step log now nothing images = EachImage images (Holds start step log now)
Knows start step log now (event payload) images =
    EachImage images (InDoubt start step log (record { before = now; after = after_one step now payload }))

-- the same after a call
abbrev pub KnowsAfter : {S : Type 0} → (List ℕ → Option S) → (S → List ℕ → Option S) → Log → Known S → Turn
    → (List ℕ → Type 0) → Type 0
KnowsAfter start step log k turn images =
    Knows start step log (then_known step k turn).now (then_known step k turn).pending images

-- the events that these calls acknowledged, the one in doubt before them among them where it stood
abbrev pub acknowledged : Pending → List Turn → List (List ℕ)
acknowledged pending [] = []
acknowledged pending (added payload ∷ turns) = payload ∷ acknowledged nothing turns
acknowledged pending (failed payload ∷ turns) = acknowledged (event payload) turns
acknowledged (event payload) (stood ∷ turns) = payload ∷ acknowledged nothing turns
acknowledged nothing (stood ∷ turns) = acknowledged nothing turns
acknowledged pending (lost ∷ turns) = acknowledged nothing turns
acknowledged pending (unchanged ∷ turns) = acknowledged pending turns

-- what is known after these calls
abbrev pub known_after : {S : Type 0} → (S → List ℕ → Option S) → Known S → List Turn → Known S
known_after step k [] = k
known_after step k (turn ∷ turns) = known_after step (then_known step k turn) turns

-- a log and its disk after a call
pub record Station (D : Type 0) : Type 0 where
  pub turn : Turn
  pub log : Log
  pub disk : D

abbrev pub turns_of : {D : Type 0} → List (Station D) → List Turn
turns_of [] = []
turns_of (station ∷ stations) = station.turn ∷ turns_of stations

-- where a run ends that began with this log and disk
abbrev pub last_log : {D : Type 0} → Log → List (Station D) → Log
last_log log [] = log
last_log log (station ∷ stations) = last_log station.log stations

abbrev pub last_disk : {D : Type 0} → D → List (Station D) → D
last_disk disk [] = disk
last_disk disk (station ∷ stations) = last_disk station.disk stations

-- each of the calls was as its clause `known` says
abbrev pub IsRun : {D S : Type 0} → (D → List ℕ → Type 0) → (List ℕ → Option S) → (S → List ℕ → Option S)
    → Known S → List (Station D) → Type 0
IsRun images start step k [] = Unit {0}
IsRun images start step k (station ∷ stations) =
    KnowsAfter start step station.log k station.turn (images station.disk)
    × IsRun images start step (then_known step k station.turn) stations
