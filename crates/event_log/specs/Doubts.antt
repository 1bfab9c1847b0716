-- What an image stands for while an event is in doubt.
use Rattle.std.specs.Prelude.{◌⊎◌, ℕ, ◌+◌, ◌<◌, ◌≤◌, List, Option, Some}
use Rattle.checkpoint.specs.Halves.{layout_of, other}
use Rattle.checkpoint.specs.declared.layout.Layout.{Layout}
use Rattle.event_log.specs.Holds.{Holds, StandsFor}
use Rattle.event_log.specs.declared.log.Log.{Log}
use Rattle.event_log.specs.declared.revive.Revived.{Revived}
use Rattle.event_log.specs.declared.revive.Revived.TheVariants.{Stood, Lost}

-- the states before an event and after it
pub record Doubt (S : Type 0) : Type 0 where
  pub before : Option S
  pub after : Option S

-- the doubt of an event whose call failed
abbrev pub of_event : {S : Type 0} → (S → List ℕ → Option S) → S → List ℕ → Doubt S
of_event step now event = record { before = Some now; after = step now event }

-- the state before the event, or after it
abbrev pub Either : {S : Type 0} → (List ℕ → Option S) → (S → List ℕ → Option S) → Layout → Doubt S → List ℕ → Type 0
Either start step layout doubt image =
    StandsFor start step layout doubt.before image ⊎ StandsFor start step layout doubt.after image

-- with the event behind its records
abbrev pub Longer : {S : Type 0} → (List ℕ → Option S) → (S → List ℕ → Option S) → Log → Option S → List ℕ → Type 0
Longer start step log now image =
    (used : ℕ) × (log.used < used) × Holds start step (record log { used = used }) now image

-- a record of n bytes fits behind the others, and the next gate behind it
abbrev pub Fits : Log → ℕ → Type 0
Fits log n = log.used + 6 + n ≤ (layout_of log.half).journal_len

abbrev pub HasNoRoom : Log → ℕ → Type 0
HasNoRoom log n = (layout_of log.half).journal_len < log.used + 6 + n

-- the log behind one record more, of n bytes
abbrev pub behind : Log → ℕ → Log
behind log n = record log { used = log.used + (5 + n) }

-- the log that begins in the other half
abbrev pub switched : Log → Log
switched log = record { half = other log.half; generation = log.generation + 1; used = 0 }

-- the log goes on from the image, or from the other half
abbrev pub MaySwitch : {S : Type 0} → (List ℕ → Option S) → (S → List ℕ → Option S) → Log → Option S → List ℕ → Type 0
MaySwitch start step log now image = Holds start step log now image ⊎ Holds start step (switched log) now image

-- the log goes on from the image without the event, there or in the other half, or with it
abbrev pub InDoubt : {S : Type 0} → (List ℕ → Option S) → (S → List ℕ → Option S) → Log → Doubt S → List ℕ → Type 0
InDoubt start step log doubt image =
    MaySwitch start step log doubt.before image ⊎ Longer start step log doubt.after image

-- the state that a doubt ended in
abbrev pub ended : {S : Type 0} → Revived → Doubt S → Option S
ended Stood doubt = doubt.after
ended Lost doubt = doubt.before
