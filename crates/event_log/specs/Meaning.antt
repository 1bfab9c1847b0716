-- What an image stands for.
use Rattle.std.specs.Prelude.{ℕ, Bool, List, [], ◌∷◌, Option, Some, None, is_some}
use Rattle.disk_area.specs.Windows.{window}
use Rattle.journal.specs.Records.{journal_list}
use Rattle.checkpoint.specs.Halves.{Body, journal_area}
use Rattle.checkpoint.specs.Counting.{counting}
use Rattle.checkpoint.specs.declared.layout.Layout.{Layout}

-- the state after one event
abbrev pub after_one : {S : Type 0} → (S → List ℕ → Option S) → Option S → List ℕ → Option S
after_one step None event = None
after_one step (Some state) event = step state event

-- the state after these events
abbrev pub after_all : {S : Type 0} → (S → List ℕ → Option S) → Option S → List (List ℕ) → Option S
after_all step now [] = now
after_all step now (event ∷ events) = after_all step (after_one step now event) events

-- the state that the text tells, after these events
abbrev pub state_of : {S : Type 0} → (List ℕ → Option S) → (S → List ℕ → Option S) → List ℕ → List (List ℕ) → Option S
state_of start step text events = after_all step (start text) events

-- the events in the journal of a half
abbrev pub events_of : ℕ → List ℕ → List (List ℕ)
events_of half image = journal_list (window (journal_area half) image)

-- the text tells a state
abbrev pub tells : {S : Type 0} → (List ℕ → Option S) → List ℕ → Bool
tells start text = is_some (start text)

-- the half of a pair that counts among those whose texts tell a state, and its body
abbrev pub current : {S : Type 0} → (List ℕ → Option S) → Layout → List ℕ → Option (ℕ × Body)
current start layout image = counting (tells start) layout.low image

-- the state that the text of a half tells, after the events in its journal
abbrev pub means_by : {S : Type 0} → (List ℕ → Option S) → (S → List ℕ → Option S) → Option (ℕ × Body) → List ℕ
    → Option S
means_by start step None image = None
means_by start step (Some half) image = state_of start step half.1.state (events_of half.0 image)

-- the state that an image stands for: of the half that counts the text, and the events behind it
abbrev pub meaning : {S : Type 0} → (List ℕ → Option S) → (S → List ℕ → Option S) → Layout → List ℕ → Option S
meaning start step layout image = means_by start step (current start layout image) image
