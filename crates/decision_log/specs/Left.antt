-- A disk as a master leaves it.
use Rattle.std.specs.Prelude.{◌≡◌, ◌≢◌, ℕ, ◌<◌, Bool, List, Some, IfSome, is_some, length, slice_index_or}
use Rattle.disk_area.specs.Windows.{window}
use Rattle.journal.specs.Records.{taken}
use Rattle.journal.specs.Grammar.{in_grammar}
use Rattle.checkpoint.specs.Halves.{journal_area, layout_of}
use Rattle.event_log.specs.Meaning.{current, events_of, state_of}
use Rattle.campaign_core.specs.declared.fold.Fold.{Fold}
use Rattle.campaign_core.specs.Standing.{IsWithin}
use Rattle.event_codec.specs.DecidingMaster.{event_of, fold_of}
use Rattle.decision_log.specs.Folds.{after_record}

-- the bytes spell an event
abbrev pub is_event : List ℕ → Bool
is_event bytes = is_some (event_of bytes)

-- the records of a half, up to the first that spells no event
abbrev pub records_of : ℕ → List ℕ → List (List ℕ)
records_of half image = in_grammar is_event (events_of half image)

-- each record is allowed at its place, there are no more campaigns than a master keeps, and the byte behind the last
-- record lies in the journal and isn't an open gate
pub record IsLeft (half : ℕ) (text image : List ℕ) : Type 0 where
  pub now : Fold
  pub legal : state_of fold_of after_record text (records_of half image) ≡ Some now
  pub within : IsWithin now
  pub room : taken (records_of half image) < length (window (journal_area half) image)
  pub shut : slice_index_or (window (journal_area half) image) (taken (records_of half image)) 1 ≢ 1

-- no half reads, or the one that counts is as a master leaves it
abbrev pub MayOpen : List ℕ → Type 0
MayOpen image = IfSome (current fold_of (layout_of 0) image) (λ half. IsLeft half.0 half.1.state image)
