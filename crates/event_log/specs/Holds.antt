-- When a log can go on, and what an image stands for then.
use Rattle.std.specs.Prelude.{◌≡◌, ℕ, ◌<◌, List, Option, Some, IfSome}
use Rattle.disk_area.specs.Windows.{window}
use Rattle.journal.specs.Records.{taken}
use Rattle.journal.specs.Ready.{GoesOn}
use Rattle.checkpoint.specs.Halves.{HasPair, layout_of, journal_area}
use Rattle.checkpoint.specs.declared.layout.Layout.{Layout}
use Rattle.event_log.specs.Meaning.{events_of, state_of, current, meaning}
use Rattle.event_log.specs.declared.log.Log.{Log}

-- The log's half counts, with the log's generation and this text, and its journal goes on where the log says.
pub record Stands {S : Type 0} (start : List ℕ → Option S) (log : Log) (text : List ℕ) (image : List ℕ) : Type 0 where
  pub half : log.half < 4
  pub size : HasPair (layout_of log.half) image
  pub counts : current start (layout_of log.half) image
      ≡ Some (log.half, record { generation = log.generation; state = text })
  pub goes_on : GoesOn log.used (window (journal_area log.half) image)

-- the log goes on from this image, which stands for this state
pub record Holds {S : Type 0} (start : List ℕ → Option S) (step : S → List ℕ → Option S) (log : Log) (now : Option S)
    (image : List ℕ) : Type 0 where
  pub text : List ℕ
  pub stands : Stands start log text image
  pub means : state_of start step text (events_of log.half image) ≡ now

-- where a half counts, a log can go on behind its records
abbrev pub CanOpen : {S : Type 0} → (List ℕ → Option S) → Layout → List ℕ → Type 0
CanOpen start layout image = IfSome (current start layout image)
    (λ half. GoesOn (taken (events_of half.0 image)) (window (journal_area half.0) image))

-- a log can be opened from the image, which stands for this state
pub record StandsFor {S : Type 0} (start : List ℕ → Option S) (step : S → List ℕ → Option S) (layout : Layout)
    (now : Option S) (image : List ℕ) : Type 0 where
  pub size : HasPair layout image
  pub opens : CanOpen start layout image
  pub means : meaning start step layout image ≡ now
