-- Disks as a master leaves them.
use Rattle.std.proofs.Common.{◌≡◌, ◌≢◌, ⊎_elim, ℕ, ◌<◌, List, length, Option, Some, None, sym, ◌∙◌, ap, subst}
use Rattle.std.specs.Option.{IfSome}
use Rattle.std.specs.Prelude.{slice_index_or}
use Rattle.disk_area.specs.Windows.{window}
use Rattle.journal.specs.Records.{taken}
use Rattle.journal.specs.Ready.{GoesOn}
use Rattle.journal.proofs.Grammars.{whole}
use Rattle.checkpoint.specs.Halves.{Body, journal_area, layout_of}
use Rattle.event_log.specs.Meaning.{current, events_of, means_by, state_of}
use Rattle.checkpoint.specs.declared.layout.Layout.{Layout}
use Rattle.event_log.specs.Finds.{IsFound}
use Rattle.event_log.specs.Holds.{CanOpen, Holds, StandsFor}
use Rattle.disk_core.specs.Images.{EachImage, Only}
use Rattle.decision_log.specs.Known.{IsBeforeOrAfter, IsKnown}
use Rattle.event_log.specs.declared.log.Log.{Log}
use Rattle.campaign_core.specs.declared.fold.Fold.{Fold}
use Rattle.campaign_core.specs.declared.events.MasterEvent.{MasterEvent}
use Rattle.campaign_core.specs.Campaign.{after_event}
use Rattle.campaign_core.specs.Standing.{IsWithin}
use Rattle.campaign_core.proofs.Within.{stays_within}
use Rattle.event_codec.specs.DecidingMaster.{fold_of}
use Rattle.decision_log.specs.Folds.{after_record}
use Rattle.decision_log.specs.Left.{IsLeft, MayOpen, is_event, records_of}
use Rattle.decision_log.proofs.Records.{all_events}

-- cut by the grammar the records are all that the half has
pub cut_is_whole : (half : ℕ) (text image : List ℕ) → IsLeft half text image → records_of half image ≡ events_of half
    image
cut_is_whole half text image left = whole is_event (window (journal_area half) image) left.shut

goes_on_left : (half : ℕ) (text image : List ℕ) → IsLeft half text image
    → GoesOn (taken (events_of half image)) (window (journal_area half) image)
goes_on_left half text image left =
    subst (λ (rs : List (List ℕ)). GoesOn (taken rs) (window (journal_area half) image))
    (cut_is_whole half text image left) (record {
      takes = ap taken (sym (cut_is_whole half text image left));
      room = left.room;
      shut = left.shut;
    })

-- the log below can be opened
can_by : (o : Option (ℕ × Body)) (image : List ℕ) → IfSome o (λ half. IsLeft half.0 half.1.state image)
    → IfSome o (λ half. GoesOn (taken (events_of half.0 image)) (window (journal_area half.0) image))
can_by None image may = tt
can_by (Some half) image may = goes_on_left half.0 half.1.state image may

pub can_open : (image : List ℕ) → MayOpen image → CanOpen fold_of (layout_of 0) image
can_open image may = can_by (current fold_of (layout_of 0) image) image may

-- where a half counts, the image stands for a fold that a master keeps
pub left_by : (image : List ℕ) (half : ℕ) (body : Body) → MayOpen image
    → current fold_of (layout_of 0) image ≡ Some (half, body) → IsLeft half body.state image
left_by image half body may is =
    subst (λ (o : Option (ℕ × Body)). IfSome o (λ h. IsLeft h.0 h.1.state image)) is may

pub left_means : (half : ℕ) (text image : List ℕ) (left : IsLeft half text image)
    → state_of fold_of after_record text (events_of half image) ≡ Some left.now
left_means half text image left =
    ap (λ (rs : List (List ℕ)). state_of fold_of after_record text rs) (sym (cut_is_whole half text image left))
    ∙ left.legal

-- and an image that stands for a fold may be opened
opens_by : (o : Option (ℕ × Body)) (image : List ℕ) (f : Fold) → IsWithin f
    → IfSome o (λ half. GoesOn (taken (events_of half.0 image)) (window (journal_area half.0) image))
    → means_by fold_of after_record o image ≡ Some f → IfSome o (λ half. IsLeft half.0 half.1.state image)
opens_by None image f within goes is = tt
opens_by (Some half) image f within goes is =
    let same = sym (all_events (fold_of half.1.state) f (events_of half.0 image) is) in
    record {
      now = f;
      legal = subst (λ (rs : List (List ℕ)). state_of fold_of after_record half.1.state rs ≡ Some f) same is;
      within = within;
      room = subst (λ (rs : List (List ℕ)). taken rs < length (window (journal_area half.0) image)) same goes.room;
      shut = subst (λ (rs : List (List ℕ)).
          slice_index_or (window (journal_area half.0) image) (taken rs) 1 ≢ 1) same goes.shut;
    }

pub may_open : (image : List ℕ) (f : Fold) → IsWithin f → StandsFor fold_of after_record (layout_of 0) (Some f) image
    → MayOpen image
may_open image f within stands =
    opens_by (current fold_of (layout_of 0) image) image f within stands.opens stands.means

pub either_opens : (fold : Fold) (e : MasterEvent) (image : List ℕ) → IsWithin fold → IsBeforeOrAfter fold e image
    → MayOpen image
either_opens fold e image within is =
    ⊎_elim (may_open image fold within)
    (λ after. may_open image (after_event fold e) (stays_within fold e within after.0) after.1) is

-- what was found on a disk as a master leaves it
pub found_left : (image : List ℕ) (log : Log) (text : List ℕ) (records : List (List ℕ)) → MayOpen image
    → IsFound fold_of (layout_of 0) log text records image → IsLeft log.half text image
found_left image log text records may is =
    left_by image log.half (record { generation = log.generation; state = text }) may
    (ap (λ (l : Layout). current fold_of l image) (sym is.pair) ∙ is.stands.counts)

pub found_means : (image : List ℕ) (log : Log) (text : List ℕ) (records : List (List ℕ)) (may : MayOpen image)
    (is : IsFound fold_of (layout_of 0) log text records image)
    → state_of fold_of after_record text records ≡ Some (found_left image log text records may is).now
found_means image log text records may is =
    ap (λ (rs : List (List ℕ)). state_of fold_of after_record text rs) is.list
    ∙ left_means log.half text image (found_left image log text records may is)

no_some : (o : Option Fold) (v : Fold) → o ≡ None → o ≡ Some v → ⊥
no_some o v none some = cc

same_some : (o : Option Fold) (v w : Fold) → o ≡ Some v → o ≡ Some w → v ≡ w
same_some o v w one other = cc

-- what is known of a list that was opened, whose text and records are read as these
module _ (log : Log) (text read_text : List ℕ) (records read_records : List (List ℕ)) (image : List ℕ)
    (may : MayOpen image) (is : IsFound fold_of (layout_of 0) log text records image)
    (same_text : read_text ≡ text) (same_records : read_records ≡ records) where
  means : state_of fold_of after_record read_text read_records ≡ Some (found_left image log text records may is).now
  means =
      (λ i. state_of fold_of after_record (same_text i) (same_records i)) ∙ found_means image log text records may is

  pub open_known : (fold : Fold) (images : List ℕ → Type 0)
      → EachImage images (Holds fold_of after_record log (state_of fold_of after_record text records))
      → Only image images → state_of fold_of after_record read_text read_records ≡ Some fold
      → IsKnown log fold None image images
  open_known fold images held only folded = record {
    pair = is.pair;
    within = subst IsWithin (same_some _ (found_left image log text records may is).now fold means folded)
        (found_left image log text records may is).within;
    stand = (
      λ x now. subst (λ (o : Option Fold). Holds fold_of after_record log o x)
          ((λ i. state_of fold_of after_record (sym same_text i) (sym same_records i)) ∙ folded) (held x now),
      only,
    );
  }

  pub open_some : state_of fold_of after_record read_text read_records ≡ None → ⊥
  open_some none = no_some _ (found_left image log text records may is).now none means
