-- What is known of a list, and what an image of its disk stands for.
use Rattle.std.proofs.Common.{◌≡◌, inl, inr, ⊎_elim, ℕ, ◌≤◌, ◌+◌, List, length, Option, Some, None, refl, sym, ◌∙◌, ap, subst, arith}
use Rattle.disk_core.specs.Images.{EachImage, Only}
use Rattle.checkpoint.specs.Halves.{layout_of}
use Rattle.checkpoint.specs.declared.layout.Layout.{Layout}
use Rattle.event_log.specs.Holds.{Holds, StandsFor}
use Rattle.event_log.specs.Doubts.{Either, InDoubt, of_event}
use Rattle.event_log.specs.declared.log.Log.{Log}
use Rattle.event_log.specs.declared.revive.Revived.{Revived}
use Rattle.event_log.specs.declared.revive.Revived.TheVariants.{Stood, Lost}
use Rattle.event_log.proofs.Steps.{either, stands_for}
use Rattle.disk_core.specs.Moments.{LeavesOnly}
use Rattle.disk_core.proofs.Moments.{weaker}
use Rattle.campaign_core.specs.Campaign.{after_event, refusal_of}
use Rattle.campaign_core.specs.Standing.{IsWithin}
use Rattle.campaign_core.proofs.Within.{stays_within}
use Rattle.campaign_core.specs.declared.events.MasterEvent.{MasterEvent}
use Rattle.campaign_core.specs.declared.fold.Fold.{Fold}
use Rattle.event_codec.specs.Master.{EventFits, event_spelled, fold_longest}
use Rattle.event_codec.specs.DecidingMaster.{fold_of}
use Rattle.event_codec.proofs.Sizes.{event_short}
use Rattle.decision_log.specs.Folds.{after_record}
use Rattle.decision_log.specs.Known.{IsBeforeOrAfter, IsKnown, IsOf}
use Rattle.decision_log.proofs.Records.{allowed_is, record_is}

-- a fold's text fits a half, and an event's record its journal
pub text_fits : (layout : Layout) → layout ≡ layout_of 0 → fold_longest ≤ layout.state_max
unfolding layout_of
text_fits layout is = omega (arith, ap (λ (l : Layout). l.state_max) is)

pub record_fits : (layout : Layout) (e : MasterEvent) (bytes : List ℕ) → layout ≡ layout_of 0 → EventFits e
    → bytes ≡ event_spelled e → length bytes + 6 ≤ layout.journal_len
unfolding layout_of
record_fits layout e bytes is fits spelled =
    omega (arith, ap (λ (l : Layout). l.journal_len) is, ap (λ (b : List ℕ). length b) spelled, event_short e fits)

-- each image stands for the fold
pub is_of : (log : Log) (fold : Fold) (image : List ℕ) → layout_of log.half ≡ layout_of 0
    → Holds fold_of after_record log (Some fold) image → IsOf fold image
is_of log fold image pair held =
    subst (λ (l : Layout). StandsFor fold_of after_record l (Some fold) image) pair
    (stands_for fold_of after_record log (Some fold) image held)

-- before the event or after it
pub either_is : (log : Log) (fold : Fold) (e : MasterEvent) (bytes image : List ℕ) → layout_of log.half ≡ layout_of 0
    → refusal_of fold e ≡ None → EventFits e → bytes ≡ event_spelled e
    → Either fold_of after_record (layout_of log.half) (of_event after_record fold bytes) image
    → IsBeforeOrAfter fold e image
either_is log fold e bytes image pair may fits spelled =
    ⊎_elim (λ before. inl (subst (λ (l : Layout). StandsFor fold_of after_record l (Some fold) image) pair before))
    (λ after. inr (
      may,
      subst (λ (p : Layout × Option Fold). StandsFor fold_of after_record p.0 p.1 image)
          (λ i. (
            pair i,
            (ap (λ (b : List ℕ). after_record fold b) spelled
                ∙ record_is fold e fits ∙ allowed_is fold e may) i,
          )) after,
    ))

-- where nothing is pending each image stands for the fold, else for the fold before the event or after it
pub now_is : (log : Log) (fold : Fold) (seen : List ℕ) (images : List ℕ → Type 0) (image : List ℕ)
    → IsKnown log fold None seen images → images image → IsOf fold image
now_is log fold seen images image known now = is_of log fold image known.pair (known.stand.0 image now)

pub doubt_is : (log : Log) (fold : Fold) (e : MasterEvent) (seen : List ℕ) (images : List ℕ → Type 0) (image : List ℕ)
    → IsKnown log fold (Some e) seen images → images image → IsBeforeOrAfter fold e image
doubt_is log fold e seen images image known now =
    either_is log fold e (event_spelled e) image known.pair known.stand.0 known.stand.1 refl
    (either fold_of after_record log (of_event after_record fold (event_spelled e)) image (known.stand.2 image now))

-- an event whose record is in doubt is pending
pub doubt_known : (log : Log) (old new present : Fold) (e : MasterEvent) (bytes seen : List ℕ)
    (images : List ℕ → Type 0)
    → layout_of log.half ≡ layout_of 0 → IsWithin old → refusal_of old e ≡ None → EventFits e → bytes ≡ event_spelled e
    → new ≡ old → present ≡ old
    → EachImage images (InDoubt fold_of after_record log (of_event after_record present bytes))
    → IsKnown log new (Some e) seen images
doubt_known log old new present e bytes seen images pair within may fits spelled new_is present_is doubts =
    subst (λ (f : Fold). IsKnown log f (Some e) seen images) (sym new_is) (record {
      pair = pair;
      within = within;
      stand = (
        may,
        fits,
        λ x now. subst (λ (q : Fold × List ℕ). InDoubt fold_of after_record log (of_event after_record q.0 q.1) x)
            (λ i. (present_is i, spelled i)) (doubts x now),
      );
    })

-- and one whose record stands has made the fold after it
pub added_known : (log : Log) (old new present : Fold) (e : MasterEvent) (bytes seen : List ℕ)
    (images : List ℕ → Type 0)
    → layout_of log.half ≡ layout_of 0 → IsWithin old → refusal_of old e ≡ None → EventFits e → bytes ≡ event_spelled e
    → new ≡ after_event old e → present ≡ old
    → EachImage images (Holds fold_of after_record log (after_record present bytes)) → Only seen images
    → IsKnown log new None seen images
added_known log old new present e bytes seen images pair within may fits spelled new_is present_is held only =
    let after : after_record present bytes ≡ Some new = (λ i. after_record (present_is i) (spelled i))
    ∙ record_is old e fits ∙ allowed_is old e may ∙ ap (λ (f : Fold). Some f) (sym new_is) in
    record {
      pair = pair;
      within = subst IsWithin (sym new_is) (stays_within old e within may);
      stand = (λ x now. subst (λ (o : Option Fold). Holds fold_of after_record log o x) after (held x now), only);
    }

-- the moments of a call on the log below
pub moved : {D : Type 0} (moment : D → ℕ) (left_since : D → ℕ → List ℕ → Type 0) (a b : D) (log : Log)
    (fold present : Fold) (e : MasterEvent) (bytes : List ℕ) → layout_of log.half ≡ layout_of 0
    → refusal_of fold e ≡ None → EventFits e → bytes ≡ event_spelled e → present ≡ fold
    → LeavesOnly moment left_since a b
    (Either fold_of after_record (layout_of log.half) (of_event after_record present bytes))
    → LeavesOnly moment left_since a b (IsBeforeOrAfter fold e)
moved moment left_since a b log fold present e bytes pair may fits spelled present_is run =
    weaker moment left_since a b
    (Either fold_of after_record (layout_of log.half) (of_event after_record present bytes)) (IsBeforeOrAfter fold e)
    (λ x p. either_is log fold e bytes x pair may fits spelled
    (subst (λ (f : Fold). Either fold_of after_record (layout_of log.half) (of_event after_record f bytes) x)
    present_is p)) run

-- an event didn't both stand and get lost
pub not_both : (r : Revived) → r ≡ Stood → r ≡ Lost → ⊥
not_both r stood lost = cc
