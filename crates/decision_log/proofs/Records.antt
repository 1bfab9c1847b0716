-- Records as events, and folds as texts.
use Rattle.std.proofs.Common.{◌≡◌, ℕ, ◌+◌, ◌<◌, length, drop, get_or, Result, Ok, Err, cond, Bool, true, List, [], ◌∷◌, Option, Some, None, is_some, refl, sym, ◌∙◌, ap}
use Rattle.std.specs.Result.{result_err}
use Rattle.std.specs.Prelude.{is_err}
use Rattle.std.proofs.lemmas.List.{drop_more}
use Rattle.journal.specs.Grammar.{in_grammar}
use Rattle.event_log.specs.Meaning.{after_all}
use Rattle.campaign_core.specs.declared.events.CampaignRefusal.{CampaignRefusal}
use Rattle.campaign_core.specs.declared.events.MasterEvent.{MasterEvent}
use Rattle.campaign_core.specs.declared.fold.Fold.{Fold}
use Rattle.campaign_core.specs.Campaign.{after_event, refusal_of}
use Rattle.event_codec.specs.Master.{EventFits, FoldFits, event_spelled, fold_spelled}
use Rattle.event_codec.specs.UniqueMaster.{unique-event, unique-fold}
use Rattle.event_codec.specs.Deciding.{is_whole}
use Rattle.event_codec.specs.DecidingMaster.{event_of, fold_of, tells-event, tells-fold}
use Rattle.decision_log.specs.Folds.{after_allowed, after_one, after_record, unless_refused}
use Rattle.decision_log.specs.Left.{is_event}

-- what is put is read back
pub event_back : (e : MasterEvent) → EventFits e → event_of (event_spelled e) ≡ Some e
unfolding event_of
event_back e fits = is_whole unique-event (event_spelled e) e (tells-event (event_spelled e)) fits refl

pub fold_back : (f : Fold) → FoldFits f → fold_of (fold_spelled f) ≡ Some f
unfolding fold_of
fold_back f fits = is_whole unique-fold (fold_spelled f) f (tells-fold (fold_spelled f)) fits refl

-- an event that is allowed makes the fold after it
pub allowed_is : (f : Fold) (e : MasterEvent) → refusal_of f e ≡ None → after_allowed f e ≡ Some (after_event f e)
allowed_is f e may = ap (λ (r : Option CampaignRefusal). unless_refused r (after_event f e)) may

pub refused_is : (f : Fold) (e : MasterEvent) (r : CampaignRefusal) → refusal_of f e ≡ Some r → after_allowed f e ≡ None
refused_is f e r is = ap (λ (o : Option CampaignRefusal). unless_refused o (after_event f e)) is

-- the record of an event makes of a fold what the event does
pub record_is : (f : Fold) (e : MasterEvent) → EventFits e → after_record f (event_spelled e) ≡ after_allowed f e
record_is f e fits = ap (λ (o : Option MasterEvent). after_one f o) (event_back e fits)

pub after_none : (records : List (List ℕ)) → after_all after_record None records ≡ None
after_none [] = refl
after_none (r ∷ records) = after_none records

no_some : {T : Type 0} (o : Option T) (v : T) → o ≡ None → o ≡ Some v → ⊥
no_some o v none some = cc

spells : (f : Fold) (o : Option MasterEvent) (now : Fold) (records : List (List ℕ))
    → after_all after_record (after_one f o) records ≡ Some now → is_some o ≡ true
spells f (Some e) now records is = refl
spells f None now records is = absurd (no_some _ now (after_none records) is)

-- records that lead to a fold are events, each of them
pub all_events : (start : Option Fold) (now : Fold) (records : List (List ℕ))
    → after_all after_record start records ≡ Some now → in_grammar is_event records ≡ records
all_events start now [] is = refl
all_events None now (r ∷ records) is = absurd (no_some _ now (after_none (r ∷ records)) is)
all_events (Some f) now (r ∷ records) is =
    ap (λ (b : Bool). cond b (r ∷ in_grammar is_event records) []) (spells f (event_of r) now records is)
    ∙ ap (λ (rs : List (List ℕ)). r ∷ rs) (all_events (after_record f r) now records is)

-- a record that makes no fold ends the list
pub stops : (f : Fold) (records : List (List ℕ)) (i : ℕ) (item bytes : List ℕ) → i < length records
    → item ≡ get_or records i item → bytes ≡ item → after_record f bytes ≡ None
    → after_all after_record (Some f) (drop i records) ≡ None
stops f records i item bytes lt is same none =
    ap (λ (rs : List (List ℕ)). after_all after_record (Some f) rs) (drop_more records i item lt)
    ∙ ap (λ (b : List ℕ). after_all after_record (after_record f b) (drop (i + 1) records)) (sym is ∙ sym same)
    ∙ ap (λ (o : Option Fold). after_all after_record o (drop (i + 1) records)) none
    ∙ after_none (drop (i + 1) records)

pub event_record : (f : Fold) (bytes : List ℕ) (e : MasterEvent) → event_of bytes ≡ Some e
    → after_record f bytes ≡ after_allowed f e
event_record f bytes e is = ap (λ (o : Option MasterEvent). after_one f o) is

pub refuses : {T : Type 0} (f : Fold) (e : MasterEvent) (result : Result T CampaignRefusal) → is_err result ≡ true
    → result_err result ≡ refusal_of f e → after_allowed f e ≡ None
refuses f e (Ok t) failed answer = absurd (cc)
refuses f e (Err r) failed answer = refused_is f e r (sym answer)
