-- An allowed event changes what the list says.
use Rattle.std.proofs.Common.{◌≡◌, ℕ, zero, suc, ◌+◌, ◌<◌, ◌≤◌, Bool, true, false, List, [], ◌∷◌, length, Option, Some, None, refl, sym, ◌∙◌, ap, arith, get_or-set_same}
use Rattle.std.specs.Prelude.{not, ◌&&◌, ◌||◌, is_none, nat_eq, if◌then◌else◌, IfSome, slice_index_or}
use Rattle.std.proofs.Math.ListN.{length-set}
use Rattle.std.proofs.lemmas.Bool.Decides.{nat_tests}
use Rattle.ucm_base.specs.Limits.{node_limit}
use Rattle.ucm_base.specs.declared.ids.NodeSet.{NodeSet}
use Rattle.pm_types.specs.declared.status.Outcome.{Outcome}
use Rattle.campaign_core.specs.declared.events.CampaignResult.{CampaignResult}
use Rattle.campaign_core.specs.declared.events.Decision.{Decision}
use Rattle.campaign_core.specs.declared.events.Decision.TheVariants.{Commit, Abort}
use Rattle.campaign_core.specs.declared.events.Phase.{Phase}
use Rattle.campaign_core.specs.declared.events.Vote.{Vote}
use Rattle.campaign_core.specs.declared.events.MasterEvent.{MasterEvent}
use Rattle.campaign_core.specs.declared.events.MasterEvent.TheVariants.{Start, Begin, PhaseTo, VoteOf, CancelAsked, Decide, EndedAt, Enter}
use Rattle.campaign_core.specs.declared.fold.Current.{Current}
use Rattle.campaign_core.specs.declared.fold.Fold.{Fold}
use Rattle.campaign_core.specs.Nodes.{flag_of, part_of, with_part}
use Rattle.campaign_core.specs.Campaign.{after_event, all_yes, begun, changed, changed_in, end_of, first_cause, has_no, in_current, is_activating, is_cause, is_marked, is_new_of, is_next, is_undecided, is_yes, may_begin, meets, refusal_of, vote_of}
use Rattle.campaign_core.specs.Changes.{HasPlaces, IsPlaced, NamesFew}
use Rattle.campaign_core.proofs.Within.{allowed, both}

-- a phase isn't the next one of itself
no_next : (p : Phase) → is_next (Some p) p ≡ true → ⊥
no_next Phase.Transferring e = absurd (cc)
no_next Phase.Processing e = absurd (cc)
no_next Phase.Activating e = absurd (cc)

-- a place that is flagged lies within the flags
flagged : (flags : List Bool) (i : ℕ) → slice_index_or flags i false ≡ true → i < length flags
flagged [] i is = absurd (cc)
flagged (flag ∷ flags) zero is = omega arith
flagged (flag ∷ flags) (suc i) is = omega (arith, flagged flags i is)

is_some_not : {A : Type 0} (o : Option A) (a : A) → o ≡ Some a → is_none o ≡ true → ⊥
is_some_not None a some none = absurd (cc)
is_some_not (Some b) a some none = absurd (cc)

-- a part that isn't there yet is changed by giving it
part_changes : {A : Type 0} (named : NodeSet) (parts : List (Option A)) (n : ℕ) (a : A)
    → length named.flags ≤ node_limit → length parts ≡ node_limit → flag_of named n ≡ true
    → is_none (part_of None parts n) ≡ true → with_part parts n (Some a) ≡ parts → ⊥
part_changes {A = A} named parts zero a few many flag none same = absurd (cc)
part_changes {A = A} named parts (suc i) a few many flag none same =
    let inside : i < length parts = omega (arith, flagged named.flags i flag, few, many) in
    is_some_not (slice_index_or parts i None) a
    (ap (λ (ps : List (Option A)). slice_index_or ps i None) (sym same) ∙ get_or-set_same parts i (Some a) None inside)
    none

-- the same current campaign, given as it is
same_current : (c d : Current) → Some c ≡ Some d → c ≡ d
same_current c d same = cc

-- a current campaign that meets the event's condition
met : (c : Current) (e : MasterEvent) → in_current (Some c) e ≡ None → meets c e ≡ true
met c e may = allowed (meets c e) may

-- in a current campaign
module _ (c : Current) (placed : HasPlaces c) where
  phase : (p : Phase) → meets c (PhaseTo p) ≡ true → changed c (PhaseTo p) ≡ c → ⊥
  phase p may same =
      let unmarked = both (is_undecided c) (not (is_marked c) && (not (has_no c) && is_next c.phase p)) may in
      let no_no = both (not (is_marked c)) (not (has_no c) && is_next c.phase p) unmarked.1 in
      let next = (both (not (has_no c)) (is_next c.phase p) no_no.1).1 in
      no_next p (ap (λ (o : Option Phase). is_next o p) (ap (λ (d : Current). d.phase) same) ∙ next)

  vote : (n : ℕ) (v : Vote) → meets c (VoteOf n v) ≡ true → changed c (VoteOf n v) ≡ c → ⊥
  vote n v may same =
      let late = not (is_yes v) || is_activating c.phase in
      let here = flag_of c.named n && (is_none (vote_of c n) && late) in
      let now = both (is_undecided c) (not c.restart && here) may in
      let named = both (flag_of c.named n) (is_none (vote_of c n) && late) (both (not c.restart) here now.1).1 in
      part_changes c.named c.votes n v placed.named placed.votes named.0
      (both (is_none (vote_of c n)) late named.1).0 (ap (λ (d : Current). d.votes) same)

  cancel : meets c CancelAsked ≡ true → changed c CancelAsked ≡ c → ⊥
  cancel may same = marked c.cancel (ap (λ (d : Current). d.cancel) same) (both (is_undecided c) (not c.cancel) may).1
    where
      marked : (b : Bool) → true ≡ b → not b ≡ true → ⊥
      marked true is isnt = absurd (cc)
      marked false is isnt = absurd (cc)

  undecided : (d : Decision) → meets c (Decide d) ≡ true → is_undecided c ≡ true
  undecided Commit may = (both (is_undecided c) (all_yes c && not (is_marked c)) may).0
  undecided (Abort cause) may = (both (is_undecided c) (is_cause (first_cause c) cause) may).0

  decision : (d : Decision) → meets c (Decide d) ≡ true → changed c (Decide d) ≡ c → ⊥
  decision d may same =
      is_some_not c.decision d (sym (ap (λ (x : Current). x.decision) same)) (undecided d may)

  end : (n : ℕ) (o : Outcome) → meets c (EndedAt n o) ≡ true → changed c (EndedAt n o) ≡ c → ⊥
  end n o may same =
      let named = both (flag_of c.named n) (is_none (end_of c n) && is_new_of c.decision o) may in
      part_changes c.named c.ended n o placed.named placed.ended named.0
      (both (is_none (end_of c n)) (is_new_of c.decision o) named.1).0 (ap (λ (d : Current). d.ended) same)

-- an event about the current campaign
in_it : (o : Option Current) (e : MasterEvent) → IfSome o HasPlaces → in_current o e ≡ None
    → ((c : Current) → HasPlaces c → meets c e ≡ true → changed c e ≡ c → ⊥) → changed_in o e ≡ o → ⊥
in_it None e placed may changes same = absurd (cc)
in_it (Some c) e placed may changes same = changes c placed (met c e may) (same_current (changed c e) c same)

begins_alone : (f : Fold) (k : ℕ) (named : NodeSet) → may_begin f k named ≡ true → is_none f.current ≡ true
begins_alone f k named e = grind (arith, nat_tests, both)

none_here : (o : Option Current) (c : Current) → is_none o ≡ true → Some c ≡ o → ⊥
none_here None c none same = absurd (cc)
none_here (Some d) c none same = absurd (cc)

ended_now : (o : Option Current) (r : CampaignResult) → in_current o (Enter r) ≡ None → None ≡ o → ⊥
ended_now None r may same = absurd (cc)
ended_now (Some c) r may same = absurd (cc)

current_same : (f g : Fold) → f ≡ g → f.current ≡ g.current
current_same f g same = ap (λ (x : Fold). x.current) same

pub changes : (f : Fold) (e : MasterEvent) → IsPlaced f → refusal_of f e ≡ None → after_event f e ≡ f → ⊥
changes f (Start epoch) placed may same =
    let next : epoch ≡ f.epoch + 1 = grind (arith, nat_tests, allowed (nat_eq epoch (f.epoch + 1)) may) in
    absurd (omega (arith, next, ap (λ (x : Fold). x.epoch) same))
changes f (Begin k named) placed may same =
    none_here f.current (begun k named) (begins_alone f k named (allowed (may_begin f k named) may))
    (current_same (after_event f (Begin k named)) f same)
changes f (PhaseTo p) placed may same =
    in_it f.current (PhaseTo p) placed may (λ c has. phase c has p) (current_same (after_event f (PhaseTo p)) f same)
changes f (VoteOf n v) placed may same =
    in_it f.current (VoteOf n v) placed may (λ c has. vote c has n v)
    (current_same (after_event f (VoteOf n v)) f same)
changes f CancelAsked placed may same =
    in_it f.current CancelAsked placed may (λ c has. cancel c has) (current_same (after_event f CancelAsked) f same)
changes f (Decide d) placed may same =
    in_it f.current (Decide d) placed may (λ c has. decision c has d) (current_same (after_event f (Decide d)) f same)
changes f (EndedAt n o) placed may same =
    in_it f.current (EndedAt n o) placed may (λ c has. end c has n o) (current_same (after_event f (EndedAt n o)) f
    same)
changes f (Enter r) placed may same = ended_now f.current r may (current_same (after_event f (Enter r)) f same)

-- and each node keeps its place
with_length : {A : Type 0} (parts : List A) (n : ℕ) (a : A) → length (with_part parts n a) ≡ length parts
with_length parts zero a = refl
with_length parts (suc i) a = length-set parts i a

marks : (b : Bool) (c : Current) → HasPlaces c → HasPlaces (if b then record c { restart = true } else c)
marks true c placed = record { named = placed.named; votes = placed.votes; ended = placed.ended }
marks false c placed = placed

kept_one : (c : Current) (e : MasterEvent) → HasPlaces c → HasPlaces (changed c e)
kept_one c (Start _) placed = marks (is_undecided c) c placed
kept_one c (Begin _ _) placed = placed
kept_one c (PhaseTo p) placed = record { named = placed.named; votes = placed.votes; ended = placed.ended }
kept_one c (VoteOf n v) placed = record {
  named = placed.named;
  votes = with_length c.votes n (Some v) ∙ placed.votes;
  ended = placed.ended;
}
kept_one c CancelAsked placed = record { named = placed.named; votes = placed.votes; ended = placed.ended }
kept_one c (Decide d) placed = record { named = placed.named; votes = placed.votes; ended = placed.ended }
kept_one c (EndedAt n o) placed = record {
  named = placed.named;
  votes = placed.votes;
  ended = with_length c.ended n (Some o) ∙ placed.ended;
}
kept_one c (Enter _) placed = placed

kept_in : (o : Option Current) (e : MasterEvent) → IfSome o HasPlaces → IfSome (changed_in o e) HasPlaces
kept_in None e placed = tt
kept_in (Some c) e placed = kept_one c e placed

pub keeps : (f : Fold) (e : MasterEvent) → IsPlaced f → NamesFew e → IsPlaced (after_event f e)
keeps f (Start epoch) placed few = kept_in f.current (Start epoch) placed
keeps f (Begin k named) placed few = record { named = few; votes = refl; ended = refl }
keeps f (PhaseTo p) placed few = kept_in f.current (PhaseTo p) placed
keeps f (VoteOf n v) placed few = kept_in f.current (VoteOf n v) placed
keeps f CancelAsked placed few = kept_in f.current CancelAsked placed
keeps f (Decide d) placed few = kept_in f.current (Decide d) placed
keeps f (EndedAt n o) placed few = kept_in f.current (EndedAt n o) placed
keeps f (Enter r) placed few = tt
