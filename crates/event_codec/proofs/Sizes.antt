-- How long spellings of the master's values are.
use Rattle.std.proofs.Common.{◌≡◌, ℕ, ◌+◌, ◌*◌, ◌<◌, ◌≤◌, Bool, true, false, List, [], ◌∷◌, ◌++◌, length, Option, Some, None, refl, sym, ◌∙◌, ap, arith}
use Rattle.std.specs.Prelude.{◌&&◌, nat_le}
use Rattle.std.specs.List.{flat_map, AllByRecursion, list_all}
use Rattle.std.proofs.lemmas.Bool.Decides.{nat_tests}
use Rattle.std.proofs.lemmas.List.{length-append}
use Rattle.std.proofs.lemmas.List.Concat.{flat_map-cons}
use Rattle.wire.specs.Fields.{u8_field, u16_field, u32_field}
use Rattle.ucm_base.specs.Limits.{campaign_limit, name_limit, text_limit, node_limit}
use Rattle.ucm_base.specs.Name.{is_cluster_name, is_name_byte, begins_with_letter}
use Rattle.ucm_base.specs.Short.{is_short, is_visible}
use Rattle.pm_types.specs.declared.replies.Refusal.{Refusal}
use Rattle.pm_types.specs.declared.replies.Refusal.TheVariants.{InsufficientMemory, PackageInconsistent, MissingDependencies}
use Rattle.pm_types.specs.declared.status.Outcome.{Outcome}
use Rattle.campaign_core.specs.declared.events.Vote.{Vote}
use Rattle.campaign_core.specs.declared.events.Vote.TheVariants as vote
use Rattle.campaign_core.specs.declared.events.Cause.TheVariants as cause
use Rattle.campaign_core.specs.declared.events.Decision.{Decision}
use Rattle.campaign_core.specs.declared.events.Decision.TheVariants.{Commit, Abort}
use Rattle.campaign_core.specs.declared.events.CampaignResult.{CampaignResult}
use Rattle.campaign_core.specs.declared.events.MasterEvent.{MasterEvent}
use Rattle.campaign_core.specs.declared.events.MasterEvent.TheVariants.{Start, Begin, PhaseTo, VoteOf, CancelAsked, Decide, EndedAt, Enter}
use Rattle.campaign_core.specs.declared.fold.Current.{Current}
use Rattle.campaign_core.specs.declared.fold.Fold.{Fold}
use Rattle.event_codec.specs.Spelling.{◌⌢◌, Any, ManyFit, OptionFits, bool_spelled, option_spelled}
use Rattle.event_codec.specs.Replies.{details_spelled, outcome_spelled, refusal_spelled, RefusalFits}
use Rattle.event_codec.specs.Texts.{text_spelled, IsName, IsShort}
use Rattle.event_codec.specs.Master.{CurrentFits, EventFits, FoldFits, VoteFits, current_spelled, decision_spelled, earlier_spelled, event_longest, event_spelled, campaigns_spelled, fold_longest, fold_spelled, node_set_spelled, phase_or_0, vote_spelled}

both : (a b : Bool) → (a && b) ≡ true → (a ≡ true) × (b ≡ true)
both true b e = (refl, e)
both false b e = absurd (cc)

name_short : (t : List ℕ) → IsName t → length t ≤ name_limit
name_short t is = grind (arith, nat_tests, both)

text_short : (t : List ℕ) → IsShort t → length t ≤ text_limit
text_short t is = grind (arith, nat_tests, both)

-- each of a list is short
flat_short : {T : Type 0} (s : T → List ℕ) (n : ℕ) (xs : List T) → ((x : T) → length (s x) ≤ n)
    → length (flat_map s xs) ≤ n * length xs
flat_short s n [] short = omega arith
flat_short s n (x ∷ xs) short =
    omega (
      arith,
      ap length (flat_map-cons s x xs),
      length-append (s x) (flat_map s xs),
      short x,
      flat_short s n xs short,
    )

all_short : {T : Type 0} (s : T → List ℕ) (P : T → Type 0) (n : ℕ) (xs : List T) → AllByRecursion P xs
    → ((x : T) → P x → length (s x) ≤ n) → length (flat_map s xs) ≤ n * length xs
all_short s P n [] all short = omega arith
all_short s P n (x ∷ xs) all short =
    omega (
      arith,
      ap length (flat_map-cons s x xs),
      length-append (s x) (flat_map s xs),
      short x all.0,
      all_short s P n xs all.1 short,
    )

refusal_short : (r : Refusal) → RefusalFits r → length (refusal_spelled r) ≤ 132
refusal_short (MissingDependencies a b c) f = omega (
  arith,
  name_short a f.0,
  name_short b f.1.0,
  text_short c f.1.1,
  length-append a (text_spelled b ⌢ text_spelled c),
  length-append b (text_spelled c),
)
refusal_short (PackageInconsistent place) f = omega arith
refusal_short InsufficientMemory f = omega arith
refusal_short r f = omega arith

vote_short : (v : Vote) → VoteFits v → length (vote_spelled v) ≤ 141
vote_short (vote.Refused a b) f = omega (arith, refusal_short b f.1)
vote_short (vote.Unreached a b) f = omega arith
vote_short vote.Yes f = omega arith
vote_short vote.RolledBack f = omega arith

may_vote_short : (v : Option Vote) → OptionFits VoteFits v → length (option_spelled vote_spelled v) ≤ 142
may_vote_short None f = omega arith
may_vote_short (Some v) f = omega (arith, vote_short v f)

may_end_short : (o : Option Outcome) → length (option_spelled outcome_spelled o) ≤ 2
may_end_short None = omega arith
may_end_short (Some o) = omega arith

decision_short : (d : Decision) → length (decision_spelled d) ≤ 2
decision_short Commit = omega arith
decision_short (Abort cause.Cancel) = omega arith
decision_short (Abort (cause.Vote n)) = omega arith
decision_short (Abort cause.Restart) = omega arith

may_decide_short : (o : Option Decision) → length (option_spelled decision_spelled o) ≤ 3
may_decide_short None = omega arith
may_decide_short (Some d) = omega (arith, decision_short d)

bool_short : (b : Bool) → length (bool_spelled b) ≤ 1
bool_short true = omega arith
bool_short false = omega arith

eight : (s n k : ℕ) → n ≡ node_limit → s ≤ k * n → s ≤ k * 8
eight s n k is short = omega (arith, ap (λ m. k * m) is, short)

parts_short : (d e f g h : List ℕ) → length (d ⌢ e ⌢ f ⌢ g ⌢ h) ≡ length d + length e + length f + length g + length h
parts_short d e f g h = omega (
  arith,
  length-append d (e ⌢ f ⌢ g ⌢ h),
  length-append e (f ⌢ g ⌢ h),
  length-append f (g ⌢ h),
  length-append g h,
)

current_short : (c : Current) → CurrentFits c → length (current_spelled c) ≤ 1163
current_short c fits = omega (
  arith,
  eight _ (length c.votes) 142 fits.1.1.1.0.0
      (all_short (option_spelled vote_spelled) (OptionFits VoteFits) 142 c.votes fits.1.1.1.0.1 may_vote_short),
  eight _ (length c.ended) 2 fits.1.1.1.1.1.1.1.0 (flat_short (option_spelled outcome_spelled) 2 c.ended may_end_short),
  may_decide_short c.decision,
  bool_short c.cancel,
  bool_short c.restart,
  parts_short
      (flat_map (option_spelled vote_spelled) c.votes) (bool_spelled c.cancel) (bool_spelled c.restart)
      (option_spelled decision_spelled c.decision) (flat_map (option_spelled outcome_spelled) c.ended),
)

may_run_short : (o : Option Current) → OptionFits CurrentFits o → length (option_spelled current_spelled o) ≤ 1164
may_run_short None f = omega arith
may_run_short (Some c) f = omega (arith, current_short c f)

earlier_short : (e : ℕ × CampaignResult) → length (earlier_spelled e) ≤ 5
earlier_short e = omega arith

pub fold_short : (f : Fold) → FoldFits f → length f.earlier ≤ campaign_limit → length (fold_spelled f) ≤ fold_longest
fold_short f fits few = omega (
  arith,
  few,
  flat_short earlier_spelled 5 f.earlier earlier_short,
  may_run_short f.current fits.1.1,
  length-append (u16_field (length f.earlier)) (flat_map earlier_spelled f.earlier),
  length-append (campaigns_spelled f.earlier) (option_spelled current_spelled f.current),
  length-append (u32_field f.epoch) (campaigns_spelled f.earlier ⌢ option_spelled current_spelled f.current),
)

pub event_short : (e : MasterEvent) → EventFits e → length (event_spelled e) ≤ event_longest
event_short (VoteOf n v) f = omega (arith, vote_short v f.1)
event_short (Decide d) f = omega (arith, decision_short d)
event_short (Start a) f = omega arith
event_short e f = omega arith
