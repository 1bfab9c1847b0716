-- Which event or state of the master a list of numbers spells.
use Rattle.std.proofs.Common.{◌≡◌, ◌⊎◌, inl, inr, ℕ, zero, suc, ◌+◌, ◌*◌, ◌<◌, ◌^◌, Bool, true, false, List, [], ◌∷◌, ◌++◌, length, get_or, unwrap_or, Option, Some, None, refl, sym, ◌∙◌, ap, subst, append_assoc, arith}
use Rattle.std.specs.Prelude.{⊤}
use Rattle.std.proofs.Math.Nat.{pow-succ'}
use Rattle.std.specs.List.{flat_map}
use Rattle.wire.specs.Fields.{u8_field, u16_field, u32_field, u64_field}
use Rattle.ucm_base.specs.Limits.{node_limit}
use Rattle.ucm_base.specs.declared.ids.CallNo.{CallNo}
use Rattle.ucm_base.specs.declared.ids.NodeSet.{NodeSet}
use Rattle.ucm_base.specs.Name.{is_cluster_name}
use Rattle.ucm_base.specs.Short.{is_short}
use Rattle.pm_types.specs.declared.replies.Refusal.{Refusal}
use Rattle.pm_types.specs.declared.replies.Refusal.TheVariants.{InsufficientMemory, IncorrectSize, InvalidTransferId, OperationNotPermitted, IncorrectBlock, InsufficientData, InvalidManifest, ServiceBusy, OldVersion, ActionNotApplicable, TooManyClusters, ClusterAlreadyChanged, PackageInconsistent, MissingDependencies}
use Rattle.pm_types.specs.declared.status.Outcome.{Outcome}
use Rattle.pm_types.specs.declared.status.Outcome.TheVariants.{New, Old}
use Rattle.pm_types.specs.Refusals.{refusal_code}
use Rattle.campaign_core.specs.declared.events.Phase.{Phase}
use Rattle.campaign_core.specs.declared.events.Phase.TheVariants.{Transferring, Processing, Activating}
use Rattle.campaign_core.specs.declared.events.Vote.{Vote}
use Rattle.campaign_core.specs.declared.events.Vote.TheVariants as vote
use Rattle.campaign_core.specs.declared.events.Cause.TheVariants as cause
use Rattle.campaign_core.specs.declared.events.Decision.{Decision}
use Rattle.campaign_core.specs.declared.events.Decision.TheVariants.{Commit, Abort}
use Rattle.campaign_core.specs.declared.events.CampaignResult.{CampaignResult}
use Rattle.campaign_core.specs.declared.events.CampaignResult.TheVariants.{Successful, Failed, Cancelled}
use Rattle.campaign_core.specs.declared.events.MasterEvent.{MasterEvent}
use Rattle.campaign_core.specs.declared.events.MasterEvent.TheVariants.{Start, Begin, PhaseTo, VoteOf, CancelAsked, Decide, EndedAt, Enter}
use Rattle.campaign_core.specs.declared.fold.Current.{Current}
use Rattle.campaign_core.specs.declared.fold.Fold.{Fold}
use Rattle.event_codec.specs.Spelling.{Any, HasBits, IsOutside, IsUnique, ManyFit, option_spelled, OptionFits, pair_spelled, PairFits}
use Rattle.event_codec.specs.Replies.{call_no_spelled, CallNoFits, outcome_code, outcome_spelled, details_spelled, refusal_spelled, RefusalFits}
use Rattle.event_codec.specs.Texts.{text_spelled, IsName, IsShort}
use Rattle.event_codec.specs.Master.{IsNode, bits_of, node_set_spelled, NodeSetFits, campaign_phase_code, campaign_phase_spelled, phase_or_0, vote_spelled, VoteFits, decision_spelled, DecisionFits, result_code, result_spelled, event_spelled, EventFits, current_spelled, CurrentFits, earlier_spelled, EarlierFits, campaigns_spelled, CampaignsFit, fold_spelled, FoldFits}
use Rattle.event_codec.specs.Unique.{parted, apart, unique-u8, unique-u16, unique-u32, unique-u64, unique-text, unique-bool, unique-pair, unique-option, unique-many}
use Rattle.event_codec.specs.UniqueReplies.{unique-call_no, unique-outcome, outcome_at}
use Rattle.event_codec.specs.UniqueMaster.{unique-node_set, unique-phase_or_none, unique-vote, unique-decision, unique-earlier, unique-campaigns, phases, phase_at, result_at}
use Rattle.event_codec.specs.Deciding.{Tested, Begins, Told, Tells, whole, test_bool, test_same, test_below, test_at_most, test_both, tells-u8, tells-u16, tells-u32, tells-u64, tells-text, tells-code, tells-bool, tells-pair, tells-by, tells-option, tells-many, tells-tagged, by_kind, alone}
use Rattle.event_codec.specs.OutsideMaster.{missing_outside, no_refused, no_unreached, no_begin, no_vote_of, no_ended_at}

tells-node : Tells u8_field IsNode
tells-node = tells-u8 (λ n. test_both (test_at_most 1 n) (test_at_most n node_limit))

abbrev is_odd : ℕ → Bool
is_odd zero = false
is_odd (suc zero) = true
is_odd (suc (suc n)) = is_odd n

abbrev half : ℕ → ℕ
half zero = zero
half (suc zero) = zero
half (suc (suc n)) = suc (half n)

halved : (n : ℕ) → bits_of (is_odd n ∷ []) + 2 * half n ≡ n
halved zero = refl
halved (suc zero) = refl
halved (suc (suc n)) = by (is_odd n) (halved n)
  where
    by : (b : Bool) → bits_of (b ∷ []) + 2 * half n ≡ n → bits_of (b ∷ []) + 2 * suc (half n) ≡ suc (suc n)
    by true e = omega (arith, e)
    by false e = omega (arith, e)

abbrev flags_of : ℕ → ℕ → List Bool
flags_of zero n = []
flags_of (suc k) n = is_odd n ∷ flags_of k (half n)

long : (k n : ℕ) → length (flags_of k n) ≡ k
long zero n = refl
long (suc k) n = ap suc (long k (half n))

flags_back : (k n : ℕ) → n < 2 ^ k → bits_of (flags_of k n) ≡ n
flags_back zero n lt = omega (arith, lt)
flags_back (suc k) n lt = by (is_odd n) (halved n) (λ below. flags_back k (half n) below)
  where
    by : (b : Bool) → bits_of (b ∷ []) + 2 * half n ≡ n
        → (half n < 2 ^ k → bits_of (flags_of k (half n)) ≡ half n) → bits_of (b ∷ flags_of k (half n)) ≡ n
    by true e more = omega (arith, e, more (omega (arith, e, lt, pow-succ' 2 k)))
    by false e more = omega (arith, e, more (omega (arith, e, lt, pow-succ' 2 k)))

bits_below : (fs : List Bool) → bits_of fs < 2 ^ length fs
bits_below [] = omega arith
bits_below (true ∷ fs) = omega (arith, bits_below fs, pow-succ' 2 (length fs))
bits_below (false ∷ fs) = omega (arith, bits_below fs, pow-succ' 2 (length fs))

tells-node_set : Tells node_set_spelled NodeSetFits
tells-node_set bytes = elim (tells-u8 {P = HasBits 8} (λ n. test_below n (2 ^ 8)) bytes) [
  | inl x ↦ inl (record {
    value = record { flags = flags_of 8 x.value };
    rest = x.rest;
    fit = long 8 x.value;
    is = x.is ∙ ap (λ n. n ∷ x.rest) (sym (flags_back 8 x.value x.fit));
  })
  | inr out ↦ inr (λ v rest f e.
      out (bits_of v.flags) rest (subst (λ k. bits_of v.flags < 2 ^ k) f (bits_below v.flags)) e)
]

tells-phase_or_none : Tells (λ p. u8_field (phase_or_0 p)) Any
tells-phase_or_none = tells-code phase_or_0 (λ n. get_or phases n None) phase_at

tells-campaign_phase : Tells campaign_phase_spelled Any
tells-campaign_phase =
    tells-code campaign_phase_code (λ n. unwrap_or (get_or phases n None) Transferring)
    (λ p. ap (λ o. unwrap_or o Transferring) (phase_at (Some p)))

tells-outcome : Tells outcome_spelled Any
tells-outcome = tells-code outcome_code (λ n. get_or (New ∷ Old ∷ []) n New) outcome_at

tells-result : Tells result_spelled Any
tells-result = tells-code result_code (λ n. get_or (Successful ∷ Failed ∷ Cancelled ∷ []) n Successful) result_at

tells-call_no : Tells call_no_spelled CallNoFits
tells-call_no =
    tells-by (λ n. (n.epoch, n.number)) (λ t. record { epoch = t.0; number = t.1 }) (λ t f. refl)
    (tells-pair unique-u32 tells-u32 tells-u32)

-- a refusal that carries nothing, of this number
tells-bare : (v : Refusal) (bytes : List ℕ) → RefusalFits v → details_spelled v ≡ []
    → Told refusal_spelled RefusalFits (refusal_code v ∷ bytes)
tells-bare v bytes fit bare = alone v (refusal_code v) bytes fit (ap (λ d. refusal_code v ∷ d) bare)

no_inconsistent : (bytes : List ℕ) → IsOutside u64_field (HasBits 64) bytes
    → IsOutside refusal_spelled RefusalFits (7 ∷ bytes)
no_inconsistent bytes out (PackageInconsistent place) rest f e = out place rest f (parted e).1
no_inconsistent bytes out v rest f e = absurd (apart e refl)

tells-name : Tells text_spelled IsName
tells-name = tells-text (λ t. test_bool (is_cluster_name t))

tells-three : Tells (pair_spelled text_spelled (pair_spelled text_spelled text_spelled))
    (PairFits IsName (PairFits IsName IsShort))
tells-three =
    tells-pair (unique-text {P = IsName}) tells-name
    (tells-pair (unique-text {P = IsName}) tells-name (tells-text (λ t. test_bool (is_short t))))

refusal_number : (v : Refusal) → refusal_code v < 15
refusal_number (PackageInconsistent place) = omega arith
refusal_number (MissingDependencies a b c) = omega arith
refusal_number InsufficientMemory = omega arith
refusal_number v = omega arith

no_refusal_0 : (v : Refusal) → 0 ≡ refusal_code v → ⊥
no_refusal_0 (PackageInconsistent place) e = omega (arith, e)
no_refusal_0 (MissingDependencies a b c) e = omega (arith, e)
no_refusal_0 InsufficientMemory e = omega (arith, e)
no_refusal_0 v e = omega (arith, e)

tells-refusal : Tells refusal_spelled RefusalFits
tells-refusal = tells-tagged refusal_code details_spelled (λ v. refl) 15 refusal_number each
  where
    each : (b : ℕ) → b < 15 → (bytes : List ℕ) → Told refusal_spelled RefusalFits (b ∷ bytes)
    each zero lt bytes = inr (λ v rest f e. no_refusal_0 v (parted e).0)
    each (suc zero) lt bytes = tells-bare InsufficientMemory bytes tt refl
    each (suc (suc zero)) lt bytes = tells-bare IncorrectSize bytes tt refl
    each (suc (suc (suc zero))) lt bytes = tells-bare InvalidTransferId bytes tt refl
    each (suc (suc (suc (suc zero)))) lt bytes = tells-bare OperationNotPermitted bytes tt refl
    each (suc (suc (suc (suc (suc zero))))) lt bytes = tells-bare IncorrectBlock bytes tt refl
    each (suc (suc (suc (suc (suc (suc zero)))))) lt bytes = tells-bare InsufficientData bytes tt refl
    each (suc (suc (suc (suc (suc (suc (suc zero))))))) lt bytes =
        by_kind {P = RefusalFits} 7 bytes PackageInconsistent (tells-u64 bytes) (λ x f. f) (λ x. refl)
        (no_inconsistent bytes)
    each (suc (suc (suc (suc (suc (suc (suc (suc zero)))))))) lt bytes = tells-bare InvalidManifest bytes tt refl
    each (suc (suc (suc (suc (suc (suc (suc (suc (suc zero))))))))) lt bytes = tells-bare ServiceBusy bytes tt refl
    each (suc (suc (suc (suc (suc (suc (suc (suc (suc (suc zero)))))))))) lt bytes = tells-bare OldVersion bytes tt refl
    each (suc (suc (suc (suc (suc (suc (suc (suc (suc (suc (suc zero))))))))))) lt bytes =
        by_kind {P = RefusalFits} 11 bytes (λ t. MissingDependencies t.0 t.1.0 t.1.1) (tells-three bytes) (λ x f. f)
        (λ x. refl) (missing_outside bytes)
    each (suc (suc (suc (suc (suc (suc (suc (suc (suc (suc (suc (suc zero)))))))))))) lt bytes =
        tells-bare ActionNotApplicable bytes tt refl
    each (suc (suc (suc (suc (suc (suc (suc (suc (suc (suc (suc (suc (suc zero))))))))))))) lt bytes =
        tells-bare TooManyClusters bytes tt refl
    each (suc (suc (suc (suc (suc (suc (suc (suc (suc (suc (suc (suc (suc (suc zero)))))))))))))) lt bytes =
        tells-bare ClusterAlreadyChanged bytes tt refl
    each (suc (suc (suc (suc (suc (suc (suc (suc (suc (suc (suc (suc (suc (suc (suc n)))))))))))))))
        lt bytes = absurd (omega (arith, lt))

abbrev vote_number : Vote → ℕ
vote_number vote.Yes = 0
vote_number (vote.Refused a b) = 1
vote_number vote.RolledBack = 2
vote_number (vote.Unreached a b) = 3

abbrev vote_fields : Vote → List ℕ
vote_fields (vote.Refused a b) = call_no_spelled a ++ refusal_spelled b
vote_fields (vote.Unreached a b) = u64_field a ++ u64_field b
vote_fields v = []

vote_parts : (v : Vote) → vote_spelled v ≡ vote_number v ∷ vote_fields v
vote_parts vote.Yes = refl
vote_parts (vote.Refused a b) = refl
vote_parts vote.RolledBack = refl
vote_parts (vote.Unreached a b) = refl

vote_below : (v : Vote) → vote_number v < 4
vote_below vote.Yes = omega arith
vote_below (vote.Refused a b) = omega arith
vote_below vote.RolledBack = omega arith
vote_below (vote.Unreached a b) = omega arith

tells-vote : Tells vote_spelled VoteFits
tells-vote = tells-tagged vote_number vote_fields vote_parts 4 vote_below each
  where
    each : (b : ℕ) → b < 4 → (bytes : List ℕ) → Told vote_spelled VoteFits (b ∷ bytes)
    each zero lt bytes = alone vote.Yes 0 bytes tt refl
    each (suc zero) lt bytes =
        by_kind {P = VoteFits} 1 bytes (λ t. vote.Refused t.0 t.1)
        (tells-pair unique-call_no tells-call_no tells-refusal bytes) (λ x f. f) (λ x. refl) (no_refused bytes)
    each (suc (suc zero)) lt bytes = alone vote.RolledBack 2 bytes tt refl
    each (suc (suc (suc zero))) lt bytes =
        by_kind {P = VoteFits} 3 bytes (λ t. vote.Unreached t.0 t.1)
        (tells-pair unique-u64 tells-u64 tells-u64 bytes) (λ x f. f) (λ x. refl) (no_unreached bytes)
    each (suc (suc (suc (suc n)))) lt bytes = absurd (omega (arith, lt))

abbrev decision_number : Decision → ℕ
decision_number Commit = 0
decision_number (Abort cause.Cancel) = 1
decision_number (Abort (cause.Vote n)) = 2
decision_number (Abort cause.Restart) = 3

abbrev decision_fields : Decision → List ℕ
decision_fields Commit = []
decision_fields (Abort cause.Cancel) = []
decision_fields (Abort (cause.Vote n)) = u8_field n
decision_fields (Abort cause.Restart) = []

decision_parts : (d : Decision) → decision_spelled d ≡ decision_number d ∷ decision_fields d
decision_parts Commit = refl
decision_parts (Abort cause.Cancel) = refl
decision_parts (Abort (cause.Vote n)) = refl
decision_parts (Abort cause.Restart) = refl

decision_below : (d : Decision) → decision_number d < 4
decision_below Commit = omega arith
decision_below (Abort cause.Cancel) = omega arith
decision_below (Abort (cause.Vote n)) = omega arith
decision_below (Abort cause.Restart) = omega arith

no_vote : (bytes : List ℕ) → IsOutside u8_field IsNode bytes → IsOutside decision_spelled DecisionFits (2 ∷ bytes)
no_vote bytes out (Abort (cause.Vote n)) rest f e = out n rest f (parted e).1
no_vote bytes out Commit rest f e = absurd (apart e refl)
no_vote bytes out (Abort cause.Cancel) rest f e = absurd (apart e refl)
no_vote bytes out (Abort cause.Restart) rest f e = absurd (apart e refl)

tells-decision : Tells decision_spelled DecisionFits
tells-decision = tells-tagged decision_number decision_fields decision_parts 4 decision_below each
  where
    each : (b : ℕ) → b < 4 → (bytes : List ℕ) → Told decision_spelled DecisionFits (b ∷ bytes)
    each zero lt bytes = alone Commit 0 bytes tt refl
    each (suc zero) lt bytes = alone (Abort cause.Cancel) 1 bytes tt refl
    each (suc (suc zero)) lt bytes =
        by_kind {P = DecisionFits} 2 bytes (λ n. Abort (cause.Vote n)) (tells-node bytes) (λ x f. f) (λ x. refl)
        (no_vote bytes)
    each (suc (suc (suc zero))) lt bytes = alone (Abort cause.Restart) 3 bytes tt refl
    each (suc (suc (suc (suc n)))) lt bytes = absurd (omega (arith, lt))

abbrev event_number : MasterEvent → ℕ
event_number (Start a) = 0
event_number (Begin a b) = 1
event_number (PhaseTo a) = 2
event_number (VoteOf a b) = 3
event_number CancelAsked = 4
event_number (Decide a) = 5
event_number (EndedAt a b) = 6
event_number (Enter a) = 7

abbrev event_fields : MasterEvent → List ℕ
event_fields (Start a) = u32_field a
event_fields (Begin a b) = u32_field a ++ node_set_spelled b
event_fields (PhaseTo a) = campaign_phase_spelled a
event_fields (VoteOf a b) = u8_field a ++ vote_spelled b
event_fields CancelAsked = []
event_fields (Decide a) = decision_spelled a
event_fields (EndedAt a b) = u8_field a ++ outcome_spelled b
event_fields (Enter a) = result_spelled a

event_parts : (e : MasterEvent) → event_spelled e ≡ event_number e ∷ event_fields e
event_parts (Start a) = refl
event_parts (Begin a b) = refl
event_parts (PhaseTo a) = refl
event_parts (VoteOf a b) = refl
event_parts CancelAsked = refl
event_parts (Decide a) = refl
event_parts (EndedAt a b) = refl
event_parts (Enter a) = refl

event_below : (e : MasterEvent) → event_number e < 8
event_below (Start a) = omega arith
event_below (Begin a b) = omega arith
event_below (PhaseTo a) = omega arith
event_below (VoteOf a b) = omega arith
event_below CancelAsked = omega arith
event_below (Decide a) = omega arith
event_below (EndedAt a b) = omega arith
event_below (Enter a) = omega arith

module _ (bytes : List ℕ) where
  no_start : IsOutside u32_field (HasBits 32) bytes → IsOutside event_spelled EventFits (0 ∷ bytes)
  no_start out (Start a) rest f e = out a rest f (parted e).1
  no_start out v rest f e = absurd (apart e refl)

  no_phase_to : IsOutside campaign_phase_spelled Any bytes → IsOutside event_spelled EventFits (2 ∷ bytes)
  no_phase_to out (PhaseTo a) rest f e = out a rest tt (parted e).1
  no_phase_to out v rest f e = absurd (apart e refl)

  no_decide : IsOutside decision_spelled DecisionFits bytes → IsOutside event_spelled EventFits (5 ∷ bytes)
  no_decide out (Decide a) rest f e = out a rest f (parted e).1
  no_decide out v rest f e = absurd (apart e refl)

  no_enter : IsOutside result_spelled Any bytes → IsOutside event_spelled EventFits (7 ∷ bytes)
  no_enter out (Enter a) rest f e = out a rest tt (parted e).1
  no_enter out v rest f e = absurd (apart e refl)

pub tells-event : Tells event_spelled EventFits
tells-event = tells-tagged event_number event_fields event_parts 8 event_below each
  where
    each : (b : ℕ) → b < 8 → (bytes : List ℕ) → Told event_spelled EventFits (b ∷ bytes)
    each zero lt bytes =
        by_kind {P = EventFits} 0 bytes Start (tells-u32 bytes) (λ x f. f) (λ x. refl) (no_start bytes)
    each (suc zero) lt bytes =
        by_kind {P = EventFits} 1 bytes (λ t. Begin t.0 t.1) (tells-pair unique-u32 tells-u32 tells-node_set bytes)
        (λ x f. f) (λ x. refl) (no_begin bytes)
    each (suc (suc zero)) lt bytes =
        by_kind {P = EventFits} 2 bytes PhaseTo (tells-campaign_phase bytes) (λ x f. f) (λ x. refl) (no_phase_to bytes)
    each (suc (suc (suc zero))) lt bytes =
        by_kind {P = EventFits} 3 bytes (λ t. VoteOf t.0 t.1)
        (tells-pair (unique-u8 {P = IsNode}) tells-node tells-vote bytes) (λ x f. f) (λ x. refl) (no_vote_of bytes)
    each (suc (suc (suc (suc zero)))) lt bytes = alone CancelAsked 4 bytes tt refl
    each (suc (suc (suc (suc (suc zero))))) lt bytes =
        by_kind {P = EventFits} 5 bytes Decide (tells-decision bytes) (λ x f. f) (λ x. refl) (no_decide bytes)
    each (suc (suc (suc (suc (suc (suc zero)))))) lt bytes =
        by_kind {P = EventFits} 6 bytes (λ t. EndedAt t.0 t.1)
        (tells-pair (unique-u8 {P = IsNode}) tells-node tells-outcome bytes) (λ x f. f) (λ x. refl) (no_ended_at bytes)
    each (suc (suc (suc (suc (suc (suc (suc zero))))))) lt bytes =
        by_kind {P = EventFits} 7 bytes Enter (tells-result bytes) (λ x f. f) (λ x. refl) (no_enter bytes)
    each (suc (suc (suc (suc (suc (suc (suc (suc n)))))))) lt bytes = absurd (omega (arith, lt))

tells-current : Tells current_spelled CurrentFits
tells-current =
    tells-by (λ c. (c.campaign, (c.named, (c.phase, (c.votes, (c.cancel, (c.restart, (c.decision, c.ended))))))))
    (λ t. record {
      campaign = t.0;
      named = t.1.0;
      phase = t.1.1.0;
      votes = t.1.1.1.0;
      cancel = t.1.1.1.1.0;
      restart = t.1.1.1.1.1.0;
      decision = t.1.1.1.1.1.1.0;
      ended = t.1.1.1.1.1.1.1;
    }) (λ t f. refl)
    (tells-pair unique-u32 tells-u32 (tells-pair unique-node_set tells-node_set
    (tells-pair unique-phase_or_none tells-phase_or_none
    (tells-pair votes (tells-many (unique-option unique-vote) (tells-option tells-vote) node_limit)
    (tells-pair unique-bool tells-bool (tells-pair unique-bool tells-bool
    (tells-pair (unique-option unique-decision) (tells-option tells-decision)
    (tells-many (unique-option unique-outcome) (tells-option tells-outcome) node_limit))))))))
  where
    votes : IsUnique (flat_map (option_spelled vote_spelled)) (ManyFit (OptionFits VoteFits) node_limit)
    votes = unique-many node_limit (unique-option unique-vote)

tells-earlier : Tells earlier_spelled EarlierFits
tells-earlier = tells-pair unique-u32 tells-u32 tells-result

tells-campaigns : Tells campaigns_spelled CampaignsFit
tells-campaigns bytes = by (tells-u16 bytes)
  where
    Campaigns : Type 0
    Campaigns = List (ℕ × CampaignResult)

    by : Told u16_field (HasBits 16) bytes → Told campaigns_spelled CampaignsFit bytes
    by (inr out) = inr (λ v rest f e.
        out (length v) (flat_map earlier_spelled v ++ rest) f.0
        (e ∙ append_assoc (u16_field (length v)) (flat_map earlier_spelled v) rest))
    by (inl x) = elim (tells-many unique-earlier tells-earlier x.value x.rest) [
      | inl y ↦ inl (record {
        value = y.value;
        rest = y.rest;
        fit = (subst (HasBits 16) (sym y.fit.0) x.fit, y.fit.1);
        is = x.is ∙ ap (λ r. u16_field x.value ++ r) y.is
            ∙ sym (append_assoc (u16_field x.value) (flat_map earlier_spelled y.value) y.rest)
            ∙ ap (λ n. (u16_field n ++ flat_map earlier_spelled y.value) ++ y.rest) (sym y.fit.0);
      })
      | inr out ↦ inr (λ v rest f e.
          let same = unique-u16.one x.value (length v) x.rest (flat_map earlier_spelled v ++ rest) x.fit f.0
          (sym x.is ∙ e ∙ append_assoc (u16_field (length v)) (flat_map earlier_spelled v) rest) in
          out v rest (sym same.0, f.1) same.1)
    ]

pub tells-fold : Tells fold_spelled FoldFits
tells-fold =
    tells-by (λ f. (f.epoch, (f.earlier, f.current))) (λ t. record { epoch = t.0; earlier = t.1.0; current = t.1.1 })
    (λ t f. refl)
    (tells-pair unique-u32 tells-u32 (tells-pair unique-campaigns tells-campaigns (tells-option tells-current)))

-- the event that the bytes are the spelling of, if they are one
unfoldable pub event_of : List ℕ → Option MasterEvent
event_of bytes = whole (tells-event bytes)

-- what the master's list says by the bytes, if they are a spelling of it
unfoldable pub fold_of : List ℕ → Option Fold
fold_of bytes = whole (tells-fold bytes)
