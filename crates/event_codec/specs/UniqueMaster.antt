-- No spelling of a master's event, or of its state, begins another.
use Rattle.std.proofs.Common.{◌≡◌, ℕ, ◌+◌, ◌*◌, ◌<◌, Bool, true, false, List, [], ◌∷◌, ◌++◌, length, get_or, unwrap_or, Option, Some, None, refl, sym, ap, arith}
use Rattle.std.specs.List.{flat_map}
use Rattle.wire.specs.Fields.{u8_field, u16_field}
use Rattle.ucm_base.specs.Limits.{node_limit}
use Rattle.ucm_base.specs.declared.ids.NodeSet.{NodeSet}
use Rattle.campaign_core.specs.declared.events.Phase.{Phase}
use Rattle.campaign_core.specs.declared.events.Phase.TheVariants.{Transferring, Processing, Activating}
use Rattle.campaign_core.specs.declared.events.Vote.{Vote}
use Rattle.campaign_core.specs.declared.events.Vote.TheVariants as vote
use Rattle.campaign_core.specs.declared.events.Cause.TheVariants as cause
use Rattle.campaign_core.specs.declared.events.Decision.{Decision}
use Rattle.campaign_core.specs.declared.events.Decision.TheVariants.{Commit, Abort}
use Rattle.campaign_core.specs.declared.events.CampaignResult.{CampaignResult}
use Rattle.campaign_core.specs.declared.events.CampaignResult.TheVariants.{Successful, Failed, Cancelled}
use Rattle.campaign_core.specs.declared.events.MasterEvent.{MasterEvent}
use Rattle.campaign_core.specs.declared.events.MasterEvent.TheVariants.{Start, Begin, PhaseTo, VoteOf, CancelAsked, Decide, EndedAt, Enter}
use Rattle.event_codec.specs.declared.campaigns.Reached.{Reached}
use Rattle.event_codec.specs.Spelling.{Any, HasBits, IsUnique}
use Rattle.event_codec.specs.Master.{IsNode, bits_of, node_set_spelled, NodeSetFits, campaign_phase_code, campaign_phase_spelled, phase_or_0, vote_spelled, VoteFits, decision_spelled, DecisionFits, result_code, result_spelled, event_spelled, EventFits, current_spelled, CurrentFits, earlier_spelled, EarlierFits, campaigns_spelled, CampaignsFit, fold_spelled, FoldFits}
use Rattle.event_codec.specs.Unique.{parted, apart, unique-u8, unique-u16, unique-u32, unique-u64, unique-bool, unique-code, unique-pair, unique-by, unique-option, unique-many}
use Rattle.event_codec.specs.UniqueReplies.{unique-call_no, unique-outcome, unique-refusal}

-- flags of one length are told by their number
same_flags : (v w : List Bool) → length v ≡ length w → bits_of v ≡ bits_of w → v ≡ w
same_flags [] [] n e = refl
same_flags (true ∷ v) (true ∷ w) n e = ap (λ xs. true ∷ xs) (same_flags v w (omega (arith, n)) (omega (arith, e)))
same_flags (false ∷ v) (false ∷ w) n e = ap (λ xs. false ∷ xs) (same_flags v w (omega (arith, n)) (omega (arith, e)))
same_flags (true ∷ v) (false ∷ w) n e = absurd (omega (arith, e))
same_flags (false ∷ v) (true ∷ w) n e = absurd (omega (arith, e))
same_flags [] (b ∷ w) n e = absurd (omega (arith, n))
same_flags (a ∷ v) [] n e = absurd (omega (arith, n))

pub unique-node_set : IsUnique node_set_spelled NodeSetFits
unique-node_set = record {
  one = λ v w rest others f g e.
      let same = parted e in (
        (λ i. record { flags = same_flags v.flags w.flags (omega (arith, f, g)) same.0 i }),
        same.1,
      );
}

pub phases : List (Option Phase)
phases = None ∷ Some Transferring ∷ Some Processing ∷ Some Activating ∷ []

pub phase_at : (p : Option Phase) → get_or phases (phase_or_0 p) None ≡ p
unfolding phases
phase_at None = refl
phase_at (Some Transferring) = refl
phase_at (Some Processing) = refl
phase_at (Some Activating) = refl

pub unique-phase_or_none : IsUnique (λ p. u8_field (phase_or_0 p)) Any
unique-phase_or_none = unique-code phase_or_0 (λ n. get_or phases n None) phase_at

pub unique-campaign_phase : IsUnique campaign_phase_spelled Any
unique-campaign_phase =
    unique-code campaign_phase_code (λ n. unwrap_or (get_or phases n None) Transferring)
    (λ p. ap (λ o. unwrap_or o Transferring) (phase_at (Some p)))

-- as the code keeps the phase of a campaign
pub unique-reached : IsUnique {T = Reached} (λ r. u8_field (phase_or_0 r.phase)) Any
unique-reached = unique-by (λ r. r.phase) (λ p. record { phase = p }) (λ r. refl) unique-phase_or_none

same_votes : (v w : Vote) (rest others : List ℕ) → VoteFits v → VoteFits w
    → vote_spelled v ++ rest ≡ vote_spelled w ++ others
    → (v ≡ w) × (rest ≡ others)
same_votes (vote.Refused a b) (vote.Refused x y) rest others f g e =
    let same = (unique-pair unique-call_no unique-refusal).one (a, b) (x, y) rest others f g (cc) in
    ((λ i. let t = same.0 i in vote.Refused t.0 t.1), same.1)
same_votes (vote.Unreached a b) (vote.Unreached x y) rest others f g e =
    let same = (unique-pair unique-u64 unique-u64).one (a, b) (x, y) rest others f g (cc) in
    ((λ i. let t = same.0 i in vote.Unreached t.0 t.1), same.1)
same_votes vote.Yes vote.Yes rest others f g e = (refl, (parted e).1)
same_votes vote.RolledBack vote.RolledBack rest others f g e = (refl, (parted e).1)
same_votes v w rest others f g e = absurd (apart e refl)

pub unique-vote : IsUnique vote_spelled VoteFits
unique-vote = record { one = same_votes }

same_decisions : (v w : Decision) (rest others : List ℕ) → DecisionFits v → DecisionFits w
    → decision_spelled v ++ rest ≡ decision_spelled w ++ others
    → (v ≡ w) × (rest ≡ others)
same_decisions (Abort (cause.Vote a)) (Abort (cause.Vote b)) rest others f g e =
    let same = (unique-u8 {P = IsNode}).one a b rest others f g (cc) in
    ((λ i. Abort (cause.Vote (same.0 i))), same.1)
same_decisions Commit Commit rest others f g e = (refl, (parted e).1)
same_decisions (Abort cause.Cancel) (Abort cause.Cancel) rest others f g e = (refl, (parted e).1)
same_decisions (Abort cause.Restart) (Abort cause.Restart) rest others f g e = (refl, (parted e).1)
same_decisions Commit (Abort cause.Cancel) rest others f g e = absurd (apart e refl)
same_decisions Commit (Abort (cause.Vote b)) rest others f g e = absurd (apart e refl)
same_decisions Commit (Abort cause.Restart) rest others f g e = absurd (apart e refl)
same_decisions (Abort cause.Cancel) Commit rest others f g e = absurd (apart e refl)
same_decisions (Abort (cause.Vote a)) Commit rest others f g e = absurd (apart e refl)
same_decisions (Abort cause.Restart) Commit rest others f g e = absurd (apart e refl)
same_decisions (Abort v) (Abort w) rest others f g e = absurd (apart e refl)

pub unique-decision : IsUnique decision_spelled DecisionFits
unique-decision = record { one = same_decisions }

pub result_at : (r : CampaignResult) → get_or (Successful ∷ Failed ∷ Cancelled ∷ []) (result_code r) Successful ≡ r
result_at Successful = refl
result_at r = refl

pub unique-result : IsUnique result_spelled Any
unique-result =
    unique-code result_code (λ n. get_or (Successful ∷ Failed ∷ Cancelled ∷ []) n Successful) result_at

same_events : (v w : MasterEvent) (rest others : List ℕ) → EventFits v → EventFits w
    → event_spelled v ++ rest ≡ event_spelled w ++ others
    → (v ≡ w) × (rest ≡ others)
same_events (Start a) (Start b) rest others f g e =
    let same = unique-u32.one a b rest others f g (cc) in (ap Start same.0, same.1)
same_events (Begin a b) (Begin x y) rest others f g e =
    let same = (unique-pair unique-u32 unique-node_set).one (a, b) (x, y) rest others f g (cc) in
    ((λ i. let t = same.0 i in Begin t.0 t.1), same.1)
same_events (PhaseTo a) (PhaseTo b) rest others f g e =
    let same = unique-campaign_phase.one a b rest others tt tt (cc) in (ap PhaseTo same.0, same.1)
same_events (VoteOf a b) (VoteOf x y) rest others f g e =
    let same = (unique-pair (unique-u8 {P = IsNode}) unique-vote).one (a, b) (x, y) rest others f g (cc) in
    ((λ i. let t = same.0 i in VoteOf t.0 t.1), same.1)
same_events CancelAsked CancelAsked rest others f g e = (refl, (parted e).1)
same_events (Decide a) (Decide b) rest others f g e =
    let same = unique-decision.one a b rest others f g (cc) in (ap Decide same.0, same.1)
same_events (EndedAt a b) (EndedAt x y) rest others f g e =
    let same = (unique-pair (unique-u8 {P = IsNode}) unique-outcome).one (a, b) (x, y) rest others f g (cc) in
    ((λ i. let t = same.0 i in EndedAt t.0 t.1), same.1)
same_events (Enter a) (Enter b) rest others f g e =
    let same = unique-result.one a b rest others tt tt (cc) in (ap Enter same.0, same.1)
same_events v w rest others f g e = absurd (apart e refl)

pub unique-event : IsUnique event_spelled EventFits
unique-event = record { one = same_events }

pub unique-current : IsUnique current_spelled CurrentFits
unique-current =
    unique-by (λ c. (c.campaign, (c.named, (c.phase, (c.votes, (c.cancel, (c.restart, (c.decision, c.ended))))))))
    (λ t. record {
      campaign = t.0;
      named = t.1.0;
      phase = t.1.1.0;
      votes = t.1.1.1.0;
      cancel = t.1.1.1.1.0;
      restart = t.1.1.1.1.1.0;
      decision = t.1.1.1.1.1.1.0;
      ended = t.1.1.1.1.1.1.1;
    }) (λ c. refl)
    (unique-pair unique-u32 (unique-pair unique-node_set (unique-pair unique-phase_or_none
    (unique-pair (unique-many node_limit (unique-option unique-vote))
    (unique-pair unique-bool (unique-pair unique-bool (unique-pair (unique-option unique-decision)
    (unique-many node_limit (unique-option unique-outcome)))))))))

pub unique-earlier : IsUnique earlier_spelled EarlierFits
unique-earlier = unique-pair unique-u32 unique-result

pub unique-campaigns : IsUnique campaigns_spelled CampaignsFit
unique-campaigns = record {
  one = λ v w rest others f g e.
      let heads =
      (unique-u16.one (length v) (length w) (flat_map earlier_spelled v ++ rest) (flat_map earlier_spelled w ++ others)
      f.0 g.0 e).0 in
      let tails = unique-pair unique-u16 (unique-many (length v) unique-earlier) in
      let same = tails.one (length v, v) (length w, w) rest others (f.0, (refl, f.1)) (g.0, (sym heads, g.1)) e in
      (ap (λ (t : ℕ × List (ℕ × CampaignResult)). t.1) same.0, same.1);
}

pub unique-fold : IsUnique fold_spelled FoldFits
unique-fold =
    unique-by (λ f. (f.epoch, (f.earlier, f.current))) (λ t. record { epoch = t.0; earlier = t.1.0; current = t.1.1 })
    (λ f. refl)
    (unique-pair unique-u32 (unique-pair unique-campaigns (unique-option unique-current)))
