-- Bytes that no refusal, vote or event of the master is in front of.
use Rattle.std.proofs.Common.{◌≡◌, ℕ, List, ◌∷◌, ◌++◌, refl}
use Rattle.wire.specs.Fields.{u8_field, u32_field, u64_field}
use Rattle.campaign_core.specs.declared.events.Vote.TheVariants as vote
use Rattle.campaign_core.specs.declared.events.MasterEvent.TheVariants.{Begin, VoteOf, EndedAt}
use Rattle.pm_types.specs.declared.replies.Refusal.TheVariants.{MissingDependencies}
use Rattle.event_codec.specs.Texts.{text_spelled, IsName, IsShort}
use Rattle.event_codec.specs.Spelling.{Any, HasBits, IsOutside, pair_spelled, PairFits}
use Rattle.event_codec.specs.Replies.{call_no_spelled, CallNoFits, outcome_spelled, refusal_spelled, RefusalFits}
use Rattle.event_codec.specs.Master.{IsNode, node_set_spelled, NodeSetFits, vote_spelled, VoteFits, event_spelled, EventFits}
use Rattle.event_codec.specs.Unique.{parted, apart}

pub missing_outside : (bytes : List ℕ)
    → IsOutside (pair_spelled text_spelled (pair_spelled text_spelled text_spelled))
    (PairFits IsName (PairFits IsName IsShort)) bytes
    → IsOutside refusal_spelled RefusalFits (11 ∷ bytes)
missing_outside bytes out (MissingDependencies a b c) rest f e = out (a, (b, c)) rest f (parted e).1
missing_outside bytes out v rest f e = absurd (apart e refl)

module _ (bytes : List ℕ) where
  pub no_refused : IsOutside (pair_spelled call_no_spelled refusal_spelled) (PairFits CallNoFits RefusalFits) bytes
      → IsOutside vote_spelled VoteFits (1 ∷ bytes)
  no_refused out (vote.Refused a b) rest f e = out (a, b) rest f (parted e).1
  no_refused out v rest f e = absurd (apart e refl)

  pub no_unreached : IsOutside (pair_spelled u64_field u64_field) (PairFits (HasBits 64) (HasBits 64)) bytes
      → IsOutside vote_spelled VoteFits (3 ∷ bytes)
  no_unreached out (vote.Unreached a b) rest f e = out (a, b) rest f (parted e).1
  no_unreached out v rest f e = absurd (apart e refl)

  pub no_begin : IsOutside (pair_spelled u32_field node_set_spelled) (PairFits (HasBits 32) NodeSetFits) bytes
      → IsOutside event_spelled EventFits (1 ∷ bytes)
  no_begin out (Begin a b) rest f e = out (a, b) rest f (parted e).1
  no_begin out v rest f e = absurd (apart e refl)

  pub no_vote_of : IsOutside (pair_spelled u8_field vote_spelled) (PairFits IsNode VoteFits) bytes
      → IsOutside event_spelled EventFits (3 ∷ bytes)
  no_vote_of out (VoteOf a b) rest f e = out (a, b) rest f (parted e).1
  no_vote_of out v rest f e = absurd (apart e refl)

  pub no_ended_at : IsOutside (pair_spelled u8_field outcome_spelled) (PairFits IsNode Any) bytes
      → IsOutside event_spelled EventFits (6 ∷ bytes)
  no_ended_at out (EndedAt a b) rest f e = out (a, b) rest f (parted e).1
  no_ended_at out v rest f e = absurd (apart e refl)
