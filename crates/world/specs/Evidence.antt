-- What each record of the master needs to have been told.
use Rattle.campaign_core.specs.Nodes.{flag_of}
use Rattle.campaign_core.specs.declared.events.Vote.{Vote}
use Rattle.campaign_core.specs.declared.fold.Current.{Current}
use Rattle.pm_types.specs.declared.replies.Reply.TheVariants.{Synced, Refused}
use Rattle.pm_types.specs.declared.replies.Synced.{Synced as Shown}
use Rattle.pm_types.specs.declared.status.Status.TheVariants.{Activated, RolledBack}
use Rattle.std.specs.Prelude.{◌≡◌, ◌≢◌, ◌↔◌, ℕ, ◌≤◌, List, [], ◌∷◌, length, Option, Some, None, true, false, Contains}
use Rattle.ucm_base.specs.declared.ids.NodeSet.{NodeSet}
use Rattle.world.specs.Messages.{Message, Told, Answered}
use Rattle.world.specs.Sends.{Packages, showed_after_activate, is_end_sync, is_masters}

-- the evidence of a vote
abbrev pub VoteEvidence : Vote → List Told → Type 0
VoteEvidence Vote.Yes ts = showed_after_activate Activated ts ≡ true
VoteEvidence (Vote.Refused at r) ts = (m : Message) × (m.at ≡ at) × Contains ts (Answered m (Refused r))
VoteEvidence Vote.RolledBack ts = showed_after_activate RolledBack ts ≡ true
VoteEvidence (Vote.Unreached _ _) ts = Unit {0}

-- the node's last message is a Sync after the decision and in this epoch,
-- and its answer shows no session of client 0 and no transfers
abbrev pub EndEvidence : ℕ → Current → List Told → List Message → Type 0
EndEvidence epoch c ts [] = ⊥
EndEvidence epoch c ts (m ∷ ms) =
    (is_end_sync c.campaign epoch m ≡ true) × (x : Shown) × Contains ts (Answered m (Synced x))
    × (is_masters x.session ≡ false) × (x.transfers ≡ [])

-- the named nodes are those of the steps
abbrev pub NamesOf : Packages → ℕ → NodeSet → Type 0
NamesOf packages k named =
    (length named.flags ≡ 8)
    × ((n : ℕ) → 1 ≤ n → n ≤ 8 → (flag_of named n ≡ true) ↔ (packages k n ≢ []))

abbrev pub InCurrent : Option Current → (Current → Type 0) → Type 0
InCurrent None P = ⊥
InCurrent (Some c) P = P c
