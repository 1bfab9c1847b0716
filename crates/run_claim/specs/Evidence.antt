-- What each vote is shown by on its node.
use Rattle.std.specs.Prelude.{◌≡◌, ◌⊎◌, ℕ, Bool, true, false, not, ◌&&◌, nat_eq, if◌then◌else◌, IsTrue, ⊤, List, [], ◌∷◌, ◌++◌, map, length, take, Option, Some, None}
use Rattle.std.specs.List.{AllByRecursion, list_all}
use Rattle.std.specs.Option.{option_map_or}
use Rattle.ucm_base.specs.declared.ids.CallNo.{CallNo}
use Rattle.pm_types.specs.declared.history.Entry.{Entry}
use Rattle.pm_types.specs.declared.replies.Refusal.{Refusal}
use Rattle.pm_types.specs.declared.replies.Reply.TheVariants.{Refused}
use Rattle.pm_types.specs.declared.status.Status.{Status}
use Rattle.pm_types.specs.declared.status.Status.TheVariants.{Activated, RolledBack}
use Rattle.pm_types.specs.NodeState.{NodeState, Session}
use Rattle.pm_types.specs.Histories.{Reading, state_after}
use Rattle.campaign_core.specs.declared.events.MasterEvent.{MasterEvent}
use Rattle.campaign_core.specs.declared.events.MasterEvent.TheVariants.{VoteOf}
use Rattle.campaign_core.specs.declared.events.Vote.{Vote}
use Rattle.world.specs.Messages.{is_refusal}
use Rattle.world.specs.RoundCalls.{round_calls}
use Rattle.run_claim.specs.Masters.{made_by}
use Rattle.sub_core.specs.Made.{Made, ids_given, numbers_from, IsOfRounds}

-- a session of client 0 with this tag
abbrev pub is_of_campaign : ℕ → Option Session → Bool
is_of_campaign k session = option_map_or (λ x. nat_eq x.owner 0 && nat_eq x.tag k) session false

-- after all calls of the rounds, none refused, and before any other call of client 0, the node has this status in the
-- session tagged k
pub record ShowsAfterRounds (read : Reading) (opening : NodeState) (k epoch : ℕ) (packages : List (List ℕ))
    (sought : Status) (history : List Entry) : Type 0 where
  pub place : ℕ
  pub calls : map (λ m. m.call) (made_by 0 (take place history))
      ≡ round_calls k (ids_given (made_by 0 (take place history))) packages
  pub numbers : map (λ m. m.at) (made_by 0 (take place history))
      ≡ numbers_from epoch 1 (length (made_by 0 (take place history)))
  pub accepted : IsTrue (list_all (λ m. not (is_refusal m.reply)) (made_by 0 (take place history)))
  pub status : (state_after read opening (take place history)).status ≡ sought
  pub session : IsTrue (is_of_campaign k (state_after read opening (take place history)).session)

-- a call of the rounds has this number and was refused so
pub record IsRefusedAt (k epoch : ℕ) (packages : List (List ℕ)) (at : CallNo) (refusal : Refusal)
    (made : List Made) : Type 0 where
  pub before : List Made
  pub refused : Made
  pub after : List Made
  pub there : made ≡ before ++ refused ∷ after
  pub rounds : IsOfRounds k epoch 1 packages (before ++ refused ∷ [])
  pub number : refused.at ≡ at
  pub reply : refused.reply ≡ Refused refusal

-- the evidence of a vote on its node; that of Unreached is a series
abbrev pub VoteIsShown : Reading → NodeState → ℕ → ℕ → List (List ℕ) → List Entry → Vote → Type 0
VoteIsShown read opening k epoch packages history Vote.Yes =
    ShowsAfterRounds read opening k epoch packages Activated history
VoteIsShown read opening k epoch packages history (Vote.Refused at refusal) =
    IsRefusedAt k epoch packages at refusal (made_by 0 history)
VoteIsShown read opening k epoch packages history Vote.RolledBack =
    ShowsAfterRounds read opening k epoch packages RolledBack history
VoteIsShown read opening k epoch packages history (Vote.Unreached losses faults) = ⊤

-- a node's votes in the list
abbrev pub votes_on : ℕ → List MasterEvent → List Vote
votes_on n [] = []
votes_on n (VoteOf m vote ∷ es) = if nat_eq m n then vote ∷ votes_on n es else votes_on n es
votes_on n (_ ∷ es) = votes_on n es

-- the vote is among these
abbrev pub InVotes : Vote → List Vote → Type 0
InVotes v [] = ⊥
InVotes v (w ∷ ws) = (v ≡ w) ⊎ InVotes v ws

-- each vote of a node is shown, in the epoch of Begin
abbrev pub VotesAreShown : Option ℕ → Reading → NodeState → ℕ → List (List ℕ) → List Entry → List Vote → Type 0
VotesAreShown None read opening k packages history votes = votes ≡ []
VotesAreShown (Some epoch) read opening k packages history votes =
    AllByRecursion (VoteIsShown read opening k epoch packages history) votes

-- a no that the node itself gave: a refusal, or a check that failed
abbrev pub is_of_node : Vote → Bool
is_of_node (Vote.Refused at refusal) = true
is_of_node Vote.RolledBack = true
is_of_node _ = false
