-- One node with calm clients refuses no call of an eligible campaign's rounds and fails no check; so eligible and calm
-- runs succeed.
use Rattle.std.specs.Prelude.{◌≡◌, ◌≢◌, ℕ, ◌≤◌, Bool, false, not, ◌||◌, nat_eq, IsTrue, List, [], length, map, is_some}
use Rattle.std.specs.Prelude.{Some, Ok}
use Rattle.std.specs.List.{AllByRecursion, list_any}
use Rattle.ucm_base.specs.Limits.{node_limit, package_limit, transfer_limit}
use Rattle.ucm_base.specs.Names.{all_differ}
use Rattle.ucm_base.specs.Parts.{Bytes}
use Rattle.pm_types.specs.declared.calls.Call.TheVariants.{TransferStart}
use Rattle.pm_types.specs.declared.clusters.Cluster.{Cluster}
use Rattle.pm_types.specs.declared.history.Entry.{Entry}
use Rattle.pm_types.specs.declared.history.Entry.TheVariants.{Numbered}
use Rattle.pm_types.specs.Clusters.{cluster_of}
use Rattle.pm_types.specs.Transfers.{parts_read}
use Rattle.pm_types.specs.Histories.{Reading, IsLegal, IsTrueTo, formatted}
use Rattle.campaign_core.specs.declared.events.CampaignResult.TheVariants.{Successful}
use Rattle.campaign_core.specs.declared.events.Vote.{Vote}
use Rattle.node_laws.specs.Fit.{IsReading, IsInstalled}
use Rattle.world.specs.Law.{parts_in}
use Rattle.run_claim.specs.Script.{Script, packages_of, installed_on, named_nodes}
use Rattle.run_claim.specs.Ended.{Ended, is_ended_by_master}
use Rattle.run_claim.specs.Masters.{hurries}
use Rattle.sub_core.specs.Made.{has_none}
use Rattle.run_claim.specs.Evidence.{VoteIsShown, is_of_node}
use Rattle.run_claim.specs.FailedAttempts.{Counted}
use Rattle.run_claim.specs.Cancelled.{CancelFits}
use Rattle.run_claim.specs.Left.{result_of}
use Rattle.run_claim.specs.Eligible.{all_apply, all_met, none_fails, is_eligible, is_calm}
use Rattle.run_claim.specs.Law.{ListFits, NodeFits, SeriesAreThere, NoneRose}

-- a package as a vehicle package has it: read, not empty and not too long
abbrev pub IsWhole : Reading → List ℕ → Type 0
IsWhole read p = (1 ≤ length p) × (length p ≤ package_limit) × (read p ≡ Ok (parts_read (read p)))

-- those that it has for a node: their parts are of different clusters
pub record AreWhole (read : Reading) (packages : List (List ℕ)) : Type 0 where
  pub each : AllByRecursion (IsWhole read) packages
  pub differ : IsTrue (all_differ (map cluster_of (parts_in read packages)))

-- another client starts a transfer
abbrev pub is_foreign_start : Entry → Bool
is_foreign_start (Numbered client at (TransferStart size) reply) = not (nat_eq client 0)
is_foreign_start _ = false

-- where the steps go through, other clients start no transfer and the master waits for units, a node refuses no call of
-- the rounds and fails no check
abbrev pub CalmNode : Type 0
CalmNode =
    (read : Reading) → IsReading read
    → (clusters : List (Cluster Bytes)) → IsInstalled clusters
    → (packages : List (List ℕ)) → packages ≢ [] → length packages ≤ transfer_limit → AreWhole read packages
    → IsTrue (all_apply clusters (parts_in read packages)) → IsTrue (all_met clusters (parts_in read packages))
    → (fails : List (List ℕ)) → IsTrue (none_fails fails (parts_in read packages))
    → (k epoch : ℕ) → 1 ≤ k
    → (history : List Entry) → IsLegal read (formatted clusters) history
    → IsTrueTo fails read (formatted clusters) history
    → IsTrue (not (list_any is_foreign_start history)) → IsTrue (not (hurries read (formatted clusters) history))
    → (vote : Vote) → IsTrue (is_of_node vote)
    → VoteIsShown read (formatted clusters) k epoch packages history vote → ⊥

-- so an eligible or calm run succeeds where no count rose
abbrev pub CalmFollows : Type 0
CalmFollows =
    (read : Reading) → IsReading read
    → (s : Script) → 1 ≤ s.campaign → IsTrue (is_eligible read s || is_calm read s)
    → ((n : ℕ) → 1 ≤ n → n ≤ node_limit → IsInstalled (installed_on s n) × AreWhole read (packages_of s n))
    → (counted : ℕ → Counted) → NoneRose counted
    → (e : Ended) → ListFits s counted e.list → SeriesAreThere s counted e
    → CancelFits s.cancel e.list (is_ended_by_master e) e.cancel
    → IsTrue (is_some (result_of e.list) || not (has_none e.unfinished))
    → AllByRecursion (NodeFits read s counted e) (named_nodes s)
    → result_of e.list ≡ Some Successful
