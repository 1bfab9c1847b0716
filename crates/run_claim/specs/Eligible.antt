-- Scripts of which a run promises success.
use Rattle.std.specs.Prelude.{ℕ, Bool, true, false, not, ◌&&◌, nat_le, List, [], length, is_none}
use Rattle.std.specs.List.{list_any, list_all}
use Rattle.ucm_base.specs.Limits.{transfer_limit}
use Rattle.ucm_base.specs.Names.{has_name}
use Rattle.ucm_base.specs.Parts.{Bytes}
use Rattle.pm_types.specs.declared.calls.Call.TheVariants.{TransferStart}
use Rattle.pm_types.specs.declared.clusters.Cluster.{Cluster}
use Rattle.ucm_base.specs.declared.parts.Part.{Part}
use Rattle.pm_types.specs.Clusters.{cluster_of, changes_of, planned, unmet_among}
use Rattle.pm_types.specs.Histories.{Reading}
use Rattle.pm_types.specs.Sessions.{parts_refusal}
use Rattle.world.specs.Law.{parts_in}
use Rattle.sub_core.specs.Made.{has_none}
use Rattle.run_claim.specs.Script.{Script, Deed, Calls, packages_of, installed_on, failing_on, named_nodes}

-- each action applies, each update is newer and no more names come about than a node has room for, in the order of the
-- steps
abbrev pub all_apply : List (Cluster Bytes) → List (Part Bytes) → Bool
all_apply clusters parts = is_none (parts_refusal {D = Bytes} clusters [] [] parts)

-- each need is met among the planned clusters
abbrev pub all_met : List (Cluster Bytes) → List (Part Bytes) → Bool
all_met clusters parts = is_none (unmet_among (planned (changes_of 0 parts) clusters))

-- no cluster of these parts fails
abbrev pub none_fails : List (List ℕ) → List (Part Bytes) → Bool
none_fails fails parts = not (list_any (λ part. has_name fails (cluster_of part)) parts)

-- the steps of a node go through, and none of their clusters fails
abbrev pub node_is_eligible : Reading → Script → ℕ → Bool
node_is_eligible read s n =
    nat_le (length (packages_of s n)) transfer_limit
    && (all_apply (installed_on s n) (parts_in read (packages_of s n))
    && (all_met (installed_on s n) (parts_in read (packages_of s n))
    && none_fails (failing_on s n) (parts_in read (packages_of s n))))

-- no client, fate, stop, fault or cancel, and on each named node the steps go through
abbrev pub is_eligible : Reading → Script → Bool
is_eligible read s =
    has_none s.lines && (has_none s.fates
    && (has_none s.plans && (is_none s.cancel && list_all (node_is_eligible read s) (named_nodes s))))

-- whether a line starts a transfer
abbrev pub starts_transfer : Deed → Bool
starts_transfer (Calls at (TransferStart size)) = true
starts_transfer _ = false

-- the script without the lines of clients and of the setup
abbrev pub without_lines : Script → Script
without_lines s = record s { lines = [] }

-- no client starts a transfer, and without the clients' lines it is eligible
abbrev pub is_calm : Reading → Script → Bool
is_calm read s = not (list_any (λ l. starts_transfer l.deed) s.lines) && is_eligible read (without_lines s)
