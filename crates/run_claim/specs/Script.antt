-- What a script asks of a run: the steps of its campaign, what clients do, where it is cancelled, and what becomes of
-- messages.
use Rattle.std.specs.Prelude.{ℕ, ◌-◌, Bool, ◌||◌, ◌==◌, List, [], ◌∷◌, map, filter, Option}
use Rattle.std.specs.List.{list_any}
use Rattle.ucm_base.specs.Parts.{Bytes}
use Rattle.ucm_base.specs.declared.ids.CallNo.{CallNo}
use Rattle.pm_types.specs.declared.calls.Call.{Call}
use Rattle.pm_types.specs.declared.clusters.Cluster.{Cluster}
use Rattle.pm_types.specs.declared.queries.Query.{Query}
use Rattle.pm_types.specs.declared.queries.Query.TheVariants.{GetHistory}
use Rattle.pm_types.specs.Clusters.{with_cluster}
use Rattle.run_script.specs.declared.lines.FailsLine.{FailsLine}
use Rattle.run_script.specs.declared.lines.FateLine.{FateLine}
use Rattle.run_script.specs.declared.lines.Point.{Point}

-- a step of the vehicle package: these bytes go to this node
pub record Step : Type 0 where
  pub node : ℕ
  pub bytes : List ℕ

-- a cluster that a node is formatted with
pub record Installed : Type 0 where
  pub node : ℕ
  pub cluster : Cluster Bytes

-- what a client's line does on its node
pub data Deed : Type 0 where
  Calls : (at : CallNo) (call : Call) → Deed
  Works : Deed
  Asks : (query : Query) → Deed

-- a line of a client, or of the setup
pub record ClientLine : Type 0 where
  pub line : ℕ
  pub is_setup : Bool
  pub node : ℕ
  pub client : ℕ
  pub deed : Deed

-- a script and its vehicle package; `plans` has the disk of each line that stops a disk or has it fail
pub record Script : Type 0 where
  pub campaign : ℕ
  pub time : ℕ
  pub steps : List Step
  pub installed : List Installed
  pub fails : List FailsLine
  pub lines : List ClientLine
  pub cancel : Option Point
  pub fates : List FateLine
  pub plans : List ℕ

-- the packages that the steps bring to a node, in order
abbrev pub packages_of : Script → ℕ → List (List ℕ)
packages_of s n = map (λ step. step.bytes) (filter (λ step. step.node == n) s.steps)

-- some clusters, in order of name
abbrev pub in_order : List (Cluster Bytes) → List (Cluster Bytes)
in_order [] = []
in_order (c ∷ cs) = with_cluster c (in_order cs)

-- the clusters of a node's formatting, by name
abbrev pub installed_on : Script → ℕ → List (Cluster Bytes)
installed_on s n = in_order (map (λ x. x.cluster) (filter (λ x. x.node == n) s.installed))

-- the clusters whose checks fail on a node
abbrev pub failing_on : Script → ℕ → List (List ℕ)
failing_on s n = map (λ x. x.name) (filter (λ x. x.node == n) s.fails)

-- the lines of the setup and of other clients on a node
abbrev pub lines_on : Script → ℕ → List ClientLine
lines_on s n = filter (λ l. l.node == n) s.lines

-- whether a step names the node
abbrev pub is_named : Script → ℕ → Bool
is_named s n = list_any (λ step. step.node == n) s.steps

-- whether a step or a line names the node, or a plan its disk
abbrev pub is_used : Script → ℕ → Bool
is_used s n =
    is_named s n
    || (list_any (λ x. x.node == n) s.installed
    || (list_any (λ x. x.node == n) s.fails
    || (list_any (λ l. l.node == n) s.lines
    || (list_any (λ f. f.node == n) s.fates
    || list_any (λ disk. disk == n) s.plans))))

-- the numbers of nodes
abbrev pub every_node : List ℕ
every_node = 1 ∷ 2 ∷ 3 ∷ 4 ∷ 5 ∷ 6 ∷ 7 ∷ 8 ∷ []

-- the nodes that steps name, in order
abbrev pub named_nodes : Script → List ℕ
named_nodes s = filter (is_named s) every_node

-- the nodes that are formatted, in order
abbrev pub used_nodes : Script → List ℕ
used_nodes s = filter (is_used s) every_node

-- printed times begin at the script's start time, so a query's places begin so much lower
abbrev pub query_at : ℕ → Query → Query
query_at time (GetHistory ge lt) = GetHistory (ge - time) (lt - time)
query_at time query = query
