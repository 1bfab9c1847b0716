-- The clusters that a script installs.
use Rattle.std.specs.Prelude.{◌≤◌, IsTrue, List, length, map}
use Rattle.std.specs.List.{AllByRecursion}
use Rattle.ucm_base.specs.Limits.{cluster_limit, package_limit}
use Rattle.ucm_base.specs.Names.{all_differ}
use Rattle.scenario.specs.declared.lines.Installed.{Installed}
use Rattle.scenario.specs.Blocks.{length_meant}

-- at most 64 clusters of different names, each of at most 16,777,216 bytes
pub record IsAllowed (installed : List Installed) : Type 0 where
  pub differ : IsTrue (all_differ (map (λ c. c.name) installed))
  pub few : length installed ≤ cluster_limit
  pub sizes : AllByRecursion (λ c. length_meant c.block ≤ package_limit) installed
