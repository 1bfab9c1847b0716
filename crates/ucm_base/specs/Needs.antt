-- The first need that a list of clusters leaves unmet.
use Rattle.std.specs.Prelude.{ℕ, Bool, not, ◌&&◌, List, [], ◌∷◌, Option, None, find, option_map}
use Rattle.std.specs.List.{list_any}
use Rattle.std.specs.Option.{option_or}
use Rattle.std.specs.Str.{bytes_eq}
use Rattle.ucm_base.specs.declared.parts.Need.{Need}
use Rattle.ucm_base.specs.Versions.{accepts}

-- a cluster with what it needs
pub record Needing : Type 0 where
  pub name : List ℕ
  pub version : List ℕ
  pub needs : List Need

-- a need that isn't met, and whose it is
pub record Unmet : Type 0 where
  pub cluster : List ℕ
  pub need : Need

-- a need is met where a cluster of its name is there and its version is accepted
abbrev pub is_met : List Needing → Need → Bool
is_met clusters need = list_any (λ c. bytes_eq c.name need.name && accepts need.req c.version) clusters

-- the first unmet need of one cluster
abbrev pub unmet_of : List Needing → Needing → Option Unmet
unmet_of clusters c =
    option_map (λ need. record { cluster = c.name; need = need }) (find (λ need. not (is_met clusters need)) c.needs)

-- the first of some clusters' unmet needs, by cluster and then by place
abbrev pub first_unmet : List Needing → List Needing → Option Unmet
first_unmet clusters [] = None
first_unmet clusters (c ∷ rest) = option_or (unmet_of clusters c) (first_unmet clusters rest)

-- the first need that the clusters leave unmet
abbrev pub missing : List Needing → Option Unmet
missing clusters = first_unmet clusters clusters
