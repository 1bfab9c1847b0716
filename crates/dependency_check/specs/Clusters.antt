-- Clusters with their needs, and an unmet need, as the definition of what is missing has them.
use Rattle.std.specs.Prelude.{ℕ, List}
use Rattle.std.specs.Borrow.{Bor}
use Rattle.ucm_base.specs.declared.parts.Need.{Need}
use Rattle.ucm_base.specs.Needs.{Needing, Unmet}
use Rattle.dependency_check.specs.declared.unmet.Needing.{Needing as Lent}

-- a cluster whose parts lie elsewhere
abbrev pub needing : Lent → Needing
needing c = record { name = c.name.now; version = c.version.now; needs = c.needs.now }

-- an unmet need, by the name of its cluster and itself
abbrev pub unmet : List ℕ × Bor Need → Unmet
unmet found = record { cluster = found.0; need = found.1.now }
