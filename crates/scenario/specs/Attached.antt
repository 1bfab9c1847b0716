-- What the lines above attach: a map from names to places, by its entries in order of names.
use Rattle.std.specs.Prelude.{ℕ, List, Option}
use Rattle.std.specs.declared.cmp.Ordering.{Ordering}
use Rattle.std.specs.Ordering.{nat_cmp}
use Rattle.std.specs.Cmp.Lexicographic.{slice_cmp}
use Rattle.std.specs.Map.{lookup}
use Rattle.std.specs.BTreeMap.{insert_entry, is_at}
use Rattle.scenario.specs.declared.attachments.Attached.{Attached}

abbrev pub Places : Type 0
Places = List (List ℕ × Attached)

-- the order of names
abbrev pub name_cmp : List ℕ → List ℕ → Ordering
name_cmp a b = slice_cmp nat_cmp a b

-- the attachment of this name
abbrev pub attached_by : Places → List ℕ → Option Attached
attached_by places name = lookup (is_at (name_cmp name)) places

-- the attachments with one more
abbrev pub with_attached : Places → List ℕ → Attached → Places
with_attached places name place = insert_entry name_cmp places name place
