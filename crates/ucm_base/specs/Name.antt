-- The form of a cluster's name: 1 to 32 of `a` to `z`, `0` to `9` and `_`, with a letter first.
use Rattle.std.specs.Prelude.{◌&&◌, ◌||◌, ◌==◌, ℕ, nat_le, Bool, false, List, [], ◌∷◌, length}
use Rattle.std.specs.List.{list_all}
use Rattle.ucm_base.specs.Limits.{name_limit}

-- `a` to `z`
abbrev pub is_letter : ℕ → Bool
is_letter b = nat_le 97 b && nat_le b 122

-- a letter, `0` to `9` or `_`
abbrev pub is_name_byte : ℕ → Bool
is_name_byte b = is_letter b || (nat_le 48 b && nat_le b 57) || (b == 95)

abbrev pub begins_with_letter : List ℕ → Bool
begins_with_letter [] = false
begins_with_letter (b ∷ rest) = is_letter b

abbrev pub is_cluster_name : List ℕ → Bool
is_cluster_name text = begins_with_letter text && nat_le (length text) name_limit && list_all is_name_byte text
