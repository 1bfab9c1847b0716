-- The form of a short text: 1 to 64 bytes, each a visible ASCII character.
use Rattle.std.specs.Prelude.{◌&&◌, ℕ, nat_le, Bool, List, length}
use Rattle.std.specs.List.{list_all}
use Rattle.ucm_base.specs.Limits.{text_limit}

-- `!` to `~`
abbrev pub is_visible : ℕ → Bool
is_visible b = nat_le 0x21 b && nat_le b 0x7E

abbrev pub is_short : List ℕ → Bool
is_short text = nat_le 1 (length text) && nat_le (length text) text_limit && list_all is_visible text
