-- Sets of nodes, as the bits of a byte.
use Rattle.std.proofs.Common.{◌≡◌, ℕ, ◌+◌, ◌*◌, ◌<◌, Bool, true, false, List, [], ◌∷◌, length, get_or, refl, subst, arith}
use Rattle.std.proofs.Math.Nat.{pow-succ'}
use Rattle.std.specs.Prelude.{if◌then◌else◌, ◌^◌}
use Rattle.event_codec.specs.Spelling.{HasBits, IsOutside}
use Rattle.event_codec.specs.Master.{NodeSetFits, bits_of, node_set_spelled}
use mir.Val.{bool_byte}
use Rattle.wire.specs.Fields.{u8_field}

is : (flag : Bool) → bool_byte flag ≡ (if flag then 1 else 0)
is true = refl
is false = refl

-- the number of eight flags
pub eight_bits : (fs : List Bool) → length fs ≡ 8
    → bool_byte (get_or fs 0 false) + 2 * bool_byte (get_or fs 1 false) + 4 * bool_byte (get_or fs 2 false)
    + 8 * bool_byte (get_or fs 3 false)
    + 16 * (bool_byte (get_or fs 4 false) + 2 * bool_byte (get_or fs 5 false) + 4 * bool_byte (get_or fs 6 false)
    + 8 * bool_byte (get_or fs 7 false))
    ≡ bits_of fs
eight_bits (a ∷ b ∷ c ∷ d ∷ e ∷ f ∷ g ∷ h ∷ []) n =
    omega (arith, is a, is b, is c, is d, is e, is f, is g, is h)
eight_bits fs n = absurd (omega (arith, n))

bits-below : (fs : List Bool) → bits_of fs < 2 ^ length fs
bits-below [] = omega arith
bits-below (true ∷ fs) = omega (arith, bits-below fs, pow-succ' 2 (length fs))
bits-below (false ∷ fs) = omega (arith, bits-below fs, pow-succ' 2 (length fs))

-- where no byte stands in front, no set does
pub no_set : (bytes : List ℕ) → IsOutside u8_field (HasBits 8) bytes → IsOutside node_set_spelled NodeSetFits bytes
no_set bytes out =
    λ v rest f e. out (bits_of v.flags) rest (subst (λ k. bits_of v.flags < 2 ^ k) f (bits-below v.flags)) e
