-- What a content is after bytes are put into it.
use Rattle.std.proofs.Common.{◌≡◌, ℕ, ◌+◌, ◌-◌, ◌≤◌, max, ◌++◌, length, take, drop, sym, ◌∙◌, ap, arith, append_assoc, length-append, length-drop}
use Rattle.std.proofs.lemmas.List.{take_at, drop_at, take-take, take-append-le, length-take-le}
use Rattle.std.specs.List.{slice_range}
use Rattle.ucm_base.specs.Parts.{Bytes}
use Rattle.transfer_blocks.specs.Areas.{overwritten, AgreesOutside}

module _ (at : ℕ) (bytes content : Bytes) (le : at ≤ length content) where
  front : length (take at content) ≡ at
  front = length-take-le at content le

  to_end : length (take at content ++ bytes) ≡ at + length bytes
  to_end = length-append (take at content) bytes ∙ omega (arith, front)

  pub length-overwritten : length (overwritten at bytes content) ≡ max (length content) (at + length bytes)
  length-overwritten =
      omega (
        arith,
        to_end,
        length-append (take at content ++ bytes) (drop (at + length bytes) content),
        length-drop (at + length bytes) content,
        le,
      )

  -- up to the end of what was put
  pub take-overwritten : (n : ℕ) → n ≡ at + length bytes
      → take n (overwritten at bytes content) ≡ take at content ++ bytes
  take-overwritten n is = take_at (take at content ++ bytes) (drop (at + length bytes) content) n (to_end ∙ sym is)

  -- before it
  pub before-overwritten : (n : ℕ) → n ≤ at → take n (overwritten at bytes content) ≡ take n content
  before-overwritten n below =
      ap (take n) (append_assoc (take at content) bytes (drop (at + length bytes) content))
      ∙ take-append-le n (take at content) (bytes ++ drop (at + length bytes) content) (omega (arith, front, below))
      ∙ take-take n at content below

  -- behind it
  pub behind-overwritten : drop (at + length bytes) (overwritten at bytes content) ≡ drop (at + length bytes) content
  behind-overwritten = drop_at (take at content ++ bytes) (drop (at + length bytes) content) (at + length bytes) to_end

  -- what was put itself
  pub slice-overwritten : slice_range (overwritten at bytes content) at (at + length bytes) ≡ bytes
  slice-overwritten =
      ap (λ (xs : Bytes). take (at + length bytes - at) (drop at xs))
      (append_assoc (take at content) bytes (drop (at + length bytes) content))
      ∙ ap (take (at + length bytes - at))
      (drop_at (take at content) (bytes ++ drop (at + length bytes) content) at front)
      ∙ take_at bytes (drop (at + length bytes) content) (at + length bytes - at) (omega arith)

  pub agrees : AgreesOutside at (length bytes) content (overwritten at bytes content)
  agrees = record {
    no_shorter = omega (arith, length-overwritten);
    before = before-overwritten at (omega arith);
    behind = behind-overwritten;
  }

-- the bytes before the place stand
pub before-stands : (at n : ℕ) (old new : Bytes) (k : ℕ) → k ≤ at → AgreesOutside at n old new → take k new ≡ take k old
before-stands at n old new k le is = sym (take-take k at new le) ∙ ap (take k) is.before ∙ take-take k at old le

-- the first bytes, as a range
pub front_slice : (n : ℕ) (content : Bytes) → slice_range content 0 n ≡ take n content
front_slice n content = ap (λ (k : ℕ). take k content) (omega arith)
