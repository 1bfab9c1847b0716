-- Spellings that are read back.
use Rattle.std.proofs.Common.{◌≡◌, ℕ, zero, suc, ◌<◌, ◌≤◌, ◌^◌, List, [], ◌∷◌, ◌++◌, length, take, drop, get_or, refl, sym, ◌∙◌, ap, arith, take-append-drop, w16, w32, w64}
use Rattle.std.specs.Int.{to_be_bytes, from_be_bytes}
use Rattle.std.proofs.lemmas.Nat.{be_bytes_2, be_bytes_4, be_bytes_8, from_be_bytes-to_be_bytes_4}
use Rattle.std.proofs.lemmas.List.{length-take-le}
use Rattle.wire.specs.Fields.{u16_field, u32_field, u64_field, bytes_field}

front_small : (bytes : List ℕ) (k : ℕ) → ((i : ℕ) → get_or bytes i 0 < 256) → (i : ℕ) → get_or (take k bytes) i 0 < 256
front_small bytes zero small i = omega arith
front_small [] (suc k) small i = omega arith
front_small (b ∷ bytes) (suc k) small zero = small 0
front_small (b ∷ bytes) (suc k) small (suc i) = front_small bytes k (λ j. small (suc j)) i

module _ (bytes rest : List ℕ) (n : ℕ) (small : (i : ℕ) → get_or bytes i 0 < 256) where
  joined : (k : ℕ) (field : List ℕ) → field ≡ take k bytes → rest ≡ drop k bytes → bytes ≡ field ++ rest
  joined k field front back = sym (take-append-drop k bytes) ∙ (λ i. sym front i ++ sym back i)

  pub u16_taken : (field : List ℕ) → field ≡ take 2 bytes → rest ≡ drop 2 bytes → 2 ≤ length bytes
      → n ≡ from_be_bytes w16 field → bytes ≡ u16_field n ++ rest
  u16_taken field front back long is = joined 2 _ (be_bytes_2 (take 2 bytes) n (length-take-le 2 bytes long)
      (front_small bytes 2 small) (is ∙ ap (λ xs. from_be_bytes w16 xs) front)) back

  pub u32_taken : (field : List ℕ) → field ≡ take 4 bytes → rest ≡ drop 4 bytes → 4 ≤ length bytes
      → n ≡ from_be_bytes w32 field → bytes ≡ u32_field n ++ rest
  u32_taken field front back long is = joined 4 _ (be_bytes_4 (take 4 bytes) n (length-take-le 4 bytes long)
      (front_small bytes 4 small) (is ∙ ap (λ xs. from_be_bytes w32 xs) front)) back

  pub u64_taken : (field : List ℕ) → field ≡ take 8 bytes → rest ≡ drop 8 bytes → 8 ≤ length bytes
      → n ≡ from_be_bytes w64 field → bytes ≡ u64_field n ++ rest
  u64_taken field front back long is = joined 8 _ (be_bytes_8 (take 8 bytes) n (length-take-le 8 bytes long)
      (front_small bytes 8 small) (is ∙ ap (λ xs. from_be_bytes w64 xs) front)) back

-- two fronts of one length
pub same_front : (a b rest others : List ℕ) → length a ≡ length b → a ++ rest ≡ b ++ others → (a ≡ b) × (rest ≡ others)
same_front [] [] rest others long e = (refl, e)
same_front [] (y ∷ b) rest others long e = absurd (omega (arith, long))
same_front (x ∷ a) [] rest others long e = absurd (omega (arith, long))
same_front (x ∷ a) (y ∷ b) rest others long e =
    let tails : a ++ rest ≡ b ++ others = cc in
    let heads : x ≡ y = cc in
    let same = same_front a b rest others (omega (arith, long)) tails in
    ((λ i. heads i ∷ same.0 i), same.1)

pub same_bytes : (v w rest others : List ℕ) → length v < 2 ^ 32 → length w < 2 ^ 32
    → bytes_field v ++ rest ≡ bytes_field w ++ others → (v ≡ w) × (rest ≡ others)
same_bytes v w rest others short small e =
    let same = same_front (to_be_bytes w32 (length v)) (to_be_bytes w32 (length w)) (v ++ rest) (w ++ others) refl e in
    let long : length v ≡ length w = sym (from_be_bytes-to_be_bytes_4 (length v) short)
    ∙ ap (λ xs. from_be_bytes w32 xs) same.0 ∙ from_be_bytes-to_be_bytes_4 (length w) small in
    same_front v w rest others long same.1
