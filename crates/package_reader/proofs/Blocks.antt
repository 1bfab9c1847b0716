-- A length and its bytes, spelled and read.
use Rattle.std.proofs.Common.{◌≡◌, ℕ, ◌+◌, ◌<◌, ◌≤◌, ◌^◌, Bool, true, false, cond, nat_lt, List, ◌++◌, length, take, drop, get_or, Result, Ok, Err, refl, sym, ◌∙◌, ap, arith, subst, take-append-drop, inl, inr, w32}
use Rattle.std.specs.Int.{to_be_bytes, from_be_bytes}
use Rattle.std.proofs.lemmas.Bool.{cases_lt, ltb-false, le-ltb}
use Rattle.std.proofs.lemmas.Nat.{be_bytes_4, from_be_bytes-to_be_bytes_4}
use Rattle.std.proofs.lemmas.List.{length-append, length-drop, length-take, length-take-le, take_at, drop_at, drop-drop, get_or-drop, get_or-take, get_or_past}
use Rattle.wire.specs.Fields.{bytes_field}
use Rattle.package_reader.specs.Fields.{◌>>=◌, block_at, bytes_of, end_of, number_at}
use Rattle.package_reader.specs.Spelling.{AreBytes}
use Rattle.package_reader.specs.declared.fault.PackageError.{PackageError}
use Rattle.package_reader.specs.declared.span.Span.{Span}

-- the value of a step that was not refused
pub bind_ok : {A B : Type 0} (r : Result A PackageError) (f : A → Result B PackageError) (y : B) → (r >>= f) ≡ Ok y
    → (x : A) × (r ≡ Ok x) × (f x ≡ Ok y)
bind_ok (Ok x) f y e = (x, refl, e)
bind_ok (Err d) f y e = absurd cc

-- a test that did not refuse
pub guard_ok : {A : Type 0} (b : Bool) (d : PackageError) (r : Result A PackageError) (y : A) → cond b (Err d) r ≡ Ok y
    → (b ≡ false) × (r ≡ Ok y)
guard_ok true d r y e = absurd cc
guard_ok false d r y e = (refl, e)

abbrev done : {A : Type 0} → A → Result A PackageError
done x = Ok x

pub ok_is : {A : Type 0} (x y : A) → done x ≡ done y → x ≡ y
ok_is x y e = cc

-- a block lies behind its length
pub record Stands (bytes : List ℕ) (place : ℕ) (span : Span) : Type 0 where
  pub at : span.at ≡ place + 4
  pub number : number_at bytes place ≡ span.len
  pub within : end_of span ≤ length bytes

pub block_stands : (bytes : List ℕ) (place : ℕ) (span : Span) → block_at bytes place ≡ Ok span → Stands bytes place span
unfolding block_at
block_stands bytes place span e =
    let a = guard_ok (nat_lt (length bytes) (place + 4)) _ _ span e in
    let b = guard_ok (nat_lt (length bytes) (place + 4 + number_at bytes place)) _ _ span a.1 in
    let is = ok_is _ _ b.1 in
    let long = ltb-false _ _ b.0 in
    record {
      at = ap (λ (s : Span). s.at) (sym is);
      number = ap (λ (s : Span). s.len) is;
      within = subst (λ (s : Span). end_of s ≤ length bytes) is long;
    }

-- the block that is spelled at a place
pub spelled_block : (bytes front value rest : List ℕ) (place : ℕ) → bytes ≡ front ++ (bytes_field value ++ rest)
    → length front ≡ place → length value < 2 ^ 32
    → (number_at bytes place ≡ length value)
    × (block_at bytes place ≡ Ok (record { at = place + 4; len = length value }))
    × (bytes_of bytes (record { at = place + 4; len = length value }) ≡ value)
unfolding block_at
spelled_block bytes front value rest place e len short =
    let from : drop place bytes ≡ bytes_field value ++ rest = ap (drop place) e ∙ drop_at front _ place len in
    let number : number_at bytes place ≡ length value =
    ap (λ (xs : List ℕ). from_be_bytes w32 (take 4 xs)) from ∙ from_be_bytes-to_be_bytes_4 (length value) short in
    let behind : drop (place + 4) bytes ≡ value ++ rest =
    sym (drop-drop 4 place bytes) ∙ ap (λ (xs : List ℕ). drop 4 xs) from in
    let all : place + 4 + length value ≤ length bytes =
    omega (
      arith,
      ap length e,
      length-append front (bytes_field value ++ rest),
      length-append (bytes_field value) rest,
      length-append (to_be_bytes w32 (length value)) value,
      len,
    ) in
    let head = le-ltb (length bytes) (place + 4) (omega (arith, all)) in
    let tail = le-ltb (length bytes) (place + 4 + length value) all in
    (number, rw (head, number, tail) refl, ap (take (length value)) behind ∙ take_at value rest (length value) refl)

AreBytes-drop : (n : ℕ) (bytes : List ℕ) → AreBytes bytes → AreBytes (drop n bytes)
AreBytes-drop n bytes small i = rw get_or-drop (small (n + i))

AreBytes-take : (n : ℕ) (bytes : List ℕ) → AreBytes bytes → AreBytes (take n bytes)
AreBytes-take n bytes small i =
    elim (cases_lt i n) [
      | inl lt ↦ rw (get_or-take n bytes i 0 lt) (small i)
      | inr le ↦ rw (get_or_past (take n bytes) i 0 (omega (arith, length-take n bytes))) (omega arith)
    ]

-- what stands at a place is spelled there
pub record Spells (bytes : List ℕ) (place : ℕ) (span : Span) : Type 0 where
  pub parts : drop place bytes ≡ bytes_field (bytes_of bytes span) ++ drop (end_of span) bytes
  pub size : length (bytes_of bytes span) ≡ span.len
  pub small : span.len < 2 ^ 32

pub stands-spelled : (bytes : List ℕ) (place : ℕ) (span : Span) → AreBytes bytes → Stands bytes place span
    → Spells bytes place span
stands-spelled bytes place span fits is =
    let n = span.len in
    let behind = drop span.at bytes in
    let number : number_at bytes place ≡ n = is.number in
    let field : to_be_bytes w32 n ≡ take 4 (drop place bytes) =
    be_bytes_4 (take 4 (drop place bytes)) n
    (length-take-le 4 (drop place bytes) (omega (arith, length-drop place bytes, is.at, is.within)))
    (AreBytes-take 4 (drop place bytes) (AreBytes-drop place bytes fits)) (sym number) in
    let len : length (take n behind) ≡ n =
    length-take-le n behind (omega (arith, length-drop span.at bytes, is.within)) in
    let back : behind ≡ take n behind ++ drop (end_of span) bytes =
    sym (take-append-drop n behind) ∙ ap (λ (xs : List ℕ). take n behind ++ xs) (drop-drop n span.at bytes) in
    let next : drop 4 (drop place bytes) ≡ behind = drop-drop 4 place bytes ∙ ap (λ k. drop k bytes) (sym is.at) in
    let parts : drop place bytes ≡ to_be_bytes w32 n ++ (take n behind ++ drop (end_of span) bytes) =
    sym (take-append-drop 4 (drop place bytes)) ∙ (λ i. sym field i ++ (next ∙ back) i) in
    let four = AreBytes-take 4 (drop place bytes) (AreBytes-drop place bytes fits) in
    record {
      parts = parts ∙ ap (λ (k : ℕ). to_be_bytes w32 k ++ (take n behind ++ drop (end_of span) bytes)) (sym len);
      size = len;
      small = omega (arith, number, four 0, four 1, four 2, four 3);
    }
