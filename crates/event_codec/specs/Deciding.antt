-- Grammars that tell of any list of numbers whether it begins with a spelling, and of which value.
use Rattle.std.proofs.Common.{◌≡◌, ◌⊎◌, inl, inr, ℕ, zero, suc, ◌<◌, ◌≤◌, ◌^◌, Bool, true, false, List, [], ◌∷◌, ◌++◌, length, take, drop, Option, Some, None, Result, Ok, Err, refl, sym, ◌∙◌, ap, subst, append_assoc, take-append-drop, w16, w32, w64, arith}
use Rattle.std.specs.Option.{MatchOption}
use Rattle.std.specs.Result.{IfOk}
use Rattle.std.specs.Int.{from_be_bytes}
use Rattle.std.specs.List.{flat_map, AllByRecursion}
use Rattle.std.proofs.Math.Seq.{take-append_seam}
use Rattle.std.proofs.lemmas.Bool.Decides.{leb_tells, eqb_tells}
use Rattle.std.proofs.lemmas.List.{append-nil, length-append, length-take-le}
use Rattle.std.proofs.lemmas.List.Concat.{flat_map-cons}
use Rattle.std.proofs.lemmas.Nat.{from_be_bytes-to_be_bytes_2, from_be_bytes-to_be_bytes_4, from_be_bytes-to_be_bytes_8}
use Rattle.wire.specs.Fields.{u8_field, u16_field, u32_field, u64_field}
use Rattle.event_codec.specs.Spelling.{Any, HasBits, IsNone, IsOutside, IsUnique, pair_spelled, PairFits, option_spelled, OptionFits, bool_spelled, ManyFit, list_spelled, ListFits}
use Rattle.event_codec.specs.Texts.{text_spelled}
use Rattle.event_codec.specs.Unique.{parted, unique-u8}

-- the value that the bytes begin with, and the rest
pub record Begins {T : Type 0} (spelled : T → List ℕ) (fits : T → Type 0) (bytes : List ℕ) : Type 0 where
  pub value : T
  pub rest : List ℕ
  pub fit : fits value
  pub is : bytes ≡ spelled value ++ rest

-- the bytes begin with the spelling of a value that fits, or of none
abbrev pub Told : {T : Type 0} → (T → List ℕ) → (T → Type 0) → List ℕ → Type 0
Told spelled fits bytes = Begins spelled fits bytes ⊎ IsOutside spelled fits bytes

abbrev pub Tells : {T : Type 0} → (T → List ℕ) → (T → Type 0) → Type 0
Tells spelled fits = (bytes : List ℕ) → Told spelled fits bytes

-- the value, where nothing stands behind it
abbrev pub at_end : {T : Type 0} → T → List ℕ → Option T
at_end v [] = Some v
at_end v (b ∷ bytes) = None

-- the value that the bytes are the spelling of, if they are one
abbrev pub whole : {T : Type 0} {spelled : T → List ℕ} {fits : T → Type 0} {bytes : List ℕ} → Told spelled fits bytes
    → Option T
whole (inl begins) = at_end begins.value begins.rest
whole (inr outside) = None

-- a fact, or not
abbrev pub Tested : Type 0 → Type 0
Tested P = P ⊎ (P → ⊥)

pub test_bool : (b : Bool) → Tested (b ≡ true)
test_bool true = inl refl
test_bool false = inr (λ e. absurd (cc))

pub test_same : (a b : ℕ) → Tested (a ≡ b)
test_same a b = elim (eqb_tells a b) [ inl same ↦ inl same.1 | inr other ↦ inr other.1 ]

pub test_below : (a b : ℕ) → Tested (a < b)
test_below a b = elim (leb_tells (suc a) b) [
  | inl below ↦ inl (omega (arith, below.1))
  | inr above ↦ inr
      (λ lt. omega (arith, lt, above.1))
]

pub test_at_most : (a b : ℕ) → Tested (a ≤ b)
test_at_most a b = elim (leb_tells a b) [ inl below ↦ inl below.1 | inr above ↦ inr (λ le. omega (arith, le, above.1)) ]

pub test_both : {P Q : Type 0} → Tested P → Tested Q → Tested (P × Q)
test_both (inl p) (inl q) = inl (p, q)
test_both (inr n) q = inr (λ both. n both.0)
test_both (inl p) (inr n) = inr (λ both. n both.1)

pub test_lists : (xs ys : List ℕ) → Tested (xs ≡ ys)
test_lists [] [] = inl refl
test_lists [] (y ∷ ys) = inr (λ e. absurd (cc))
test_lists (x ∷ xs) [] = inr (λ e. absurd (cc))
test_lists (x ∷ xs) (y ∷ ys) = elim (test_both (test_same x y) (test_lists xs ys)) [
  | inl same ↦ inl (λ i. same.0 i ∷ same.1 i)
  | inr other ↦ inr (λ e. other (parted e))
]

-- a byte that passes a test
pub tells-u8 : {P : ℕ → Type 0} → ((n : ℕ) → Tested (P n)) → Tells u8_field P
tells-u8 test [] = inr (λ v rest f e. absurd (cc))
tells-u8 {P = P} test (b ∷ bytes) = elim (test b) [
  | inl y ↦ inl (record { value = b; rest = bytes; fit = y; is = refl })
  | inr n ↦ inr (λ v rest f e. n (subst P (sym (parted e).0) f))
]

pub tells-byte : Tells u8_field (HasBits 8)
tells-byte = tells-u8 (λ n. test_below n (2 ^ 8))

-- a number of so many bytes
module _ (field : ℕ → List ℕ) (number : List ℕ → ℕ) (size bits : ℕ) (long : (n : ℕ) → length (field n) ≡ size)
    (back : (n : ℕ) → HasBits bits n → number (field n) ≡ n) where
  front : (v : ℕ) (bytes rest : List ℕ) → bytes ≡ field v ++ rest → take size bytes ≡ field v
  front v bytes rest e =
      ap (λ b. take size b) e ∙ ap (λ n. take n (field v ++ rest)) (sym (long v)) ∙ take-append_seam (field v) rest

  number_is : (v : ℕ) (bytes rest : List ℕ) → HasBits bits v → bytes ≡ field v ++ rest → number (take size bytes) ≡ v
  number_is v bytes rest f e = ap number (front v bytes rest e) ∙ back v f

  tells-number : Tells field (HasBits bits)
  tells-number bytes =
      elim (test_both (test_lists (take size bytes) (field (number (take size bytes))))
      (test_below (number (take size bytes)) (2 ^ bits))) [
        | inl same ↦ inl (record {
          value = number (take size bytes);
          rest = drop size bytes;
          fit = same.1;
          is = sym (take-append-drop size bytes) ∙ ap (λ b. b ++ drop size bytes) same.0;
        })
        | inr other ↦ inr (λ v rest f e. other (
          front v bytes rest e ∙ ap field (sym (number_is v bytes rest f e)),
          subst (λ n. n < 2 ^ bits) (sym (number_is v bytes rest f e)) f,
        ))
      ]

pub tells-u16 : Tells u16_field (HasBits 16)
tells-u16 = tells-number u16_field (λ b. from_be_bytes w16 b) 2 16 (λ n. refl) from_be_bytes-to_be_bytes_2

pub tells-u32 : Tells u32_field (HasBits 32)
tells-u32 = tells-number u32_field (λ b. from_be_bytes w32 b) 4 32 (λ n. refl) from_be_bytes-to_be_bytes_4

pub tells-u64 : Tells u64_field (HasBits 64)
tells-u64 = tells-number u64_field (λ b. from_be_bytes w64 b) 8 64 (λ n. refl) from_be_bytes-to_be_bytes_8

-- a text that passes a test
text_front : (t bytes rest : List ℕ) → bytes ≡ t ++ rest → (take (length t) bytes ≡ t) × (length t ≤ length bytes)
text_front t bytes rest e = (
  ap (λ b. take (length t) b) e ∙ take-append_seam t rest,
  omega (arith, ap length e, length-append t rest),
)

pub tells-text : {P : List ℕ → Type 0} → ((t : List ℕ) → Tested (P t)) → Tells text_spelled P
tells-text test [] = inr (λ v rest f e. absurd (cc))
tells-text {P = P} test (k ∷ bytes) = elim (test_both (test_at_most k (length bytes)) (test (take k bytes))) [
  | inl y ↦ inl (record {
    value = take k bytes;
    rest = drop k bytes;
    fit = y.1;
    is = (λ i. sym (length-take-le k bytes y.0) i ∷ sym (take-append-drop k bytes) i);
  })
  | inr n ↦ inr (λ v rest f e.
      let k_is : k ≡ length v = (parted e).0 in
      let fronts = text_front v bytes rest (parted e).1 in
      n (
        subst (λ m. m ≤ length bytes) (sym k_is) fronts.1,
        subst P (sym (ap (λ m. take m bytes) k_is ∙ fronts.0)) f,
      ))
]

-- by a code from which the value can be told
pub tells-code : {T : Type 0} (code : T → ℕ) (of : ℕ → T) → ((v : T) → of (code v) ≡ v)
    → Tells (λ v. u8_field (code v)) Any
tells-code code of back [] = inr (λ v rest f e. absurd (cc))
tells-code code of back (b ∷ bytes) = elim (test_same b (code (of b))) [
  | inl same ↦ inl (record { value = of b; rest = bytes; fit = tt; is = ap (λ n. n ∷ bytes) same })
  | inr other ↦ inr (λ v rest f e. other ((parted e).0 ∙ sym (ap (λ n. code (of n)) (parted e).0 ∙ ap code (back v))))
]

pub tells-bool : Tells bool_spelled Any
tells-bool [] = inr (λ v rest f e. empty v rest e)
  where
    empty : (v : Bool) (rest : List ℕ) → [] ≡ bool_spelled v ++ rest → ⊥
    empty true rest e = absurd (cc)
    empty false rest e = absurd (cc)
tells-bool (zero ∷ bytes) = inl (record { value = false; rest = bytes; fit = tt; is = refl })
tells-bool (suc zero ∷ bytes) = inl (record { value = true; rest = bytes; fit = tt; is = refl })
tells-bool (suc (suc n) ∷ bytes) = inr (λ v rest f e. large v rest e)
  where
    large : (v : Bool) (rest : List ℕ) → suc (suc n) ∷ bytes ≡ bool_spelled v ++ rest → ⊥
    large true rest e = let is : suc (suc n) ≡ 1 = (parted e).0 in omega (arith, is)
    large false rest e = let is : suc (suc n) ≡ 0 = (parted e).0 in omega (arith, is)

-- one value and another
pub tells-pair : {A B : Type 0} {a : A → List ℕ} {P : A → Type 0} {b : B → List ℕ} {Q : B → Type 0}
    → IsUnique a P → Tells a P → Tells b Q → Tells (pair_spelled a b) (PairFits P Q)
tells-pair {a = a} {P = P} {b = b} {Q = Q} one first second bytes = by (first bytes)
  where
    by : Told a P bytes → Told (pair_spelled a b) (PairFits P Q) bytes
    by (inr out) = inr (λ v rest f e. out v.0 (b v.1 ++ rest) f.0 (e ∙ append_assoc (a v.0) (b v.1) rest))
    by (inl x) = elim (second x.rest) [
      | inl y ↦ inl (record {
        value = (x.value, y.value);
        rest = y.rest;
        fit = (x.fit, y.fit);
        is = x.is ∙ ap (λ r. a x.value ++ r) y.is ∙ sym (append_assoc (a x.value) (b y.value) y.rest);
      })
      | inr out ↦ inr (λ v rest f e. out v.1 rest f.1
          (one.one x.value v.0 x.rest (b v.1 ++ rest) x.fit f.0
          (sym x.is ∙ e ∙ append_assoc (a v.0) (b v.1) rest)).1)
    ]

-- a value that is spelled as another from which it can be made, and back
pub tells-by : {A B : Type 0} {s : A → List ℕ} {P : A → Type 0} (to : B → A) (from : A → B)
    → ((a : A) → P a → to (from a) ≡ a) → Tells s P → Tells (λ b. s (to b)) (λ b. P (to b))
tells-by {s = s} {P = P} to from back tells bytes = elim (tells bytes) [
  | inl x ↦ inl (record {
    value = from x.value;
    rest = x.rest;
    fit = subst P (sym (back x.value x.fit)) x.fit;
    is = x.is ∙ ap (λ a. s a ++ x.rest) (sym (back x.value x.fit));
  })
  | inr out ↦ inr (λ v rest f e. out (to v) rest f e)
]

some_outside : {T : Type 0} (s : T → List ℕ) (P : T → Type 0) (bytes : List ℕ) → IsOutside s P bytes → (v : Option T)
    (rest : List ℕ) → OptionFits P v → suc zero ∷ bytes ≡ option_spelled s v ++ rest → ⊥
some_outside s P bytes out None rest f e = absurd (cc)
some_outside s P bytes out (Some v) rest f e = out v rest f (parted e).1

none_empty : {T : Type 0} (s : T → List ℕ) (v : Option T) (rest : List ℕ) → [] ≡ option_spelled s v ++ rest → ⊥
none_empty s None rest e = absurd (cc)
none_empty s (Some v) rest e = absurd (cc)

none_large : {T : Type 0} (s : T → List ℕ) (n : ℕ) (bytes : List ℕ) (v : Option T) (rest : List ℕ)
    → suc (suc n) ∷ bytes ≡ option_spelled s v ++ rest → ⊥
none_large s n bytes None rest e = let is : suc (suc n) ≡ 0 = (parted e).0 in omega (arith, is)
none_large s n bytes (Some v) rest e = let is : suc (suc n) ≡ 1 = (parted e).0 in omega (arith, is)

-- none, or a value
pub tells-option : {T : Type 0} {s : T → List ℕ} {P : T → Type 0} → Tells s P → Tells (option_spelled s) (OptionFits P)
tells-option {s = s} {P = P} tells [] = inr (λ v rest f e. none_empty s v rest e)
tells-option {s = s} {P = P} tells (zero ∷ bytes) = inl (record { value = None; rest = bytes; fit = tt; is = refl })
tells-option {s = s} {P = P} tells (suc zero ∷ bytes) = elim (tells bytes) [
  | inl x ↦ inl (record { value = Some x.value; rest = x.rest; fit = x.fit; is = ap (λ b. 1 ∷ b) x.is })
  | inr out ↦ inr (some_outside s P bytes out)
]
tells-option {s = s} {P = P} tells (suc (suc n) ∷ bytes) = inr (λ v rest f e. none_large s n bytes v rest e)

cut : {T : Type 0} (s : T → List ℕ) (y : T) (ys : List T) (r : List ℕ)
    → flat_map s (y ∷ ys) ++ r ≡ s y ++ (flat_map s ys ++ r)
cut s y ys r = ap (λ t. t ++ r) (flat_map-cons s y ys) ∙ append_assoc (s y) (flat_map s ys) r

-- one value more
module _ {T : Type 0} (s : T → List ℕ) (P : T → Type 0) (one : IsUnique s P) (n : ℕ)
    (tells : Tells (flat_map s) (ManyFit P n)) (bytes : List ℕ) where
  first_outside : IsOutside s P bytes → (v : List T) (rest : List ℕ) → ManyFit P (suc n) v
      → bytes ≡ flat_map s v ++ rest → ⊥
  first_outside out [] rest f e = absurd (omega (arith, f.0))
  first_outside out (y ∷ ys) rest f e = out y (flat_map s ys ++ rest) f.1.0 (e ∙ cut s y ys rest)

  rest_outside : (x : Begins s P bytes) → IsOutside (flat_map s) (ManyFit P n) x.rest → (v : List T) (rest : List ℕ)
      → ManyFit P (suc n) v → bytes ≡ flat_map s v ++ rest → ⊥
  rest_outside x out [] rest f e = absurd (omega (arith, f.0))
  rest_outside x out (y ∷ ys) rest f e = out ys rest (omega (arith, f.0), f.1.1)
      (one.one x.value y x.rest (flat_map s ys ++ rest) x.fit f.1.0 (sym x.is ∙ e ∙ cut s y ys rest)).1

  one_more : Told s P bytes → Told (flat_map s) (ManyFit P (suc n)) bytes
  one_more (inr out) = inr (first_outside out)
  one_more (inl x) = elim (tells x.rest) [
    | inl y ↦ inl (record {
      value = x.value ∷ y.value;
      rest = y.rest;
      fit = (omega (arith, y.fit.0), (x.fit, y.fit.1));
      is = x.is ∙ ap (λ r. s x.value ++ r) y.is ∙ sym (cut s x.value y.value y.rest);
    })
    | inr out ↦ inr (rest_outside x out)
  ]

-- so many values
pub tells-many : {T : Type 0} {s : T → List ℕ} {P : T → Type 0} → IsUnique s P → Tells s P → (n : ℕ)
    → Tells (flat_map s) (ManyFit P n)
tells-many one tells zero bytes = inl (record { value = []; rest = bytes; fit = (refl, tt); is = refl })
tells-many {s = s} {P = P} one tells (suc n) bytes =
    one_more s P one n (tells-many one tells n) bytes (tells bytes)

-- of a value that is told, whether it passes a narrower condition
pub tells-narrow : {T : Type 0} {s : T → List ℕ} {P Q : T → Type 0} → IsUnique s P → ((v : T) → Q v → P v)
    → ((v : T) → P v → Tested (Q v)) → Tells s P → Tells s Q
tells-narrow {Q = Q} one wider test tells bytes = elim (tells bytes) [
  | inr out ↦ inr (λ v rest f e. out v rest (wider v f) e)
  | inl x ↦ elim (test x.value x.fit) [
    | inl y ↦ inl (record { value = x.value; rest = x.rest; fit = y; is = x.is })
    | inr n ↦ inr (λ v rest f e.
        n (subst Q (sym (one.one x.value v x.rest rest x.fit (wider v f) (sym x.is ∙ e)).0) f))
  ]
]

-- a count, and so many values
module _ {T : Type 0} {s : T → List ℕ} {P : T → Type 0} {field : ℕ → List ℕ} {Q : ℕ → Type 0} where
  pub tells-counted : IsUnique field Q → Tells field Q → IsUnique s P → Tells s P
      → Tells (λ xs. field (length xs) ++ flat_map s xs) (λ xs. Q (length xs) × AllByRecursion P xs)
  tells-counted counts count one tells bytes = by (count bytes)
    where
      by : Told field Q bytes
          → Told (λ xs. field (length xs) ++ flat_map s xs) (λ xs. Q (length xs) × AllByRecursion P xs) bytes
      by (inr out) = inr (λ v rest f e.
          out (length v) (flat_map s v ++ rest) f.0 (e ∙ append_assoc (field (length v)) (flat_map s v) rest))
      by (inl x) = elim (tells-many one tells x.value x.rest) [
        | inl y ↦ inl (record {
          value = y.value;
          rest = y.rest;
          fit = (subst Q (sym y.fit.0) x.fit, y.fit.1);
          is = x.is ∙ ap (λ r. field x.value ++ r) y.is
              ∙ sym (append_assoc (field x.value) (flat_map s y.value) y.rest)
              ∙ ap (λ n. (field n ++ flat_map s y.value) ++ y.rest) (sym y.fit.0);
        })
        | inr out ↦ inr (λ v rest f e.
            let same = counts.one x.value (length v) x.rest (flat_map s v ++ rest) x.fit f.0
            (sym x.is ∙ e ∙ append_assoc (field (length v)) (flat_map s v) rest) in
            out v rest (sym same.0, f.1) same.1)
      ]

-- a count of one byte, and at most so many values
pub tells-list : {T : Type 0} {s : T → List ℕ} {P : T → Type 0} → IsUnique s P → Tells s P → (n : ℕ)
    → Tells (list_spelled s) (ListFits P n)
tells-list one tells n =
    tells-counted (unique-u8 {P = λ k. k ≤ n}) (tells-u8 (λ k. test_at_most k n)) one tells

-- a value of several kinds, whose spellings begin with the kind's number
head : {T : Type 0} (s : T → List ℕ) (tag : T → ℕ) (tail : T → List ℕ) → ((v : T) → s v ≡ tag v ∷ tail v)
    → (v : T) (bytes rest : List ℕ) (b : ℕ) → b ∷ bytes ≡ s v ++ rest → b ≡ tag v
head s tag tail is v bytes rest b e = (parted (e ∙ ap (λ t. t ++ rest) (is v))).0

no_head : {T : Type 0} (s : T → List ℕ) (tag : T → ℕ) (tail : T → List ℕ) → ((v : T) → s v ≡ tag v ∷ tail v)
    → (v : T) (rest : List ℕ) → [] ≡ s v ++ rest → ⊥
no_head s tag tail is v rest e =
    let not_empty : [] ≡ tag v ∷ (tail v ++ rest) = e ∙ ap (λ t. t ++ rest) (is v) in absurd (cc)

pub tells-tagged : {T : Type 0} {s : T → List ℕ} {P : T → Type 0} (tag : T → ℕ) (tail : T → List ℕ)
    → ((v : T) → s v ≡ tag v ∷ tail v) → (k : ℕ) → ((v : T) → tag v < k)
    → ((b : ℕ) → b < k → (bytes : List ℕ) → Told s P (b ∷ bytes)) → Tells s P
tells-tagged {s = s} tag tail is k below each [] = inr (λ v rest f e. no_head s tag tail is v rest e)
tells-tagged {s = s} tag tail is k below each (b ∷ bytes) = elim (test_below b k) [
  | inl lt ↦ each b lt bytes
  | inr n ↦ inr (λ v rest f e. n (subst (λ m. m < k) (sym (head s tag tail is v bytes rest b e)) (below v)))
]

-- one of these kinds: what stands behind its number makes the value
pub by_kind : {A T : Type 0} {a : A → List ℕ} {Q : A → Type 0} {s : T → List ℕ} {P : T → Type 0} (n : ℕ)
    (bytes : List ℕ)
    (make : A → T) → Told a Q bytes → ((x : A) → Q x → P (make x)) → ((x : A) → s (make x) ≡ n ∷ a x)
    → (IsOutside a Q bytes → IsOutside s P (n ∷ bytes)) → Told s P (n ∷ bytes)
by_kind n bytes make (inl x) fits is outside = inl (record {
  value = make x.value;
  rest = x.rest;
  fit = fits x.value x.fit;
  is = ap (λ b. n ∷ b) x.is ∙ sym (ap (λ b. b ++ x.rest) (is x.value));
})
by_kind n bytes make (inr out) fits is outside = inr (outside out)

-- a kind that nothing stands behind
pub alone : {T : Type 0} {s : T → List ℕ} {P : T → Type 0} (v : T) (n : ℕ) (bytes : List ℕ) → P v → s v ≡ n ∷ []
    → Told s P (n ∷ bytes)
alone v n bytes fit is = inl (record { value = v; rest = bytes; fit = fit; is = sym (ap (λ b. b ++ bytes) is) })

at_end_is : {T : Type 0} (value v : T) (rest : List ℕ) → at_end value rest ≡ Some v → (value ≡ v) × (rest ≡ [])
at_end_is value v [] e = ((cc), refl)
at_end_is value v (b ∷ bytes) e = absurd (cc)

-- the whole is told exactly
module _ {T : Type 0} {s : T → List ℕ} {P : T → Type 0} where
  pub whole_is : (bytes : List ℕ) (v : T) (told : Told s P bytes) → whole told ≡ Some v → P v × (bytes ≡ s v)
  whole_is bytes v (inr out) e = absurd (cc)
  whole_is bytes v (inl x) e =
      let same = at_end_is x.value v x.rest e in (
        subst P same.0 x.fit,
        x.is ∙ (λ i. s (same.0 i) ++ same.1 i) ∙ append-nil (s v),
      )

  pub is_whole : IsUnique s P → (bytes : List ℕ) (v : T) (told : Told s P bytes) → P v → bytes ≡ s v
      → whole told ≡ Some v
  is_whole one bytes v (inr out) fit e = absurd (out v [] fit (e ∙ sym (append-nil (s v))))
  is_whole one bytes v (inl x) fit e =
      let same = one.one x.value v x.rest [] x.fit fit (sym x.is ∙ e ∙ sym (append-nil (s v))) in
      (λ i. at_end (same.0 i) (same.1 i))

  -- what is taken exactly is what is told
  pub taken_is : IsUnique s P → (bytes : List ℕ) (taken : Option T) (told : Told s P bytes)
      → MatchOption taken (IsNone s P bytes) (λ v. P v × (bytes ≡ s v)) → taken ≡ whole told
  taken_is one bytes (Some v) told both = sym (is_whole one bytes v told both.0 both.1)
  taken_is one bytes None (inr out) none = refl
  taken_is one bytes None (inl x) none = by x.rest refl
    where
      by : (rest : List ℕ) → x.rest ≡ rest → None ≡ at_end x.value x.rest
      by [] e = absurd (none x.value x.fit (x.is ∙ ap (λ r. s x.value ++ r) e ∙ append-nil (s x.value)))
      by (b ∷ bs) e = sym (ap (λ r. at_end x.value r) e)

  pub taken_ok : {E : Type 0} → IsUnique s P → (bytes : List ℕ) (taken : Result (Option T) E) (told : Told s P bytes)
      → IfOk taken (λ o. MatchOption o (IsNone s P bytes) (λ v. P v × (bytes ≡ s v)))
      → IfOk taken (λ o. o ≡ whole told)
  taken_ok one bytes (Ok o) told is = taken_is one bytes o told is
  taken_ok one bytes (Err e) told is = tt
