-- Values that are put and taken one after another.
use Rattle.std.proofs.Common.{◌≡◌, ℕ, ◌-◌, ◌<◌, ◌≤◌, List, [], ◌∷◌, ◌++◌, length, drop, refl, sym, ◌∙◌, ap, append_assoc, arith}
use Rattle.std.specs.Prelude.{◌==◌, false}
use Rattle.std.specs.List.{flat_map, AllByRecursion}
use Rattle.std.proofs.lemmas.List.{append-nil}
use Rattle.std.proofs.lemmas.List.Concat.{flat_map-cons, flat_map-append}
use Rattle.ucm_base.specs.Limits.{line_limit}
use Rattle.pm_types.specs.declared.history.Line.{Line}
use Rattle.pm_types.specs.Steps.{newest}
use Rattle.event_codec.specs.Spelling.{IsNone, IsOutside, IsUnique, ManyFit}

pub all_push : {T : Type 0} (P : T → Type 0) (xs : List T) (x : T) → AllByRecursion P xs → P x
    → AllByRecursion P (xs ++ x ∷ [])
all_push P [] x all here = (here, tt)
all_push P (y ∷ xs) x all here = (all.0, all_push P xs x all.1 here)

pub spelled_push : {T : Type 0} (s : T → List ℕ) (xs : List T) (x : T)
    → flat_map s (xs ++ x ∷ []) ≡ flat_map s xs ++ s x
spelled_push s xs x =
    flat_map-append s xs (x ∷ []) ∙ ap (λ t. flat_map s xs ++ t) (flat_map-cons s x [] ∙ append-nil (s x))

cut : {T : Type 0} (s : T → List ℕ) (y : T) (ys : List T) (r : List ℕ)
    → flat_map s (y ∷ ys) ++ r ≡ s y ++ (flat_map s ys ++ r)
cut s y ys r = ap (λ t. t ++ r) (flat_map-cons s y ys) ∙ append_assoc (s y) (flat_map s ys) r

-- where the values so far are spelled and then no other, fewer than so many are
pub outside_behind : {T : Type 0} (s : T → List ℕ) (P : T → Type 0) → IsUnique s P
    → (n : ℕ) (xs : List T) (bytes rest : List ℕ)
    → AllByRecursion P xs → length xs < n → bytes ≡ flat_map s xs ++ rest → IsOutside s P rest
    → IsOutside (flat_map s) (ManyFit P n) bytes
outside_behind s P is n [] bytes rest all lt e out [] r f m = absurd (omega (arith, f.0))
outside_behind s P is n [] bytes rest all lt e out (y ∷ ys) r f m =
    out y (flat_map s ys ++ r) f.1.0 (sym e ∙ m ∙ cut s y ys r)
outside_behind s P is n (x ∷ xs) bytes rest all lt e out [] r f m = absurd (omega (arith, f.0))
outside_behind s P is n (x ∷ xs) bytes rest all lt e out (y ∷ ys) r f m =
    let same =
    is.one x y (flat_map s xs ++ rest) (flat_map s ys ++ r) all.0 f.1.0 (sym (cut s x xs rest) ∙ sym e ∙ m
    ∙ cut s y ys r) in
    outside_behind s P is (n - 1) xs (flat_map s xs ++ rest) rest all.1 (omega arith) refl out ys r
    (omega (arith, f.0), f.1.1) same.1

-- as many lines as a node keeps are all the newest
pub all_newest : (lines : List Line) → length lines ≤ line_limit → newest lines ≡ lines
all_newest lines few = let none : length lines - line_limit ≡ 0 = omega arith in ap (λ n. drop n lines) none

not_empty : (xs : List ℕ) → (length xs == 0) ≡ false → xs ≡ [] → ⊥
not_empty [] more e = absurd (cc)
not_empty (x ∷ xs) more e = absurd (cc)

-- bytes that go on behind the spelling of a value are the spelling of none
pub goes_on : {T : Type 0} (s : T → List ℕ) (P : T → Type 0) → IsUnique s P → (v : T) (bytes rest : List ℕ) → P v
    → bytes ≡ s v ++ rest
    → (length rest == 0) ≡ false → IsNone s P bytes
goes_on s P is v bytes rest fits e more w f m =
    not_empty rest more (is.one v w rest [] fits f (sym e ∙ m ∙ sym (append-nil (s w)))).1
