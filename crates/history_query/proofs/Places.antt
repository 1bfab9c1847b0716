-- Lines whose places count up by one: those in a range of places are a range of the list.
use Rattle.std.proofs.Common.{◌≡◌, ℕ, suc, ◌+◌, ◌-◌, ◌<◌, ◌≤◌, min, Bool, true, false, ◌&&◌, cond, ◌==◌, nat_lt, nat_le, List, [], ◌∷◌, ◌++◌, length, take, drop, filter, Some, slice_get, refl, sym, ap, ap₂, ◌∙◌, arith}
use Rattle.std.proofs.lemmas.Bool.{and_parts}
use Rattle.std.proofs.lemmas.Bool.Decides.{nat_tests}
use Rattle.std.proofs.lemmas.List.{drop-take, take_all, drop_all, length-take-le}
use Rattle.std.specs.Cmp.Derive.{both_true}
use Rattle.pm_types.specs.declared.history.Line.{Line}
use Rattle.pm_types.specs.Validity.{places_from}
use Rattle.history_query.specs.Shown.{is_between, are_consecutive}

module _ {X : Type 0} (x : X) (xs : List X) (s e s' e' : ℕ) where
  behind : e ≡ 0 → e' ≡ 0 → drop s' (take e' xs) ≡ drop s (take e (x ∷ xs))
  behind a b = ap (λ k. drop s' (take k xs)) b ∙ drop_all s' [] (omega arith)
      ∙ sym (ap (λ k. drop s (take k (x ∷ xs))) a ∙ drop_all s [] (omega arith))

  within : s ≡ 0 → s' ≡ 0 → e ≡ suc e' → x ∷ drop s' (take e' xs) ≡ drop s (take e (x ∷ xs))
  within a b c = ap (λ k. x ∷ drop k (take e' xs)) b ∙ sym (ap₂ (λ j k. drop j (take k (x ∷ xs))) a c)

  before : s ≡ suc s' → e ≡ suc e' → drop s' (take e' xs) ≡ drop s (take e (x ∷ xs))
  before a b = sym (ap₂ (λ j k. drop j (take k (x ∷ xs))) a b)

between-from : (ge lt p : ℕ) (lines : List Line) → places_from p lines ≡ true
    → filter (is_between ge lt) lines ≡ drop (ge - p) (take (lt - p) lines)
between-from ge lt p [] h =
    sym (ap (drop (ge - p)) (take_all (lt - p) [] (omega arith)) ∙ drop_all (ge - p) [] (omega arith))
between-from ge lt p (line ∷ lines) h =
    let parts = and_parts (line.place == p) (places_from (p + 1) lines) h in
    let is : line.place ≡ p = grind (arith, nat_tests, parts.0) in
    ap (λ (place : ℕ). cond (nat_le ge place && nat_lt place lt) (line ∷ filter (is_between ge lt) lines)
    (filter (is_between ge lt) lines)) is
    ∙ go (nat_le ge p) (nat_lt p lt) refl refl (between-from ge lt (p + 1) lines parts.1)
  where
    go : (a b : Bool) → nat_le ge p ≡ a → nat_lt p lt ≡ b
        → filter (is_between ge lt) lines ≡ drop (ge - (p + 1)) (take (lt - (p + 1)) lines)
        → cond (a && b) (line ∷ filter (is_between ge lt) lines) (filter (is_between ge lt) lines)
        ≡ drop (ge - p) (take (lt - p) (line ∷ lines))
    go true true f g rest =
        let le : ge ≤ p = grind (arith, nat_tests, f) in
        let less : p < lt = grind (arith, nat_tests, g) in
        ap (λ ls. line ∷ ls) rest
        ∙ within line lines (ge - p) (lt - p) (ge - (p + 1)) (lt - (p + 1)) (omega arith) (omega arith)
        (omega arith)
    go false true f g rest =
        let less : p < ge = grind (arith, nat_tests, f) in
        let below : p < lt = grind (arith, nat_tests, g) in
        rest ∙ before line lines (ge - p) (lt - p) (ge - (p + 1)) (lt - (p + 1)) (omega arith) (omega arith)
    go true false f g rest =
        let le : lt ≤ p = grind (arith, nat_tests, g) in
        rest ∙ behind line lines (ge - p) (lt - p) (ge - (p + 1)) (lt - (p + 1)) (omega arith) (omega arith)
    go false false f g rest =
        let le : lt ≤ p = grind (arith, nat_tests, g) in
        rest ∙ behind line lines (ge - p) (lt - p) (ge - (p + 1)) (lt - (p + 1)) (omega arith) (omega arith)

-- a range that goes past the end is cut there
cut-take : {X : Type 0} (j : ℕ) (xs : List X) → take (min j (length xs)) xs ≡ take j xs
cut-take j xs = go (nat_lt (length xs) j) refl
  where
    go : (b : Bool) → nat_lt (length xs) j ≡ b → take (min j (length xs)) xs ≡ take j xs
    go true h = let less : length xs < j = grind (arith, nat_tests, h) in
        take_all (min j (length xs)) xs (omega arith) ∙ sym (take_all j xs (omega arith))
    go false h = let le : j ≤ length xs = grind (arith, nat_tests, h) in ap (λ k. take k xs) (omega arith)

cut-drop : {X : Type 0} (i : ℕ) (xs : List X) → drop (min i (length xs)) xs ≡ drop i xs
cut-drop i xs = go (nat_lt (length xs) i) refl
  where
    go : (b : Bool) → nat_lt (length xs) i ≡ b → drop (min i (length xs)) xs ≡ drop i xs
    go true h = let less : length xs < i = grind (arith, nat_tests, h) in
        drop_all (min i (length xs)) xs (omega arith) ∙ sym (drop_all i xs (omega arith))
    go false h = let le : i ≤ length xs = grind (arith, nat_tests, h) in ap (λ k. drop k xs) (omega arith)

cut : {X : Type 0} (i j e s : ℕ) (xs : List X) → e ≡ min j (length xs) → s ≡ min i e
    → take (e - s) (drop s xs) ≡ drop i (take j xs)
cut i j e s xs at_end at_start =
    let long : length (take e xs) ≡ e = length-take-le e xs (omega arith) in
    sym (drop-take s (e - s) xs)
    ∙ ap (λ k. drop s (take k xs)) (omega arith)
    ∙ ap (λ k. drop k (take e xs)) (at_start ∙ ap (min i) (sym long))
    ∙ cut-drop i (take e xs)
    ∙ ap (λ k. drop i (take k xs)) at_end ∙ ap (drop i) (cut-take j xs)

-- the lines of a range of places, as a range that begins and ends where the oldest place says
pub between-range : (ge lt e s : ℕ) (lines : List Line) (oldest : Line) → Some oldest ≡ slice_get lines 0
    → are_consecutive lines ≡ true → e ≡ min (lt - oldest.place) (length lines) → s ≡ min (ge - oldest.place) e
    → take (e - s) (drop s lines) ≡ filter (is_between ge lt) lines
between-range ge lt e s [] oldest is c at_end at_start = absurd (cc)
between-range ge lt e s (line ∷ lines) oldest is c at_end at_start =
    let same : oldest ≡ line = cc in
    cut (ge - oldest.place) (lt - oldest.place) e s (line ∷ lines) at_end at_start
    ∙ sym (between-from ge lt oldest.place (line ∷ lines) (ap (λ (l : Line). places_from l.place (line ∷ lines)) same
    ∙ c))

-- each piece of such lines is such lines
pub consecutive-from : (p : ℕ) (lines : List Line) → places_from p lines ≡ true → are_consecutive lines ≡ true
consecutive-from p [] h = refl
consecutive-from p (line ∷ lines) h =
    let parts = and_parts (line.place == p) (places_from (p + 1) lines) h in
    let is : line.place ≡ p = grind (arith, nat_tests, parts.0) in
    ap (λ (q : ℕ). places_from q (line ∷ lines)) is ∙ h

places-front : (p : ℕ) (xs ys : List Line) → places_from p (xs ++ ys) ≡ true → places_from p xs ≡ true
places-front p [] ys h = refl
places-front p (x ∷ xs) ys h =
    let parts = and_parts (x.place == p) (places_from (p + 1) (xs ++ ys)) h in
    both_true parts.0 (places-front (p + 1) xs ys parts.1)

places-back : (p : ℕ) (xs ys : List Line) → places_from p (xs ++ ys) ≡ true → are_consecutive ys ≡ true
places-back p [] ys h = consecutive-from p ys h
places-back p (x ∷ xs) ys h = places-back (p + 1) xs ys (and_parts (x.place == p) (places_from (p + 1) (xs ++ ys)) h).1

pub consecutive-front : (xs ys : List Line) → are_consecutive (xs ++ ys) ≡ true → are_consecutive xs ≡ true
consecutive-front [] ys h = refl
consecutive-front (x ∷ xs) ys h = places-front x.place (x ∷ xs) ys h

pub consecutive-back : (xs ys : List Line) → are_consecutive (xs ++ ys) ≡ true → are_consecutive ys ≡ true
consecutive-back [] ys h = h
consecutive-back (x ∷ xs) ys h = places-back x.place (x ∷ xs) ys h
