-- Which records bytes hold, when their end changes.
use Rattle.std.proofs.Common.{◌≡◌, ◌≢◌, ◌⊎◌, inl, inr, ⊎_elim, ℕ, zero, suc, ◌+◌, ◌<◌, ◌≤◌, Bool, true, cond, ◌&&◌, eqb, leb, List, [], ◌∷◌, ◌++◌, length, take, drop, get_or, refl, sym, ◌∙◌, ap, arith, length-append, length-drop, length-take}
use Rattle.std.proofs.lemmas.List.{take_at, drop_at, take-append-le, drop-append-le, get_or-drop}
use Rattle.std.proofs.lemmas.Bool.{cases_Bool, and_parts, and_from, eqb-true, leb-true, le-leb, ne_eqb, and_left, cond-true, cond-false}
use Rattle.journal.specs.Records.{number_of, records_in, journal_list, taken}

abbrev whole : ℕ → ℕ → ℕ → ℕ → ℕ → List ℕ → Bool
whole g a b c d rest = eqb g 1 && leb (number_of a b c d) (length rest)

nil_holds : (n : ℕ) → records_in n [] ≡ []
nil_holds zero = refl
nil_holds (suc n) = refl

-- more turns than bytes change nothing
pub enough : (n m : ℕ) (bytes : List ℕ) → length bytes ≤ n → length bytes ≤ m → records_in n bytes ≡ records_in m bytes
enough zero m [] l k = sym (nil_holds m)
enough zero m (x ∷ bytes) l k = absurd (omega arith)
enough (suc n) zero [] l k = refl
enough (suc n) zero (x ∷ bytes) l k = absurd (omega arith)
enough (suc n) (suc m) [] l k = refl
enough (suc n) (suc m) (g ∷ []) l k = refl
enough (suc n) (suc m) (g ∷ a ∷ []) l k = refl
enough (suc n) (suc m) (g ∷ a ∷ b ∷ []) l k = refl
enough (suc n) (suc m) (g ∷ a ∷ b ∷ c ∷ []) l k = refl
enough (suc n) (suc m) (g ∷ a ∷ b ∷ c ∷ d ∷ rest) l k =
    let s : ℕ = number_of a b c d in
    let short : length (drop s rest) ≤ length rest = omega (arith, length-drop s rest) in
    ap (λ (t : List (List ℕ)). cond (whole g a b c d rest) (take s rest ∷ t) [])
    (enough n m (drop s rest) (omega arith) (omega arith))

-- a gate that isn't 1 ends the list
pub closed : (n gate : ℕ) (rest : List ℕ) → gate ≢ 1 → records_in n (gate ∷ rest) ≡ []
closed zero gate rest shut = refl
closed (suc n) gate [] shut = refl
closed (suc n) gate (a ∷ []) shut = refl
closed (suc n) gate (a ∷ b ∷ []) shut = refl
closed (suc n) gate (a ∷ b ∷ c ∷ []) shut = refl
closed (suc n) gate (a ∷ b ∷ c ∷ d ∷ rest) shut =
    cond-false (whole gate a b c d rest) _ _
    (and_left (eqb gate 1) (leb (number_of a b c d) (length rest)) (ne_eqb gate 1 shut))

-- a whole record behind an open gate
pub opened : (n a b c d : ℕ) (payload rest : List ℕ) → number_of a b c d ≡ length payload
    → records_in (suc n) (1 ∷ a ∷ b ∷ c ∷ d ∷ (payload ++ rest)) ≡ payload ∷ records_in n rest
opened n a b c d payload rest is =
    let s : ℕ = number_of a b c d in
    let long : s ≤ length (payload ++ rest) = omega (arith, is, length-append payload rest) in
    cond-true (whole 1 a b c d (payload ++ rest)) _ _
    (and_from (eqb 1 1) (leb s (length (payload ++ rest))) refl (le-leb s (length (payload ++ rest)) long))
    ∙ ap (λ (p : List ℕ). p ∷ records_in n (drop s (payload ++ rest))) (take_at payload rest s (sym is))
    ∙ ap (λ (r : List ℕ). payload ∷ records_in n r) (drop_at payload rest s (sym is))

none_taken : (ps : List (List ℕ)) → taken ps ≡ 0 → ps ≡ []
none_taken [] e = refl
none_taken (p ∷ ps) e = absurd (omega arith)

no_or_five : (ps : List (List ℕ)) → (taken ps ≡ 0) ⊎ (5 ≤ taken ps)
no_or_five [] = inl refl
no_or_five (p ∷ ps) = inr (omega arith)

few : {Z : Type 0} (ps : List (List ℕ)) (k : ℕ) → taken ps ≡ k → 0 < k → k < 5 → Z
few ps k e some lt = absurd (⊎_elim (λ z. omega (arith, z, e)) (λ f. omega (arith, f, e)) (no_or_five ps))

pub taken-push : (ps : List (List ℕ)) (p : List ℕ) → taken (ps ++ p ∷ []) ≡ taken ps + 5 + length p
taken-push [] p = omega arith
taken-push (q ∷ ps) p = omega (arith, taken-push ps p)

-- Where the list takes just the first part, any other end behind this part goes on from this list.
pub extends : (n : ℕ) (pre post next : List ℕ) → taken (records_in n (pre ++ post)) ≡ length pre
    → length (pre ++ next) ≤ n
    → records_in n (pre ++ next) ≡ records_in n (pre ++ post) ++ journal_list next
extends n [] post next e l =
    enough n (length next) next l (omega arith)
    ∙ ap (λ (ps : List (List ℕ)). ps ++ journal_list next) (sym (none_taken (records_in n post) e))
extends zero (g ∷ pre) post next e l = absurd (omega arith)
extends (suc n) (g ∷ []) post next e l = few (records_in (suc n) (g ∷ post)) 1 e (omega arith) (omega arith)
extends (suc n) (g ∷ a ∷ []) post next e l = few (records_in (suc n) (g ∷ a ∷ post)) 2 e (omega arith) (omega arith)
extends (suc n) (g ∷ a ∷ b ∷ []) post next e l =
    few (records_in (suc n) (g ∷ a ∷ b ∷ post)) 3 e (omega arith) (omega arith)
extends (suc n) (g ∷ a ∷ b ∷ c ∷ []) post next e l =
    few (records_in (suc n) (g ∷ a ∷ b ∷ c ∷ post)) 4 e (omega arith) (omega arith)
extends (suc n) (g ∷ a ∷ b ∷ c ∷ d ∷ pre) post next e l = elim (cases_Bool (whole g a b c d (pre ++ post))) [
  | inl is_whole ↦
      let s : ℕ = number_of a b c d in
      let parts = and_parts (eqb g 1) (leb s (length (pre ++ post))) is_whole in
      let long : s ≤ length (pre ++ post) = leb-true s (length (pre ++ post)) parts.1 in
      let R : List ℕ → List (List ℕ) = λ x. take s x ∷ records_in n (drop s x) in
      let is : records_in (suc n) (g ∷ a ∷ b ∷ c ∷ d ∷ (pre ++ post)) ≡ R (pre ++ post) =
      cond-true (whole g a b c d (pre ++ post)) _ _ is_whole in
      let size : length (take s (pre ++ post)) ≡ s = omega (arith, length-take s (pre ++ post), long) in
      let total : 5 + s + taken (records_in n (drop s (pre ++ post))) ≡ 5 + length pre =
      ap (λ k. 5 + k + taken (records_in n (drop s (pre ++ post)))) (sym size) ∙ sym (ap taken is) ∙ e
      ∙ omega arith in
      let fits : s ≤ length pre = omega (arith, total) in
      let front = drop-append-le s pre post fits in
      let rest : taken (records_in n (drop s pre ++ post)) ≡ length (drop s pre) =
      ap (λ (x : List ℕ). taken (records_in n x)) (sym front) ∙ omega (arith, total, length-drop s pre, fits) in
      let long' : s ≤ length (pre ++ next) = omega (arith, fits, length-append pre next) in
      let open' : whole g a b c d (pre ++ next) ≡ true =
      and_from (eqb g 1) (leb s (length (pre ++ next))) parts.0 (le-leb s (length (pre ++ next)) long') in
      let is' : records_in (suc n) (g ∷ a ∷ b ∷ c ∷ d ∷ (pre ++ next)) ≡ R (pre ++ next) =
      cond-true (whole g a b c d (pre ++ next)) _ _ open' in
      let shorter : length (drop s pre ++ next) ≤ n =
      omega (arith, l, length-append (drop s pre) next, length-append pre next, length-drop s pre) in
      is'
      ∙ ap (λ (p : List ℕ). p ∷ records_in n (drop s (pre ++ next))) (take-append-le s pre next fits
      ∙ sym (take-append-le s pre post fits))
      ∙ ap (λ (x : List ℕ). take s (pre ++ post) ∷ records_in n x) (drop-append-le s pre next fits)
      ∙ ap (λ (ps : List (List ℕ)). take s (pre ++ post) ∷ ps) (extends n (drop s pre) post next rest shorter)
      ∙ ap (λ (x : List ℕ). (take s (pre ++ post) ∷ records_in n x) ++ journal_list next) (sym front)
      ∙ ap (λ (ps : List (List ℕ)). ps ++ journal_list next) (sym is)
  | inr torn ↦ absurd (omega (
    arith,
    ap taken
        (cond-false (whole g a b c d (pre ++ post))
        (take (number_of a b c d) (pre ++ post) ∷ records_in n (drop (number_of a b c d) (pre ++ post))) [] torn),
    e,
  ))
]

none_left : {Z : Type 0} (ps : List (List ℕ)) (q : List ℕ) (qs : List (List ℕ)) → [] ≡ ps ++ q ∷ qs → Z
none_left ps q qs is = absurd (omega (arith, ap length is, length-append ps (q ∷ qs)))

-- where a whole record is the next of a list, the byte behind the records before it is a gate of 1
behind : (g a b c d : ℕ) (rest : List ℕ) (next : List (List ℕ)) (ps : List (List ℕ)) (q : List ℕ)
    (qs : List (List ℕ)) → whole g a b c d rest ≡ true
    → ((ps : List (List ℕ)) → next ≡ ps ++ q ∷ qs → get_or (drop (number_of a b c d) rest) (taken ps) 0 ≡ 1)
    → take (number_of a b c d) rest ∷ next ≡ ps ++ q ∷ qs → get_or (g ∷ a ∷ b ∷ c ∷ d ∷ rest) (taken ps) 0 ≡ 1
behind g a b c d rest next [] q qs is_whole later is =
    eqb-true g 1 (and_parts (eqb g 1) (leb (number_of a b c d) (length rest)) is_whole).0
behind g a b c d rest next (p ∷ ps) q qs is_whole later is =
    let s : ℕ = number_of a b c d in
    let fits : s ≤ length rest = leb-true s (length rest) (and_parts (eqb g 1) (leb s (length rest)) is_whole).1 in
    let first : take s rest ≡ p = ap (λ (l : List (List ℕ)). get_or l 0 []) is in
    let size : length p ≡ s = omega (arith, ap length first, length-take s rest, fits) in
    let place : taken (p ∷ ps) ≡ 5 + (s + taken ps) = omega (arith, size) in
    ap (λ (k : ℕ). get_or (g ∷ a ∷ b ∷ c ∷ d ∷ rest) k 0) place
    ∙ sym (get_or-drop 5 (g ∷ a ∷ b ∷ c ∷ d ∷ rest) (s + taken ps) 0)
    ∙ sym (get_or-drop s rest (taken ps) 0)
    ∙ later ps (ap (λ (l : List (List ℕ)). drop 1 l) is)

-- where the list goes on behind some records, the byte behind these is an open gate
pub open_behind : (n : ℕ) (bytes : List ℕ) (ps : List (List ℕ)) (q : List ℕ) (qs : List (List ℕ))
    → records_in n bytes ≡ ps ++ q ∷ qs → get_or bytes (taken ps) 0 ≡ 1
open_behind zero bytes ps q qs is = none_left ps q qs is
open_behind (suc n) [] ps q qs is = none_left ps q qs is
open_behind (suc n) (g ∷ []) ps q qs is = none_left ps q qs is
open_behind (suc n) (g ∷ a ∷ []) ps q qs is = none_left ps q qs is
open_behind (suc n) (g ∷ a ∷ b ∷ []) ps q qs is = none_left ps q qs is
open_behind (suc n) (g ∷ a ∷ b ∷ c ∷ []) ps q qs is = none_left ps q qs is
open_behind (suc n) (g ∷ a ∷ b ∷ c ∷ d ∷ rest) ps q qs is =
    let s : ℕ = number_of a b c d in
    let list : List (List ℕ) = take s rest ∷ records_in n (drop s rest) in
    elim (cases_Bool (whole g a b c d rest)) [
      | inl is_whole ↦ behind g a b c d rest (records_in n (drop s rest)) ps q qs is_whole
          (λ ps more. open_behind n (drop s rest) ps q qs more)
          (sym (cond-true (whole g a b c d rest) list [] is_whole) ∙ is)
      | inr torn ↦ none_left ps q qs (sym (cond-false (whole g a b c d rest) list [] torn) ∙ is)
    ]
