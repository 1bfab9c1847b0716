-- Parts read one after the other.
use Rattle.std.proofs.Common.{◌≡◌, ℕ, suc, ◌-◌, ◌+◌, ◌≤◌, ◌<◌, List, [], ◌∷◌, ◌++◌, Result, Ok, Err, refl, sym, ap, ◌∙◌, append_assoc, arith}
use Rattle.std.proofs.lemmas.List.{append-nil}
use Rattle.package_reader.specs.Fields.{◌>>=◌, end_of, part_at, parts_at}
use Rattle.package_reader.specs.declared.fault.PackageError.{PackageError}
use Rattle.package_reader.specs.declared.span.PartPlace.{PartPlace}

-- what was read before, and what is still read
abbrev pub with_front : List PartPlace → Result (List PartPlace × ℕ) PackageError
    → Result (List PartPlace × ℕ) PackageError
with_front front read = read >>= λ x. Ok (front ++ x.0, x.1)

regroup : (front : List PartPlace) (p : PartPlace) (read : Result (List PartPlace × ℕ) PackageError)
    → with_front front (read >>= λ x. Ok (p ∷ x.0, x.1)) ≡ with_front (front ++ p ∷ []) read
regroup front p (Ok x) = ap (λ (ps : List PartPlace). Ok (ps, x.1)) (simp append_assoc)
regroup front p (Err e) = refl

module _ (front : List PartPlace) (count i room place : ℕ) (bytes : List ℕ)
    (all : Result (List PartPlace × ℕ) PackageError)
    (so-far : with_front front (parts_at (count - i) bytes room place) ≡ all) where
  -- one part more
  pub goes-on : (p : PartPlace) → i < count → part_at bytes room place ≡ Ok p
      → with_front (front ++ p ∷ []) (parts_at (count - (i + 1)) bytes (room - p.text.len) (end_of p.payload)) ≡ all
  unfolding parts_at
  goes-on p lt is =
      let k : count - i ≡ suc (count - (i + 1)) = omega arith in
      let one : with_front front (parts_at (count - i) bytes room place)
      ≡ with_front (front ++ p ∷ []) (parts_at (count - (i + 1)) bytes (room - p.text.len) (end_of p.payload)) =
      rw (k, is) (regroup front p (parts_at (count - (i + 1)) bytes (room - p.text.len) (end_of p.payload))) in
      sym one ∙ so-far

  -- a part that isn't there
  pub stops : (e : PackageError) → i < count → part_at bytes room place ≡ Err e → all ≡ Err e
  unfolding parts_at
  stops e lt is =
      let k : count - i ≡ suc (count - (i + 1)) = omega arith in
      let one : with_front front (parts_at (count - i) bytes room place) ≡ Err e = rw (k, is) refl in
      sym so-far ∙ one

  -- behind the last one
  pub is-done : count ≤ i → all ≡ Ok (front, place)
  unfolding parts_at
  is-done le =
      let k : count - i ≡ 0 = omega arith in
      let one : with_front front (parts_at (count - i) bytes room place) ≡ Ok (front, place) =
      rw k (ap (λ (ps : List PartPlace). Ok (ps, place)) (append-nil front)) in
      sym so-far ∙ one
