-- Why no part is added.
use Rattle.std.proofs.Common.{◌≡◌, ℕ, zero, suc, ◌<◌, ◌≤◌, true, false, not, ◌&&◌, List, [], ◌∷◌, ◌++◌, length, Option, Some, None, Result, Ok, Err, refl, sym, ap, arith, get_or}
use Rattle.std.specs.Prelude.{slice_get, slice_set}
use Rattle.std.specs.List.{list_any}
use Rattle.std.specs.Str.{bytes_eq}
use Rattle.std.proofs.lemmas.Bool.{le-ltb}
use Rattle.ucm_base.specs.Limits.{part_limit}
use Rattle.ucm_base.specs.Parts.{Bytes, cluster_of}
use Rattle.ucm_base.specs.declared.parts.Part.{Part}
use Rattle.scenario.specs.declared.why.Why.{Why}
use Rattle.scenario.specs.declared.why.Why.TheVariants.{Twice, Limit, Unknown}
use Rattle.scenario.specs.declared.why.WordError.{WordError}
use Rattle.scenario.specs.declared.why.WordError.TheVariants.{Refused}
use Rattle.recipe.specs.Named.{joined, place_of, with_part}
use Rattle.scenario.specs.Readings.{◌>>=◌, Becomes}
use Rattle.recipe.specs.declared.parts.NamedPackage.{NamedPackage}

abbrev pub refused : Why → WordError
refused why = Refused why

pub same_why : (a b : Why) → refused a ≡ refused b → a ≡ b
same_why a b e = cc

module _ (parts : List (Part Bytes)) (part : Part Bytes) where
  -- its cluster is there
  pub stands-twice : list_any (λ other. bytes_eq (cluster_of other) (cluster_of part)) parts ≡ true → (why : Why)
      → refused Twice ≡ refused why → with_part parts part ≡ Err why
  stands-twice has why e = rw has (ap (λ w. Err w) (same_why Twice why e))

  -- there are as many as fit
  pub is-full : list_any (λ other. bytes_eq (cluster_of other) (cluster_of part)) parts ≡ false
      → part_limit ≤ length parts → (why : Why) → refused Limit ≡ refused why → with_part parts part ≡ Err why
  is-full none full why e = rw (none, le-ltb (length parts) part_limit full) (ap (λ w. Err w) (same_why Limit why e))

-- a reading that goes on from a value
pub becomes-then : {R A B : Type 0} (result : Result R WordError) (value : A) (reading : Result A Why) (next : A
    → Result B Why) (last : B) → next value ≡ Ok last → Becomes result value reading
    → Becomes result last (reading >>= next)
becomes-then (Ok r) value reading next last is before = (rw before.0 is, tt)
becomes-then (Err e) value reading next last is before = (tt, λ why same. rw (before.1 why same) refl)

-- what stands at a place
pub stands-there : {A : Type 0} (xs : List A) (i : ℕ) (x : A) → i < length xs → x ≡ get_or xs i x
    → slice_get xs i ≡ Some x
stands-there [] i x h e = absurd (omega (arith, h))
stands-there (y ∷ ys) zero x h e = ap (λ z. Some z) (sym e)
stands-there (y ∷ ys) (suc i) x h e = stands-there ys i x (omega (arith, h)) e

module _ (made : List NamedPackage) (name : List ℕ) (part : Part Bytes) where
  -- no package has the name
  pub is-unknown : place_of made name ≡ None → (why : Why) → refused Unknown ≡ refused why
      → joined made name part ≡ Err why
  is-unknown none why e = rw none (ap (λ w. Err w) (same_why Unknown why e))

  -- the package of the name has one part more
  pub is-joined : (place : ℕ) (owner : NamedPackage) (parts : List (Part Bytes)) (result : Result (Unit {0}) WordError)
      → place_of made name ≡ Some place → slice_get made place ≡ Some owner
      → Becomes result parts (with_part owner.parts part)
      → Becomes result (slice_set made place (record owner { parts = parts })) (joined made name part)
  is-joined place owner parts result at there before =
      let next = becomes-then result parts (with_part owner.parts part) (λ ps.
      Ok (slice_set made place (record owner { parts = ps }))) _ refl before in
      rw (at, there) next
