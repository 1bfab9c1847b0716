-- The sixteen numbers, and that the names and versions with them have their forms.
use Rattle.std.proofs.Common.{◌≡◌, ◌<◌, ◌+◌, ◌++◌, ◌∷◌, [], ℕ, Bool, true, get_or, length, map, refl, subst, arith}
use Rattle.std.specs.Fmt.{digits}
use Rattle.std.specs.List.{list_all, range_with_len}
use Rattle.std.proofs.lemmas.List.FromFn.{get_or-range_with_len, length-range_with_len, map-range_with_len_more}
use Rattle.std.proofs.lemmas.List.Sums.{AllPass-from_list_all}
use Rattle.semver.specs.Parse.{digits_from}
use Rattle.ucm_base.specs.Name.{is_cluster_name}
use Rattle.ucm_base.specs.Versions.{is_version_text}
use Rattle.generator.specs.Demo.{name_of, numbers, version_of}

-- what holds of each of the numbers holds of a number below 16
at_number : (p : ℕ → Bool) → list_all p numbers ≡ true → (i : ℕ) → i < 16 → p i ≡ true
at_number p all i below =
    let number : get_or numbers i 0 ≡ i = omega (arith, get_or-range_with_len 0 16 i 0 below) in
    let within : i < length numbers = omega (arith, length-range_with_len 0 16) in
    subst (λ k. p k ≡ true) number (AllPass-from_list_all p numbers all i 0 within)

pub is_name : (i : ℕ) → i < 16 → is_cluster_name (name_of i) ≡ true
unfolding digits
is_name i below = at_number (λ k. is_cluster_name (name_of k)) refl i below

pub is_version : (i : ℕ) → i < 16 → is_version_text (version_of i) ≡ true
unfolding digits digits_from
is_version i below = at_number (λ k. is_version_text (version_of k)) refl i below

-- with one number more
pub one_more : {X : Type 0} (f : ℕ → X) (k : ℕ)
    → map f (range_with_len 0 (k + 1)) ≡ map f (range_with_len 0 k) ++ f k ∷ []
one_more f k = map-range_with_len_more f 0 k k (omega arith)
