-- How many bytes a vehicle has, and whether they are within its limit.
use Rattle.std.proofs.Common.{◌≡◌, ℕ, ◌+◌, ◌-◌, ◌≤◌, ◌<◌, Bool, true, false, nat_le, nat_lt, not, ◌||◌, List, [], ◌∷◌, ◌++◌, length, map, drop, get_or, refl, sym, ◌∙◌, ap, arith, add-one}
use Rattle.std.specs.Prelude.{sum_by}
use Rattle.std.proofs.Math.Seq.{drop-cons}
use Rattle.std.proofs.lemmas.Bool.{le-leb, le-ltb}
use Rattle.std.proofs.lemmas.Bool.Decides.{nat_tests}
use Rattle.std.proofs.lemmas.List.Sums.{sum_by-cons}
use Rattle.ucm_base.specs.Limits.{vehicle_limit}
use Rattle.ucm_base.specs.Parts.{Bytes}
use Rattle.package_reader.specs.Printing.{package_text}
use Rattle.vehicle_package.proofs.Lengths.{vehicle-size}
use Rattle.vehicle_package.specs.Plan.{plan_text}
use Rattle.recipe.specs.declared.parts.NamedPackage.{NamedPackage}
use Rattle.recipe.specs.Made.{MadeOf, is_none, is_within, texts_of, vehicle_of}

-- a package behind its length
abbrev pub placed : NamedPackage → ℕ
placed p = 4 + length (package_text p.parts)

texts-size : (packages : List NamedPackage) → sum_by (λ b. 4 + length b) (texts_of packages) ≡ sum_by placed packages
texts-size [] = refl
texts-size (p ∷ ps) =
    sum_by-cons (λ (b : Bytes). 4 + length b) (package_text p.parts) (texts_of ps)
    ∙ ap (λ n. placed p + n) (texts-size ps)
    ∙ sym (sum_by-cons placed p ps)

size-of : (made : MadeOf) → length (vehicle_of made) ≡ 42 + length (plan_text made.steps) + sum_by placed made.packages
size-of made = omega (arith, vehicle-size made.steps (texts_of made.packages), texts-size made.packages)

-- the plan alone is too long
pub plan-decides : (made : MadeOf) → is_none made.steps ≡ false → vehicle_limit < 42 + length (plan_text made.steps)
    → is_within made ≡ false
plan-decides made some long =
    let size = size-of made in
    let over : nat_lt vehicle_limit (length (vehicle_of made)) ≡ true = grind (arith, size, long) in
    rw (some, over) refl

at-most : (s room size whole : ℕ) → whole ≡ 42 + size + s → room + 42 + size ≡ vehicle_limit
    → nat_le s room ≡ not (nat_lt vehicle_limit whole)
at-most s room size whole e is = grind (arith, nat_tests)

-- the packages decide
pub packages-decide : (made : MadeOf) (room : ℕ) → is_none made.steps ≡ false
    → room + 42 + length (plan_text made.steps) ≡ vehicle_limit
    → is_within made ≡ nat_le (sum_by placed made.packages) room
packages-decide made room some is =
    let size = size-of made in
    rw some (sym (at-most (sum_by placed made.packages) room (length (plan_text made.steps))
    (length (vehicle_of made)) size is))

-- one package behind a place
module _ (packages : List NamedPackage) (i room : ℕ) (p : NamedPackage) (within : i < length packages) (at : p
    ≡ get_or packages i p) where
  here : sum_by placed (drop i packages) ≡ placed p + sum_by placed (drop (i + 1) packages)
  here =
      ap (sum_by placed) (drop-cons packages i p within ∙ (λ j. sym at j ∷ drop (sym (add-one i) j) packages))
      ∙ sum_by-cons placed p (drop (i + 1) packages)

  -- it fits
  pub fits-here : placed p ≤ room → nat_le (sum_by placed (drop i packages)) room
      ≡ nat_le (sum_by placed (drop (i + 1) packages)) (room - placed p)
  fits-here le = let e = here in grind (arith, nat_tests)

  -- it doesn't
  pub over-here : room < placed p → nat_le (sum_by placed (drop i packages)) room ≡ false
  over-here lt = let e = here in grind (arith, nat_tests)
