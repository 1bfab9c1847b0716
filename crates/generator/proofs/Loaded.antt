-- The vehicle of a number's script has the form of every script's vehicle.
use Rattle.std.proofs.Common.{◌≡◌, ◌<◌, ◌+◌, ◌++◌, ◌∷◌, [], ℕ, zero, suc, List, None, map, refl, subst, arith}
use Rattle.std.specs.Fmt.{digits}
use Rattle.std.specs.List.{AllByRecursion, range_with_len}
use Rattle.package_reader.specs.Packed.{PackedOf}
use Rattle.vehicle_package.specs.declared.vehicle.Step.{Step}
use Rattle.vehicle_package.specs.Changes.{twice_in}
use Rattle.vehicle_package.specs.Plan.{IsStep}
use Rattle.vehicle_package.specs.Spelling.{IsCarried}
use Rattle.run_script.specs.InForm.{IsLoaded}
use Rattle.generator.specs.Demo.{numbers, package_of, step_of}

-- one package more may be carried
pub one_carried : (ps : List PackedOf) (p : PackedOf) → AllByRecursion IsCarried ps → IsCarried p
    → AllByRecursion IsCarried (ps ++ p ∷ [])
one_carried [] p all one = (one, tt)
one_carried (q ∷ qs) p all one = (all.0, one_carried qs p all.1 one)

are-steps : (a n : ℕ) → a + n < 17 → AllByRecursion (IsStep 16) (map step_of (range_with_len a n))
are-steps a zero below = tt
are-steps a (suc n) below = (
  record { some = omega arith; few = omega (arith, below); below = omega (arith, below) },
  are-steps (a + 1) n (omega (arith, below)),
)

-- each cluster has its package's number
once : (number : ℕ) → twice_in (map (package_of number) numbers) (map step_of numbers) ≡ None
unfolding digits
once number = refl

pub is_loaded : (number : ℕ) (steps : List Step) (ps : List PackedOf) → steps ≡ map step_of numbers
    → ps ≡ map (package_of number) numbers → AllByRecursion IsCarried ps
    → IsLoaded (record { steps = steps; packages = ps })
is_loaded number steps ps are is carried =
    let loaded : IsLoaded (record { steps = map step_of numbers; packages = map (package_of number) numbers }) =
    record {
      some = refl;
      steps = are-steps 0 16 (omega arith);
      few = omega arith;
      packages = subst (AllByRecursion IsCarried) is carried;
      once = once number;
    } in
    rw (are, is) loaded
