-- Closed facts: a removal of `core` that is brought to node 1, and what is close to it.
use Rattle.std.proofs.Common.{◌≡◌, ℕ, ◌+◌, List, [], ◌∷◌, length, Option, Some, None, option_and_then, Err, refl, arith}
use Rattle.std.specs.Prelude.{codes, sum_by}
use Rattle.std.proofs.lemmas.List.Sums.{sum_by-cons}
use Rattle.serde_json.proofs.OnLiterals.{serde_json_on_literals}
use Rattle.serde_json.specs.Read.{read}
use Rattle.ucm_base.specs.Limits.{plan_limit}
use Rattle.ucm_base.specs.Parts.{Bytes}
use Rattle.ucm_base.specs.declared.parts.Action.TheVariants.{Remove}
use Rattle.ucm_base.specs.declared.parts.Part.{Part}
use Rattle.package_reader.specs.Packed.{PackedOf}
use Rattle.vehicle_package.specs.Changes.{twice_in}
use Rattle.vehicle_package.specs.Fields.{block_at, start_of}
use Rattle.vehicle_package.specs.Plan.{plan_of_tree, plan_text, step_of_tree}
use Rattle.vehicle_package.specs.Spelling.{vehicle_text}
use Rattle.vehicle_package.specs.Written.{step_tree}
use Rattle.vehicle_package.specs.declared.fault.VehicleError.TheVariants.{VehicleInconsistent}
use Rattle.vehicle_package.specs.declared.vehicle.Step.{Step}
use Rattle.vehicle_package.proofs.Lengths.{vehicle-size}

abbrev brought : ℕ → ℕ → Step
brought node place = record { node = node; «package» = place }

abbrev removal : PackedOf
removal =
    let part : Part Bytes = record {
      manifest = record { action = Remove; name = codes "core"; version = codes "1.0.0"; needs = []; sha256 = [] };
      payload = [];
    } in
    record { bytes = []; parts = part ∷ [] }

-- 4 + 4 + 34 + 2 + 4 + 182 + 32
whole-size : (b : Bytes) → length (plan_text (brought 1 0 ∷ [])) ≡ 34 → length b ≡ 182
    → length (vehicle_text (brought 1 0 ∷ []) (b ∷ [])) ≡ 262
whole-size b plan e =
    omega (arith, vehicle-size (brought 1 0 ∷ []) (b ∷ []), sum_by-cons (λ (x : Bytes). 4 + length x) b [], plan, e)

abbrev planned : List ℕ → Option (List Step)
planned text = option_and_then (plan_of_tree 1) (read text)

its-plan : planned (codes "{\"steps\":[{\"node\":1,\"package\":0}]}") ≡ Some (brought 1 0 ∷ [])
unfolding serde_json_on_literals
its-plan = refl

number-with-an-exponent : planned (codes "{\"steps\":[{\"node\":1e0,\"package\":0}]}") ≡ None
unfolding serde_json_on_literals
number-with-an-exponent = refl

package-at-the-count : step_of_tree 1 (step_tree (brought 1 1)) ≡ None
package-at-the-count = refl

node-nine : step_of_tree 1 (step_tree (brought 9 0)) ≡ None
node-nine = refl

twice-on-a-node : twice_in (removal ∷ []) (brought 1 0 ∷ brought 2 0 ∷ brought 1 0 ∷ [])
    ≡ Some (record { node = 1; cluster = codes "core" })
twice-on-a-node = refl

twice-by-two-packages : twice_in (removal ∷ removal ∷ []) (brought 1 0 ∷ brought 1 1 ∷ [])
    ≡ Some (record { node = 1; cluster = codes "core" })
twice-by-two-packages = refl

once-on-each-node : twice_in (removal ∷ removal ∷ []) (brought 1 0 ∷ brought 2 0 ∷ brought 3 1 ∷ []) ≡ None
once-on-each-node = refl

no-mark : start_of (codes "SWP1") ≡ Err (VehicleInconsistent 0)
no-mark = refl

no-length : block_at (codes "VHP1") plan_limit 4 ≡ Err (VehicleInconsistent 4)
unfolding block_at
no-length = refl
