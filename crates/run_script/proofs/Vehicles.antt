-- The vehicle of a vehicle package has the form of every script's vehicle.
use Rattle.std.proofs.Common.{◌≡◌, ℕ, Bool, true, false, List, [], ◌∷◌, Option, Some, None, length, suc, refl, sym, subst, ap, arith}
use Rattle.std.specs.Prelude.{◌&&◌, codes, if◌then◌else◌, nat_le, nat_lt, option_and_then, option_map}
use Rattle.std.specs.List.{AllByRecursion}
use Rattle.std.specs.Str.{is_utf8}
use Rattle.std.proofs.lemmas.Bool.Decides.{nat_tests}
use Rattle.serde_json.specs.Data.{Data}
use Rattle.serde_json.specs.Find.{as_array, get}
use Rattle.serde_json.specs.Read.{read}
use Rattle.manifest.specs.Trees.{all_of, field, has_keys, items_list, only}
use Rattle.package_reader.proofs.Taken.{then_some}
use Rattle.ucm_base.specs.Limits.{node_limit}
use Rattle.ucm_base.specs.Parts.{Bytes}
use Rattle.vehicle_package.specs.declared.vehicle.Step.{Step}
use Rattle.vehicle_package.specs.declared.vehicle.Vehicle.{Vehicle}
use Rattle.vehicle_package.specs.Plan.{IsStep, are_few, node_of_tree, number_of_tree, package_of_tree, plan_of, plan_of_tree, step_of_tree, step_with, steps_of_tree}
use Rattle.vehicle_package.specs.Spelling.{IsVehicle}
use Rattle.run_script.specs.InForm.{IsLoaded}

if-some : {A : Type 0} (b : Bool) (o : Option A) (y : A) → (if b then o else None) ≡ Some y → (b ≡ true) × (o ≡ Some y)
if-some true o y e = (refl, e)
if-some false o y e = absurd (cc)

some-is : {A : Type 0} (x y : A) → Some x ≡ Some y → x ≡ y
some-is x y e = cc

-- a number that passes a test, of a tree
passes : (p : ℕ → Bool) (d : Data) (n : ℕ) → option_and_then (only p) (number_of_tree d) ≡ Some n → p n ≡ true
passes p d n e =
    let a = then_some (only p) (number_of_tree d) n e in
    let b = if-some (p a.0) (Some a.0) n a.2 in
    subst (λ k. p k ≡ true) (some-is a.0 n b.1) b.0

both : (o p : Option ℕ) (s : Step) → step_with o p ≡ Some s → (o ≡ Some s.node) × (p ≡ Some s.«package»)
both (Some n) (Some p) s e =
    let same = some-is (record { node = n; «package» = p }) s e in
    (ap (λ (t : Step). Some t.node) same, ap (λ (t : Step). Some t.«package») same)
both (Some n) None s e = absurd (cc)
both None p s e = absurd (cc)

is-step : (count : ℕ) (d : Data) (s : Step) → step_of_tree count d ≡ Some s → IsStep count s
is-step count d s e =
    let node = field (codes "node") node_of_tree d in
    let place = field (codes "package") (package_of_tree count) d in
    let b = both node place s (if-some (has_keys 2 d) (step_with node place) s e).1 in
    let n = then_some node_of_tree (get (codes "node") d) s.node b.0 in
    let p = then_some (package_of_tree count) (get (codes "package") d) s.«package» b.1 in
    let near = passes (λ k. nat_le 1 k && nat_le k node_limit) n.0 s.node n.2 in
    let there = passes (λ k. nat_lt k count) p.0 s.«package» p.2 in
    record {
      some = grind (arith, nat_tests);
      few = grind (arith, nat_tests);
      below = grind (arith, nat_tests);
    }

-- as many values as members, each of which has what all values have
each-of : {A B : Type 0} (f : A → Option B) (P : B → Type 0) → ((x : A) (y : B) → f x ≡ Some y → P y)
    → (xs : List A) (ys : List B) → all_of f xs ≡ Some ys → AllByRecursion P ys × (length ys ≡ length xs)
each-of {A} {B} f P one [] ys e =
    subst (λ (zs : List B). AllByRecursion P zs × (length zs ≡ 0)) (some-is [] ys e) (tt, refl)
each-of {A} {B} f P one (x ∷ xs) ys e =
    let a = then_some (λ y. option_map (λ zs. y ∷ zs) (all_of f xs)) (f x) ys e in
    more a.0 (one x a.0 a.1) (all_of f xs) (each-of f P one xs) a.2
  where
    more : (y : B) → P y → (rest : Option (List B))
        → ((zs : List B) → rest ≡ Some zs → AllByRecursion P zs × (length zs ≡ length xs))
        → option_map (λ zs. y ∷ zs) rest ≡ Some ys → AllByRecursion P ys × (length ys ≡ suc (length xs))
    more y p (Some zs) each h =
        let r = each zs refl in
        subst (λ (all : List B). AllByRecursion P all × (length all ≡ suc (length xs))) (some-is (y ∷ zs) ys h)
        ((p, r.0), ap suc r.1)
    more y p None each h = absurd (cc)

are-steps : (count : ℕ) (text : Bytes) (steps : List Step) → plan_of count text ≡ Some steps
    → (are_few (length steps) ≡ true) × AllByRecursion (IsStep count) steps
unfolding plan_of
are-steps count text steps e =
    let t = if-some (is_utf8 text) _ steps e in
    let d = then_some (plan_of_tree count) (read text) steps t.1 in
    let k = if-some (has_keys 1 d.0) (field (codes "steps") (steps_of_tree count) d.0) steps d.2 in
    let f = then_some (steps_of_tree count) (get (codes "steps") d.0) steps k.1 in
    let a = then_some _ (as_array f.0) steps f.2 in
    let few = if-some (are_few (length (items_list a.0))) (all_of (step_of_tree count) (items_list a.0)) steps a.2 in
    let each = each-of (step_of_tree count) (IsStep count) (is-step count) (items_list a.0) steps few.1 in
    (subst (λ n. are_few n ≡ true) (sym each.1) few.0, each.0)

pub is_loaded : (bytes : Bytes) (v : Vehicle) → IsVehicle bytes v → IsLoaded v
is_loaded bytes v is =
    let h = are-steps (length v.packages) is.plan v.steps is.steps in
    record { some = h.0; steps = h.1; few = is.few; packages = is.each; once = is.once }
