-- The tree of a plan reads as the plan, and its text is the canonical one.
use Rattle.std.proofs.Common.{◌≡◌, ◌≤◌, ◌<◌, ◌++◌, ◌∙◌, ℕ, List, [], ◌∷◌, length, map, true, false, Some, refl, sym, ap, arith, append_assoc}
use Rattle.std.specs.Prelude.{nat_le, nat_lt}
use Rattle.std.specs.List.{AllByRecursion, join_with_byte}
use Rattle.std.proofs.lemmas.List.{length-map}
use Rattle.serde_json.specs.Data.{Data, depth, items_depth}
use Rattle.serde_json.specs.View.{items_of}
use Rattle.serde_json.specs.Written.{has_float, items_have_float, compact_text, items_text}
use Rattle.json.specs.Print.{escape_byte}
use Rattle.manifest.specs.Trees.{all_of, items_list}
use Rattle.ucm_base.specs.Limits.{node_limit}
use Rattle.vehicle_package.specs.declared.vehicle.Step.{Step}
use Rattle.vehicle_package.specs.Plan.{IsStep, are_few, plan_of_tree, plan_text, step_of_tree, step_text}
use Rattle.vehicle_package.specs.Written.{plan_tree, step_tree}

-- ---- what is read back

at_most : (m n : ℕ) → m ≤ n → nat_le m n ≡ true
at_most m n h = grind arith

below : (m n : ℕ) → m < n → nat_lt m n ≡ true
below m n h = grind arith

step_back : (count : ℕ) (s : Step) → IsStep count s → step_of_tree count (step_tree s) ≡ Some s
step_back count s h = rw (
  at_most 1 s.node h.some,
  at_most s.node node_limit h.few,
  below s.«package» count h.below,
) refl

steps_back : (count : ℕ) (steps : List Step) → AllByRecursion (IsStep count) steps
    → all_of (step_of_tree count) (map step_tree steps) ≡ Some steps
steps_back count [] h = refl
steps_back count (s ∷ ss) h = rw (steps_back count ss h.1, step_back count s h.0) refl

listed : (ds : List Data) → items_list (items_of ds) ≡ ds
listed [] = refl
listed (d ∷ ds) = ap (λ xs. d ∷ xs) (listed ds)

pub plan_back : (count : ℕ) (steps : List Step) → are_few (length steps) ≡ true → AllByRecursion (IsStep count) steps
    → plan_of_tree count (plan_tree steps) ≡ Some steps
plan_back count steps many h =
    let few : are_few (length (map step_tree steps)) ≡ true = ap are_few (length-map steps step_tree) ∙ many in
    rw (listed (map step_tree steps), few, steps_back count steps h) refl

-- ---- what is written

no_float_items : (steps : List Step) → items_have_float (items_of (map step_tree steps)) ≡ false
no_float_items [] = refl
no_float_items (s ∷ ss) = no_float_items ss

pub no_float : (steps : List Step) → has_float (plan_tree steps) ≡ false
no_float steps = rw (no_float_items steps) refl

low_items : (steps : List Step) → items_depth (items_of (map step_tree steps)) ≤ 1
low_items [] = omega arith
low_items (s ∷ ss) = let h = low_items ss in grind arith

pub low : (steps : List Step) → depth (plan_tree steps) ≤ 127
low steps = let h = low_items steps in grind arith

-- ---- the text

step_written : (s : Step) → compact_text (step_tree s) ≡ step_text s
unfolding escape_byte
step_written s = refl

abbrev texts : List Step → List ℕ
texts steps = join_with_byte 44 (map step_text steps)

-- the steps after the first, each behind a comma
later_steps : (s : Step) (ss : List Step) → texts (s ∷ ss) ++ 93 ∷ [] ≡ compact_text (step_tree s)
    ++ items_text true (items_of (map step_tree ss))
later_steps s [] = ap (λ t. t ++ 93 ∷ []) (sym (step_written s))
later_steps s (k ∷ ss) =
    append_assoc (step_text s) (44 ∷ texts (k ∷ ss)) (93 ∷ [])
    ∙ ap (λ t. step_text s ++ 44 ∷ t) (later_steps k ss)
    ∙ ap (λ t. t ++ items_text true (items_of (map step_tree (k ∷ ss)))) (sym (step_written s))

steps_written : (steps : List Step) → items_text false (items_of (map step_tree steps)) ≡ texts steps ++ 93 ∷ []
steps_written [] = refl
steps_written (s ∷ ss) = sym (later_steps s ss)

pub plan_written : (steps : List Step) → compact_text (plan_tree steps) ≡ plan_text steps
unfolding escape_byte
plan_written steps = rw (steps_written steps, append_assoc (texts steps) (93 ∷ []) _) refl
