-- How long a plan's canonical text is at most, and how many bytes a vehicle package has.
use Rattle.std.proofs.Common.{◌≡◌, ◌≤◌, ◌<◌, ◌+◌, ◌*◌, ◌∙◌, ◌++◌, ℕ, List, [], ◌∷◌, length, true, refl, ap, arith}
use Rattle.std.specs.Prelude.{codes, decimal, nat_le, map, sum_by, ◌&&◌}
use Rattle.std.specs.List.{AllByRecursion, concat, flat_map, join_with_byte}
use Rattle.std.proofs.lemmas.Bool.{and_parts, leb-true}
use Rattle.std.proofs.lemmas.Fmt.{length-decimal-le}
use Rattle.std.proofs.lemmas.List.{length-append}
use Rattle.std.proofs.lemmas.List.Concat.{flat_map-cons}
use Rattle.std.proofs.lemmas.List.Sums.{sum_by-cons}
use Rattle.sha2.specs.Sha256.{sha256}
use Rattle.sha2.proofs.Facts256.{length-sha256}
use Rattle.wire.specs.Fields.{bytes_field, u16_field}
use Rattle.ucm_base.specs.Limits.{carried_limit, plan_limit, step_limit}
use Rattle.vehicle_package.specs.declared.vehicle.Step.{Step}
use Rattle.ucm_base.specs.Parts.{Bytes}
use Rattle.vehicle_package.specs.Fields.{mark}
use Rattle.vehicle_package.specs.Plan.{IsStep, are_few, plan_text, step_text}
use Rattle.vehicle_package.specs.Spelling.{body, vehicle_text}

abbrev sizes : List (List ℕ) → ℕ
sizes [] = 0
sizes (x ∷ xs) = length x + sizes xs

total : (xs : List (List ℕ)) → length (concat xs) ≡ sizes xs
total [] = refl
total (x ∷ xs) = length-append x (concat xs) ∙ ap (λ n. length x + n) (total xs)

digits : (n : ℕ) → n < 1000 → length (decimal n) ≤ 3
digits n h = length-decimal-le 3 n (omega arith) h (omega arith)

step_short : (count : ℕ) (s : Step) → count ≤ carried_limit → IsStep count s → length (step_text s) ≤ 26
step_short count s few h =
    let sum = total (codes "{\"node\":" ∷ decimal s.node ∷ codes ",\"package\":" ∷ decimal s.«package» ∷ codes "}"
    ∷ []) in
    omega (arith, sum, digits s.node (omega (arith, h.few)), digits s.«package» (omega (arith, h.below, few)))

steps_short : (count : ℕ) (steps : List Step) → count ≤ carried_limit → AllByRecursion (IsStep count) steps
    → length (join_with_byte 44 (map step_text steps)) ≤ 27 * length steps
steps_short count [] few h = omega arith
steps_short count (s ∷ []) few h = omega (arith, step_short count s few h.0)
steps_short count (s ∷ k ∷ ss) few h =
    omega (
      arith,
      length-append (step_text s) (44 ∷ join_with_byte 44 (map step_text (k ∷ ss))),
      step_short count s few h.0,
      steps_short count (k ∷ ss) few h.1,
    )

pub plan_short : (count : ℕ) (steps : List Step) → count ≤ carried_limit → are_few (length steps) ≡ true
    → AllByRecursion (IsStep count) steps → length (plan_text steps) ≤ plan_limit
plan_short count steps few many h =
    let most =
    leb-true (length steps) step_limit
    (and_parts (nat_le 1 (length steps)) (nat_le (length steps) step_limit) many).1 in
    let sum = total (codes "{\"steps\":[" ∷ join_with_byte 44 (map step_text steps) ∷ codes "]}" ∷ []) in
    omega (arith, sum, most, steps_short count steps few h)

fields-size : (bs : List Bytes) → length (flat_map bytes_field bs) ≡ sum_by (λ b. 4 + length b) bs
fields-size [] = refl
fields-size (b ∷ bs) =
    omega (
      arith,
      ap length (flat_map-cons bytes_field b bs),
      length-append (bytes_field b) (flat_map bytes_field bs),
      sum_by-cons (λ (x : Bytes). 4 + length x) b bs,
      fields-size bs,
    )

-- the mark, the plan's length, the number of packages and the digest have 42 bytes
pub vehicle-size : (steps : List Step) (bs : List Bytes)
    → length (vehicle_text steps bs) ≡ 42 + length (plan_text steps) + sum_by (λ b. 4 + length b) bs
unfolding vehicle_text
vehicle-size steps bs =
    let plan = bytes_field (plan_text steps) in
    let count = u16_field (length bs) in
    let all = body (plan_text steps) bs in
    omega (
      arith,
      length-append all (sha256 all),
      length-sha256 all,
      length-append ((mark ++ plan) ++ count) (flat_map bytes_field bs),
      length-append (mark ++ plan) count,
      length-append mark plan,
      fields-size bs,
    )
