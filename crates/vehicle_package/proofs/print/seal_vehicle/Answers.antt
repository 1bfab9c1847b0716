use Rattle.std.proofs.Common.{◌≡◌, ◌++◌, ◌∙◌, ap, length, map, sym, Bor, List, ℕ}
use Rattle.std.specs.List.{flat_map}
use Rattle.std.proofs.lemmas.List.{length-map, take_all}
use Rattle.sha2.specs.Sha256.{sha256}
use Rattle.wire.specs.Fields.{bytes_field, u16_field}
use Rattle.vehicle_package.specs.Fields.{mark}
use Rattle.vehicle_package.specs.Plan.{plan_text}
use Rattle.vehicle_package.specs.Spelling.{body, vehicle_text}
use Rattle.vehicle_package.proofs.print.seal_vehicle.Goals as goal

abbrev now : Bor (List ℕ) → List ℕ
now p = p.now

whole : (c : goal.After-drop-plan-2) → c.packages.bytes.items
    ≡ body (plan_text c.args.steps.now) (map now c.args.packages.now)
whole c =
    c.packages.invariant
    ∙ ap (λ ps. mark ++ bytes_field (plan_text c.args.steps.now) ++ u16_field (length c.args.packages.now)
    ++ flat_map bytes_field (map now ps))
    (take_all c.packages.package-index c.args.packages.now c.packages-test.false)
    ∙ ap (λ n. mark ++ bytes_field (plan_text c.args.steps.now) ++ u16_field n
    ++ flat_map bytes_field (map now c.args.packages.now)) (sym (length-map c.args.packages.now now))

pub returns-clause-text : goal.returns-clause-text
unfolding vehicle_text
returns-clause-text c =
    let digest = c.digest-digest.ensures ∙ ap sha256 (c.as_slice-2.ensures.value ∙ whole c) in
    c.in_ok-extend_from_slice-2.ensures.items ∙ (λ i. whole c i ++ digest i)
