use Rattle.std.proofs.Common.{◌∙◌, arith, length, map, refl, sym, ap}
use Rattle.std.proofs.lemmas.Option.{slice_get_read}
use Rattle.std.proofs.lemmas.Simd.{map-map}
use Rattle.ucm_base.specs.declared.parts.Part.{Part}
use Rattle.ucm_base.specs.Parts.{Bytes}
use Rattle.package_reader.specs.Reading.{with_payload}
use Rattle.vehicle_package.proofs.changes.parts_of.Goals as goal

pub returns-clause-manifests : goal.returns-clause-manifests
returns-clause-manifests c =
    let packages = c.args.packages.now in
    let packed = c.index-packages-index.result in
    let there = slice_get_read packages (length packages) c.args.step.package packed refl
    (omega (arith, c.if-index-packages.false)) c.index-packages-index.is in
    rw there (
    sym (map-map (λ (part : Part Bytes). part.manifest) (with_payload packed.bytes) c.parts.result.now)
    ∙ ap (map (λ (part : Part Bytes). part.manifest)) c.parts.ensures.parts
    )

pub returns-clause-parts : goal.returns-clause-parts
returns-clause-parts c =
    let packages = c.args.packages.now in
    let packed = c.index-packages-index.result in
    let there = slice_get_read packages (length packages) c.args.step.package packed refl
    (omega (arith, c.if-index-packages.false)) c.index-packages-index.is in
    rw there c.parts.ensures.parts
