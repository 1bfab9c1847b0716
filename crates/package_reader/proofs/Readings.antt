-- A reading and what it is of.
use Rattle.std.proofs.Common.{◌≡◌, List, Result, Ok, Err, true, nat_le, ◌&&◌, map, refl, subst, ◌∙◌}
use Rattle.std.proofs.lemmas.List.{length-map}
use Rattle.std.proofs.lemmas.Simd.{map-map}
use Rattle.ucm_base.specs.Limits.{part_limit}
use Rattle.ucm_base.specs.Names.{all_differ}
use Rattle.ucm_base.specs.Parts.{Bytes, cluster_of}
use Rattle.ucm_base.specs.declared.parts.Part.{Part}
use Rattle.package_reader.specs.Fields.{◌>>=◌}
use Rattle.package_reader.specs.Reading.{are_parts, contents_of, reading, with_payload}
use Rattle.package_reader.specs.Spelling.{AreBytes, IsPackage}
use Rattle.package_reader.specs.declared.fault.PackageError.{PackageError}
use Rattle.package_reader.proofs.Blocks.{bind_ok, ok_is}
use Rattle.package_reader.proofs.Taken.{contents_are_package, contents_are_parts}

never-both : (parts : List (Part Bytes)) (read : Result (List (Part Bytes)) PackageError) (e : PackageError)
    → read ≡ Ok parts → read ≡ Err e → ⊥
never-both parts (Ok ps) e is refused = cc
never-both parts (Err d) e is refused = cc

pub refused-contents : (bytes : Bytes) (parts : List (Part Bytes)) (e : PackageError) → reading bytes ≡ Ok parts
    → contents_of bytes ≡ Err e → ⊥
unfolding reading
refused-contents bytes parts e is refused = never-both parts (reading bytes) e is (rw refused refl)

pub reading_is_package : (bytes : Bytes) (parts : List (Part Bytes)) → AreBytes bytes → reading bytes ≡ Ok parts
    → IsPackage bytes parts
unfolding reading
reading_is_package bytes parts are e =
    let a = bind_ok (contents_of bytes) (λ cs. Ok (map (with_payload bytes) cs)) parts e in
    subst (IsPackage bytes) (ok_is (map (with_payload bytes) a.0) parts a.2) (contents_are_package bytes a.0 are a.1)

pub reading_are_parts : (bytes : Bytes) (parts : List (Part Bytes)) → reading bytes ≡ Ok parts → are_parts parts ≡ true
unfolding reading
reading_are_parts bytes parts e =
    let a = bind_ok (contents_of bytes) (λ cs. Ok (map (with_payload bytes) cs)) parts e in
    let same : are_parts (map (with_payload bytes) a.0) ≡ are_parts a.0 =
    (λ i. nat_le 1 (length-map a.0 (with_payload bytes) i) && nat_le (length-map a.0 (with_payload bytes) i) part_limit
    && all_differ (map-map cluster_of (with_payload bytes) a.0 i)) in
    subst (λ (ps : List (Part Bytes)). are_parts ps ≡ true) (ok_is (map (with_payload bytes) a.0) parts a.2) (same
    ∙ contents_are_parts bytes a.0 a.1)
