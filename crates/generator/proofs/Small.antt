-- The packages are within their limits, and are read as their parts.
use Rattle.std.proofs.Common.{◌≡◌, ◌≤◌, ◌<◌, ◌∙◌, ◌∷◌, [], ℕ, true, false, List, length, Result, Ok, Err, IfOk, ap, refl, subst, sym, arith}
use Rattle.std.proofs.lemmas.Bool.{le-ltb}
use Rattle.std.proofs.lemmas.List.{length-replicate}
use Rattle.std.proofs.lemmas.Slice.Eq.{bytes_eq-Decides}
use Rattle.sha2.specs.Sha256.{sha256}
use Rattle.manifest.specs.Valid.{IsManifest}
use Rattle.manifest.proofs.Lengths.{manifest_short}
use Rattle.ucm_base.specs.Limits.{package_limit}
use Rattle.ucm_base.specs.Parts.{Bytes}
use Rattle.ucm_base.specs.declared.parts.Part.{Part}
use Rattle.package_reader.specs.Fields.{texts_limit}
use Rattle.package_reader.specs.Printing.{all_belong, is_too_large, package_text, texts_size}
use Rattle.package_reader.specs.Reading.{are_parts, reading}
use Rattle.package_reader.specs.Spelling.{IsPackage}
use Rattle.package_reader.specs.Packed.{PackedOf}
use Rattle.vehicle_package.specs.Spelling.{IsCarried}
use Rattle.package_reader.proofs.Again.{package_is_read}
use Rattle.package_reader.proofs.Blocks.{ok_is}
use Rattle.package_reader.proofs.Sizes.{whole_size}
use Rattle.generator.specs.Demo.{package_of, part_of, payload_of, payload_size}

payload_short : (number i : ℕ) → length (payload_of number i) ≤ 500000
payload_short number i = omega (arith, length-replicate (payload_size number i) i)

texts_short : (number i : ℕ) → IsManifest (part_of number i).manifest → texts_size (part_of number i ∷ []) ≤ 4096
texts_short number i form = omega (arith, manifest_short (part_of number i).manifest form)

pub whole_short : (number i : ℕ) → IsManifest (part_of number i).manifest → length (package_of number i).bytes ≤ 504140
whole_short number i form =
    omega (arith, whole_size (part_of number i ∷ []), texts_short number i form, payload_short number i)

not_large : (number i : ℕ) → IsManifest (part_of number i).manifest → is_too_large (part_of number i ∷ []) ≡ false
unfolding is_too_large
not_large number i form =
    let texts : texts_size (part_of number i ∷ []) ≤ texts_limit 1 = omega (arith, texts_short number i form) in
    let whole : length (package_text (part_of number i ∷ [])) ≤ package_limit =
    omega (arith, whole_short number i form) in
    rw (le-ltb (texts_limit 1) (texts_size (part_of number i ∷ [])) texts)
    (le-ltb package_limit (length (package_text (part_of number i ∷ []))) whole)

belong : (number i : ℕ) → all_belong (part_of number i ∷ []) ≡ true
belong number i = rw ((bytes_eq-Decides (sha256 (payload_of number i)) (sha256 (payload_of number i))).1 refl) refl

-- where a part is the demo's, and bytes are printed of it
module _ (number i : ℕ) (part : Part Bytes) (is : part ≡ part_of number i) (form : IsManifest part.manifest) where
  pub form-of : IsManifest (part_of number i).manifest
  form-of = subst (λ p. IsManifest p.manifest) is form

  pub bytes-short : (bytes : List ℕ) → bytes ≡ package_text (part ∷ []) → length bytes < 4294967296
  bytes-short bytes e =
      omega (arith, whole_short number i form-of, ap length e, ap (λ p. length (package_text (p ∷ []))) is)

  -- they are its package, and are read as it
  is-package : (bytes : List ℕ) → (are_parts (part ∷ []) ≡ true → is_too_large (part ∷ []) ≡ false
      → all_belong (part ∷ []) ≡ true → IsPackage bytes (part ∷ [])) → IsPackage bytes (part_of number i ∷ [])
  is-package bytes printed =
      let printed_of = subst (λ (p : Part Bytes). are_parts (p ∷ []) ≡ true → is_too_large (p ∷ []) ≡ false
      → all_belong (p ∷ []) ≡ true → IsPackage bytes (p ∷ [])) is printed in
      printed_of refl (not_large number i form-of) (belong number i)

  pub is-read : (bytes given : List ℕ) → given ≡ bytes → (are_parts (part ∷ []) ≡ true
      → is_too_large (part ∷ []) ≡ false → all_belong (part ∷ []) ≡ true → IsPackage bytes (part ∷ []))
      → reading given ≡ Ok (part_of number i ∷ [])
  is-read bytes given same printed =
      ap reading same ∙ package_is_read bytes (part_of number i ∷ []) (is-package bytes printed)

  pub is-packed : {E : Type 0} (bytes given : List ℕ) (r : Result PackedOf E) → given ≡ bytes
      → bytes ≡ package_text (part ∷ []) → reading given ≡ Ok (part_of number i ∷ []) → IfOk r (λ p. p.bytes ≡ given)
      → IfOk r (λ p. reading given ≡ Ok p.parts) → IfOk r (λ p. p ≡ package_of number i)
  is-packed bytes given (Err e) same text read kept told = tt
  is-packed bytes given (Ok p) same text read kept told =
      let whole = kept ∙ same ∙ text ∙ ap (λ q. package_text (q ∷ [])) is in
      let parts = ok_is p.parts (part_of number i ∷ []) (sym told ∙ read) in
      λ k. record { bytes = whole k; parts = parts k }

  -- so a vehicle may carry it
  pub is-carried : {E : Type 0} (bytes : List ℕ) (r : Result PackedOf E) → bytes ≡ package_text (part ∷ [])
      → (are_parts (part ∷ []) ≡ true → is_too_large (part ∷ []) ≡ false → all_belong (part ∷ []) ≡ true
      → IsPackage bytes (part ∷ [])) → IfOk r (λ p. p ≡ package_of number i) → IfOk r IsCarried
  is-carried bytes (Err e) text printed made = tt
  is-carried bytes (Ok p) text printed made =
      let whole = text ∙ ap (λ q. package_text (q ∷ [])) is in
      let small : length (package_of number i).bytes ≤ package_limit = omega (arith, whole_short number i form-of) in
      subst IsCarried (sym made) (record {
        small = small;
        is = subst (λ b. IsPackage b (part_of number i ∷ [])) whole (is-package bytes printed);
      })
