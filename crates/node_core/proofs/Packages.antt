-- What a node reads as a package lies in its bytes, and is stored by the lengths of its payloads.
use Rattle.node_core.proofs.Names.{AllByRecursion, Bad, Bytes, Err, Good, IsVerdict, List, Ok, PackageError, Part, Refusal, Result, ap}
use Rattle.node_core.proofs.Names.{arith, drop, length, length-drop, length-take, map, package_reading, refl, subst, sym, verdict_of}
use Rattle.node_core.proofs.Names.{with_length, [], ℕ, ◌∙◌, ◌∷◌, ◌≡◌}
use Rattle.node_core.specs.Packages.{refusal_of}
use Rattle.node_core.specs.Prepared.{stored_part}
use Rattle.package_reader.proofs.Lies.{Read, parts_read}
use Rattle.package_reader.specs.Fields.{◌>>=◌, LiesWithin}
use Rattle.package_reader.specs.Reading.{contents_of, reading, with_payload}
use Rattle.package_reader.specs.declared.span.Span.{Span}

pub parts-read : (bytes : Bytes) (parts : List (Part Bytes)) → package_reading bytes ≡ Ok parts → Read bytes parts
parts-read bytes parts e = parts_read bytes parts (verdict-ok (reading bytes) e)
  where
    verdict-ok : (r : Result (List (Part Bytes)) PackageError) → verdict_of r ≡ Ok parts → r ≡ Ok parts
    verdict-ok r e = grind (arith, e)

module _ (bytes : Bytes) where
  same-lengths : (cs : List (Part Span)) → AllByRecursion (λ (c : Part Span). LiesWithin bytes c.payload) cs
      → map stored_part cs ≡ map with_length (map (with_payload bytes) cs)
  same-lengths [] within = refl
  same-lengths (c ∷ cs) within =
      let inside = within.0 in
      let size : c.payload.len ≡ length (with_payload bytes c).payload =
      omega (arith, inside, length-take c.payload.len (drop c.payload.at bytes), length-drop c.payload.at bytes) in
      λ i. record { manifest = c.manifest; payload = size i } ∷ same-lengths cs within.1 i

  -- the verdict on what is a package
  pub good-verdict : (cs : List (Part Span)) → contents_of bytes ≡ Ok cs
      → AllByRecursion (λ (c : Part Span). LiesWithin bytes c.payload) cs
      → (stored : List (Part ℕ)) → stored ≡ map stored_part cs → IsVerdict (Good stored) (package_reading bytes)
  unfolding reading
  good-verdict cs e within stored same =
      subst (IsVerdict (Good stored))
      (sym (ap (λ read. verdict_of (read >>= λ parts. Ok (map (with_payload bytes) parts))) e)) (same
      ∙ same-lengths cs within)

  -- and on what isn't
  pub bad-verdict : (f : PackageError) (why : Refusal) → contents_of bytes ≡ Err f → refusal_of f ≡ why
      → IsVerdict (Bad why) (package_reading bytes)
  unfolding reading
  bad-verdict f why e same =
      subst (IsVerdict (Bad why))
      (sym (ap (λ read. verdict_of (read >>= λ parts. Ok (map (with_payload bytes) parts))) e)) (sym same)
