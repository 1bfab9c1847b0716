-- Where the parts that are read lie, and that a removal has no payload.
use Rattle.std.proofs.Common.{◌≡◌, ℕ, zero, suc, ◌+◌, ◌-◌, ◌≤◌, nat_lt, Bool, true, not, List, [], ◌∷◌, length, take, drop, map, Option, Some, None, option_map, Result, Ok, refl, sym, subst, ◌∙◌, ap, arith}
use Rattle.std.specs.Prelude.{find, ok_or}
use Rattle.std.specs.List.{AllByRecursion}
use Rattle.std.proofs.lemmas.Bool.{not-false}
use Rattle.std.proofs.lemmas.Bool.Decides.{nat_tests}
use Rattle.std.proofs.lemmas.List.{length-drop, length-map, length-take}
use Rattle.manifest.specs.Form.{manifest_of}
use Rattle.manifest.specs.Trees.{all_of}
use Rattle.ucm_base.specs.Names.{all_differ}
use Rattle.ucm_base.specs.Parts.{Bytes, cluster_of}
use Rattle.ucm_base.specs.declared.parts.Action.TheVariants.{Remove}
use Rattle.ucm_base.specs.declared.parts.Manifest.{Manifest}
use Rattle.ucm_base.specs.declared.parts.Part.{Part}
use Rattle.package_reader.specs.Fields.{◌>>=◌, block_at, bytes_of, end_at, end_of, fields_of, head_of, number_at, part_at, parts_at, text_at, texts_limit}
use Rattle.package_reader.specs.Layout.{parts_place}
use Rattle.package_reader.specs.Lies.{PartsLie, payload_at}
use Rattle.package_reader.specs.Reading.{contents_of, has_its_payload, manifests_in, part_in, payloads_in, reading, with_payload}
use Rattle.package_reader.specs.declared.fault.PackageError.{PackageError}
use Rattle.package_reader.specs.declared.fault.PackageError.TheVariants.{PackageInconsistent}
use Rattle.package_reader.specs.declared.fields.Head.{Head}
use Rattle.package_reader.specs.declared.span.PartPlace.{PartPlace}
use Rattle.package_reader.specs.declared.span.Span.{Span}
use Rattle.package_reader.proofs.Blocks.{bind_ok, block_stands, guard_ok, ok_is}
use Rattle.package_reader.proofs.Taken.{cond_ok, find_none, follows, map_some, none_by, ok_some, tells_of, then_some, walks}

-- a removal has no payload
abbrev pub IsEmptyRemoval : Part Bytes → Type 0
IsEmptyRemoval part = part.manifest.action ≡ Remove → part.payload ≡ []

module _ (bytes : Bytes) where
  part-lies : (room place : ℕ) (p : PartPlace) → part_at bytes room place ≡ Ok p
      → (p.payload.at ≡ payload_at bytes place) × (end_of p.payload ≤ length bytes)
  unfolding part_at
  part-lies room place p e =
      let a = bind_ok (text_at bytes room place) _ p e in
      let b = bind_ok (block_at bytes (end_of a.0)) _ p a.2 in
      let g = guard_ok (nat_lt room (number_at bytes place)) _ _ a.0 a.1 in
      let text = block_stands bytes place a.0 g.1 in
      let payload = block_stands bytes (end_of a.0) b.0 b.1 in
      subst (λ (q : PartPlace). (q.payload.at ≡ payload_at bytes place)
      × (end_of q.payload ≤ length bytes)) (ok_is _ p b.2)
      (omega (arith, payload.at, text.at, text.number), payload.within)

  -- one part, and those behind it
  one-lies : (place : ℕ) (p : PartPlace) (c : Part Span) (more : List (Part Span)) → c.payload ≡ p.payload
      → p.payload.at ≡ payload_at bytes place
      → end_of p.payload ≤ length bytes → PartsLie bytes (end_of p.payload) (map (with_payload bytes) more)
      → PartsLie bytes place (map (with_payload bytes) (c ∷ more))
  one-lies place p c more same at within rest =
      let size : length (bytes_of bytes c.payload) ≡ p.payload.len = ap (λ (s : Span). length (bytes_of bytes s)) same
      ∙ length-take p.payload.len (drop p.payload.at bytes) ∙ omega (arith, within, length-drop p.payload.at bytes) in (
        omega (arith, at, size, within),
        ap (λ n. take n (drop (payload_at bytes place) bytes)) size
            ∙ ap (λ n. take p.payload.len (drop n bytes)) (sym at) ∙ ap (λ (s : Span). bytes_of bytes s) (sym same),
        subst (λ n. PartsLie bytes n (map (with_payload bytes) more)) (omega (arith, at, size)) rest,
      )

  lie : (n room place : ℕ) (ps : List PartPlace) (end : ℕ) (cs : List (Part Span))
      → parts_at n bytes room place ≡ Ok (ps, end)
      → all_of (part_in bytes) ps ≡ Some cs → PartsLie bytes place (map (with_payload bytes) cs)
  unfolding parts_at
  lie zero room place ps end cs e texts =
      none cs (ap (λ (x : List PartPlace × ℕ). all_of (part_in bytes) x.0) (ok_is ([], place) (ps, end) e) ∙ texts)
    where
      none : (cs : List (Part Span)) → all_of (part_in bytes) [] ≡ Some cs
          → PartsLie bytes place (map (with_payload bytes) cs)
      none [] e = tt
      none (c ∷ cs) e = absurd cc
  lie (suc n) room place ps end cs e texts =
      let a = bind_ok (part_at bytes room place) _ (ps, end) e in
      let p = a.0 in
      let b = bind_ok (parts_at n bytes (room - p.text.len) (end_of p.payload)) _ (ps, end) a.2 in
      let all = ap (λ (x : List PartPlace × ℕ). all_of (part_in bytes) x.0) (ok_is (p ∷ b.0.0, b.0.1) (ps, end) b.2)
      ∙ texts in
      let c = then_some (λ c. option_map (λ more. c ∷ more) (all_of (part_in bytes) b.0.0)) (part_in bytes p) cs all in
      let more = map_some (λ more. c.0 ∷ more) (all_of (part_in bytes) b.0.0) cs c.2 in
      let m = map_some (λ (m : Manifest). record { manifest = m; payload = p.payload })
      (manifest_of (bytes_of bytes p.text)) c.0 c.1 in
      let one = part-lies room place p a.1 in
      subst (λ (ds : List (Part Span)). PartsLie bytes place (map (with_payload bytes) ds)) more.2
      (one-lies place p c.0 more.0 (ap (λ (k : Part Span). k.payload) (sym m.2)) one.0 one.1
      (lie n (room - p.text.len) (end_of p.payload) b.0.0 b.0.1 more.0 b.1 more.1))

  removals : (cs : List (Part Span)) → find (λ c. not (has_its_payload bytes c)) cs ≡ None
      → AllByRecursion IsEmptyRemoval (map (with_payload bytes) cs)
  removals [] e = tt
  removals (c ∷ cs) e =
      let both = find_none (not (has_its_payload bytes c)) c (find (λ c. not (has_its_payload bytes c)) cs) e in
      ((tells_of c.manifest (bytes_of bytes c.payload) (not-false _ both.0)).1, removals cs both.1)

  -- where the first part begins
  begins : (h : Head) → head_of bytes ≡ Ok h → h.place ≡ parts_place h.count
  begins h e = grind (arith, nat_tests, e)

  pub record Read (parts : List (Part Bytes)) : Type 0 where
    pub lie : PartsLie bytes (parts_place (length parts)) parts
    pub removals : AllByRecursion IsEmptyRemoval parts

  contents-read : (cs : List (Part Span)) → contents_of bytes ≡ Ok cs → Read (map (with_payload bytes) cs)
  unfolding fields_of contents_of
  contents-read cs e =
      let a = bind_ok (fields_of bytes) _ cs e in
      let h = bind_ok (head_of bytes) _ a.0 a.1 in
      let w = bind_ok (parts_at h.0.count bytes (texts_limit h.0.count) h.0.place) _ a.0 h.2 in
      let d = bind_ok (end_at bytes w.0.1) _ a.0 w.2 in
      let b = bind_ok (manifests_in bytes a.0) _ cs a.2 in
      let y = bind_ok (payloads_in bytes b.0) _ cs b.2 in
      let n = bind_ok (ok_or (all_of (part_in bytes) a.0) _) _ b.0 b.1 in
      let given = cond_ok (all_differ (map cluster_of n.0)) _ n.0 b.0 n.2 in
      let last : b.0 ≡ cs = ok_is b.0 cs y.2 in
      let texts = ap (all_of (part_in bytes)) (ok_is w.0.0 a.0 d.2) ∙ ok_some _ _ n.0 n.1
      ∙ ap (λ z. Some z) (given.1 ∙ last) in
      let walked = walks h.0.count bytes _ _ w.0.0 w.0.1 w.1 in
      let many : length (map (with_payload bytes) cs) ≡ h.0.count =
      length-map cs (with_payload bytes) ∙ (follows bytes w.0.0 cs texts walked.1).0 ∙ walked.0 in
      record {
        lie = subst (λ k. PartsLie bytes k (map (with_payload bytes) cs)) (begins h.0 h.1
            ∙ ap parts_place (sym many)) (lie h.0.count (texts_limit h.0.count) h.0.place w.0.0 w.0.1 cs w.1 texts);
        removals =
            removals cs (none_by (λ part. PackageInconsistent part.payload.at)
            (find (λ c. not (has_its_payload bytes c)) cs) y.0
            (subst (λ (ds : List (Part Span)). payloads_in bytes ds ≡ Ok y.0) last y.1));
      }

  -- what bytes are read as lies in them
  pub parts_read : (parts : List (Part Bytes)) → reading bytes ≡ Ok parts → Read parts
  unfolding reading
  parts_read parts e =
      let a = bind_ok (contents_of bytes) (λ cs. Ok (map (with_payload bytes) cs)) parts e in
      subst Read (ok_is (map (with_payload bytes) a.0) parts a.2) (contents-read a.0 a.1)
