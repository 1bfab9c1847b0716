-- Which manifest, part, cluster or change a list of numbers begins with.
use Rattle.std.proofs.Common.{◌≡◌, inl, inr, ℕ, zero, suc, ◌<◌, ◌≤◌, ◌^◌, List, [], ◌∷◌, ◌++◌, length, take, drop, Option, Some, None, refl, sym, ◌∙◌, ap, subst, append_assoc, take-append-drop, arith}
use Rattle.std.proofs.lemmas.List.{length-append, length-take-le}
use Rattle.wire.specs.Fields.{u32_field, bytes_field}
use Rattle.wire.proofs.Spelled.{same_bytes}
use Rattle.manifest.specs.Form.{manifest_of}
use Rattle.manifest.specs.Text.{manifest_text}
use Rattle.ucm_base.specs.Limits.{need_limit, part_limit}
use Rattle.ucm_base.specs.Versions.{is_version_text, is_req_text}
use Rattle.ucm_base.specs.declared.parts.Manifest.{Manifest}
use Rattle.ucm_base.specs.declared.parts.Part.{Part}
use Rattle.event_codec.specs.Spelling.{HasBits, IsOutside, list_spelled}
use Rattle.event_codec.specs.Texts.{IsName, IsVersion}
use Rattle.event_codec.specs.Clusters.{manifest_spelled, ManifestFits, part_spelled, PartFits, contents_spelled, ContentsFit, SeveralFit, need_spelled, NeedFits, extent_spelled, ExtentFits, cluster_spelled, ClusterFits, change_spelled, ChangeFits}
use Rattle.event_codec.specs.Unique.{parted, apart, unique-u8, unique-u32, unique-text, unique-list}
use Rattle.event_codec.specs.UniqueClusters.{some_same, unique-manifest, unique-part, unique-need}
use Rattle.event_codec.specs.Deciding.{Begins, Tested, Told, Tells, test_bool, test_at_most, test_lists, tells-byte, tells-u32, tells-text, tells-pair, tells-by, tells-list, tells-narrow, tells-tagged, by_kind, alone}
use Rattle.event_codec.specs.DecidingReplies.{tells-name}

-- a length of four bytes, and so many bytes
tells-block : Tells bytes_field (λ t. length t < 2 ^ 32)
tells-block bytes = by (tells-u32 bytes)
  where
    long : (x : Begins u32_field (HasBits 32) bytes) → Told bytes_field (λ t. length t < 2 ^ 32) bytes
    long x = elim (test_at_most x.value (length x.rest)) [
      | inl enough ↦
          let size : length (take x.value x.rest) ≡ x.value = length-take-le x.value x.rest enough in
          inl (record {
            value = take x.value x.rest;
            rest = drop x.value x.rest;
            fit = subst (λ n. n < 2 ^ 32) (sym size) x.fit;
            is = x.is ∙ ap (λ r. u32_field x.value ++ r) (sym (take-append-drop x.value x.rest))
                ∙ sym (append_assoc (u32_field x.value) (take x.value x.rest) (drop x.value x.rest))
                ∙ ap (λ n. (u32_field n ++ take x.value x.rest) ++ drop x.value x.rest) (sym size);
          })
      | inr few ↦ inr (λ v rest f e. few (shorter v rest f e))
    ]
      where
        shorter : (v rest : List ℕ) → length v < 2 ^ 32 → bytes ≡ bytes_field v ++ rest → x.value ≤ length x.rest
        shorter v rest f e =
            let same = unique-u32.one x.value (length v) x.rest (v ++ rest) x.fit f
            (sym x.is ∙ e ∙ append_assoc (u32_field (length v)) v rest) in
            omega (arith, same.0, ap length same.1, length-append v rest)

    by : Told u32_field (HasBits 32) bytes → Told bytes_field (λ t. length t < 2 ^ 32) bytes
    by (inr out) = inr (λ v rest f e. out (length v) (v ++ rest) f (e ∙ append_assoc (u32_field (length v)) v rest))
    by (inl x) = long x

-- the manifest whose canonical text the bytes are
module _ (bytes : List ℕ) (x : Begins bytes_field (λ t. length t < 2 ^ 32) bytes) where
  same_text : (v : Manifest) (rest : List ℕ) → ManifestFits v → bytes ≡ manifest_spelled v ++ rest
      → x.value ≡ manifest_text v
  same_text v rest f e = (same_bytes x.value (manifest_text v) x.rest rest x.fit f.1 (sym x.is ∙ e)).0

  none_read : manifest_of x.value ≡ None → IsOutside manifest_spelled ManifestFits bytes
  none_read none v rest f e =
      let no : None ≡ Some v = sym none ∙ ap manifest_of (same_text v rest f e) ∙ f.0 in absurd (cc)

  other_text : (m : Manifest) → manifest_of x.value ≡ Some m → (manifest_text m ≡ x.value → ⊥)
      → IsOutside manifest_spelled ManifestFits bytes
  other_text m some other v rest f e =
      let text = same_text v rest f e in
      let same = some_same m v (sym some ∙ ap manifest_of text ∙ f.0) in
      other (ap manifest_text same ∙ sym text)

  read_as : (o : Option Manifest) → manifest_of x.value ≡ o → Told manifest_spelled ManifestFits bytes
  read_as None e = inr (none_read e)
  read_as (Some m) e = elim (test_lists (manifest_text m) x.value) [
    | inl same ↦ inl (record {
      value = m;
      rest = x.rest;
      fit = (ap manifest_of same ∙ e, subst (λ t. length t < 2 ^ 32) (sym same) x.fit);
      is = x.is ∙ ap (λ t. bytes_field t ++ x.rest) (sym same);
    })
    | inr other ↦ inr (other_text m e other)
  ]

pub tells-manifest : Tells manifest_spelled ManifestFits
tells-manifest bytes = elim (tells-block bytes) [
  | inr out ↦ inr (λ v rest f e. out (manifest_text v) rest f.1 e)
  | inl x ↦ read_as bytes x (manifest_of x.value) refl
]

pub tells-part : Tells part_spelled PartFits
tells-part =
    tells-by (λ part. (part.manifest, part.payload)) (λ t. record { manifest = t.0; payload = t.1 }) (λ t f. refl)
    (tells-pair unique-manifest tells-manifest tells-u32)

test_several : (v : List (Part ℕ)) → ContentsFit v → Tested (SeveralFit v)
test_several v fit = elim (test_at_most 2 (length v)) [ inl two ↦ inl (two, fit) | inr n ↦ inr (λ both. n both.0) ]

pub tells-several : Tells (list_spelled part_spelled) SeveralFit
tells-several =
    tells-narrow (unique-list part_limit unique-part) (λ v f. f.1) test_several
    (tells-list unique-part tells-part part_limit)

abbrev contents_number : List (Part ℕ) → ℕ
contents_number [] = 0
contents_number (p ∷ []) = 1
contents_number (p ∷ q ∷ parts) = 2

abbrev contents_fields : List (Part ℕ) → List ℕ
contents_fields [] = []
contents_fields (p ∷ []) = part_spelled p
contents_fields (p ∷ q ∷ parts) = list_spelled part_spelled (p ∷ q ∷ parts)

contents_parts : (c : List (Part ℕ)) → contents_spelled c ≡ contents_number c ∷ contents_fields c
contents_parts [] = refl
contents_parts (p ∷ []) = refl
contents_parts (p ∷ q ∷ parts) = refl

contents_below : (c : List (Part ℕ)) → contents_number c < 3
contents_below [] = omega arith
contents_below (p ∷ []) = omega arith
contents_below (p ∷ q ∷ parts) = omega arith

module _ (bytes : List ℕ) where
  no_one : IsOutside part_spelled PartFits bytes → IsOutside contents_spelled ContentsFit (1 ∷ bytes)
  no_one out [] rest f e = absurd (apart e refl)
  no_one out (p ∷ []) rest f e = out p rest f.1.0 (parted e).1
  no_one out (p ∷ q ∷ parts) rest f e = absurd (apart e refl)

  no_several : IsOutside (list_spelled part_spelled) SeveralFit bytes → IsOutside contents_spelled ContentsFit
      (2 ∷ bytes)
  no_several out [] rest f e = absurd (apart e refl)
  no_several out (p ∷ []) rest f e = absurd (apart e refl)
  no_several out (p ∷ q ∷ parts) rest f e = out (p ∷ q ∷ parts) rest (omega arith, f) (parted e).1

  of_several : (x : Begins (list_spelled part_spelled) SeveralFit bytes) → Told contents_spelled ContentsFit (2 ∷ bytes)
  of_several x = by x.value x.fit x.is
    where
      by : (v : List (Part ℕ)) → SeveralFit v → bytes ≡ list_spelled part_spelled v ++ x.rest
          → Told contents_spelled ContentsFit (2 ∷ bytes)
      by [] fit is = absurd (omega (arith, fit.0))
      by (p ∷ []) fit is = absurd (omega (arith, fit.0))
      by (p ∷ q ∷ parts) fit is =
          inl (record { value = p ∷ q ∷ parts; rest = x.rest; fit = fit.1; is = ap (λ b. 2 ∷ b) is })

pub tells-contents : Tells contents_spelled ContentsFit
tells-contents = tells-tagged contents_number contents_fields contents_parts 3 contents_below each
  where
    each : (b : ℕ) → b < 3 → (bytes : List ℕ) → Told contents_spelled ContentsFit (b ∷ bytes)
    each zero lt bytes = alone [] 0 bytes (omega arith, tt) refl
    each (suc zero) lt bytes =
        by_kind {P = ContentsFit} 1 bytes (λ p. p ∷ []) (tells-part bytes) (λ x f. (omega arith, (f, tt))) (λ x. refl)
        (no_one bytes)
    each (suc (suc zero)) lt bytes =
        elim (tells-several bytes) [ inl x ↦ of_several bytes x | inr out ↦ inr (no_several bytes out) ]
    each (suc (suc (suc n))) lt bytes = absurd (omega (arith, lt))

pub tells-need : Tells need_spelled NeedFits
tells-need =
    tells-by (λ n. (n.name, n.req)) (λ t. record { name = t.0; req = t.1 }) (λ t f. refl)
    (tells-pair (unique-text {P = IsName}) tells-name (tells-text (λ t. test_bool (is_req_text t))))

pub tells-extent : Tells extent_spelled ExtentFits
tells-extent =
    tells-by (λ e. (e.place, (e.side, e.length))) (λ t. record { place = t.0; side = t.1.0; length = t.1.1 })
    (λ t f. refl)
    (tells-pair (unique-u8 {P = HasBits 8}) tells-byte (tells-pair (unique-u8 {P = HasBits 8}) tells-byte tells-u32))

pub tells-cluster : Tells cluster_spelled ClusterFits
tells-cluster =
    tells-by (λ c. (c.name, (c.version, (c.needs, c.content))))
    (λ t. record { name = t.0; version = t.1.0; needs = t.1.1.0; content = t.1.1.1 }) (λ t f. refl)
    (tells-pair (unique-text {P = IsName}) tells-name
    (tells-pair (unique-text {P = IsVersion}) (tells-text (λ t. test_bool (is_version_text t)))
    (tells-pair (unique-list need_limit unique-need) (tells-list unique-need tells-need need_limit) tells-extent)))

pub tells-change : Tells change_spelled ChangeFits
tells-change =
    tells-by (λ c. (c.transfer, (c.part.manifest, c.part.payload)))
    (λ t. record { transfer = t.0; part = record { manifest = t.1.0; payload = t.1.1 } }) (λ t f. refl)
    (tells-pair unique-u32 tells-u32 (tells-pair unique-manifest tells-manifest tells-extent))
