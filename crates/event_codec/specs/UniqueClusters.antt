-- No spelling of a manifest, a part, a cluster or a change begins another.
use Rattle.std.proofs.Common.{◌≡◌, ℕ, List, [], ◌∷◌, ◌++◌, Some, refl, sym, ◌∙◌, ap}
use Rattle.wire.proofs.Spelled.{same_bytes}
use Rattle.manifest.specs.Form.{manifest_of}
use Rattle.manifest.specs.Text.{manifest_text}
use Rattle.ucm_base.specs.declared.parts.Manifest.{Manifest}
use Rattle.ucm_base.specs.Limits.{need_limit, part_limit}
use Rattle.ucm_base.specs.declared.parts.Part.{Part}
use Rattle.event_codec.specs.declared.clusters.Several.{Several}
use Rattle.event_codec.specs.Spelling.{HasBits, IsUnique, list_spelled}
use Rattle.event_codec.specs.Texts.{IsName, IsReq, IsVersion}
use Rattle.event_codec.specs.Clusters.{manifest_spelled, ManifestFits, part_spelled, PartFits, contents_spelled, ContentsFit, SeveralFit, need_spelled, NeedFits, extent_spelled, ExtentFits, cluster_spelled, ClusterFits, change_spelled, ChangeFits}
use Rattle.event_codec.specs.Unique.{apart, unique-u8, unique-u32, unique-text, unique-pair, unique-by, unique-list}

pub some_same : (m n : Manifest) → Some m ≡ Some n → m ≡ n
some_same m n e = cc

pub same_manifest : (m n : Manifest) → ManifestFits m → ManifestFits n → manifest_text m ≡ manifest_text n → m ≡ n
same_manifest m n f g e = some_same m n (sym f.0 ∙ ap manifest_of e ∙ g.0)

pub unique-manifest : IsUnique manifest_spelled ManifestFits
unique-manifest = record {
  one = λ v w rest others f g e.
      let same = same_bytes (manifest_text v) (manifest_text w) rest others f.1 g.1 e in
      (same_manifest v w f g same.0, same.1);
}

pub unique-part : IsUnique part_spelled PartFits
unique-part =
    unique-by (λ part. (part.manifest, part.payload)) (λ t. record { manifest = t.0; payload = t.1 }) (λ part. refl)
    (unique-pair unique-manifest unique-u32)

same_contents : (v w : List (Part ℕ)) (rest others : List ℕ) → ContentsFit v → ContentsFit w
    → contents_spelled v ++ rest ≡ contents_spelled w ++ others → (v ≡ w) × (rest ≡ others)
same_contents [] [] rest others f g e = (refl, (cc))
same_contents (p ∷ []) (q ∷ []) rest others f g e =
    let same = unique-part.one p q rest others f.1.0 g.1.0 (cc) in ((λ i. same.0 i ∷ []), same.1)
same_contents (p ∷ p' ∷ ps) (q ∷ q' ∷ qs) rest others f g e =
    (unique-list part_limit unique-part).one (p ∷ p' ∷ ps) (q ∷ q' ∷ qs) rest others f g (cc)
same_contents [] (q ∷ []) rest others f g e = absurd (apart e refl)
same_contents [] (q ∷ q' ∷ qs) rest others f g e = absurd (apart e refl)
same_contents (p ∷ []) [] rest others f g e = absurd (apart e refl)
same_contents (p ∷ []) (q ∷ q' ∷ qs) rest others f g e = absurd (apart e refl)
same_contents (p ∷ p' ∷ ps) [] rest others f g e = absurd (apart e refl)
same_contents (p ∷ p' ∷ ps) (q ∷ []) rest others f g e = absurd (apart e refl)

pub unique-contents : IsUnique contents_spelled ContentsFit
unique-contents = record { one = same_contents }

pub unique-several : IsUnique (list_spelled part_spelled) SeveralFit
unique-several =
    record { one = λ v w rest others f g e. (unique-list part_limit unique-part).one v w rest others f.1 g.1 e }

pub unique-need : IsUnique need_spelled NeedFits
unique-need =
    unique-by (λ n. (n.name, n.req)) (λ t. record { name = t.0; req = t.1 }) (λ n. refl)
    (unique-pair (unique-text {P = IsName}) (unique-text {P = IsReq}))

pub unique-extent : IsUnique extent_spelled ExtentFits
unique-extent =
    unique-by (λ e. (e.place, (e.side, e.length))) (λ t. record { place = t.0; side = t.1.0; length = t.1.1 })
    (λ e. refl)
    (unique-pair (unique-u8 {P = HasBits 8}) (unique-pair (unique-u8 {P = HasBits 8}) unique-u32))

pub unique-cluster : IsUnique cluster_spelled ClusterFits
unique-cluster =
    unique-by (λ c. (c.name, (c.version, (c.needs, c.content))))
    (λ t. record { name = t.0; version = t.1.0; needs = t.1.1.0; content = t.1.1.1 }) (λ c. refl)
    (unique-pair (unique-text {P = IsName}) (unique-pair (unique-text {P = IsVersion})
    (unique-pair (unique-list need_limit unique-need) unique-extent)))

pub unique-change : IsUnique change_spelled ChangeFits
unique-change =
    unique-by (λ c. (c.transfer, (c.part.manifest, c.part.payload)))
    (λ t. record { transfer = t.0; part = record { manifest = t.1.0; payload = t.1.1 } }) (λ c. refl)
    (unique-pair unique-u32 (unique-pair unique-manifest unique-extent))

-- as the code keeps several parts
pub unique-several_contents : IsUnique {T = Several} (λ s. list_spelled part_spelled s.contents)
    (λ s. SeveralFit s.contents)
unique-several_contents = unique-by (λ s. s.contents) (λ c. record { contents = c }) (λ s. refl) unique-several
