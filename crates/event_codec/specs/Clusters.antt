-- Manifests, parts, clusters and changes, as they are spelled.
use Rattle.std.specs.Prelude.{◌≡◌, ℕ, ◌<◌, ◌≤◌, ◌^◌, List, [], ◌∷◌, length, Some}
use Rattle.wire.specs.Fields.{u8_field, u32_field, bytes_field}
use Rattle.manifest.specs.Form.{manifest_of}
use Rattle.manifest.specs.Text.{manifest_text}
use Rattle.ucm_base.specs.declared.parts.Manifest.{Manifest}
use Rattle.ucm_base.specs.declared.parts.Need.{Need}
use Rattle.ucm_base.specs.Limits.{need_limit, part_limit}
use Rattle.pm_types.specs.declared.clusters.Change.{Change}
use Rattle.pm_types.specs.declared.clusters.Cluster.{Cluster}
use Rattle.pm_types.specs.declared.clusters.Extent.{Extent}
use Rattle.ucm_base.specs.declared.parts.Part.{Part}
use Rattle.event_codec.specs.Spelling.{◌⌢◌, ◌&◌, HasBits, list_spelled, ListFits}
use Rattle.event_codec.specs.Texts.{text_spelled, IsName, IsReq, IsVersion}

-- a length of four bytes, and the canonical text
abbrev pub manifest_spelled : Manifest → List ℕ
manifest_spelled m = bytes_field (manifest_text m)

-- the canonical text reads as the manifest
abbrev pub ManifestFits : Manifest → Type 0
ManifestFits m = (manifest_of (manifest_text m) ≡ Some m) & (length (manifest_text m) < 2 ^ 32)

-- the manifest, and the payload's length
abbrev pub part_spelled : Part ℕ → List ℕ
part_spelled part = manifest_spelled part.manifest ⌢ u32_field part.payload

abbrev pub PartFits : Part ℕ → Type 0
PartFits part = ManifestFits part.manifest & HasBits 32 part.payload

-- 0; 1 and the part; or 2, a count and the parts
abbrev pub contents_spelled : List (Part ℕ) → List ℕ
contents_spelled [] = u8_field 0
contents_spelled (part ∷ []) = u8_field 1 ⌢ part_spelled part
contents_spelled parts = u8_field 2 ⌢ list_spelled part_spelled parts

abbrev pub ContentsFit : List (Part ℕ) → Type 0
ContentsFit parts = ListFits PartFits part_limit parts

-- two parts at least
abbrev pub SeveralFit : List (Part ℕ) → Type 0
SeveralFit parts = (2 ≤ length parts) & ContentsFit parts

abbrev pub need_spelled : Need → List ℕ
need_spelled need = text_spelled need.name ⌢ text_spelled need.req

abbrev pub NeedFits : Need → Type 0
NeedFits need = IsName need.name & IsReq need.req

-- place, side and length
abbrev pub extent_spelled : Extent → List ℕ
extent_spelled e = u8_field e.place ⌢ u8_field e.side ⌢ u32_field e.length

abbrev pub ExtentFits : Extent → Type 0
ExtentFits e = HasBits 8 e.place & HasBits 8 e.side & HasBits 32 e.length

abbrev pub cluster_spelled : Cluster Extent → List ℕ
cluster_spelled c =
    text_spelled c.name
    ⌢ text_spelled c.version
    ⌢ list_spelled need_spelled c.needs
    ⌢ extent_spelled c.content

abbrev pub ClusterFits : Cluster Extent → Type 0
ClusterFits c = IsName c.name & IsVersion c.version & ListFits NeedFits need_limit c.needs & ExtentFits c.content

-- the transfer's id, the manifest, and where the payload lies
abbrev pub change_spelled : Change Extent → List ℕ
change_spelled c = u32_field c.transfer ⌢ manifest_spelled c.part.manifest ⌢ extent_spelled c.part.payload

abbrev pub ChangeFits : Change Extent → Type 0
ChangeFits c = HasBits 32 c.transfer & ManifestFits c.part.manifest & ExtentFits c.part.payload
