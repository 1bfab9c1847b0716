-- What a package is: whole bytes, and the parts that they belong to.
use Rattle.std.specs.Prelude.{◌≡◌, ℕ, ◌<◌, ◌≤◌, ◌^◌, true, ◌==◌, if◌then◌else◌, List, [], ◌∷◌, ◌++◌, length, map, sum_by, get_or, Some}
use Rattle.std.specs.List.{AllByRecursion, flat_map}
use Rattle.sha2.specs.Sha256.{sha256}
use Rattle.wire.specs.Fields.{bytes_field}
use Rattle.manifest.specs.Form.{manifest_of}
use Rattle.manifest.specs.Text.{manifest_text}
use Rattle.ucm_base.specs.Limits.{part_limit}
use Rattle.ucm_base.specs.Names.{all_differ}
use Rattle.ucm_base.specs.Parts.{Bytes, cluster_of}
use Rattle.ucm_base.specs.declared.parts.Action.TheVariants.{Remove}
use Rattle.ucm_base.specs.declared.parts.Part.{Part}
use Rattle.package_reader.specs.Fields.{mark_of_more, mark_of_one, texts_limit}

-- a part, and the text that is its manifest's
pub record Written : Type 0 where
  pub text : List ℕ
  pub part : Part Bytes

-- the text and the payload, each behind its length
abbrev pub fields : Written → List ℕ
fields w = bytes_field w.text ++ bytes_field w.part.payload

-- the mark, and how many parts there are where they are more than one
abbrev pub front : ℕ → List ℕ
front count = if count == 1 then mark_of_one else mark_of_more ++ count ∷ []

-- bytes, and the digest of them all
abbrev pub sealed : List ℕ → List ℕ
sealed bytes = bytes ++ sha256 bytes

abbrev pub spelling : List Written → List ℕ
spelling parts = sealed (front (length parts) ++ flat_map fields parts)

-- the text is the manifest's, and the payload has its digest
pub record IsWritten (w : Written) : Type 0 where
  pub manifest : manifest_of w.text ≡ Some w.part.manifest
  pub fits : length w.part.payload < 2 ^ 32
  pub digest : sha256 w.part.payload ≡ w.part.manifest.sha256
  pub removal : w.part.manifest.action ≡ Remove → w.part.payload ≡ []

-- the manifest's canonical text is read as it, and the payload's length has four bytes
abbrev pub HasText : Part Bytes → Type 0
HasText part = (manifest_of (manifest_text part.manifest) ≡ Some part.manifest) × (length part.payload < 2 ^ 32)

-- the bytes are the package of these parts: one to sixteen of them, of different clusters
pub record IsPackage (bytes : List ℕ) (parts : List (Part Bytes)) : Type 0 where
  pub written : List Written
  pub are : parts ≡ map (λ w. w.part) written
  pub some : 1 ≤ length written
  pub few : length written ≤ part_limit
  pub differ : all_differ (map cluster_of parts) ≡ true
  pub spelled : bytes ≡ spelling written
  pub texts : sum_by (λ w. length w.text) written ≤ texts_limit (length written)
  pub each : AllByRecursion IsWritten written

-- each of the numbers is a byte
abbrev pub AreBytes : List ℕ → Type 0
AreBytes bytes = (i : ℕ) → get_or bytes i 0 < 256
