-- What bytes are a package of, or the first refusal.
use Rattle.std.specs.Prelude.{ℕ, nat_le, nat_lt, Bool, true, false, not, ◌&&◌, ◌||◌, if◌then◌else◌, List, [], ◌∷◌, length, map, find, Option, Some, None, option_map, ok_or, Result, Ok, Err}
use Rattle.std.specs.Option.{option_map_or}
use Rattle.std.specs.Str.{bytes_eq}
use Rattle.sha2.specs.Sha256.{sha256}
use Rattle.manifest.specs.Form.{manifest_of}
use Rattle.manifest.specs.Trees.{all_of}
use Rattle.ucm_base.specs.Limits.{part_limit}
use Rattle.ucm_base.specs.Names.{all_differ}
use Rattle.ucm_base.specs.Parts.{Bytes, cluster_of}
use Rattle.ucm_base.specs.declared.parts.Action.{Action}
use Rattle.ucm_base.specs.declared.parts.Action.TheVariants.{Remove}
use Rattle.ucm_base.specs.declared.parts.Manifest.{Manifest}
use Rattle.ucm_base.specs.declared.parts.Part.{Part}
use Rattle.package_reader.specs.Fields.{◌>>=◌, bytes_of, fields_of}
use Rattle.package_reader.specs.declared.fault.PackageError.{PackageError}
use Rattle.package_reader.specs.declared.fault.PackageError.TheVariants.{PackageInconsistent, InvalidManifest}
use Rattle.package_reader.specs.declared.span.PartPlace.{PartPlace}
use Rattle.package_reader.specs.declared.span.Span.{Span}

abbrev pub is_remove : Action → Bool
is_remove Remove = true
is_remove _ = false

-- the payload is the manifest's: its digest is, and a removal has none
abbrev pub is_payload_of : Manifest → Bytes → Bool
is_payload_of manifest payload =
    bytes_eq (sha256 payload) manifest.sha256 && (not (is_remove manifest.action) || nat_lt (length payload) 1)

abbrev pub belongs : Part Bytes → Bool
belongs part = is_payload_of part.manifest part.payload

-- one to sixteen parts, of different clusters
abbrev pub are_parts : {C : Type 0} → List (Part C) → Bool
are_parts parts = nat_le 1 (length parts) && nat_le (length parts) part_limit && all_differ (map cluster_of parts)

-- the part at a place, where its text is a manifest
abbrev pub part_in : Bytes → PartPlace → Option (Part Span)
part_in bytes place =
    option_map (λ m. record { manifest = m; payload = place.payload }) (manifest_of (bytes_of bytes place.text))

-- the parts, where each text is a manifest and no name stands twice
abbrev pub manifests_in : Bytes → List PartPlace → Result (List (Part Span)) PackageError
manifests_in bytes places = ok_or (all_of (part_in bytes) places) InvalidManifest >>= λ parts.
    if all_differ (map cluster_of parts) then Ok parts else Err InvalidManifest

abbrev pub has_its_payload : Bytes → Part Span → Bool
has_its_payload bytes part = is_payload_of part.manifest (bytes_of bytes part.payload)

-- each payload is its manifest's, or the first that isn't
abbrev pub payloads_in : Bytes → List (Part Span) → Result (Unit {0}) PackageError
payloads_in bytes parts =
    option_map_or (λ part. Err (PackageInconsistent part.payload.at))
    (find (λ part. not (has_its_payload bytes part)) parts) (Ok tt)

-- the parts of a package, with where their payloads lie
unfoldable pub contents_of : Bytes → Result (List (Part Span)) PackageError
contents_of bytes = do
  places ← fields_of bytes
  parts ← manifests_in bytes places
  _ ← payloads_in bytes parts
  Ok parts

-- the same part with its payload
abbrev pub with_payload : Bytes → Part Span → Part Bytes
with_payload bytes part = record { manifest = part.manifest; payload = bytes_of bytes part.payload }

-- what the bytes are a package of
unfoldable pub reading : Bytes → Result (List (Part Bytes)) PackageError
reading bytes = contents_of bytes >>= λ parts. Ok (map (with_payload bytes) parts)
