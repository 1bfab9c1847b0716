-- What is printed of parts.
use Rattle.std.specs.Prelude.{ℕ, nat_lt, Bool, not, ◌||◌, if◌then◌else◌, List, length, map, sum_by, Result, Ok, Err}
use Rattle.std.specs.List.{list_all}
use Rattle.manifest.specs.Text.{manifest_text}
use Rattle.ucm_base.specs.Limits.{package_limit}
use Rattle.ucm_base.specs.Parts.{Bytes}
use Rattle.ucm_base.specs.declared.parts.Part.{Part}
use Rattle.package_reader.specs.Fields.{texts_limit}
use Rattle.package_reader.specs.Reading.{are_parts, belongs}
use Rattle.package_reader.specs.Spelling.{Written, spelling}
use Rattle.package_reader.specs.declared.print.PrintError.{PrintError}
use Rattle.package_reader.specs.declared.print.PrintError.TheVariants.{BadParts, TooLarge, WrongDigest}

-- a part with its manifest's canonical text
abbrev pub canonical : Part Bytes → Written
canonical part = record { text = manifest_text part.manifest; part = part }

-- the bytes of a package
unfoldable pub package_text : List (Part Bytes) → List ℕ
package_text parts = spelling (map canonical parts)

-- the bytes of the manifests' texts together
abbrev pub texts_size : List (Part Bytes) → ℕ
texts_size parts = sum_by (λ part. length (manifest_text part.manifest)) parts

-- the bytes of the payloads together
abbrev pub payloads_size : List (Part Bytes) → ℕ
payloads_size parts = sum_by (λ part. length part.payload) parts

-- each payload is its manifest's
abbrev pub all_belong : List (Part Bytes) → Bool
all_belong parts = list_all belongs parts

-- the texts or the whole pass their limit
unfoldable pub is_too_large : List (Part Bytes) → Bool
is_too_large parts =
    nat_lt (texts_limit (length parts)) (texts_size parts) || nat_lt package_limit (length (package_text parts))

-- the first refusal, or the bytes
unfoldable pub printing : List (Part Bytes) → Result (List ℕ) PrintError
printing parts =
    if not (are_parts parts) then Err BadParts
    else if is_too_large parts then Err TooLarge
    else if not (all_belong parts) then Err WrongDigest
    else Ok (package_text parts)
