-- How a node reads the bytes of a transfer.
use Rattle.std.specs.Prelude.{List, Result, Ok, Err}
use Rattle.ucm_base.specs.Parts.{Bytes}
use Rattle.ucm_base.specs.declared.parts.Part.{Part}
use Rattle.pm_types.specs.declared.replies.Refusal.{Refusal}
use Rattle.pm_types.specs.declared.replies.Refusal.TheVariants.{PackageInconsistent, InvalidManifest}
use Rattle.pm_types.specs.Histories.{Reading}
use Rattle.pm_types.specs.Transfers.{Verdict}
use Rattle.package_reader.specs.declared.fault.PackageError.{PackageError}
use Rattle.package_reader.specs.declared.fault.PackageError.TheVariants.{PackageInconsistent as Inconsistent, InvalidManifest as NoManifest, OutOfMemory}
use Rattle.package_reader.specs.Reading.{reading}

-- what the node answers where the bytes are no package
abbrev pub refusal_of : PackageError → Refusal
refusal_of (Inconsistent place) = PackageInconsistent place
refusal_of NoManifest = InvalidManifest
refusal_of OutOfMemory = InvalidManifest

abbrev pub verdict_of : Result (List (Part Bytes)) PackageError → Verdict
verdict_of (Ok parts) = Ok parts
verdict_of (Err fault) = Err (refusal_of fault)

-- bytes are read by the grammar of software packages
abbrev pub package_reading : Reading
package_reading bytes = verdict_of (reading bytes)
