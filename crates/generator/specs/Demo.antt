-- The script of a number: one campaign, which brings sixteen packages to eight nodes.
use Rattle.std.specs.Prelude.{ℕ, ◌+◌, ◌*◌, ◌/◌, ◌%◌, List, [], ◌∷◌, ◌++◌, codes, map, replicate}
use Rattle.std.specs.Fmt.{decimal}
use Rattle.std.specs.List.{range_with_len}
use Rattle.sha2.specs.Sha256.{sha256}
use Rattle.ucm_base.specs.Parts.{Bytes}
use Rattle.ucm_base.specs.declared.parts.Action.TheVariants.{Install}
use Rattle.ucm_base.specs.declared.parts.Manifest.{Manifest}
use Rattle.ucm_base.specs.declared.parts.Part.{Part}
use Rattle.package_reader.specs.Packed.{PackedOf}
use Rattle.package_reader.specs.Printing.{package_text}
use Rattle.vehicle_package.specs.declared.vehicle.Step.{Step}
use Rattle.run_script.specs.Above.{no_lines}
use Rattle.run_script.specs.Scripts.{Said}

-- the sixteen packages are numbered from 0
abbrev pub numbers : List ℕ
numbers = range_with_len 0 16

-- a package's number is in its cluster's name
abbrev pub name_of : ℕ → List ℕ
name_of i = codes "c" ++ decimal i

-- and in its version
abbrev pub version_of : ℕ → List ℕ
version_of i = codes "1.0." ++ decimal i

-- 100,000 to 499,999 bytes
abbrev pub payload_size : ℕ → ℕ → ℕ
payload_size number i = 100000 + (number * 31337 + i * 25000) % 400000

-- each byte is the package's number
abbrev pub payload_of : ℕ → ℕ → Bytes
payload_of number i = replicate (payload_size number i) i

-- a package installs its cluster, and needs none
abbrev pub manifest_of : ℕ → List ℕ → Manifest
manifest_of i digest =
    record { action = Install; name = name_of i; version = version_of i; needs = []; sha256 = digest }

-- its one part
abbrev pub part_of : ℕ → ℕ → Part Bytes
part_of number i =
    record { manifest = manifest_of i (sha256 (payload_of number i)); payload = payload_of number i }

abbrev pub package_of : ℕ → ℕ → PackedOf
package_of number i =
    record { bytes = package_text (part_of number i ∷ []); parts = part_of number i ∷ [] }

-- packages 0 and 1 go to node 1, 2 and 3 to node 2, and so on
abbrev pub step_of : ℕ → Step
step_of i = record { node = 1 + i / 2; «package» = i }

-- campaign 1, and a step for each package; nothing is installed before, and no other line is there
abbrev pub demo_of : ℕ → Said
demo_of number = record {
  campaign = 1;
  lines = no_lines;
  vehicle = record { steps = map step_of numbers; packages = map (package_of number) numbers };
  attached = [];
}
