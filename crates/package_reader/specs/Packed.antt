-- Packages with their bytes.
use Rattle.std.specs.Prelude.{List}
use Rattle.ucm_base.specs.Parts.{Bytes}
use Rattle.ucm_base.specs.declared.parts.Part.{Part}

-- the bytes of a package, and its parts
pub record PackedOf : Type 0 where
  pub bytes : Bytes
  pub parts : List (Part Bytes)
