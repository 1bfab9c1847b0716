-- What a reader answers.
use Rattle.std.specs.Prelude.{◌≡◌, IfErr, IfOk, Option, Some, None, Result}
use Rattle.manifest.specs.declared.read.ManifestError.{ManifestError}
use Rattle.manifest.specs.declared.read.ManifestError.TheVariants.{InvalidManifest}

-- what is answered is what is there, unless memory was wanting
abbrev pub IsRead : {A : Type 0} → Result A ManifestError → Option A → Type 0
IsRead result there =
    IfOk result (λ a. there ≡ Some a) × IfErr result (λ e. e ≡ InvalidManifest → there ≡ None)
