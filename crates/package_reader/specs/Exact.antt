-- What a reader answers.
use Rattle.std.specs.Prelude.{◌≡◌, Result, Ok, Err}
use Rattle.package_reader.specs.declared.fault.PackageError.{PackageError}

-- what is answered, seen so, is the reading
abbrev pub IsExactly : {X Y : Type 0} → (X → Y) → Result X PackageError → Result Y PackageError → Type 0
IsExactly view (Ok x) reading = reading ≡ Ok (view x)
IsExactly view (Err e) reading = reading ≡ Err e
