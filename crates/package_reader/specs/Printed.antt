-- What is printed of the fault of bytes that are no package.
use Rattle.std.specs.Prelude.{ℕ, List, ◌++◌, codes}
use Rattle.std.specs.Fmt.{decimal}
use Rattle.package_reader.specs.declared.fault.PackageError.{PackageError}
use Rattle.package_reader.specs.declared.fault.PackageError.TheVariants.{PackageInconsistent, InvalidManifest, OutOfMemory}

-- the fault's name, and its place where it has one
abbrev pub fault_text : PackageError → List ℕ
fault_text (PackageInconsistent place) = codes "PackageInconsistent " ++ decimal place
fault_text InvalidManifest = codes "InvalidManifest"
fault_text OutOfMemory = codes "OutOfMemory"
