-- Tables of refusals.
use Rattle.std.specs.Prelude.{ℕ, Bool, if◌then◌else◌, List, [], ◌∷◌, Option, Some, None}
use Rattle.pm_types.specs.declared.replies.Refusal.{Refusal}
use Rattle.pm_types.specs.declared.replies.Refusal.TheVariants.{InsufficientMemory, IncorrectSize, InvalidTransferId, OperationNotPermitted, IncorrectBlock, InsufficientData, PackageInconsistent, InvalidManifest, ServiceBusy, OldVersion, MissingDependencies, ActionNotApplicable, TooManyClusters, ClusterAlreadyChanged}

-- the first refusal of a table whose test holds
abbrev pub first_refusal : List (Bool × Refusal) → Option Refusal
first_refusal [] = None
first_refusal (row ∷ rows) = if row.0 then Some row.1 else first_refusal rows

abbrev pub refusal_code : Refusal → ℕ
refusal_code InsufficientMemory = 1
refusal_code IncorrectSize = 2
refusal_code InvalidTransferId = 3
refusal_code OperationNotPermitted = 4
refusal_code IncorrectBlock = 5
refusal_code InsufficientData = 6
refusal_code (PackageInconsistent place) = 7
refusal_code InvalidManifest = 8
refusal_code ServiceBusy = 9
refusal_code OldVersion = 10
refusal_code (MissingDependencies cluster needed req) = 11
refusal_code ActionNotApplicable = 12
refusal_code TooManyClusters = 13
refusal_code ClusterAlreadyChanged = 14
