-- No spelling of a call begins another.
use Rattle.std.proofs.Common.{◌≡◌, ℕ, List, [], ◌∷◌, ◌++◌, get_or, refl, ap}
use Rattle.pm_types.specs.declared.calls.CallName.{CallName}
use Rattle.pm_types.specs.declared.calls.CallName.TheVariants as name
use Rattle.event_codec.specs.declared.calls.StoredCall.{StoredCall}
use Rattle.event_codec.specs.declared.calls.StoredCall.TheVariants.{Sync, TransferStart, TransferData, TransferExit, DeleteTransfer, ProcessSwPackage, Activate, Finish, Rollback, RevertProcessedSwPackages, Cancel}
use Rattle.event_codec.specs.Spelling.{Any, IsUnique}
use Rattle.event_codec.specs.Calls.{call_spelled, CallFits, call_name_code, call_name_spelled}
use Rattle.event_codec.specs.Unique.{parted, apart, unique-u32, unique-u64, unique-code, unique-pair}

same_calls : (v w : StoredCall) (rest others : List ℕ) → CallFits v → CallFits w
    → call_spelled v ++ rest ≡ call_spelled w ++ others
    → (v ≡ w) × (rest ≡ others)
same_calls (TransferStart a) (TransferStart b) rest others f g e =
    let same = unique-u64.one a b rest others f g (cc) in (ap TransferStart same.0, same.1)
same_calls (TransferData a b c) (TransferData x y z) rest others f g e =
    let same =
    (unique-pair unique-u32 (unique-pair unique-u64 unique-u32)).one (a, (b, c)) (x, (y, z)) rest others f g (cc) in
    ((λ i. let t = same.0 i in TransferData t.0 t.1.0 t.1.1), same.1)
same_calls (TransferExit a) (TransferExit b) rest others f g e =
    let same = unique-u32.one a b rest others f g (cc) in (ap TransferExit same.0, same.1)
same_calls (DeleteTransfer a) (DeleteTransfer b) rest others f g e =
    let same = unique-u32.one a b rest others f g (cc) in (ap DeleteTransfer same.0, same.1)
same_calls (ProcessSwPackage a b) (ProcessSwPackage x y) rest others f g e =
    let same = (unique-pair unique-u32 unique-u32).one (a, b) (x, y) rest others f g (cc) in
    ((λ i. let t = same.0 i in ProcessSwPackage t.0 t.1), same.1)
same_calls (Cancel a) (Cancel b) rest others f g e =
    let same = unique-u32.one a b rest others f g (cc) in (ap Cancel same.0, same.1)
same_calls Sync Sync rest others f g e = (refl, (parted e).1)
same_calls Activate Activate rest others f g e = (refl, (parted e).1)
same_calls Finish Finish rest others f g e = (refl, (parted e).1)
same_calls Rollback Rollback rest others f g e = (refl, (parted e).1)
same_calls RevertProcessedSwPackages RevertProcessedSwPackages rest others f g e = (refl, (parted e).1)
same_calls v w rest others f g e = absurd (apart e refl)

pub unique-call : IsUnique call_spelled CallFits
unique-call = record { one = same_calls }

pub names : List CallName
names =
    name.Sync ∷ name.TransferStart ∷ name.TransferData ∷ name.TransferExit ∷ name.DeleteTransfer ∷ name.ProcessSwPackage
    ∷ name.Activate ∷ name.Finish ∷ name.Rollback ∷ name.RevertProcessedSwPackages ∷ name.Cancel ∷ []

pub name_at : (call : CallName) → get_or names (call_name_code call) name.Sync ≡ call
unfolding names
name_at name.Sync = refl
name_at call = refl

pub unique-call_name : IsUnique call_name_spelled Any
unique-call_name = unique-code call_name_code (λ n. get_or names n name.Sync) name_at
