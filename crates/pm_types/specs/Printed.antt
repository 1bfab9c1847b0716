-- What is printed of calls, phases and units, and of what queries show.
use Rattle.std.specs.Prelude.{ℕ, List, ◌++◌, codes}
use Rattle.std.specs.Fmt.{decimal}
use Rattle.ucm_base.specs.Printed.{action_text}
use Rattle.ucm_base.specs.Text.{call_no_text}
use Rattle.pm_types.specs.declared.calls.CallName.{CallName}
use Rattle.pm_types.specs.declared.calls.CallName.TheVariants.{Sync, TransferStart, TransferData, TransferExit, DeleteTransfer, ProcessSwPackage, Activate, Finish, Rollback, RevertProcessedSwPackages, Cancel}
use Rattle.pm_types.specs.declared.history.Happened.{Happened}
use Rattle.pm_types.specs.declared.history.Happened.TheVariants.{Numbered, Unit as UnitAfter}
use Rattle.pm_types.specs.declared.queries.ChangeInfo.{ChangeInfo}
use Rattle.pm_types.specs.declared.queries.ClusterInfo.{ClusterInfo}
use Rattle.pm_types.specs.declared.queries.PackageInfo.{PackageInfo}
use Rattle.pm_types.specs.declared.replies.Worked.{Worked}
use Rattle.pm_types.specs.declared.replies.Worked.TheVariants.{Unit, Nothing}
use Rattle.pm_types.specs.declared.status.Phase.{Phase}
use Rattle.pm_types.specs.declared.status.Phase.TheVariants.{Transferring, Transferred, Processing, Processed}
use Rattle.pm_types.specs.Text.{status_text}

abbrev pub call_name_text : CallName → List ℕ
call_name_text Sync = codes "Sync"
call_name_text TransferStart = codes "TransferStart"
call_name_text TransferData = codes "TransferData"
call_name_text TransferExit = codes "TransferExit"
call_name_text DeleteTransfer = codes "DeleteTransfer"
call_name_text ProcessSwPackage = codes "ProcessSwPackage"
call_name_text Activate = codes "Activate"
call_name_text Finish = codes "Finish"
call_name_text Rollback = codes "Rollback"
call_name_text RevertProcessedSwPackages = codes "RevertProcessedSwPackages"
call_name_text Cancel = codes "Cancel"

abbrev pub phase_text : Phase → List ℕ
phase_text Transferring = codes "Transferring"
phase_text Transferred = codes "Transferred"
phase_text Processing = codes "Processing"
phase_text Processed = codes "Processed"

-- what became of a request for one unit
abbrev pub worked_text : Worked → List ℕ
worked_text (Unit passed after) = codes "Worked " ++ status_text after
worked_text (Nothing status) = codes "Nothing " ++ status_text status

-- a running cluster's name and version
abbrev pub cluster_text : ClusterInfo → List ℕ
cluster_text c = c.name ++ codes "@" ++ c.version

-- what is planned of a cluster
abbrev pub change_text : ChangeInfo → List ℕ
change_text c = c.name ++ codes ":" ++ action_text c.action ++ codes ":" ++ c.version

-- how far a transfer is
abbrev pub package_text : PackageInfo → List ℕ
package_text p =
    decimal p.id ++ codes ":" ++ phase_text p.phase ++ codes ":" ++ decimal p.received ++ codes "/" ++ decimal p.size

-- a call with its refusal's number, or the status after a unit
abbrev pub happened_text : Happened → List ℕ
happened_text (Numbered client call_no call refusal) =
    decimal client ++ codes "/" ++ call_no_text call_no ++ codes "/" ++ call_name_text call ++ codes "/"
    ++ decimal refusal
happened_text (UnitAfter status) = codes "unit/" ++ status_text status
