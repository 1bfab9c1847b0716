-- What a record makes of a stored state: it goes by the reply that the record has, and nothing is judged again.
use Rattle.std.specs.Prelude.{ℕ, Bool, [], replicate, option_map, option_and_then, Option, Some}
use Rattle.std.specs.Option.{option_map_or}
use Rattle.pm_types.specs.declared.calls.Call.{Call}
use Rattle.pm_types.specs.declared.calls.Call.TheVariants as calls
use Rattle.pm_types.specs.declared.clusters.Extent.{Extent}
use Rattle.pm_types.specs.declared.history.Happened.TheVariants.{Unit as UnitAfter}
use Rattle.pm_types.specs.declared.replies.Reply.TheVariants.{Done}
use Rattle.pm_types.specs.declared.state.StoredTransfer.{StoredTransfer}
use Rattle.pm_types.specs.Clusters.{stored_units}
use Rattle.pm_types.specs.NodeState.{SessionOf}
use Rattle.pm_types.specs.Steps.{execute, with_entry}
use Rattle.pm_types.specs.Stored.{State}
use Rattle.pm_types.specs.Work.{process, work_on}
use Rattle.transfer_blocks.specs.Table.{stored_of, with_slots}
use Rattle.node_core.specs.Places.{extents_in}
use Rattle.node_core.specs.Units.{changes_to}
use Rattle.event_codec.specs.declared.calls.StoredCall.{StoredCall}
use Rattle.event_codec.specs.declared.calls.StoredCall.TheVariants.{Sync, TransferStart, TransferData, TransferExit, DeleteTransfer, ProcessSwPackage, Activate, Finish, Rollback, RevertProcessedSwPackages, Cancel}
use Rattle.event_codec.specs.declared.records.Record.{Record}
use Rattle.event_codec.specs.declared.records.Record.TheVariants.{Called, Exited, Worked}

-- the call, with zeros for the bytes of its block: a stored state keeps only how many there were
abbrev pub call_of : StoredCall → Call
call_of Sync = calls.Sync
call_of (TransferStart size) = calls.TransferStart size
call_of (TransferData id counter length) = calls.TransferData id counter (replicate length 0)
call_of (TransferExit id) = calls.TransferExit id
call_of (DeleteTransfer id) = calls.DeleteTransfer id
call_of (ProcessSwPackage id tag) = calls.ProcessSwPackage id tag
call_of Activate = calls.Activate
call_of Finish = calls.Finish
call_of Rollback = calls.Rollback
call_of RevertProcessedSwPackages = calls.RevertProcessedSwPackages
call_of (Cancel id) = calls.Cancel id

-- one unit more of this transfer, whose payloads go where they are planned to
abbrev pub unit_of_transfer : State → SessionOf Extent → ℕ → StoredTransfer → State
unit_of_transfer s x id t =
    process (with_slots s.transfers []) (stored_units t.contents) (changes_to id t.contents (extents_in s t)) s x id

-- the state after one unit of the package of this id
abbrev pub processed : State → SessionOf Extent → ℕ → State
processed s x id = option_map_or (unit_of_transfer s x id) (stored_of s.transfers x.owner id) s

-- the state after one unit of work, where there is one to do
abbrev pub unit_of : State → Bool → Option State
unit_of s passed =
    option_and_then (λ x. work_on (with_slots s.transfers []) (processed s x) s x passed s.status) s.session

-- the state after a record; none where it tells of a unit and there is none to do
abbrev pub effect : State → Record → Option State
effect s (Called client call_no call reply) =
    Some (execute (with_slots s.transfers []) s client call_no (call_of call) reply)
effect s (Exited client call_no id parts) =
    Some (execute (with_slots s.transfers parts) s client call_no (calls.TransferExit id) Done)
effect s (Worked passed after) = option_map (λ t. with_entry (UnitAfter t.status) t) (unit_of s passed)
