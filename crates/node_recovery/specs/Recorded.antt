-- How what a node does is recorded.
use Rattle.std.specs.Prelude.{ℕ, List, length}
use Rattle.ucm_base.specs.declared.ids.CallNo.{CallNo}
use Rattle.ucm_base.specs.declared.parts.Part.{Part}
use Rattle.pm_types.specs.declared.calls.Call.{Call}
use Rattle.pm_types.specs.declared.calls.Call.TheVariants as calls
use Rattle.pm_types.specs.declared.replies.Reply.{Reply}
use Rattle.pm_types.specs.declared.replies.Reply.TheVariants.{Done}
use Rattle.transfer_blocks.specs.Table.{good_parts}
use Rattle.node_core.specs.Core.{Readied}
use Rattle.node_core.specs.Prepared.{verdict_in, verdict_kept}
use Rattle.event_codec.specs.declared.calls.StoredCall.{StoredCall}
use Rattle.event_codec.specs.declared.calls.StoredCall.TheVariants.{Sync, TransferStart, TransferData, TransferExit, DeleteTransfer, ProcessSwPackage, Activate, Finish, Rollback, RevertProcessedSwPackages, Cancel}
use Rattle.event_codec.specs.declared.records.Record.{Record}
use Rattle.event_codec.specs.declared.records.Record.TheVariants.{Called, Exited}

-- the call, with the length of its block in place of the block
abbrev pub stored_call : Call → StoredCall
stored_call calls.Sync = Sync
stored_call (calls.TransferStart size) = TransferStart size
stored_call (calls.TransferData id counter block) = TransferData id counter (length block)
stored_call (calls.TransferExit id) = TransferExit id
stored_call (calls.DeleteTransfer id) = DeleteTransfer id
stored_call (calls.ProcessSwPackage id tag) = ProcessSwPackage id tag
stored_call calls.Activate = Activate
stored_call calls.Finish = Finish
stored_call calls.Rollback = Rollback
stored_call calls.RevertProcessedSwPackages = RevertProcessedSwPackages
stored_call (calls.Cancel id) = Cancel id

-- the parts that an accepted exit brings: those of the verdict that is ready
abbrev pub parts_brought : Readied → List (Part ℕ)
parts_brought r = good_parts (verdict_in (verdict_kept r.prepared))

-- the record of an accepted call; an exit brings its parts
abbrev pub record_done : Readied → ℕ → CallNo → Call → Record
record_done r client call_no (calls.TransferExit id) = Exited client call_no id (parts_brought r)
record_done r client call_no call = Called client call_no (stored_call call) Done

-- the record of a newer call that was answered so
abbrev pub record_of : Readied → ℕ → CallNo → Call → Reply → Record
record_of r client call_no call Done = record_done r client call_no call
record_of r client call_no call reply = Called client call_no (stored_call call) reply
