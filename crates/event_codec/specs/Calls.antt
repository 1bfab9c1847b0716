-- Calls, as they are spelled: the number of the call, and its arguments. A block is its length alone.
use Rattle.std.specs.Prelude.{ℕ, List, ⊤}
use Rattle.wire.specs.Fields.{u8_field, u32_field, u64_field}
use Rattle.pm_types.specs.declared.calls.CallName.{CallName}
use Rattle.pm_types.specs.declared.calls.CallName.TheVariants as name
use Rattle.event_codec.specs.declared.calls.StoredCall.{StoredCall}
use Rattle.event_codec.specs.declared.calls.StoredCall.TheVariants.{Sync, TransferStart, TransferData, TransferExit, DeleteTransfer, ProcessSwPackage, Activate, Finish, Rollback, RevertProcessedSwPackages, Cancel}
use Rattle.event_codec.specs.Spelling.{◌⌢◌, ◌&◌, HasBits}

abbrev pub call_spelled : StoredCall → List ℕ
call_spelled Sync = u8_field 0
call_spelled (TransferStart size) = u8_field 1 ⌢ u64_field size
call_spelled (TransferData id counter length) = u8_field 2 ⌢ u32_field id ⌢ u64_field counter ⌢ u32_field length
call_spelled (TransferExit id) = u8_field 3 ⌢ u32_field id
call_spelled (DeleteTransfer id) = u8_field 4 ⌢ u32_field id
call_spelled (ProcessSwPackage id tag) = u8_field 5 ⌢ u32_field id ⌢ u32_field tag
call_spelled Activate = u8_field 6
call_spelled Finish = u8_field 7
call_spelled Rollback = u8_field 8
call_spelled RevertProcessedSwPackages = u8_field 9
call_spelled (Cancel id) = u8_field 10 ⌢ u32_field id

abbrev pub CallFits : StoredCall → Type 0
CallFits (TransferStart size) = HasBits 64 size
CallFits (TransferData id counter length) = HasBits 32 id & HasBits 64 counter & HasBits 32 length
CallFits (TransferExit id) = HasBits 32 id
CallFits (DeleteTransfer id) = HasBits 32 id
CallFits (ProcessSwPackage id tag) = HasBits 32 id & HasBits 32 tag
CallFits (Cancel id) = HasBits 32 id
CallFits _ = ⊤

-- the number of a call, where it stands without arguments
abbrev pub call_name_code : CallName → ℕ
call_name_code name.Sync = 0
call_name_code name.TransferStart = 1
call_name_code name.TransferData = 2
call_name_code name.TransferExit = 3
call_name_code name.DeleteTransfer = 4
call_name_code name.ProcessSwPackage = 5
call_name_code name.Activate = 6
call_name_code name.Finish = 7
call_name_code name.Rollback = 8
call_name_code name.RevertProcessedSwPackages = 9
call_name_code name.Cancel = 10

abbrev pub call_name_spelled : CallName → List ℕ
call_name_spelled call = u8_field (call_name_code call)
