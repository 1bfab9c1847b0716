-- Calls and queries, as words name them.
use Rattle.std.specs.Prelude.{ℕ, if◌then◌else◌, List, [], ◌∷◌, codes, Result, Ok, Err}
use Rattle.std.specs.Str.{bytes_eq}
use Rattle.pm_types.specs.declared.calls.Call.{Call}
use Rattle.pm_types.specs.declared.calls.Call.TheVariants.{Sync as CallSync, TransferStart as CallStart, TransferData as CallData, TransferExit as CallExit, DeleteTransfer as CallDelete, ProcessSwPackage as CallProcess, Activate as CallActivate, Finish as CallFinish, Rollback as CallRollback, RevertProcessedSwPackages as CallRevert, Cancel as CallCancel}
use Rattle.pm_types.specs.declared.queries.Query.{Query}
use Rattle.pm_types.specs.declared.queries.Query.TheVariants.{CurrentStatus, GetSwClusterInfo, GetSwClusterChangeInfo, GetSwPackages, GetSwProcessProgress, GetHistory}
use Rattle.scenario.specs.declared.why.Why.{Why}
use Rattle.scenario.specs.declared.why.Why.TheVariants.{Form, Value}
use Rattle.scenario.specs.declared.events.ScriptCall.{ScriptCall}
use Rattle.scenario.specs.declared.events.ScriptCall.TheVariants.{Sync, TransferStart, TransferData, TransferExit, DeleteTransfer, ProcessSwPackage, Activate, Finish, Rollback, RevertProcessedSwPackages, Cancel}
use Rattle.scenario.specs.Readings.{◌>>=◌, given}
use Rattle.scenario.specs.Attached.{Places}
use Rattle.scenario.specs.Words.{number_in, small_in}
use Rattle.scenario.specs.Blocks.{size_in, block_in, bytes_meant}

-- the call that a script's call stands for, among the attached bytes
abbrev pub call_meant : List ℕ → ScriptCall → Call
call_meant attached Sync = CallSync
call_meant attached (TransferStart size) = CallStart size
call_meant attached (TransferData id counter block) = CallData id counter (bytes_meant attached block)
call_meant attached (TransferExit id) = CallExit id
call_meant attached (DeleteTransfer id) = CallDelete id
call_meant attached (ProcessSwPackage id tag) = CallProcess id tag
call_meant attached Activate = CallActivate
call_meant attached Finish = CallFinish
call_meant attached Rollback = CallRollback
call_meant attached RevertProcessedSwPackages = CallRevert
call_meant attached (Cancel id) = CallCancel id

abbrev pub call_alone : List ℕ → Result ScriptCall Why
call_alone name =
    if bytes_eq name (codes "sync") then Ok Sync
    else if bytes_eq name (codes "activate") then Ok Activate
    else if bytes_eq name (codes "finish") then Ok Finish
    else if bytes_eq name (codes "rollback") then Ok Rollback
    else if bytes_eq name (codes "revert") then Ok RevertProcessedSwPackages
    else Err Value

abbrev pub call_with : Places → List ℕ → List ℕ → Result ScriptCall Why
call_with places name word =
    if bytes_eq name (codes "start") then (size_in places word >>= λ size. Ok (TransferStart size))
    else if bytes_eq name (codes "exit") then (small_in word >>= λ id. Ok (TransferExit id))
    else if bytes_eq name (codes "delete") then (small_in word >>= λ id. Ok (DeleteTransfer id))
    else if bytes_eq name (codes "cancel") then (small_in word >>= λ id. Ok (Cancel id))
    else Err Value

abbrev pub process_call : List ℕ → List ℕ → List ℕ → Result ScriptCall Why
process_call name id tag = do
  _ ← given (bytes_eq name (codes "process")) name Value
  i ← small_in id
  t ← small_in tag
  Ok (ProcessSwPackage i t)

abbrev pub data_call : Places → List ℕ → List ℕ → List ℕ → List ℕ → Result ScriptCall Why
data_call places name id counter block = do
  _ ← given (bytes_eq name (codes "data")) name Value
  i ← small_in id
  n ← number_in counter
  b ← block_in places block
  Ok (TransferData i n b)

-- the words of a call: no form has none, or more than four
abbrev pub call_in : Places → List (List ℕ) → Result ScriptCall Why
call_in places (name ∷ []) = call_alone name
call_in places (name ∷ word ∷ []) = call_with places name word
call_in places (name ∷ id ∷ tag ∷ []) = process_call name id tag
call_in places (name ∷ id ∷ counter ∷ block ∷ []) = data_call places name id counter block
call_in places _ = Err Form

abbrev pub query_alone : List ℕ → Result Query Why
query_alone name =
    if bytes_eq name (codes "status") then Ok CurrentStatus
    else if bytes_eq name (codes "clusters") then Ok GetSwClusterInfo
    else if bytes_eq name (codes "changes") then Ok GetSwClusterChangeInfo
    else if bytes_eq name (codes "packages") then Ok GetSwPackages
    else Err Value

abbrev pub progress_query : List ℕ → List ℕ → Result Query Why
progress_query name id = do
  _ ← given (bytes_eq name (codes "progress")) name Value
  i ← small_in id
  Ok (GetSwProcessProgress i)

abbrev pub history_query : List ℕ → List ℕ → List ℕ → Result Query Why
history_query name ge lt = do
  _ ← given (bytes_eq name (codes "history")) name Value
  g ← number_in ge
  l ← number_in lt
  Ok (GetHistory g l)

-- the words of a query: no form has none, or more than three
abbrev pub query_in : List (List ℕ) → Result Query Why
query_in (name ∷ []) = query_alone name
query_in (name ∷ id ∷ []) = progress_query name id
query_in (name ∷ ge ∷ lt ∷ []) = history_query name ge lt
query_in _ = Err Form
