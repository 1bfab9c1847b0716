-- What is printed of a node's entries.
use Rattle.std.specs.Prelude.{ℕ, Bool, true, false, List, [], ◌∷◌, ◌++◌, length, codes}
use Rattle.std.specs.Fmt.{decimal}
use Rattle.hex.specs.Hex.{encode_lower}
use Rattle.sha2.specs.Sha256.{sha256}
use Rattle.ucm_base.specs.Text.{call_no_text}
use Rattle.pm_types.specs.declared.calls.Call.{Call}
use Rattle.pm_types.specs.declared.calls.Call.TheVariants.{Sync, TransferStart, TransferData, TransferExit, DeleteTransfer, ProcessSwPackage, Activate, Finish, Rollback, RevertProcessedSwPackages, Cancel}
use Rattle.pm_types.specs.declared.history.Entry.{Entry}
use Rattle.pm_types.specs.declared.history.Entry.TheVariants.{Numbered, Unit}
use Rattle.pm_types.specs.Printed.{call_name_text}
use Rattle.pm_types.specs.Steps.{name_of}
use Rattle.pm_types.specs.Text.{reply_text, status_text}

-- bytes in hexadecimal, or a dash where there are none
abbrev pub hex_or_dash : List ℕ → List ℕ
hex_or_dash [] = codes "-"
hex_or_dash (b ∷ bytes) = encode_lower (b ∷ bytes)

-- in a full report a block's bytes, else its length and its digest (SHA-256)
abbrev pub block_text : Bool → List ℕ → List ℕ
block_text true bytes = hex_or_dash bytes
block_text false bytes = decimal (length bytes) ++ codes ":" ++ encode_lower (sha256 bytes)

-- a call's arguments, each behind a blank
abbrev pub arguments_text : Bool → Call → List ℕ
arguments_text full Sync = []
arguments_text full (TransferStart size) = codes " " ++ decimal size
arguments_text full (TransferData id counter bytes) =
    codes " " ++ decimal id ++ codes " " ++ decimal counter ++ codes " " ++ block_text full bytes
arguments_text full (TransferExit id) = codes " " ++ decimal id
arguments_text full (DeleteTransfer id) = codes " " ++ decimal id
arguments_text full (ProcessSwPackage id tag) = codes " " ++ decimal id ++ codes " " ++ decimal tag
arguments_text full Activate = []
arguments_text full Finish = []
arguments_text full Rollback = []
arguments_text full RevertProcessedSwPackages = []
arguments_text full (Cancel id) = codes " " ++ decimal id

abbrev pub call_text : Bool → Call → List ℕ
call_text full call = call_name_text (name_of call) ++ arguments_text full call

-- whether a unit passed
abbrev pub verdict_text : Bool → List ℕ
verdict_text true = codes "pass"
verdict_text false = codes "fail"

-- a call with what it was answered, or a unit with the status after it
abbrev pub entry_text : Bool → Entry → List ℕ
entry_text full (Numbered client call_no call reply) =
    decimal client ++ codes " " ++ call_no_text call_no ++ codes " " ++ call_text full call ++ codes " -> "
    ++ reply_text reply
entry_text full (Unit passed after) = codes "unit " ++ verdict_text passed ++ codes " -> " ++ status_text after
