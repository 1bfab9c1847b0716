-- The transfer table: what a call to send a package in blocks is refused by, and what it does.
-- It reads and writes the headers of transfers alone.
use Rattle.std.specs.Prelude.{ℕ, ◌+◌, Bool, not, ◌||◌, ◌&&◌, ◌==◌, nat_lt, nat_le, if◌then◌else◌, List, [], ◌∷◌, ◌++◌, length, map, filter, find, is_none, option_map, Option, Some, None, Result, Ok, Err}
use Rattle.std.specs.Option.{option_map_or}
use Rattle.ucm_base.specs.Limits.{transfer_limit, package_limit, block_limit, last_id}
use Rattle.ucm_base.specs.Parts.{Bytes}
use Rattle.ucm_base.specs.declared.parts.Part.{Part}
use Rattle.pm_types.specs.declared.status.Phase.{Phase}
use Rattle.pm_types.specs.declared.status.Phase.TheVariants.{Transferring, Transferred, Processing as BeingProcessed, Processed}
use Rattle.pm_types.specs.declared.replies.Refusal.{Refusal}
use Rattle.pm_types.specs.declared.replies.Refusal.TheVariants.{InsufficientMemory, IncorrectSize, InvalidTransferId, OperationNotPermitted, IncorrectBlock, InsufficientData}
use Rattle.pm_types.specs.declared.transfers.Header.{Header}
use Rattle.pm_types.specs.NodeState.{NodeOf, NodeState, Transfer, is_in, outlasts, some_passes}

-- what reading a transfer's bytes says: the parts of the package, or its refusal
abbrev pub Verdict : Type 0
Verdict = Result (List (Part Bytes)) Refusal

-- the client's transfer of this id
abbrev pub is_of : ℕ → ℕ → Header → Bool
is_of client id h = (h.id == id) && (h.client == client)

abbrev pub transfer_of : NodeState → ℕ → ℕ → Option Transfer
transfer_of s client id = find (λ t. is_of client id t.header) s.transfers

abbrev pub header_of : Option Transfer → Option Header
header_of found = option_map (λ t. t.header) found

-- what the transfer's bytes are a package of
abbrev pub parts_of : Option Transfer → List (Part Bytes)
parts_of found = option_map_or (λ t. t.parts) found []

-- the ids of the client's transfers, rising
abbrev pub ids_of : NodeState → ℕ → List ℕ
ids_of s client = map (λ t. t.header.id) (filter (λ t. t.header.client == client) s.transfers)

-- TransferStart
abbrev pub start_refusals : ℕ → ℕ → ℕ → List (Bool × Refusal)
start_refusals next_id count size =
    (size == 0, IncorrectSize)
    ∷ (nat_lt package_limit size || nat_le transfer_limit count || (next_id == last_id), InsufficientMemory)
    ∷ []

-- TransferData
abbrev pub data_refusals : Option Header → ℕ → ℕ → List (Bool × Refusal)
data_refusals found counter size =
    (is_none found, InvalidTransferId)
    ∷ (some_passes (λ h. not (is_in Transferring h)) found, OperationNotPermitted)
    ∷ (
      (size == 0) || nat_lt block_limit size || some_passes (λ h. not (h.next_counter == counter)) found,
      IncorrectBlock,
    )
    ∷ (some_passes (λ h. nat_lt h.size (h.received + size)) found, IncorrectSize)
    ∷ []

-- TransferExit, before the bytes are read
abbrev pub exit_refusals : Option Header → List (Bool × Refusal)
exit_refusals found =
    (is_none found, InvalidTransferId)
    ∷ (some_passes (λ h. not (is_in Transferring h)) found, OperationNotPermitted)
    ∷ (some_passes (λ h. nat_lt h.received h.size) found, InsufficientData)
    ∷ []

-- DeleteTransfer
abbrev pub delete_refusals : Option Header → List (Bool × Refusal)
delete_refusals found =
    (is_none found, InvalidTransferId)
    ∷ (some_passes (λ h. is_in BeingProcessed h || is_in Processed h) found, OperationNotPermitted)
    ∷ []

-- the refusal that the bytes themselves have
abbrev pub verdict_refusal : Verdict → Option Refusal
verdict_refusal (Ok parts) = None
verdict_refusal (Err refusal) = Some refusal

abbrev pub parts_read : Verdict → List (Part Bytes)
parts_read (Ok parts) = parts
parts_read (Err refusal) = []

-- the header of a transfer that has just begun
abbrev pub fresh : ℕ → ℕ → ℕ → Header
fresh id client size = record {
  id = id;
  client = client;
  size = size;
  received = 0;
  next_counter = 1;
  phase =
      Transferring;
}

-- the header after a block
abbrev pub grown : ℕ → Header → Header
grown size h = record h { received = h.received + size; next_counter = h.next_counter + 1 }

abbrev pub in_phase : Phase → Header → Header
in_phase phase h = record h { phase = phase }

-- how transfers are kept: their headers, one that begins, one with a block more, and one that is whole
pub record Keeping (T : Type 0) : Type 0 where
  pub header : T → Header
  pub headed : Header → T → T
  pub begun : Header → T
  pub longer : Bytes → T → T
  pub whole : T → T

-- with the bytes themselves, which a verdict was made on where they are whole
abbrev pub with_bytes : Verdict → Keeping Transfer
with_bytes verdict = record {
  header = λ t. t.header;
  headed = λ h t. record t { header = h };
  begun = λ h. record { header = h; bytes = []; parts = [] };
  longer = λ bytes t. record t { header = grown (length bytes) t.header; bytes = t.bytes ++ bytes };
  whole = λ t. record t { header = in_phase Transferred t.header; parts = parts_read verdict };
}

-- the state with the transfer of this id changed
abbrev pub with_transfer : {C T : Type 0} → Keeping T → ℕ → (T → T) → NodeOf C T → NodeOf C T
with_transfer k id change s =
    record s { transfers = map (λ t. if (k.header t).id == id then change t else t) s.transfers }

abbrev pub with_phase : {C T : Type 0} → Keeping T → ℕ → Phase → NodeOf C T → NodeOf C T
with_phase k id phase s = with_transfer k id (λ t. k.headed (in_phase phase (k.header t)) t) s

-- the effects of the four calls
abbrev pub start : {C T : Type 0} → Keeping T → NodeOf C T → ℕ → ℕ → NodeOf C T
start k s client size = record s {
  next_id = s.next_id + 1;
  transfers = s.transfers ++ k.begun (fresh s.next_id client size) ∷ [];
}

abbrev pub take_block : {C T : Type 0} → Keeping T → NodeOf C T → ℕ → Bytes → NodeOf C T
take_block k s id bytes = with_transfer k id (λ t. k.longer bytes t) s

abbrev pub close : {C T : Type 0} → Keeping T → NodeOf C T → ℕ → NodeOf C T
close k s id = with_transfer k id (λ t. k.whole t) s

abbrev pub delete : {C T : Type 0} → Keeping T → NodeOf C T → ℕ → NodeOf C T
delete k s id = record s { transfers = filter (λ t. not ((k.header t).id == id)) s.transfers }

-- the transfers that outlast a session
abbrev pub outlasting : {T : Type 0} → Keeping T → List T → List T
outlasting k transfers = filter (λ t. outlasts (k.header t)) transfers

-- the same of a node with the bytes themselves
abbrev pub started : NodeState → ℕ → ℕ → NodeState
started s client size = start (with_bytes (Ok [])) s client size

abbrev pub with_block : NodeState → ℕ → List ℕ → NodeState
with_block s id bytes = take_block (with_bytes (Ok [])) s id bytes

abbrev pub exited : NodeState → ℕ → Verdict → NodeState
exited s id verdict = close (with_bytes verdict) s id

abbrev pub deleted : NodeState → ℕ → NodeState
deleted s id = delete (with_bytes (Ok [])) s id
