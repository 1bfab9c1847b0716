-- Which records a stored state allows. Nothing here speaks of the bytes of packages: an accepted exit brings its parts.
use Rattle.std.specs.Prelude.{◌≡◌, ℕ, ◌+◌, ◌<◌, ◌≤◌, ◌^◌, ⊤, length, IfSome, Option, None}
use Rattle.ucm_base.specs.Limits.{cluster_limit, entry_limit}
use Rattle.pm_types.specs.declared.clusters.Extent.{Extent}
use Rattle.pm_types.specs.declared.replies.Refusal.{Refusal}
use Rattle.pm_types.specs.declared.replies.Reply.{Reply}
use Rattle.pm_types.specs.declared.replies.Reply.TheVariants.{Refused}
use Rattle.pm_types.specs.declared.status.Status.{Status}
use Rattle.pm_types.specs.declared.status.Status.TheVariants.{Processing, Verifying}
use Rattle.pm_types.specs.NodeState.{SessionOf}
use Rattle.pm_types.specs.Refusals.{first_refusal}
use Rattle.pm_types.specs.Stored.{State}
use Rattle.pm_types.specs.Transfers.{start_refusals, data_refusals, exit_refusals, delete_refusals}
use Rattle.transfer_blocks.specs.Table.{IsTable, stored_header, stored_of}
use Rattle.node_core.specs.Core.{table_of}
use Rattle.node_core.specs.Sessions.{contents_of}
use Rattle.event_codec.specs.declared.calls.StoredCall.{StoredCall}
use Rattle.event_codec.specs.declared.calls.StoredCall.TheVariants.{TransferStart, TransferData, TransferExit, DeleteTransfer}
use Rattle.event_codec.specs.declared.records.Record.{Record}
use Rattle.event_codec.specs.declared.records.Record.TheVariants.{Called, Exited, Worked}

-- what the transfer table refuses a call with, by what is stored
abbrev pub table_refusal : State → ℕ → StoredCall → Option Refusal
table_refusal s client (TransferStart size) =
    first_refusal (start_refusals s.next_id (length s.transfers) size)
table_refusal s client (TransferData id counter size) =
    first_refusal (data_refusals (stored_header s.transfers client id) counter size)
table_refusal s client (TransferExit id) = first_refusal (exit_refusals (stored_header s.transfers client id))
table_refusal s client (DeleteTransfer id) = first_refusal (delete_refusals (stored_header s.transfers client id))
table_refusal s client _ = None

-- a call that is answered otherwise than by a refusal is one that the transfer table accepts
abbrev pub MayAnswer : State → ℕ → StoredCall → Reply → Type 0
MayAnswer s client call (Refused refusal) = ⊤
MayAnswer s client call _ = table_refusal s client call ≡ None

-- a package's changes find room in the plan, and its units can be counted
abbrev pub MayProcess : State → SessionOf Extent → ℕ → Type 0
MayProcess s x id =
    (x.units_done + 1 < 2 ^ 32)
    × (length x.changes + length (contents_of (stored_of s.transfers x.owner id)) ≤ cluster_limit)

-- a unit of a package may be done, and a change may be verified where one is left
abbrev pub MayWork : State → SessionOf Extent → Status → Type 0
MayWork s x Processing = IfSome x.processing (MayProcess s x)
MayWork s x Verifying = x.verified < length x.changes
MayWork s x _ = ⊤

-- what the record tells of may happen in this state
abbrev pub MayHappen : State → Record → Type 0
MayHappen s (Called client call_no call reply) = MayAnswer s client call reply
MayHappen s (Exited client call_no id parts) = table_refusal s client (TransferExit id) ≡ None
MayHappen s (Worked passed after) = IfSome s.session (λ x. MayWork s x s.status)

-- the transfers are in order, the history has room for an entry, and what the record tells of may happen
pub record IsAllowed (s : State) (r : Record) : Type 0 where
  pub table : IsTable (table_of s)
  pub entries : s.entries < entry_limit
  pub event : MayHappen s r
