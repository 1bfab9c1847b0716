-- What the four calls make of the table of transfers is what they make of a stored state, and none adds an entry.
use Rattle.std.proofs.Common.{◌≡◌, ℕ, List, [], Option, None, refl, sym, ◌∙◌, ap, arith, length}
use Rattle.pm_types.specs.declared.calls.Call.{Call}
use Rattle.pm_types.specs.declared.calls.Call.TheVariants.{Sync, TransferStart, TransferData, TransferExit, DeleteTransfer, ProcessSwPackage, Activate, Finish, Rollback, RevertProcessedSwPackages, Cancel}
use Rattle.pm_types.specs.declared.replies.Refusal.{Refusal}
use Rattle.pm_types.specs.declared.replies.Reply.{Reply}
use Rattle.pm_types.specs.declared.replies.Reply.TheVariants.{Done, Started, Synced as SyncedTo, Refused}
use Rattle.pm_types.specs.declared.state.StoredTransfer.{StoredTransfer}
use Rattle.pm_types.specs.declared.state.Transfers.{Transfers as Table}
use Rattle.pm_types.specs.Sessions.{led_by, put_back, take_up}
use Rattle.pm_types.specs.Steps.{accept, answer_with, refused_or}
use Rattle.pm_types.specs.Stored.{State}
use Rattle.pm_types.specs.Transfers.{Keeping}
use Rattle.pm_types.specs.Refusals.{first_refusal}
use Rattle.pm_types.specs.Transfers.{data_refusals, take_block}
use Rattle.transfer_blocks.specs.Table.{received, stored_header, unless_refused, with_slots, with_stored}
use Rattle.node_core.specs.Core.{table_of, with_table}

-- a call that isn't refused makes the next table
pub settled : (otherwise reply : Reply) (o : Option Refusal) (old next table : Table)
    → unless_refused otherwise old next ≡ next → reply ≡ refused_or otherwise o → o ≡ None
    → table ≡ unless_refused reply old next → table ≡ next
settled otherwise reply o old next table kept replies none tables =
    tables ∙ ap (λ r. unless_refused r old next) (replies ∙ ap (refused_or otherwise) none) ∙ kept

-- a block of n bytes
pub block-made : {v w : State} → v ≡ w → (client id counter n : ℕ) (bytes : List ℕ) (reply : Reply) (table : Table)
    → length bytes ≡ n
    → first_refusal (data_refusals (stored_header w.transfers client id) counter n) ≡ None
    → reply ≡ refused_or Done (first_refusal (data_refusals (stored_header v.transfers client id) counter n))
    → table ≡ unless_refused reply (table_of v) (with_stored id (received n) (table_of v))
    → with_table table v ≡ take_block (with_slots w.transfers []) w id bytes
block-made {v = v} e client id counter n bytes reply table long none replies tables =
    ap (λ t. with_table t v) (settled Done reply _ (table_of v) (with_stored id (received n) (table_of v)) table
    refl replies (ap (λ (s : State). first_refusal (data_refusals (stored_header s.transfers client id) counter n)) e
    ∙ none) tables)
    ∙ ap (λ m. with_table (with_stored id (received m) (table_of v)) v) (sym long)
    ∙ ap (λ (s : State). take_block (with_slots s.transfers []) s id bytes) e

led-entries : (s : State) (call : Call) → (led_by call s).entries ≡ s.entries
led-entries s call = grind arith

module _ (k : Keeping StoredTransfer) (client : ℕ) where
  accept-entries : (s : State) (call : Call) → (accept k s client call).entries ≡ s.entries
  accept-entries s Sync = refl
  accept-entries s (TransferStart size) = refl
  accept-entries s (TransferData id counter bytes) = refl
  accept-entries s (TransferExit id) = refl
  accept-entries s (DeleteTransfer id) = refl
  accept-entries s (ProcessSwPackage id tag) = led-entries (take_up k s client id tag) (ProcessSwPackage id tag)
  accept-entries s Activate = led-entries s Activate
  accept-entries s Finish = led-entries s Finish
  accept-entries s Rollback = led-entries s Rollback
  accept-entries s RevertProcessedSwPackages = led-entries s RevertProcessedSwPackages
  accept-entries s (Cancel id) = led-entries (put_back k s id) (Cancel id)

  pub same-entries : (s : State) (call : Call) (reply : Reply) → (answer_with k s client call reply).entries ≡ s.entries
  same-entries s call (Refused why) = refl
  same-entries s call Done = accept-entries s call
  same-entries s call (Started id) = accept-entries s call
  same-entries s call (SyncedTo shown) = accept-entries s call
