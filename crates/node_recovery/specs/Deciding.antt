-- Whether a record is allowed can be told.
use Rattle.std.proofs.Common.{◌≡◌, inl, inr, ℕ, ◌+◌, ◌^◌, List, [], ◌∷◌, length, map, Option, Some, None, refl}
use Rattle.std.specs.Prelude.{IfSome}
use Rattle.std.specs.List.{AllByRecursion}
use Rattle.ucm_base.specs.Limits.{cluster_limit, entry_limit, package_limit, transfer_limit}
use Rattle.pm_types.specs.declared.clusters.Extent.{Extent}
use Rattle.pm_types.specs.declared.replies.Reply.{Reply}
use Rattle.pm_types.specs.declared.replies.Reply.TheVariants.{Done, Started, Synced as SyncedTo, Refused}
use Rattle.pm_types.specs.declared.state.StoredTransfer.{StoredTransfer}
use Rattle.pm_types.specs.declared.state.Transfers.{Transfers as Table}
use Rattle.pm_types.specs.declared.status.Status.{Status}
use Rattle.pm_types.specs.declared.status.Status.TheVariants.{Processing, Verifying}
use Rattle.pm_types.specs.NodeState.{SessionOf}
use Rattle.pm_types.specs.Stored.{State, slots_differ}
use Rattle.transfer_blocks.specs.Table.{IsBounded, IsTable, slots_of, stored_of}
use Rattle.node_core.specs.Core.{table_of}
use Rattle.node_core.specs.Sessions.{contents_of}
use Rattle.event_codec.specs.declared.calls.StoredCall.{StoredCall}
use Rattle.event_codec.specs.declared.calls.StoredCall.TheVariants.{TransferExit}
use Rattle.event_codec.specs.declared.records.Record.{Record}
use Rattle.event_codec.specs.declared.records.Record.TheVariants.{Called, Exited, Worked}
use Rattle.event_codec.specs.Deciding.{Tested, test_at_most, test_below, test_bool, test_both}
use Rattle.node_recovery.specs.Allowed.{IsAllowed, MayAnswer, MayHappen, MayProcess, MayWork, table_refusal}
use Rattle.node_recovery.specs.Folds.{effect}

test_all : {T : Type 0} {P : T → Type 0} → ((t : T) → Tested (P t)) → (ts : List T) → Tested (AllByRecursion P ts)
test_all test [] = inl tt
test_all test (t ∷ ts) = test_both (test t) (test_all test ts)

test_if_some : {T : Type 0} {P : T → Type 0} → ((t : T) → Tested (P t)) → (o : Option T) → Tested (IfSome o P)
test_if_some test None = inl tt
test_if_some test (Some t) = test t

test_none : {T : Type 0} (o : Option T) → Tested (o ≡ None)
test_none None = inl refl
test_none (Some t) = inr (λ e. absurd (cc))

-- facts that say the same are told alike
alike : {P Q : Type 0} → (P → Q) → (Q → P) → Tested P → Tested Q
alike there back (inl p) = inl (there p)
alike there back (inr n) = inr (λ q. n (back q))

test_bounded : (next : ℕ) (t : StoredTransfer) → Tested (IsBounded next t)
test_bounded next t =
    alike (λ b. record { id = b.0; received = b.1.0; size = b.1.1.0; counter = b.1.1.1.0; slot = b.1.1.1.1 })
    (λ b. (b.id, (b.received, (b.size, (b.counter, b.slot)))))
    (test_both (test_below t.header.id next) (test_both (test_at_most t.header.received t.header.size)
    (test_both (test_at_most t.header.size package_limit)
    (test_both (test_at_most t.header.next_counter (t.header.received + 1)) (test_below t.slot transfer_limit)))))

test_table : (table : Table) → Tested (IsTable table)
test_table table =
    alike (λ b. record { few = b.0; each = b.1.0; ids = b.1.1.0; slots = b.1.1.1 })
    (λ b. (b.few, (b.each, (b.ids, b.slots))))
    (test_both (test_at_most (length table.list) transfer_limit)
    (test_both (test_all (test_bounded table.next_id) table.list)
    (test_both (test_bool (slots_differ (map (λ t. t.header.id) table.list)))
    (test_bool (slots_differ (slots_of table.list))))))

test_answer : (s : State) (client : ℕ) (call : StoredCall) (reply : Reply) → Tested (MayAnswer s client call reply)
test_answer s client call (Refused refusal) = inl tt
test_answer s client call Done = test_none (table_refusal s client call)
test_answer s client call (Started id) = test_none (table_refusal s client call)
test_answer s client call (SyncedTo shown) = test_none (table_refusal s client call)

test_process : (s : State) (x : SessionOf Extent) (id : ℕ) → Tested (MayProcess s x id)
test_process s x id =
    test_both (test_below (x.units_done + 1) (2 ^ 32))
    (test_at_most (length x.changes + length (contents_of (stored_of s.transfers x.owner id))) cluster_limit)

test_work : (s : State) (x : SessionOf Extent) (status : Status) → Tested (MayWork s x status)
test_work s x Processing = test_if_some (test_process s x) x.processing
test_work s x Verifying = test_below x.verified (length x.changes)
test_work s x status = inl tt

test_happen : (s : State) (r : Record) → Tested (MayHappen s r)
test_happen s (Called client call_no call reply) = test_answer s client call reply
test_happen s (Exited client call_no id parts) = test_none (table_refusal s client (TransferExit id))
test_happen s (Worked passed after) = test_if_some (λ x. test_work s x s.status) s.session

pub test_allowed : (s : State) (r : Record) → Tested (IsAllowed s r)
test_allowed s r =
    alike (λ b. record { table = b.0; entries = b.1.0; event = b.1.1 }) (λ b. (b.table, (b.entries, b.event)))
    (test_both (test_table (table_of s)) (test_both (test_below s.entries entry_limit) (test_happen s r)))

abbrev pub where_allowed : {P : Type 0} → Tested P → Option State → Option State
where_allowed (inl may) after = after
where_allowed (inr none) after = None

-- the state after a record; none where it isn't allowed
unfoldable pub after_record : State → Record → Option State
after_record s r = where_allowed (test_allowed s r) (effect s r)
