-- What an accepted call makes of the table of transfers stands for what it makes of the node's.
use Rattle.node_core.proofs.Names.{AllByRecursion, Areas, DeleteTransfer, Done, ExitVerdict, Holding, IsBehind}
use Rattle.node_core.proofs.Names.{IsBounded, IsCopiedIn, IsPlaced, IsReady, IsSound, IsTable, IsVerdictKept, Keeping}
use Rattle.node_core.proofs.Names.{List, NodeState, None, Ok, Option, Readied, Refusal, Reply, Some, SomeAccepted}
use Rattle.node_core.proofs.Names.{StandsFor, StoredTransfer, Table, Transfer, TransferData, TransferExit}
use Rattle.node_core.proofs.Names.{TransferStart, Transferred, Transferring, Verdict, accept, accepted, ap, arith}
use Rattle.node_core.proofs.Names.{bad_refusal, both-none, close, data_refusals, delete, delete_refusals, deleted}
use Rattle.node_core.proofs.Names.{each-append, each-both, each-filter, each-imp, exit_refusals, exited, false}
use Rattle.node_core.proofs.Names.{filter-means, first_refusal, found-has, good_parts, grown, header-means, header_of}
use Rattle.node_core.proofs.Names.{in_phase, is-transferring, is_in, is_of, kept_by, last_id, length}
use Rattle.node_core.proofs.Names.{length-map, lowest_free, map, map-append, meaning, nat_le, nat_lt, nat_tests}
use Rattle.node_core.proofs.Names.{node_of, not, not-false, option_map, option_map_or, option_or, over, package_limit}
use Rattle.node_core.proofs.Names.{package_reading, parts_read, received, refl, refusal_by, refused_or, rows-clear}
use Rattle.node_core.proofs.Names.{slice_index_or, slots_differ, slots_of, some_passes, start, start_refusals}
use Rattle.node_core.proofs.Names.{started, stored_header, stored_of, subst, sym, table-filter, table-fresh, table_of}
use Rattle.node_core.proofs.Names.{take, take_block, transfer_limit, transfer_meaning, transfer_of, true, under}
use Rattle.node_core.proofs.Names.{unless_refused, verdict_in, verdict_kept, verdict_on, verdict_refusal, whole}
use Rattle.node_core.proofs.Names.{with_block, with_bytes, with_fresh, with_length, with_stored, with_table}
use Rattle.node_core.proofs.Names.{with_transfer, without, ℕ, [], ◌++◌, ◌+◌, ◌<◌, ◌==◌, ◌||◌, ◌∙◌, ◌≡◌, ◌≤◌}
use Rattle.node_core.proofs.Stored.{rise, found-is, only-has, changed-means, found-means, order-of, same-slots, some-stored, staged-bytes}
use Rattle.node_core.proofs.Lists.{change-each, each-second}
use Rattle.node_core.proofs.Sound.{table-is}

-- a transfer's contents are those of the package that its bytes are
abbrev HasContents : Areas → StoredTransfer → Type 0
HasContents areas t = t.contents ≡ map with_length (transfer_meaning package_reading areas t).parts

-- and what is copied of it
abbrev IsTended : Holding → StoredTransfer → Type 0
IsTended v t = HasContents v.areas t × IsCopiedIn package_reading v.areas v.state t t.header.phase

-- what the four calls are refused with, by what is stored and ready
pub start-refused : (v : Holding) (client size : ℕ) → refusal_by v client (TransferStart size)
    ≡ first_refusal (start_refusals v.state.next_id (length v.state.transfers) size)
start-refused v client size = ap (λ n. first_refusal (start_refusals v.state.next_id n size))
    (length-map v.state.transfers (transfer_meaning package_reading v.areas))

pub block-refused : (v : Holding) (client id counter : ℕ) (block : List ℕ)
    → refusal_by v client (TransferData id counter block)
    ≡ first_refusal (data_refusals (stored_header v.state.transfers client id) counter (length block))
block-refused v client id counter block =
    ap (λ h. first_refusal (data_refusals h counter (length block)))
    (header-means package_reading v.areas (is_of client id) v.state.transfers)

pub delete-refused : (v : Holding) (client id : ℕ) → refusal_by v client (DeleteTransfer id)
    ≡ first_refusal (delete_refusals (stored_header v.state.transfers client id))
delete-refused v client id =
    ap (λ h. first_refusal (delete_refusals h))
    (header-means package_reading v.areas (is_of client id) v.state.transfers)

-- a verdict that is ready refuses as the bytes do
same-verdict : (o : Option Refusal) (kept : Option ExitVerdict) (w : Verdict) → (o ≡ None → IsVerdictKept kept w)
    → option_or o (verdict_refusal w) ≡ option_or o (bad_refusal (verdict_in kept))
same-verdict o kept w ready = grind arith

module _ (v : Holding) (client id : ℕ) (ready : IsReady v client (TransferExit id)) where
  abbrev on : Verdict
  on = verdict_on v client (TransferExit id)

  abbrev rows : Option Refusal
  rows = first_refusal (exit_refusals (stored_header v.state.transfers client id))

  header : header_of (transfer_of (node_of v) client id) ≡ stored_header v.state.transfers client id
  header = header-means package_reading v.areas (is_of client id) v.state.transfers

  pub judged : rows ≡ None → IsVerdictKept (verdict_kept v.prepared) on
  judged none = ready (ap (λ h. first_refusal (exit_refusals h)) header ∙ none)

  pub exit-refused : refusal_by v client (TransferExit id)
      ≡ option_or rows (bad_refusal (verdict_in (verdict_kept v.prepared)))
  exit-refused =
      ap (λ h. option_or (first_refusal (exit_refusals h)) (verdict_refusal on)) header
      ∙ same-verdict rows (verdict_kept v.prepared) on judged

-- a transfer that isn't whole has no parts yet
early : (areas : Areas) (t : StoredTransfer) → t.header.phase ≡ Transferring
    → (transfer_meaning package_reading areas t).parts ≡ []
early areas t e = grind arith

-- the parts of a good verdict are those of the bytes
good-parts-are : (kept : Option ExitVerdict) (w : Verdict) → IsVerdictKept kept w → bad_refusal (verdict_in kept) ≡ None
    → good_parts (verdict_in kept) ≡ map with_length (parts_read w)
good-parts-are kept w e k = grind arith

-- a sound node, and a client
module _ (v : Holding) (sound : IsSound v) (client : ℕ) where
  abbrev k : Keeping StoredTransfer
  k = kept_by (under v)

  -- each stored transfer is tended
  tended : AllByRecursion (IsTended v) v.state.transfers
  tended = each-both _ _ _ (λ t placed copied. (placed.contents, copied)) v.state.transfers sound.order.transfers
      sound.copied

  -- other transfers stand for what they mean
  stands : (next : ℕ) (ts : List StoredTransfer) (n : NodeState)
      → meaning package_reading v.areas (record v.state { next_id = next; transfers = ts }) ≡ n
      → AllByRecursion (λ t. (t.slot < transfer_limit) × IsTended v t) ts
      → slots_differ (map (λ t. t.slot) ts) ≡ true
      → StandsFor v.areas (record v.state { next_id = next; transfers = ts }) n
  stands next ts n node each slots = record {
    node = node;
    order = order-of (record v.state { next_id = next; transfers = ts })
        (each-imp _ _ (λ t is. record { slot = is.0; contents = is.1.0 }) ts each) slots sound.order.running
        sound.order;
    copied = each-imp _ _ (λ t is. is.1.1) ts each;
  }

  -- each lies in a slot and is tended
  lies : AllByRecursion (λ t. (t.slot < transfer_limit) × IsTended v t) v.state.transfers
  lies = each-both _ _ _ (λ t placed own. (placed.slot, own)) v.state.transfers sound.order.transfers tended

  -- one transfer changed
  changed : (id : ℕ) (u : StoredTransfer) (g : StoredTransfer → StoredTransfer) (h : Transfer → Transfer)
      → ((t : StoredTransfer) → (g t).slot ≡ t.slot) → stored_of v.state.transfers client id ≡ Some u
      → transfer_meaning package_reading v.areas (g u) ≡ h (transfer_meaning package_reading v.areas u)
      → IsTended v (g u)
      → StandsFor v.areas (with_transfer k id g v.state) (with_transfer (with_bytes (Ok [])) id h (node_of v))
  changed id u g h keeps is same kept =
      let r = rise v sound in
      let placed = (found-has _ (IsPlaced package_reading v.areas) v.state.transfers u sound.order.transfers is).1 in
      stands v.state.next_id (with_transfer k id g v.state).transfers _
      (ap (λ ts. record (node_of v) { transfers = ts })
      (changed-means package_reading v.areas client id g h v.state.transfers u r is same))
      (change-each (λ t. (t.slot < transfer_limit) × IsTended v t) (λ t. t.header.id == id) g v.state.transfers
      (only-has (λ t. (g t).slot < transfer_limit × IsTended v (g t)) client id v.state.transfers u r is
      (subst (λ n. n < transfer_limit) (sym (keeps u)) placed.slot, kept)) lies)
      (ap slots_differ (same-slots id g keeps v.state.transfers) ∙ sound.order.slots)

  -- TransferStart
  pub start-stands : (size : ℕ) → refusal_by v client (TransferStart size) ≡ None
      → StandsFor v.areas (start k v.state client size) (started (node_of v) client size)
  start-stands size none =
      let clear = rows-clear (start_refusals v.state.next_id (length v.state.transfers) size)
      (sym (start-refused v client size) ∙ none) in
      let few = room size clear.1.0 in
      let form = table-fresh client size (table_of v.state) (table-is v sound) few.0 few.1 in
      stands (v.state.next_id + 1) (start k v.state client size).transfers _
      (ap (λ ts. record (node_of v) { next_id = v.state.next_id + 1; transfers = ts })
      (map-append (transfer_meaning package_reading v.areas) v.state.transfers _))
      (each-append _ v.state.transfers _ lies
      ((fresh-lies form.each, (refl, tt)), tt)) form.slots
    where
      room : (size : ℕ) → (nat_lt package_limit size || nat_le transfer_limit (length v.state.transfers)
          || (v.state.next_id == last_id)) ≡ false
          → (length v.state.transfers < transfer_limit) × (size ≤ package_limit)
      room size e = grind (arith, nat_tests, e)

      fresh-lies : AllByRecursion (IsBounded (v.state.next_id + 1)) (with_fresh client size (table_of v.state)).list
          → lowest_free transfer_limit (slots_of v.state.transfers) < transfer_limit
      fresh-lies each = (each-second (IsBounded (v.state.next_id + 1)) v.state.transfers _ each).0.slot

  -- DeleteTransfer
  pub delete-stands : (id : ℕ) → StandsFor v.areas (delete k v.state id) (deleted (node_of v) id)
  delete-stands id =
      let form = table-filter (λ t. not (t.header.id == id)) (table_of v.state) (table-is v sound) in
      stands v.state.next_id (delete k v.state id).transfers _
      (ap (λ ts. record (node_of v) { transfers = ts })
      (sym (filter-means package_reading v.areas (λ h. not (h.id == id)) v.state.transfers)))
      (each-filter _ _ v.state.transfers lies) form.slots

  -- TransferData
  pub block-stands : (id counter : ℕ) (block : List ℕ) → IsReady v client (TransferData id counter block)
      → refusal_by v client (TransferData id counter block) ≡ None
      → StandsFor v.areas (take_block k v.state id block) (with_block (node_of v) id block)
  block-stands id counter block ready none =
      let clear = rows-clear (data_refusals (stored_header v.state.transfers client id) counter (length block))
      (sym (block-refused v client id counter block) ∙ none) in
      let there = some-stored (stored_of v.state.transfers client id) clear.0 in
      accepted-of there.0 there.1 (is-transferring there.0.header (not-false _
      (ap (λ o. some_passes (λ h. not (is_in Transferring h)) (option_map (λ t. t.header) o)) (sym there.1)
      ∙ clear.1.0)))
    where
      g : StoredTransfer → StoredTransfer
      g = k.longer block

      accepted-of : (u : StoredTransfer) → stored_of v.state.transfers client id ≡ Some u
          → u.header.phase ≡ Transferring
          → StandsFor v.areas (take_block k v.state id block) (with_block (node_of v) id block)
      accepted-of u is phase =
          let bytes = slice_index_or v.areas.slots u.slot [] in
          let behind =
          (found-has (λ t. is_of client id t.header) (λ t. t.header.id ≡ id
          → IsBehind v.areas block t) v.state.transfers u (ready none) is).1
          (found-is client id v.state.transfers u is).0 in
          let before = early v.areas u phase in
          let after = early v.areas (g u) phase in
          let kept = (found-has (λ t. is_of client id t.header) (IsTended v) v.state.transfers u tended is).1.0 in
          changed id u g (λ t.
          record t { header = grown (length block) t.header; bytes = t.bytes ++ block }) (λ t. refl) is
          (λ i. record {
            header = grown (length block) u.header;
            bytes = staged-bytes u.header.received (length block) bytes block behind i;
            parts = (after ∙ sym before) i;
          }) (
            kept ∙ ap (map with_length) (before ∙ sym after),
            subst (IsCopiedIn package_reading v.areas v.state (g u)) (sym phase) tt,
          )

  -- TransferExit
  pub close-stands : (id : ℕ) → IsReady v client (TransferExit id)
      → refusal_by v client (TransferExit id) ≡ None
      → StandsFor v.areas (close k v.state id) (exited (node_of v) id (verdict_on v client (TransferExit id)))
  close-stands id ready none =
      let both = both-none (first_refusal (exit_refusals (stored_header v.state.transfers client id))) _
      (sym (exit-refused v client id ready) ∙ none) in
      let there = some-stored (stored_of v.state.transfers client id)
      (rows-clear (exit_refusals (stored_header v.state.transfers client id)) both.0).0 in
      accepted-of (judged v client id ready both.0) both.1 there.0 there.1
    where
      on : Verdict
      on = verdict_on v client (TransferExit id)

      accepted-of : IsVerdictKept (verdict_kept v.prepared) on
          → bad_refusal (verdict_in (verdict_kept v.prepared)) ≡ None
          → (u : StoredTransfer) → stored_of v.state.transfers client id ≡ Some u
          → StandsFor v.areas (close k v.state id) (exited (node_of v) id on)
      accepted-of kept good u is =
          let bytes = take u.header.received (slice_index_or v.areas.slots u.slot []) in
          let of_bytes : on ≡ package_reading bytes = ap (λ o. package_reading (option_map_or (λ t. t.bytes) o []))
          (found-means package_reading v.areas client id v.state.transfers
          ∙ ap (option_map (transfer_meaning package_reading v.areas)) is) in
          changed id u k.whole (λ t. record t {
            header = in_phase Transferred t.header;
            parts =
                parts_read on;
          }) (λ t. refl) is
          (ap (λ ps. record { header = in_phase Transferred u.header; bytes = bytes; parts = ps })
          (ap parts_read (sym of_bytes))) (
            good-parts-are (verdict_kept v.prepared) on kept good
                ∙ ap (λ x. map with_length (parts_read x)) of_bytes,
            tt,
          )

-- a node that is sound somewhere has a table
pub table-within : {v w : Readied} → v ≡ w → (areas : Areas) → IsSound (over areas w) → IsTable (table_of v.state)
table-within e areas sound =
    subst (λ (r : Readied). IsTable (table_of r.state)) (sym e) (table-is (over areas _) sound)

module _ {v w : Readied} (e : v ≡ w) (client : ℕ) (reply : Reply) (table : Table) where
  abbrev old : Table
  old = table_of v.state

  -- what the calls make of the table is what they make of the stored state
  made : (refused : Readied → Option Refusal) (next : Readied → Table) → unless_refused Done old (next v) ≡ next v
      → refused w ≡ None → reply ≡ refused_or Done (refused v) → table ≡ unless_refused reply old (next v)
      → with_table table v.state ≡ with_table (next w) w.state
  made refused next kept none replies tables =
      ap (λ t. with_table t v.state) (tables ∙ ap (λ r. unless_refused r old (next v))
      (replies ∙ ap (λ r. refused_or Done (refused r)) e ∙ ap (refused_or Done) none) ∙ kept)
      ∙ ap (λ r. with_table (next r) r.state) e

  pub block-made : (id counter : ℕ) (block : List ℕ) → SomeAccepted w client (TransferData id counter block)
      → reply ≡ refused_or Done
      (first_refusal (data_refusals (stored_header v.state.transfers client id) counter (length block)))
      → table ≡ unless_refused reply old (with_stored id (received (length block)) old)
      → with_table table v.state ≡ accept (kept_by w) w.state client (TransferData id counter block)
  block-made id counter block accepted =
      made (λ r. first_refusal (data_refusals (stored_header r.state.transfers client id) counter (length block)))
      (λ r. with_stored id (received (length block)) (table_of r.state)) refl
      (sym (block-refused (over accepted.0 w) client id counter block) ∙ accepted.3)

  pub delete-made : (id : ℕ) → SomeAccepted w client (DeleteTransfer id)
      → reply ≡ refused_or Done (first_refusal (delete_refusals (stored_header v.state.transfers client id)))
      → table ≡ unless_refused reply old (without id old)
      → with_table table v.state ≡ accept (kept_by w) w.state client (DeleteTransfer id)
  delete-made id accepted =
      made (λ r. first_refusal (delete_refusals (stored_header r.state.transfers client id)))
      (λ r. without id (table_of r.state)) refl
      (sym (delete-refused (over accepted.0 w) client id) ∙ accepted.3)

  pub close-made : (id : ℕ) (verdict : ExitVerdict) → verdict ≡ verdict_in (verdict_kept v.prepared)
      → SomeAccepted w client (TransferExit id)
      → reply ≡ refused_or Done (option_or
      (first_refusal (exit_refusals (stored_header v.state.transfers client id))) (bad_refusal verdict))
      → table ≡ unless_refused reply old (with_stored id (whole (good_parts verdict)) old)
      → with_table table v.state ≡ accept (kept_by w) w.state client (TransferExit id)
  close-made id verdict is accepted replies tables =
      let rows = λ (r : Readied). first_refusal (exit_refusals (stored_header r.state.transfers client id)) in
      made (λ r. option_or (rows r) (bad_refusal (verdict_in (verdict_kept r.prepared))))
      (λ r. with_stored id (whole (good_parts (verdict_in (verdict_kept r.prepared)))) (table_of r.state)) refl
      (sym (exit-refused (over accepted.0 w) client id accepted.2) ∙ accepted.3)
      (replies ∙ ap (λ q. refused_or Done (option_or (rows v) (bad_refusal q))) is)
      (tables ∙ ap (λ q. unless_refused reply old (with_stored id (whole (good_parts q)) old)) is)
