-- The four calls on transfers leave a state fit.
use Rattle.node_laws.proofs.Names.{◌≡◌, refl, sym, subst, ap, ◌∙◌, ℕ, ◌+◌, ◌<◌, ◌≤◌, Bool, true, false, List, [], ◌∷◌}
use Rattle.node_laws.proofs.Names.{◌++◌, length, length-append, arith, lit≤, ◌==◌, ◌||◌, not, nat_lt, nat_le, map}
use Rattle.node_laws.proofs.Names.{Option, Some, None, Ok, Err, option_map_or, option_or, leb-false, ltb-false}
use Rattle.node_laws.proofs.Names.{map-append, length-map, client_limit, package_limit, block_limit, transfer_limit}
use Rattle.node_laws.proofs.Names.{last_id, all_differ, Header, Phase, Transferring, Transferred, BeingProcessed}
use Rattle.node_laws.proofs.Names.{Processed, NodeState, Transfer, is_in, some_passes, phase_code, cluster_of}
use Rattle.node_laws.proofs.Names.{first_refusal, Verdict, transfer_of, header_of, parts_read, verdict_refusal, fresh}
use Rattle.node_laws.proofs.Names.{grown, in_phase, started, with_block, exited, deleted, start_refusals, data_refusals}
use Rattle.node_laws.proofs.Names.{exit_refusals, delete_refusals, Reading, IsSound, numbers_rise, IsFit, IsRead}
use Rattle.node_laws.proofs.Names.{IsReading}
use Rattle.node_laws.proofs.Lists.{each-append, each-imp, each-map, each-filter, length-filter, rise-append}
use Rattle.node_laws.proofs.Lists.{rise-filter, ids, found, changed, all-changed, KeepsNames, ids-changed, rows-clear}
use Rattle.node_laws.proofs.Lists.{both-none, neither, not-false, some-header, is-transferring}
use Rattle.node_laws.proofs.Sessions.{Held, base-of}
use Rattle.node_laws.proofs.Quiet.{IsEarly, transferring, transferred, quiet-consistent, quiet-started, quiet-changed}
use Rattle.node_laws.proofs.Quiet.{quiet-deleted}

-- a transfer more
held-started : (next client size : ℕ) (ts : List Transfer) → client < client_limit → Held next ts
    → nat_lt package_limit size ≡ false → nat_le transfer_limit (length ts) ≡ false → (next == last_id) ≡ false
    → Held (next + 1) (ts ++ record { header = fresh next client size; bytes = []; parts = [] } ∷ [])
held-started next client size ts low h small few room = record {
  each = each-append _ ts _ (each-imp _ _ later ts h.each) (own, tt);
  rise =
      ap numbers_rise (map-append (λ (t : Transfer). t.header.id) ts _)
      ∙ rise-append (ids ts) next h.rise (each-map _ _ ts (each-imp _ _ (λ t k. k.id.1) ts h.each));
  next_id = (omega arith, grind arith);
  few = rw (length-append ts) (omega (arith, leb-false _ _ few));
  sizes = each-append _ ts _ h.sizes ((ltb-false _ _ small, low), tt);
}
  where
    later : (t : Transfer) → IsSound next t → IsSound (next + 1) t
    later t k =
        record {
          bytes = k.bytes;
          size = k.size;
          counter = k.counter;
          whole = k.whole;
          id =
              (k.id.0, omega (arith, k.id.1));
        }

    own : IsSound (next + 1) (record { header = fresh next client size; bytes = []; parts = [] })
    own =
        record {
          bytes = refl;
          size = omega arith;
          counter = (lit≤ tt, omega arith);
          whole = refl;
          id =
              (h.next_id.0, omega arith);
        }

pub start-fit : (read : Reading) (s : NodeState) (client size : ℕ) → client < client_limit → IsFit read s
    → first_refusal (start_refusals s.next_id (length s.transfers) size) ≡ None → IsFit read (started s client size)
start-fit read s client size low fit r =
    let b = base-of s fit.consistent in
    let clear = rows-clear (start_refusals s.next_id (length s.transfers) size) r in
    let room = neither (nat_lt package_limit size || nat_le transfer_limit (length s.transfers)) _ clear.1.0 in
    let few = neither (nat_lt package_limit size) _ room.0 in
    record {
      consistent =
          quiet-consistent s (s.next_id + 1) _ (quiet-started s.next_id s.transfers _ refl transferring)
          (held-started s.next_id client size s.transfers low b.held few.0 few.1 room.1) fit.consistent;
      read_parts = each-append _ s.transfers _ fit.read_parts (tt, tt);
    }

-- a changed transfer is sound, and the others stay so
pub held-changed : (next client id : ℕ) (ts : List Transfer) (u : Transfer) (f : Transfer → Transfer) → Held next ts
    → KeepsNames f → found client id ts ≡ Some u
    → ((t : Transfer) → (f t).header.size ≡ t.header.size) → (IsSound next u → IsSound next (f u))
    → Held next (map (changed id f) ts)
held-changed next client id ts u f h k e size sound = grind (arith, all-changed, ids-changed, length-map)

pub changed-fit : (read : Reading) (s : NodeState) (client id : ℕ) (u : Transfer) (f : Transfer → Transfer)
    → IsFit read s → KeepsNames f → ((t : Transfer) → (f t).header.size ≡ t.header.size)
    → transfer_of s client id ≡ Some u
    → IsEarly u.header.phase → IsEarly (f u).header.phase → (IsSound s.next_id u → IsSound s.next_id (f u))
    → IsRead read (f u) (f u).header.phase → IsFit read (record s { transfers = map (changed id f) s.transfers })
changed-fit read s client id u f fit k size e early later sound is_read =
    let b = base-of s fit.consistent in
    record {
      consistent =
          quiet-consistent s s.next_id _ (quiet-changed s.next_id client id s.transfers u f b.held k e early later)
          (held-changed s.next_id client id s.transfers u f b.held k e size sound) fit.consistent;
      read_parts = all-changed _ _ client id f s.transfers u b.held.rise e fit.read_parts (λ t _ p. p) (λ _. is_read);
    }

abbrev block : List ℕ → Transfer → Transfer
block bytes t = record t { header = grown (length bytes) t.header; bytes = t.bytes ++ bytes }

abbrev whole : Verdict → Transfer → Transfer
whole v t = record t { header = in_phase Transferred t.header; parts = parts_read v }

-- a test of the header that is found
at : (o : Option Transfer) (u : Transfer) → o ≡ Some u → (p : Header → Bool) (b : Bool)
    → some_passes p (header_of o) ≡ b → p u.header ≡ b
at o u e p b h = ap (λ x. some_passes p (header_of x)) (sym e) ∙ h

is-early : (p : Phase) → p ≡ Transferring → IsEarly p
is-early p e = subst IsEarly (sym e) transferring

-- a block more
pub data-fit : (read : Reading) (s : NodeState) (client id counter : ℕ) (bytes : List ℕ) → IsFit read s
    → first_refusal (data_refusals (header_of (transfer_of s client id)) counter (length bytes)) ≡ None
    → IsFit read (with_block s id bytes)
data-fit read s client id counter bytes fit r =
    let clear = rows-clear (data_refusals (header_of (transfer_of s client id)) counter (length bytes)) r in
    let u = some-header (transfer_of s client id) clear.0 in
    let phase = is-transferring u.0.header
    (not-false _ (at _ u.0 u.1 (λ h. not (is_in Transferring h)) false clear.1.0)) in
    let size = ltb-false _ _ (at _ u.0 u.1 (λ h. nat_lt h.size (h.received + length bytes)) false clear.1.1.1.0) in
    let some = (neither (length bytes == 0) _
    (neither ((length bytes == 0) || nat_lt block_limit (length bytes)) _ clear.1.1.0).0).0 in
    changed-fit read s client id u.0 (block bytes) fit (record { id = λ _. refl; client = λ _. refl }) (λ _. refl) u.1
    (is-early u.0.header.phase phase) (is-early u.0.header.phase phase)
    (sound u.0 phase size some) (subst (IsRead read (block bytes u.0)) (sym phase) tt)
  where
    sound : (u : Transfer) → u.header.phase ≡ Transferring → u.header.received + length bytes ≤ u.header.size
        → (length bytes == 0) ≡ false → IsSound s.next_id u → IsSound s.next_id (block bytes u)
    sound u phase size some k = grind (arith, length-append)

-- the bytes are whole, and a package
pub exit-fit : (read : Reading) (s : NodeState) (client id : ℕ) (v : Verdict) → IsReading read → IsFit read s
    → v ≡ read (option_map_or (λ t. t.bytes) (transfer_of s client id) [])
    → option_or (first_refusal (exit_refusals (header_of (transfer_of s client id)))) (verdict_refusal v) ≡ None
    → IsFit read (exited s id v)
exit-fit read s client id v reading fit is r =
    let both = both-none (first_refusal (exit_refusals (header_of (transfer_of s client id)))) (verdict_refusal v) r in
    let clear = rows-clear (exit_refusals (header_of (transfer_of s client id))) both.0 in
    let u = some-header (transfer_of s client id) clear.0 in
    let phase = is-transferring u.0.header
    (not-false _ (at _ u.0 u.1 (λ h. not (is_in Transferring h)) false clear.1.0)) in
    let there = ltb-false _ _ (at _ u.0 u.1 (λ h. nat_lt h.received h.size) false clear.1.1.0) in
    let verdict : v ≡ read u.0.bytes = is
    ∙ ap (λ (o : Option Transfer). read (option_map_or (λ t. t.bytes) o [])) u.1 in
    changed-fit read s client id u.0 (whole v) fit (record { id = λ _. refl; client = λ _. refl }) (λ _. refl) u.1
    (is-early u.0.header.phase phase) transferred
    (sound u.0 there (accepted u.0.bytes v verdict both.1)) (ap parts_read verdict)
  where
    accepted : (bytes : List ℕ) (w : Verdict) → w ≡ read bytes → verdict_refusal w ≡ None
        → (0 < length (parts_read w)) × (all_differ (map cluster_of (parts_read w)) ≡ true)
    accepted bytes (Ok parts) q e = reading.parts_of bytes parts (sym q)
    accepted bytes (Err refusal) q e = absurd (cc)

    sound : (u : Transfer) → u.header.size ≤ u.header.received
        → (0 < length (parts_read v)) × (all_differ (map cluster_of (parts_read v)) ≡ true) → IsSound s.next_id u
        → IsSound s.next_id (whole v u)
    sound u there some k = grind (arith)

pub delete-fit : (read : Reading) (s : NodeState) (client id : ℕ) → IsFit read s
    → first_refusal (delete_refusals (header_of (transfer_of s client id))) ≡ None → IsFit read (deleted s id)
delete-fit read s client id fit r =
    let b = base-of s fit.consistent in
    let h = b.held in
    let clear = rows-clear (delete_refusals (header_of (transfer_of s client id))) r in
    let u = some-header (transfer_of s client id) clear.0 in
    let early = unprocessed u.0.header (at _ u.0 u.1 (λ h. is_in BeingProcessed h || is_in Processed h) false clear.1.0)
    in
    record {
      consistent = quiet-consistent s s.next_id _ (quiet-deleted s.next_id client id s.transfers u.0 h u.1 early)
          (record {
            each = each-filter _ _ s.transfers h.each;
            rise = rise-filter _ _ s.transfers h.rise;
            next_id = h.next_id;
            few =
                (let k = length-filter (λ (t : Transfer). not (t.header.id == id)) s.transfers in
                omega (arith, k, h.few));
            sizes = each-filter _ _ s.transfers h.sizes;
          })
          fit.consistent;
      read_parts = each-filter _ _ s.transfers fit.read_parts;
    }
  where
    unprocessed : (h : Header) → (is_in BeingProcessed h || is_in Processed h) ≡ false → IsEarly h.phase
    unprocessed h e = grind (arith, phase_code, transferring, transferred)
