-- A transfer that goes to another phase, and the session with it.
use Rattle.node_core.proofs.Names.{AllByRecursion, BeingProcessed, Call, Cancel, Extent, Holding, IsCopied}
use Rattle.node_core.proofs.Names.{IsCopiedIn, IsInOrder, IsPlaced, IsSound, List, None, Ok, OperationNotPermitted}
use Rattle.node_core.proofs.Names.{Option, Phase, ServiceBusy, Session, SessionOf, Some, StandsFor, State}
use Rattle.node_core.proofs.Names.{StoredTransfer, Transfer, Transferred, ap, arith, both-none, cancel_refusals}
use Rattle.node_core.proofs.Names.{false, first_refusal, found-has, header-means, if◌then◌else◌, in_phase}
use Rattle.node_core.proofs.Names.{is-processing, is_in, is_none, is_of, led_by, map, meaning, moved, node_of, not}
use Rattle.node_core.proofs.Names.{not-false, option_map, option_or, package_reading, parts_read, phase_code}
use Rattle.node_core.proofs.Names.{places_in, put_back, refl, refusal_by, rows-clear, session_meaning}
use Rattle.node_core.proofs.Names.{session_refusals, slice_index_or, slots_differ, some_passes, status_table}
use Rattle.node_core.proofs.Names.{stop_processing, stored_header, stored_of, sym, take, transfer_meaning, true}
use Rattle.node_core.proofs.Names.{units_done, with_bytes, with_length, with_phase, with_slots, ℕ, [], ◌==◌}
use Rattle.node_core.proofs.Names.{◌∙◌, ◌∷◌, ◌≡◌}
use Rattle.node_core.proofs.Arrived.{marked, marked-order, copied-by, led-stands}
use Rattle.node_core.proofs.Lists.{every, change-each}
use Rattle.node_core.proofs.Stored.{rise, changed-means, only-has, order-of, same-slots, some-stored}

-- the transfers with that of this id in a phase
abbrev pub phased : ℕ → Phase → List StoredTransfer → List StoredTransfer
phased id phase ts = map (λ t. if t.header.id == id then moved phase t else t) ts

-- a transfer that is whole goes to a phase where it still is
module _ (v : Holding) (sound : IsSound v) (client id : ℕ) (u : StoredTransfer)
    (e : stored_of v.state.transfers client id ≡ Some u)
    (phase : Phase) (whole : (phase_code u.header.phase == 0) ≡ false) (stays : (phase_code phase == 0) ≡ false) where
  -- it has the same parts there
  same-meaning : transfer_meaning package_reading v.areas (moved phase u)
      ≡ record (transfer_meaning package_reading v.areas u) { header = in_phase phase u.header }
  same-meaning =
      let bytes = take u.header.received (slice_index_or v.areas.slots u.slot []) in
      ap (λ b. record {
        header = in_phase phase u.header;
        bytes = bytes;
        parts = if b then []
            else parts_read (package_reading bytes);
      })
      (stays ∙ sym whole)

  pub phased-means : map (transfer_meaning package_reading v.areas) (phased id phase v.state.transfers)
      ≡ (with_phase (with_bytes (Ok [])) id phase (node_of v)).transfers
  phased-means =
      changed-means package_reading v.areas client id (moved phase) (λ t. record t { header = in_phase phase t.header })
      v.state.transfers u (rise v sound) e same-meaning

  pub phased-placed : AllByRecursion (IsPlaced package_reading v.areas) (phased id phase v.state.transfers)
  phased-placed =
      let own = (found-has _ (IsPlaced package_reading v.areas) v.state.transfers u sound.order.transfers e).1 in
      change-each (IsPlaced package_reading v.areas) (λ t. t.header.id == id) (moved phase) v.state.transfers
      (only-has (λ t. IsPlaced package_reading v.areas (moved phase t)) client id v.state.transfers u (rise v sound) e
      (record {
        slot = own.slot;
        contents = own.contents
            ∙ ap (λ (t : Transfer). map with_length t.parts) (sym same-meaning);
      }))
      sound.order.transfers

  pub phased-slots : slots_differ (map (λ t. t.slot) (phased id phase v.state.transfers)) ≡ true
  phased-slots = ap slots_differ (same-slots id (moved phase) (λ t. refl) v.state.transfers) ∙ sound.order.slots

  -- the session with other marks, and the transfers, are in order
  pub phased-order : (x : SessionOf Extent) (processing : Option ℕ) (done : ℕ)
      → IsInOrder package_reading v.areas (record v.state { session = Some x })
      → IsInOrder package_reading v.areas (record v.state {
        transfers = phased id phase v.state.transfers;
        session = Some (marked processing done x.verified x.outcome x);
      })
  phased-order x processing done i =
      order-of (record v.state { transfers = phased id phase v.state.transfers }) phased-placed phased-slots i.running
      (marked-order v.areas v.state v.state.status x processing done x.verified x.outcome i i.running)

-- another's session and a dash refuse by what is stored
pub session-refused : (v : Holding) (client : ℕ) (call : Call)
    → first_refusal (session_refusals (node_of v) client call) ≡ first_refusal (session_refusals v.state client call)
session-refused v client call =
    ap (λ b. first_refusal ((b, ServiceBusy) ∷ (is_none (status_table v.state.status call), OperationNotPermitted)
    ∷ []))
    (go v.state.session)
  where
    go : (o : Option (SessionOf Extent)) → some_passes (λ (x : Session). not (x.owner == client))
        (option_map (session_meaning v.areas) o) ≡ some_passes (λ (x : SessionOf Extent). not (x.owner == client)) o
    go o = grind arith

-- Cancel is refused by what is stored
pub cancel-refused : (v : Holding) (client id : ℕ) → refusal_by v client (Cancel id)
    ≡ option_or (first_refusal (session_refusals v.state client (Cancel id)))
    (first_refusal (cancel_refusals (stored_header v.state.transfers client id)))
cancel-refused v client id = λ i.
    option_or (session-refused v client (Cancel id) i)
    (first_refusal (cancel_refusals (header-means package_reading v.areas (is_of client id) v.state.transfers i)))

-- what stopping leaves
module _ (v : Holding) (sound : IsSound v) (client id : ℕ) (u : StoredTransfer)
    (e : stored_of v.state.transfers client id ≡ Some u)
    (phase : u.header.phase ≡ BeingProcessed) where
  abbrev with : Option (SessionOf Extent) → State
  with o = record v.state { session = o }

  abbrev stopped : State → State
  stopped s = put_back (with_slots [] []) s id

  was-whole : (phase_code u.header.phase == 0) ≡ false
  was-whole = ap (λ p. phase_code p == 0) phase

  stopped-means : meaning package_reading v.areas (stopped v.state) ≡ stop_processing (node_of v) id
  stopped-means =
      ap (λ ts. record (meaning package_reading v.areas (stopped v.state)) { transfers = ts })
      (phased-means v sound client id u e Transferred was-whole refl)
      ∙ ap (λ o. record (stop_processing (node_of v) id) { session = o }) (go v.state.session)
    where
      go : (o : Option (SessionOf Extent)) → option_map (session_meaning v.areas)
          (option_map (λ (x : SessionOf Extent). record x { processing = None }) o)
          ≡ option_map (λ (x : Session). record x { processing = None }) (option_map (session_meaning v.areas) o)
      go o = grind arith

  stopped-order : (o : Option (SessionOf Extent)) → IsInOrder package_reading v.areas (with o)
      → IsInOrder package_reading v.areas (stopped (with o))
  stopped-order None i =
      order-of (stopped (with None)) (phased-placed v sound client id u e Transferred was-whole refl)
      (phased-slots v sound client id u e Transferred was-whole refl) tt i
  stopped-order (Some x) i = phased-order v sound client id u e Transferred was-whole refl x None x.units_done i

  stopped-copied : (o : Option (SessionOf Extent)) → IsCopied package_reading v.areas (with o)
      → IsCopied package_reading v.areas (stopped (with o))
  stopped-copied o copied =
      change-each (λ t. IsCopiedIn package_reading v.areas (stopped (with o)) t t.header.phase) (λ t.
      t.header.id == id) (moved Transferred)
      v.state.transfers (every (λ t q. tt) v.state.transfers)
      (copied-by v.areas (with o) (stopped (with o)) (still o).0 refl (still o).1 v.state.transfers copied)
    where
      still : (o : Option (SessionOf Extent)) → (units_done (stopped (with o)) ≡ units_done (with o))
          × (places_in (stopped (with o)) ≡ places_in (with o))
      still o = grind arith

  pub stopped-stands : StandsFor v.areas (stopped v.state) (stop_processing (node_of v) id)
  stopped-stands = record {
    node = stopped-means;
    order = stopped-order v.state.session sound.order;
    copied = stopped-copied v.state.session sound.copied;
  }

-- Cancel
pub cancel-stands : (v : Holding) (client id : ℕ) → IsSound v → refusal_by v client (Cancel id) ≡ None
    → StandsFor v.areas (led_by (Cancel id) (put_back (with_slots [] []) v.state id))
    (led_by (Cancel id) (stop_processing (node_of v) id))
cancel-stands v client id sound none =
    led-stands v.areas (put_back (with_slots [] []) v.state id) (stop_processing (node_of v) id) (Cancel id)
    (stopped-stands v sound client id there.0 there.1 phase)
  where
    clear : AllByRecursion (λ row. row.0 ≡ false) (cancel_refusals (stored_header v.state.transfers client id))
    clear = rows-clear (cancel_refusals (stored_header v.state.transfers client id))
        (both-none (first_refusal (session_refusals v.state client (Cancel id))) _
        (sym (cancel-refused v client id) ∙ none)).1

    there : (u : StoredTransfer) × (stored_of v.state.transfers client id ≡ Some u)
    there = some-stored (stored_of v.state.transfers client id) clear.0

    phase : there.0.header.phase ≡ BeingProcessed
    phase = is-processing there.0.header (not-false _
        (ap (λ o. some_passes (λ h. not (is_in BeingProcessed h)) (option_map (λ t. t.header) o)) (sym there.1)
        ∙ clear.1.0))
