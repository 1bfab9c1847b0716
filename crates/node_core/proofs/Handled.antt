-- What a unit of a package leaves of a sound node.
use Rattle.node_core.proofs.Names.{AllByRecursion, AreCopied, Areas, BeingProcessed, Bool, Bytes, Err, Extent}
use Rattle.node_core.proofs.Names.{Holding, IfSome, IsCopiedIn, IsPackageReady, IsPlaced, IsRead, IsSomeAnd, IsSound}
use Rattle.node_core.proofs.Names.{IsUnitReady, IsWholeFromTransferred, List, NodeState, None, Ok, Option, Part}
use Rattle.node_core.proofs.Names.{Prepared, Processing, SessionOf, Some, State, StoredTransfer, Transfer, Verdict}
use Rattle.node_core.proofs.Names.{all_units, ap, arith, changes_to, each-both, each-unmap, eq-eqb, extents_in}
use Rattle.node_core.proofs.Names.{extents_of, false, found-has, if◌then◌else◌, is-processing, is_in, length, map}
use Rattle.node_core.proofs.Names.{nat_lt, nat_tests, node_of, option_map, package_reading, parts_of, parts_read}
use Rattle.node_core.proofs.Names.{phase_code, plan_kept, processed, refl, session_meaning, slice_index_or, stored_of}
use Rattle.node_core.proofs.Names.{stored_units, subst, sym, take, taken_in, transfer_meaning, transfer_of, true}
use Rattle.node_core.proofs.Names.{unit, units_done, with_length, ℕ, [], ◌+◌, ◌<◌, ◌==◌, ◌∙◌, ◌≡◌}
use Rattle.history_query.proofs.Answered.{units-same}
use Rattle.pm_types.specs.Validity.{IsSound as IsSoundTransfer}
use Rattle.node_core.proofs.Stored.{found-fact, copied-when, rise, found-is, found-means, only}
use Rattle.node_core.proofs.Arrived.{marked-order}
use Rattle.node_core.proofs.Worked.{IsUnit, at_work, moved}

-- the session with a package in processing
abbrev pub busy : SessionOf Extent → ℕ → SessionOf Extent
busy x id = record x { processing = Some id }

abbrev pub at_process : Holding → SessionOf Extent → ℕ → Holding
at_process v x id = at_work v Processing (busy x id)

-- the bytes that came of a transfer
abbrev pub bytes_of : Areas → StoredTransfer → Bytes
bytes_of areas t = take t.header.received (slice_index_or areas.slots t.slot [])

-- the transfer in processing, and the parts of the package that it is
pub record InHand (v : Holding) (x : SessionOf Extent) (id : ℕ) : Type 0 where
  pub transfer : StoredTransfer
  pub is : stored_of v.state.transfers x.owner id ≡ Some transfer
  pub phase : transfer.header.phase ≡ BeingProcessed
  pub parts : List (Part Bytes)
  pub reads : package_reading (bytes_of v.areas transfer) ≡ Ok parts
  pub means : (transfer_meaning package_reading v.areas transfer).parts ≡ parts
  pub contents : transfer.contents ≡ map with_length parts
  pub unfinished : x.units_done < all_units parts

-- the units of what is stored are those of the parts
pub stored-same : (parts : List (Part Bytes)) → stored_units (map with_length parts) ≡ all_units parts
stored-same parts = units-same 0 parts

pub in-hand : (v : Holding) (x : SessionOf Extent) (id : ℕ) → IsSound (at_process v x id) → InHand v x id
in-hand v x id sound = go (stored_of v.state.transfers x.owner id) refl
    (subst (λ o. IsSomeAnd o (λ (t : Transfer). x.units_done < all_units t.parts))
    (found-means package_reading v.areas x.owner id v.state.transfers)
    sound.fit.consistent.processing.unfinished)
  where
    read : (u : StoredTransfer) → stored_of v.state.transfers x.owner id ≡ Some u → u.header.phase ≡ BeingProcessed
        → x.units_done < all_units (transfer_meaning package_reading v.areas u).parts → (r : Verdict)
        → package_reading (bytes_of v.areas u) ≡ r → (transfer_meaning package_reading v.areas u).parts ≡ parts_read r
        → 0 < length (transfer_meaning package_reading v.areas u).parts → InHand v x id
    read u e phase left (Ok parts) q means some = record {
      transfer = u;
      is = e;
      phase = phase;
      parts = parts;
      reads = q;
      means = means;
      contents =
          (found-has _ (IsPlaced package_reading v.areas) v.state.transfers u sound.order.transfers e).1.contents
          ∙ ap (map with_length) means;
      unfinished = subst (λ n. x.units_done < n) (ap all_units means) left;
    }
    read u e phase left (Err f) q means some = absurd (let f : ⊥ = omega (arith, some, ap length means) in f)

    go : (o : Option StoredTransfer) → stored_of v.state.transfers x.owner id ≡ o
        → IsSomeAnd (option_map (transfer_meaning package_reading v.areas) o)
        (λ (t : Transfer). x.units_done < all_units t.parts) → InHand v x id
    go None e left = absurd left
    go (Some u) e left =
        let ts = v.state.transfers in
        let due = found-fact (λ t. is_in BeingProcessed t.header
        ≡ (id == t.header.id)) v.areas x.owner id ts u sound.fit.consistent.processing.each e in
        let phase = is-processing u.header (due ∙ eq-eqb _ _ (sym (found-is x.owner id ts u e).0)) in
        let own =
        found-fact (λ t. IsRead package_reading t t.header.phase) v.areas x.owner id ts u sound.fit.read_parts e in
        let all =
        (found-fact (IsSoundTransfer v.state.next_id) v.areas x.owner id ts u sound.fit.consistent.transfers.each
        e).whole in
        read u e phase left (package_reading (bytes_of v.areas u)) refl
        (subst (IsRead package_reading (transfer_meaning package_reading v.areas u)) phase own)
        (subst (IsWholeFromTransferred (transfer_meaning package_reading v.areas u)) phase all).1

module _ (v : Holding) (x : SessionOf Extent) (id : ℕ) (p : Prepared) (sound : IsSound (at_process v x id))
    (h : InHand v x id) where
  -- where the payloads of the package in hand go
  abbrev pub extents : List Extent
  extents = extents_of v.state.running (taken_in (at_process v x id).state) (map with_length h.parts)

  pub extents-are : extents_in (at_process v x id).state h.transfer ≡ extents
  extents-are = ap (extents_of v.state.running (taken_in (at_process v x id).state)) h.contents

  -- what is ready for its next unit
  package-ready : IsUnitReady Processing (at_process v x id) (busy x id)
      → IsPackageReady (at_process v x id) (busy x id) id h.transfer
  package-ready ready = subst (λ o. IfSome o (IsPackageReady (at_process v x id) (busy x id) id)) h.is ready

  pub bytes-ready : IsUnitReady Processing (at_process v x id) (busy x id)
      → AreCopied v.areas (x.units_done + 1) h.parts extents
  bytes-ready ready =
      subst (λ (k : List (Part Bytes) × List Extent). AreCopied v.areas (x.units_done + 1) k.0 k.1) (λ i.
      (h.means i, extents-are i)) (package-ready ready).bytes

  pub changes-ready : IsUnitReady Processing (at_process v x id) (busy x id)
      → nat_lt (x.units_done + 1) (all_units h.parts) ≡ false
      → plan_kept v.prepared ≡ Some (changes_to id (map with_length h.parts) extents)
  changes-ready ready last =
      (package-ready ready).changes (ap (λ c. nat_lt (x.units_done + 1) (stored_units c)) h.contents
      ∙ ap (nat_lt (x.units_done + 1)) (stored-same h.parts) ∙ last)
      ∙ (λ i. Some (changes_to id (h.contents i) (extents-are i)))

  -- the parts that the unit is of
  pub parts-found : parts_of (transfer_of (node_of (at_process v x id)) x.owner id) ≡ h.parts
  parts-found = ap parts_of (found-means package_reading v.areas x.owner id v.state.transfers
      ∙ ap (option_map (transfer_meaning package_reading v.areas)) h.is) ∙ h.means

  abbrev process_at : List (Part Bytes) → Bool → Option NodeState
  process_at parts more =
      let s = node_of (at_process v x id) in
      let y = session_meaning v.areas (busy x id) in
      Some (if more then record s { session = Some (record y { units_done = y.units_done + 1 }) }
      else processed s y id parts)

  -- what is copied of the package in hand is all that need be, while transfers mean the same
  pub hand-copied : (areas : Areas) (s : State)
      → ((t : StoredTransfer) → transfer_meaning package_reading areas t ≡ transfer_meaning package_reading v.areas t)
      → AreCopied areas (units_done s) h.parts (extents_in s h.transfer)
      → AllByRecursion (λ t. IsCopiedIn package_reading areas s t t.header.phase) v.state.transfers
  hand-copied areas s reads own =
      each-both _ _ _ (λ t due same. copied-when areas s t t.header.phase (λ e. parts t (same (this t due e))))
      v.state.transfers
      (each-unmap (λ (t : Transfer). is_in BeingProcessed t.header ≡ (id == t.header.id))
      (transfer_meaning package_reading v.areas) v.state.transfers
      sound.fit.consistent.processing.each)
      (only x.owner id v.state.transfers h.transfer (rise (at_process v x id) sound) h.is)
    where
      this : (t : StoredTransfer) → is_in BeingProcessed t.header ≡ (id == t.header.id)
          → t.header.phase ≡ BeingProcessed → (t.header.id == id) ≡ true
      this t due e = let z = ap (λ p. phase_code p == 2) (sym e) ∙ due in grind (arith, nat_tests, sym z)

      parts : (t : StoredTransfer) → t ≡ h.transfer
          → AreCopied areas (units_done s) (transfer_meaning package_reading areas t).parts (extents_in s t)
      parts t same =
          subst (λ (k : List (Part Bytes) × StoredTransfer). AreCopied areas (units_done s) k.0 (extents_in s k.1))
          (λ i. (
            (sym (ap (λ (u : StoredTransfer). (transfer_meaning package_reading areas u).parts) same
                ∙ ap (λ (k : Transfer). k.parts) (reads h.transfer) ∙ h.means)) i,
            sym same i,
          )) own

  -- what the unit does
  pub unit-done : (passed more : Bool) → nat_lt (x.units_done + 1) (all_units h.parts) ≡ more
      → unit (node_of (at_process v x id)) passed ≡ process_at h.parts more
  unit-done passed more m = ap (λ parts. process_at parts (nat_lt (x.units_done + 1) (all_units parts))) parts-found
      ∙ ap (process_at h.parts) m

  -- the stored state after a unit that isn't the last
  abbrev new : State
  new = moved v (busy x id) Processing (record (busy x id) { units_done = x.units_done + 1 }) v.state.running

  -- a unit that isn't the last
  pub more-unit : (passed : Bool) → IsUnitReady Processing (at_process v x id) (busy x id)
      → nat_lt (x.units_done + 1) (all_units h.parts) ≡ true
      → IsUnit (at_process v x id) passed new
  more-unit passed ready more = record {
    node = unit-done passed true more;
    order = marked-order v.areas (at_process v x id).state Processing (busy x id) (Some id)
        (x.units_done + 1) x.verified x.outcome
        sound.order sound.order.running;
    copied = hand-copied v.areas new (λ t. refl)
        (subst (AreCopied v.areas (x.units_done + 1) h.parts) (sym extents-are) (bytes-ready ready));
  }
