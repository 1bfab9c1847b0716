-- What a put behind a transfer's bytes leaves of a node.
use Rattle.transfer_blocks.specs.Steps.{with_bytes}
use Rattle.node_core.proofs.Names.{StandsFor, holding}
use Rattle.node_core.proofs.Names.{AllByRecursion, Areas, AreasFit, Bytes, ExitVerdict, Found, Holding, IsBehind, IsCopiedIn}
use Rattle.node_core.proofs.Names.{IsReady, IsSound, IsVerdict, LeavesOutside, List, None}
use Rattle.node_core.proofs.Names.{data_refusals, stored_header}
use Rattle.node_core.proofs.Names.{Some, StoredTransfer, Transfer as NodeTransfer, TransferData, TransferExit, and_parts, ap, arith}
use Rattle.node_core.proofs.Names.{content-here, content_of, each-both, each-imp, each-unmap, eq-eqb, eqb-false}
use Rattle.node_core.proofs.Names.{exit_refusals, first_refusal, found-has, found_of, front_slice, header-means, is_of}
use Rattle.node_core.proofs.Names.{length, length-take, node_of, not, not-true, option_map, option_map_or}
use Rattle.node_core.proofs.Names.{package_limit, package_reading, put-leaves, refl, slice-overwritten, slice_range, slots_differ}
use Rattle.node_core.proofs.Names.{slots_of, stored_of, subst, sym, take, transfer-stands, transfer_limit, transfer_meaning, true}
use Rattle.node_core.proofs.Names.{units_done, zero-add, [], ℕ, ◌+◌, ◌<◌, ◌==◌, ◌∙◌, ◌∷◌, ◌≡◌, ◌≢◌, ◌≤◌, ◌⊎◌}
use Rattle.pm_types.specs.Validity.{IsSound as IsSoundTransfer}
use Rattle.transfer_blocks.specs.declared.area.Area.TheVariants.{Transfer}
use Rattle.node_core.specs.declared.prepared.Prepared.TheVariants.{Verdict as Judged}
use Rattle.node_core.proofs.Stored.{found-fact, read-order, copied-when, found-means, only-has, rise}
use Rattle.node_core.proofs.Lists.{all-each, every, map-same}
use Rattle.node_core.proofs.Pieces.{same-copied}
use Rattle.node_core.proofs.Names.{AreCopied, extents_in}
use Rattle.node_core.proofs.Sound.{table-is}

-- a transfer is the one that was found, or lies in another slot
pub apart : (client id : ℕ) (ts : List StoredTransfer) (u : StoredTransfer) → slots_differ (slots_of ts) ≡ true
    → stored_of ts client id ≡ Some u → AllByRecursion (λ t. (t.slot ≢ u.slot) ⊎ (t ≡ u)) ts
apart client id [] u d e = tt
apart client id (t ∷ ts) u d e =
    let parts = and_parts _ _ d in
    let free = all-each (λ n. not (n == t.slot)) (slots_of ts) parts.0 in
    let differ = each-imp _ (λ n. n ≢ t.slot) (λ n k. eqb-false n t.slot (not-true _ k)) (slots_of ts) free in
    let rest = each-unmap (λ n. n ≢ t.slot) (λ (v : StoredTransfer). v.slot) ts differ in
    grind (
      arith,
      apart client id ts u parts.1,
      rest,
      found-has (λ v. is_of client id v.header) (λ v. v.slot ≢ t.slot) ts u rest,
      each-imp,
    )

-- where they hold the same of each transfer areas stand for the node
same-stands : (v : Holding) (slots : List Bytes) → IsSound v
    → AllByRecursion (λ t. transfer_meaning package_reading (record v.areas { slots = slots }) t
    ≡ transfer_meaning package_reading v.areas t) v.state.transfers
    → StandsFor (record v.areas { slots = slots }) v.state (node_of v)
same-stands v slots sound each = record {
  node = ap (λ ts. record (node_of v) { transfers = ts })
      (map-same (transfer_meaning package_reading areas)
      (transfer_meaning package_reading v.areas) v.state.transfers each);
  order = read-order v.areas areas v.state each sound.order;
  copied = each-both _ _ _ copied v.state.transfers each sound.copied;
}
  where
    areas : Areas
    areas = record v.areas { slots = slots }

    copied : (t : StoredTransfer) → transfer_meaning package_reading areas t
        ≡ transfer_meaning package_reading v.areas t
        → IsCopiedIn package_reading v.areas v.state t t.header.phase
        → IsCopiedIn package_reading areas v.state t t.header.phase
    copied t same c = copied-when areas v.state t t.header.phase (λ e.
        subst (λ (m : NodeTransfer). AreCopied areas (units_done v.state) m.parts (extents_in v.state t)) (sym same)
        (same-copied v.areas areas (units_done v.state) _ (extents_in v.state t)
        (every (λ extent. refl) (extents_in v.state t))
        (subst (IsCopiedIn package_reading v.areas v.state t) e c)))

module _ (v : Holding) (sound : IsSound v) (client id : ℕ) (u : StoredTransfer)
    (e : stored_of v.state.transfers client id ≡ Some u) where
  -- its slot is one
  pub slot-is : u.slot < transfer_limit
  slot-is =
      (found-has (λ t. is_of client id t.header) (λ t. t.slot < transfer_limit) v.state.transfers u
      (each-imp _ _ (λ t placed. placed.slot) v.state.transfers sound.order.transfers) e).1

  -- its bytes lie there
  pub came-lies : u.header.received ≤ length (content_of (Transfer u.slot) v.areas)
  came-lies =
      let own =
      found-fact (IsSoundTransfer v.state.next_id) v.areas client id v.state.transfers u
      sound.fit.consistent.transfers.each e in
      let width = length-take u.header.received (content_of (Transfer u.slot) v.areas) in
      omega (arith, own.bytes, width)

  -- a put behind them leaves what each transfer means
  put-stands : AreasFit v.areas → (n : ℕ) (areas : Areas)
      → LeavesOutside (Transfer u.slot) u.header.received n v.areas areas
      → AllByRecursion (λ t. transfer_meaning package_reading areas t
      ≡ transfer_meaning package_reading v.areas t) v.state.transfers
  put-stands fit n areas left = each-both _ _ _ (λ t placed where_is.
      transfer-stands u.slot u.header.received n v.areas areas slot-is fit left package_reading t placed.slot
      (or-came t where_is))
      v.state.transfers sound.order.transfers (apart client id v.state.transfers u sound.order.slots e)
    where
      or-came : (t : StoredTransfer) → (t.slot ≢ u.slot) ⊎ (t ≡ u)
          → (t.slot ≢ u.slot) ⊎ (t.header.received ≤ u.header.received)
      or-came t other = grind arith

-- a call that is refused needs nothing
pub refused-block : (v : Holding) (client id counter : ℕ) (block : Bytes)
    → first_refusal (data_refusals (stored_header v.state.transfers client id) counter (length block)) ≢ None
    → IsReady v client (TransferData id counter block)
refused-block v client id counter block refused none =
    absurd (refused (sym (ap (λ h. first_refusal (data_refusals h counter (length block)))
    (header-means package_reading v.areas (is_of client id) v.state.transfers)) ∙ none))

pub refused-exit : (v : Holding) (client id : ℕ)
    → first_refusal (exit_refusals (stored_header v.state.transfers client id)) ≢ None
    → IsReady v client (TransferExit id)
refused-exit v client id refused none =
    absurd (refused (ap (λ h. first_refusal (exit_refusals h))
    (sym (header-means package_reading v.areas (is_of client id) v.state.transfers)) ∙ none))

-- a transfer that was found
module _ (v : Holding) (own : IsSound v) (client id : ℕ) (f : Found)
    (e : found_of v.state.transfers client id ≡ Some f) where
  -- it is of a stored transfer
  there : (u : StoredTransfer) × (stored_of v.state.transfers client id ≡ Some u)
      × (f ≡ record { header = u.header; slot = u.slot })
  there = grind (arith, e)

  pub found-slot : f.slot < transfer_limit
  found-slot = subst (λ (x : Found). x.slot < transfer_limit) (sym there.2) (slot-is v own client id there.0 there.1)

  pub found-lies : f.header.received ≤ length (content_of (Transfer f.slot) v.areas)
  found-lies =
      subst (λ (x : Found). x.header.received ≤ length (content_of (Transfer x.slot) v.areas)) (sym there.2)
      (came-lies v own client id there.0 there.1)

  pub found-fits : f.header.size ≤ package_limit
  found-fits = subst (λ (x : Found). x.header.size ≤ package_limit) (sym there.2)
      (found-has (λ t. is_of client id t.header) (λ t. t.header.size ≤ package_limit) v.state.transfers there.0
      (each-imp _ _ (λ t bounded. bounded.size) v.state.transfers (table-is v own).each) there.1).1

  -- what a put leaves stands for the node, if it fails
  pub failed-stands : AreasFit v.areas → (n : ℕ) (areas : Areas)
      → LeavesOutside (Transfer f.slot) f.header.received n v.areas areas → StandsFor areas v.state (node_of v)
  failed-stands fit n areas left =
      let each = put-stands v own client id there.0 there.1 fit n areas
      (subst (λ (x : Found). LeavesOutside (Transfer x.slot) x.header.received n v.areas areas) there.2 left) in
      subst (λ (a : Areas). StandsFor a v.state (node_of v)) (sym left.elsewhere)
      (same-stands v _ own (each-imp _ _ (λ t same. ap (λ z. transfer_meaning package_reading z t) (sym left.elsewhere)
      ∙ same) v.state.transfers each))

  -- and if it succeeds
  pub put-left : AreasFit v.areas → (block : Bytes)
      → LeavesOutside (Transfer f.slot) f.header.received (length block) v.areas
      (with_bytes (Transfer f.slot) f.header.received block v.areas)
  put-left fit block = put-leaves (Transfer f.slot) v.areas found-slot fit f.header.received block found-lies

  -- a block that was put is ready
  pub put-ready : AreasFit v.areas → (counter : ℕ) (block : Bytes)
      → IsReady (holding (with_bytes (Transfer f.slot) f.header.received block v.areas) v.state) client
      (TransferData id counter block)
  put-ready fit counter block none =
      let at = f.header.received in
      let area = Transfer f.slot in
      let areas = with_bytes area at block v.areas in
      each-imp _ _ (λ t behind same. behind (eq-eqb t.header.id id same)) v.state.transfers
      (only-has (IsBehind areas block) client id v.state.transfers there.0 (rise v own) there.1
      (subst (λ (x : Found). slice_range (content_of (Transfer x.slot) areas) x.header.received
      (x.header.received + length block) ≡ block) there.2
      (ap (λ c. slice_range c at (at + length block)) (content-here area v.areas found-slot fit _)
      ∙ slice-overwritten at block (content_of area v.areas) found-lies)))

  -- a verdict on the bytes that were got is ready
  pub got-ready : (bytes : Bytes) (verdict : ExitVerdict) → bytes ≡ slice_range (content_of (Transfer f.slot) v.areas) 0
      (0 + f.header.received)
      → IsVerdict verdict (package_reading bytes)
      → IsReady (record v { prepared = Judged verdict }) client (TransferExit id)
  got-ready bytes verdict got judged none =
      let slot = content_of (Transfer f.slot) v.areas in
      let means = transfer_meaning package_reading in
      let came = got ∙ ap (slice_range slot 0) (zero-add f.header.received) ∙ front_slice f.header.received slot
      ∙ ap (λ (x : Found). take x.header.received (content_of (Transfer x.slot) v.areas)) there.2 in
      subst (IsVerdict verdict)
      (ap package_reading came
      ∙ sym (ap (λ o. package_reading (option_map_or (λ t. t.bytes) o []))
      (found-means package_reading v.areas client id v.state.transfers
      ∙ ap (option_map (means v.areas)) there.1)))
      judged
