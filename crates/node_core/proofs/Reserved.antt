-- Calls of a staging that make ready for a call or a unit, and areas that stand in after them.
use Rattle.std.specs.Prelude.{Err, IsErrAnd, IsSomeAnd, Ok, Result}
use Rattle.pm_types.specs.Histories.{verdict_for}
use Rattle.transfer_blocks.specs.declared.area.Area.{Area}
use Rattle.transfer_blocks.specs.declared.area.Area.TheVariants.{Transfer}
use Rattle.transfer_blocks.specs.Steps.{End, Step, puts, gets, with_bytes}
use Rattle.node_core.specs.Reserves.{Brings, BringsNew, Copies, IsPut, IsRead, Reads, Reserves, Spares, Writes}
use Rattle.node_core.specs.declared.prepared.Prepared.TheVariants.{Nothing}
use Rattle.node_core.proofs.Names.{Areas, AreasFit, Bytes, Call, Found, Holding, IsFit, IsReady, State, false, holding, meaning}
use Rattle.node_core.proofs.Names.{IsReservedWork, IsSound, IsUnitOf, LeavesOutside, NextUnit, NodeState, Option, Piece, Prepared}
use Rattle.node_core.proofs.Names.{Processing, Some, StandsFor, StoredTransfer, TransferData, ap, arith, content_of, drop, each-imp, find}
use Rattle.node_core.proofs.Names.{found_of, is_of, length, length-drop, length-take, node_of, option_map, option_map_or, package_limit}
use Rattle.node_core.proofs.Names.{package_reading, parts_place, piece_of, plan_kept, put-leaves, refl, side_of, slice_range, stored_of}
use Rattle.node_core.proofs.Names.{subst, sym, take, transfer_meaning, [], ℕ, ◌+◌, ◌-◌, ◌∙◌, ◌≡◌, ◌≢◌, ◌≤◌}
use Rattle.node_core.proofs.Names.{IsVerdictKept, None, TransferExit, exit_refusals, first_refusal, header_of, transfer_of, verdict_kept}
use Rattle.node_core.proofs.Names.{Activate, ProcessSwPackage}
use Rattle.node_core.proofs.Names.{Extent, IfSome, Readied, IsNextUnit, IsPackageReady, IsUnitReady, SessionOf}
use Rattle.pm_types.specs.NodeState.{of_client}
use Rattle.pm_types.specs.Steps.{repeat_of}
use Rattle.ucm_base.specs.declared.ids.CallNo.{CallNo}
use Rattle.transfer_blocks.specs.Table.{stored_header}
use Rattle.pm_types.specs.Transfers.{data_refusals}
use Rattle.node_core.specs.Errors.{end_by, fault_of}
use Rattle.node_core.specs.declared.node.ReserveError.{ReserveError}
use Rattle.node_core.specs.declared.node.ReserveError.TheVariants.{OutOfMemory}
use Rattle.node_core.proofs.Names.{is_some}
use Rattle.node_core.proofs.Lists.{end-err}
use Rattle.node_core.proofs.Copied.{Needs, PieceNeeds, needs}
use Rattle.node_core.proofs.Pieces.{slice-take}
use Rattle.node_core.proofs.Sound.{sound-stands}
use Rattle.node_core.proofs.Sound.{sound-stands}
use Rattle.node_core.proofs.Sound.{sound-stands}
use Rattle.node_core.proofs.Sound.{sound-stands}
use Rattle.node_core.proofs.Sound.{sound-stands}
use Rattle.node_core.proofs.Sound.{sound-stands}
use Rattle.node_core.proofs.Sound.{sound-stands}
use Rattle.node_core.proofs.Sound.{sound-stands}
use Rattle.node_core.proofs.Runs.{reads-none, reads-once, reads-wrote}
use Rattle.node_core.proofs.Staging.{failed-stands, found-fits, found-slot, put-left, put-ready}
use Rattle.node_core.proofs.Stored.{found-means}

-- areas that stand for a sound node make it sound over them
pub stand-sound : (v : Holding) (held : Areas) (p : Prepared) → IsSound v → StandsFor held v.state (node_of v)
    → IsSound (record { areas = held; state = v.state; prepared = p })
stand-sound v held p sound stand = record {
  fit = subst (IsFit package_reading) (sym stand.node) sound.fit;
  order = stand.order;
  copied = stand.copied;
}

-- and those that stand for it over such
stand-on : (v : Holding) (held torn : Areas) → StandsFor held v.state (node_of v)
    → StandsFor torn v.state (node_of (record v { areas = held })) → StandsFor torn v.state (node_of v)
stand-on v held torn stand over = record { node = over.node ∙ stand.node; order = over.order; copied = over.copied }

module _ {S : Type 0} (obeys : S → Step → S → Type 0) (areas : S → Areas) (s : State) (Bring : Step → Type 0)
    (R : Areas → Type 0) (old new : S) where
  abbrev node : NodeState
  node = meaning package_reading (areas old) s

  -- reading reserves, where what is ready is so over areas that stand for the node
  pub reads-reserve : (end : End) → ((e : End) → Bring (gets e)) → Reads obeys end old new
      → areas new ≡ areas old → StandsFor (areas old) s node
      → (end ≡ Ok tt → (held : Areas) → AreasFit held → StandsFor held s node → R held)
      → Reserves obeys areas s Bring R end old new
  reads-reserve end bring reads same stands ready = record {
    steps = reads.steps;
    ran = reads.ran;
    once = omega (arith, ap length (reads-once reads.steps reads.reads));
    brings = each-imp IsRead Bring brings reads.steps reads.reads;
    spares = each-imp IsRead (Spares s node) spares reads.steps reads.reads;
    stands = subst (λ (a : Areas). StandsFor a s node) (sym same) stands;
    done = reads.done;
    faultless = reads.faultless;
    moved = λ e. same ∙ sym (reads-wrote reads.steps reads.reads (areas old));
    holds = λ e held fit stand. subst (λ a. StandsFor a s node × R a) (sym (reads-wrote reads.steps reads.reads held))
        (stand, ready e held fit stand);
  }
    where
      brings : (step : Step) → IsRead step → Bring step
      brings (puts area at bytes end) read = absurd read
      brings (gets end) read = bring end

      spares : (step : Step) → IsRead step → Spares s node step
      spares (puts area at bytes end) read = absurd read
      spares (gets end) read = tt

  -- and so does putting bytes where nothing is named
  pub writes-reserve : (end : End) (area : Area) (at : ℕ) (bytes : Bytes) → ((e : End) → Bring (gets e))
      → ((e : End) → Bring (puts area at bytes e)) → ((e : End) → Spares s node (puts area at bytes e))
      → Writes obeys area at bytes end old new → (end ≡ Ok tt → areas new ≡ with_bytes area at bytes (areas old))
      → StandsFor (areas new) s node
      → (end ≡ Ok tt → (held : Areas) → AreasFit held → StandsFor held s node
      → StandsFor (with_bytes area at bytes held) s node × R (with_bytes area at bytes held))
      → Reserves obeys areas s Bring R end old new
  writes-reserve end area at bytes reading putting spare writes put stands holds = record {
    steps = writes.steps;
    ran = writes.ran;
    once = writes.once;
    brings = each-imp (IsPut area at bytes) Bring brings writes.steps writes.only;
    spares = each-imp (IsPut area at bytes) (Spares s node) spares writes.steps writes.only;
    stands = stands;
    done = writes.done;
    faultless = writes.faultless;
    moved = λ e. put e ∙ sym (writes.put e (areas old));
    holds = λ e held fit stand.
        subst (λ a. StandsFor a s node × R a) (sym (writes.put e held)) (holds e held fit stand);
  }
    where
      brings : (step : Step) → IsPut area at bytes step → Bring step
      brings (puts other place other_bytes end) same =
          subst (λ (k : Area × ℕ × Bytes). Bring (puts k.0 k.1 k.2 end))
          (λ i. (sym same.0 i, sym same.1 i, sym same.2 i)) (putting end)
      brings (gets end) same = reading end

      spares : (step : Step) → IsPut area at bytes step → Spares s node step
      spares (puts other place other_bytes end) same =
          subst (λ (k : Area × ℕ × Bytes). Spares s node (puts k.0 k.1 k.2 end))
          (λ i. (sym same.0 i, sym same.1 i, sym same.2 i)) (spare end)
      spares (gets end) same = tt

-- nothing was done, and all that is needed is there
pub nothing-reserves : {S : Type 0} (obeys : S → Step → S → Type 0) (areas : S → Areas) (s : State) {p : Prepared}
    {Bring : Step → Type 0} {R : Areas → Type 0} (old : S) → ((e : End) → Bring (gets e))
    → IsSound (record { areas = areas old; state = s; prepared = p })
    → ((held : Areas) → AreasFit held → StandsFor held s (meaning package_reading (areas old) s) → R held)
    → Reserves obeys areas s Bring R (Ok tt) old old
nothing-reserves obeys areas s {p} {Bring} {R} old bring sound ready =
    reads-reserve obeys areas s Bring R old old (Ok tt) bring (reads-none obeys (Ok tt) old) refl
    (sound-stands (record { areas = areas old; state = s; prepared = p }) sound) (λ ok. ready)

-- what reserves for one thing reserves for what follows from it, and brings what follows
pub reserves-for : {S : Type 0} {obeys : S → Step → S → Type 0} {areas : S → Areas} {s : State}
    {Bring More : Step → Type 0} {R Q : Areas → Type 0} {old new : S} {end : End}
    → ((step : Step) → Bring step → More step) → (end ≡ Ok tt → (held : Areas) → R held → Q held)
    → Reserves obeys areas s Bring R end old new → Reserves obeys areas s More Q end old new
reserves-for {Bring = Bring} {More = More} more to r = record {
  steps = r.steps;
  ran = r.ran;
  once = r.once;
  brings = each-imp Bring More more r.steps r.brings;
  spares = r.spares;
  stands = r.stands;
  done = r.done;
  faultless = r.faultless;
  moved = r.moved;
  holds = λ e held fit stand. let h = r.holds e held fit stand in (h.0, to e _ h.1);
}

-- of a call and a state that are the same
pub reserves-at : {S : Type 0} {obeys : S → Step → S → Type 0} {areas : S → Areas} {v w : Readied} (e : v ≡ w)
    {a b : Call} (same : b ≡ a) (client : ℕ) {R Q : Areas → Type 0} {end : End} {old new : S}
    → ((held : Areas) → R held → Q held)
    → Reserves obeys areas v.state (BringsNew v.state client a) R end old new
    → Reserves obeys areas w.state (BringsNew w.state client b) Q end old new
reserves-at {obeys = obeys} {areas = areas} e same client {R = R} {end = end} {old = old} {new = new} to r =
    reserves-for (λ step brought. brought) (λ e. to)
    (subst (λ (k : Readied × Call). Reserves obeys areas k.0.state (BringsNew k.0.state client k.1) R end old new)
    (λ i. (e i, sym same i)) r)

-- what a newer call brings
pub brings-new : (s : State) (client : ℕ) (call_no : CallNo) (call : Call)
    → repeat_of call_no (of_client s.last client) ≡ None → (step : Step) → BringsNew s client call step
    → Brings s client call_no call step
brings-new s client call_no call newer (gets end) brought = tt
brings-new s client call_no call newer (puts area at bytes end) brought = (newer, brought)

-- of a staging and a state that are the same, where what is brought is told otherwise, too
pub reserves-same : {S : Type 0} {obeys : S → Step → S → Type 0} {areas : S → Areas}
    (Bring More : S → State → Step → Type 0) {k l : S × State} (e : k ≡ l)
    {R Q : Areas → Type 0} {end : End} {new : S} → ((step : Step) → Bring l.0 l.1 step → More l.0 l.1 step)
    → ((held : Areas) → R held → Q held)
    → Reserves obeys areas k.1 (Bring k.0 k.1) R end k.0 new → Reserves obeys areas l.1 (More l.0 l.1) Q end l.0 new
reserves-same {S = S} {obeys = obeys} {areas = areas} Bring More {l = l} e {R = R} {end = end} {new = new} more to r =
    reserves-for more (λ e. to) (subst (λ (k : S × State). Reserves obeys areas k.1 (Bring k.0 k.1) R end k.0 new) e r)

-- what was done before a failure, which a `?` hands on
pub failed-reserves : {S X : Type 0} {obeys : S → Step → S → Type 0} {areas : S → Areas} {s : State}
    {Bring : Step → Type 0} {R Q : Areas → Type 0} {old new : S} (e : ReserveError) (r : Result X ReserveError)
    → IsErrAnd r (λ x. x ≡ e) → Reserves obeys areas s Bring R (Err (fault_of e)) old new
    → Reserves obeys areas s Bring Q (end_by r) old new
failed-reserves e r is done = rw (end-err e r is) (reserves-for (λ step brought. brought) (λ q. absurd (cc q)) done)

-- and what was only read before it
pub reads-handed : {S X : Type 0} (obeys : S → Step → S → Type 0) (areas : S → Areas) {s : State} {p : Prepared}
    {Bring : Step → Type 0} {Q : Areas → Type 0} {old new : S} {end : End} (r : Result X ReserveError)
    → end_by r ≡ end → (end ≡ Ok tt → ⊥) → ((end : End) → Bring (gets end))
    → IsSound (record { areas = areas old; state = s; prepared = p }) → Reads obeys end old new → areas new ≡ areas old
    → Reserves obeys areas s Bring Q (end_by r) old new
reads-handed obeys areas {s} {p} {Bring} {Q} {old} {new} {end} r is failed bring sound reads same =
    rw is (reads-reserve obeys areas s Bring Q old new end bring reads same
    (sound-stands (record { areas = areas old; state = s; prepared = p }) sound) (λ ok. absurd (failed ok)))

-- where memory was wanted first nothing was done
pub nothing-handed : {S X : Type 0} (obeys : S → Step → S → Type 0) (areas : S → Areas) {s : State} {p : Prepared}
    {Bring : Step → Type 0} {Q : Areas → Type 0} {old : S} (r : Result X ReserveError)
    → IsErrAnd r (λ x. x ≡ OutOfMemory) → ((end : End) → Bring (gets end))
    → IsSound (record { areas = areas old; state = s; prepared = p })
    → Reserves obeys areas s Bring Q (end_by r) old old
nothing-handed obeys areas r is bring sound =
    reads-handed obeys areas r (end-err OutOfMemory r is) (λ ok. cc ok) bring sound (reads-none obeys _ _) refl

-- a verdict that is ready is so over areas that stand for the node
pub exit-ready : (v : Holding) (held : Areas) (client id : ℕ) → StandsFor held v.state (node_of v)
    → IsReady v client (TransferExit id) → IsReady (record v { areas = held }) client (TransferExit id)
exit-ready v held client id stand ready =
    subst (λ (k : NodeState). first_refusal (exit_refusals (header_of (transfer_of k client id))) ≡ None
    → IsVerdictKept (verdict_kept v.prepared) (verdict_for package_reading k client (TransferExit id)))
    (sym stand.node) ready

pub none-unless : {X : Type 0} (o : Option X) → (o ≢ None → ⊥) → o ≡ None
none-unless None h = refl
none-unless (Some x) h = absurd (h (λ e. absurd (cc e)))

pub none-is : {X : Type 0} (o : Option X) → false ≡ is_some o → o ≡ None
none-is None h = refl
none-is (Some x) h = absurd (cc h)

some-and : {X : Type 0} (P : X → Type 0) (o : Option X) (x : X) → o ≡ Some x → P x → IsSomeAnd o P
some-and P o x e p = subst (λ o. IsSomeAnd o P) (sym e) p

-- a block that is put behind the bytes that came reserves for its call
module _ {S : Type 0} (obeys : S → Step → S → Type 0) (areas : S → Areas) (s : State) (old new : S)
    (sound : IsSound (holding (areas old) s)) (client id counter : ℕ) (block : Bytes) (f : Found)
    (e : found_of s.transfers client id ≡ Some f) (room : f.header.received + length block ≤ f.header.size) where
  abbrev v : Holding
  v = holding (areas old) s

  block-fits : f.header.received + length block ≤ package_limit
  block-fits = let size = found-fits v sound client id f e in omega (arith, size, room)

  abbrev area : Area
  area = Transfer f.slot

  abbrev at : ℕ
  at = f.header.received

  block-spares : (end : End) → Spares s (node_of v) (puts area at block end)
  block-spares end = (
    found-slot v sound client id f e,
    block-fits,
    λ held torn fit stand left.
        stand-on v held torn stand
        (failed-stands (holding held s) (stand-sound v held Nothing sound stand) client id f e fit (length block) torn
        left),
  )

  block-holds : (held : Areas) → AreasFit held → StandsFor held s (node_of v)
      → StandsFor (with_bytes area at block held) s (node_of v)
      × IsReady (holding (with_bytes area at block held) s) client (TransferData id counter block)
  block-holds held fit stand =
      let w = holding held s in
      let good = stand-sound v held Nothing sound stand in
      let left = put-left w good client id f e fit block in (
        stand-on v held _ stand (failed-stands w good client id f e fit (length block) _ left),
        put-ready w good client id f e fit counter block,
      )

  -- which the table accepts
  abbrev IsAccepted : Type 0
  IsAccepted = first_refusal (data_refusals (stored_header s.transfers client id) counter (length block)) ≡ None

  pub block-reserves : IsAccepted → (end : End) → AreasFit (areas old) → Writes obeys area at block end old new
      → (end ≡ Ok tt → areas new ≡ with_bytes area at block (areas old))
      → LeavesOutside area at (length block) (areas old) (areas new)
      → Reserves obeys areas s (BringsNew s client (TransferData id counter block))
      (λ held. IsReady (holding held s) client (TransferData id counter block)) end old new
  block-reserves accepted end fit writes put left =
      writes-reserve obeys areas s (BringsNew s client (TransferData id counter block))
      (λ held. IsReady (holding held s) client (TransferData id counter block)) old new end area at block
      (λ end. tt)
      (λ end. (accepted, some-and _ _ f e (refl, refl, refl)))
      block-spares writes put (failed-stands v sound client id f e fit (length block) (areas new) left)
      (λ ok. block-holds)

-- the bytes that came for a transfer are the same in areas that stand for the node
same-came : (v : Holding) (held : Areas) (client id : ℕ) (t : StoredTransfer) → StandsFor held v.state (node_of v)
    → stored_of v.state.transfers client id ≡ Some t
    → take t.header.received (content_of (Transfer t.slot) held)
    ≡ take t.header.received (content_of (Transfer t.slot) v.areas)
same-came v held client id t stand is = sym (came held) ∙ ap bytes-in stand.node ∙ came v.areas
  where
    bytes-in : NodeState → Bytes
    bytes-in k = option_map_or (λ u. u.bytes) (find (λ u. is_of client id u.header) k.transfers) []

    came : (areas : Areas) → bytes-in (meaning package_reading areas v.state)
        ≡ take t.header.received (content_of (Transfer t.slot) areas)
    came areas =
        ap (λ o. option_map_or (λ u. u.bytes) o []) (found-means package_reading areas client id v.state.transfers
        ∙ ap (option_map (transfer_meaning package_reading areas)) is)

-- bytes within those that came are the same
same-slice : (xs ys : Bytes) (came at len : ℕ) → take came ys ≡ take came xs → at + len ≤ came
    → slice_range ys at (at + len) ≡ slice_range xs at (at + len)
same-slice xs ys came at len same le =
    let wide : at + len - at ≡ len = omega arith in
    ap (λ n. take n (drop at ys)) wide ∙ sym (slice-take at len came ys le) ∙ ap (λ zs. take len (drop at zs)) same
    ∙ slice-take at len came xs le ∙ ap (λ n. take n (drop at xs)) (sym wide)

-- a unit of a package, and the piece that it brings
module _ (v : Holding) (sound : IsSound v) (busy : v.state.status ≡ Processing) {n : NextUnit} (u : IsUnitOf v.state n)
    (piece : Piece) (found : piece_of (content_of (Transfer n.slot) v.areas) (parts_place (length n.extents.items))
    n.done n.extents.items ≡ Some piece) where
  abbrev came : ℕ
  came = u.transfer.header.received

  pub piece-own : PieceNeeds v n.slot came (option_map (λ c. c.items) n.changes) piece
  piece-own = (needs v sound busy u).piece piece found

  abbrev side : Area
  side = side_of piece.to

  abbrev bytes : Bytes
  bytes = slice_range (content_of (Transfer n.slot) v.areas) piece.from (piece.from + piece.len)

  long : length bytes ≡ piece.len
  long = let range = piece-own.range in
      omega (
        arith,
        range,
        length-take (piece.from + piece.len - piece.from) (drop piece.from (content_of (Transfer n.slot) v.areas)),
        length-drop piece.from (content_of (Transfer n.slot) v.areas),
      )

  -- the same over areas that stand for the node
  module _ (held : Areas) (stand : StandsFor held v.state (node_of v)) where
    abbrev w : Holding
    w = record v { areas = held }

    here : Needs w n.slot came n.done n.extents.items (option_map (λ c. c.items) n.changes)
    here = needs w (stand-sound v held v.prepared sound stand) busy u

    same : take came (content_of (Transfer n.slot) held) ≡ take came (content_of (Transfer n.slot) v.areas)
    same = subst (λ slot. take came (content_of (Transfer slot) held) ≡ take came (content_of (Transfer slot) v.areas))
        (sym u.slot) (same-came v held u.x.owner u.id u.transfer stand u.stored)

    piece-here : PieceNeeds w n.slot came (option_map (λ c. c.items) n.changes) piece
    piece-here = here.piece piece (sym here.front
        ∙ ap (λ xs. piece_of xs (parts_place (length n.extents.items)) n.done n.extents.items) same
        ∙ (needs v sound busy u).front ∙ found)

  -- it is the next one, as the state tells
  unit-copies : piece.len ≢ 0 → (e : End) → Copies v.areas v.state (puts side piece.at bytes e)
  unit-copies some e = (
    busy,
    some-and _ _ u.x u.session (some-and _ _ u.id u.processing (some-and _ _ u.transfer u.stored
        (some-and _ _ piece
        ((λ i. piece_of (content_of (Transfer (sym u.slot i)) v.areas) (parts_place (length (sym u.extents i)))
        (sym u.done i) (sym u.extents i)) ∙ found) (
          refl,
          refl,
          ap (λ slot. slice_range (content_of (Transfer slot) v.areas) piece.from (piece.from + piece.len)) u.slot,
          omega (arith, some),
        )))),
  )

  -- a put of its bytes spares what is named
  unit-spares : piece.len ≢ 0 → (e : End) → Spares v.state (node_of v) (puts side piece.at bytes e)
  unit-spares some e = (
    piece-own.area,
    (let fits = piece-own.fits in omega (arith, fits, long)),
    λ held torn fit stand left. stand-on v held torn stand ((piece-here held stand).stands fit some torn
        (subst (λ k. LeavesOutside side piece.at k held torn) long left)),
  )

  module _ (p : Prepared) (plan : plan_kept p ≡ option_map (λ c. c.items) n.changes) where
    abbrev IsUnitReadyOver : Areas → Type 0
    IsUnitReadyOver held = IsReservedWork (record { areas = held; state = v.state; prepared = p })

    -- a piece of no bytes is ready without a put
    pub none-ready : piece.len ≡ 0 → (held : Areas) → AreasFit held → StandsFor held v.state (node_of v)
        → IsUnitReadyOver held
    none-ready zero held fit stand = (piece-here held stand).none zero _ refl refl plan

    -- and one of some is with it
    unit-holds : piece.len ≢ 0 → (held : Areas) → AreasFit held → StandsFor held v.state (node_of v)
        → StandsFor (with_bytes side piece.at bytes held) v.state (node_of v)
        × IsUnitReadyOver (with_bytes side piece.at bytes held)
    unit-holds some held fit stand =
        let own = piece-here held stand in
        let next = with_bytes side piece.at bytes held in
        let sliced = same-slice (content_of (Transfer n.slot) v.areas) (content_of (Transfer n.slot) held) came
        piece.from piece.len (same held stand) piece-own.inside in
        let left = subst (λ k. LeavesOutside side piece.at k held next) long
        (put-leaves side held own.area fit piece.at bytes own.begin) in (
          stand-on v held next stand (own.stands fit some next left),
          own.ready fit some (record { areas = next; state = v.state; prepared = p }) refl plan left
              (ap (λ xs. with_bytes side piece.at xs held) (sym sliced)),
        )

-- copying its bytes reserves for the unit
pub unit-reserves : {S : Type 0} (obeys : S → Step → S → Type 0) (areas : S → Areas) (s : State) (old new : S)
    (sound : IsSound (holding (areas old) s)) (busy : s.status ≡ Processing) {n : NextUnit} (u : IsUnitOf s n)
    (piece : Piece) (found : piece_of (content_of (Transfer n.slot) (areas old)) (parts_place (length n.extents.items))
    n.done n.extents.items ≡ Some piece) (p : Prepared) (plan : plan_kept p ≡ option_map (λ c. c.items) n.changes)
    → piece.len ≢ 0 → AreasFit (areas old) → (end : End)
    → Writes obeys (side_of piece.to) piece.at
    (slice_range (content_of (Transfer n.slot) (areas old)) piece.from (piece.from + piece.len)) end old new
    → (end ≡ Ok tt → areas new ≡ with_bytes (side_of piece.to) piece.at
    (slice_range (content_of (Transfer n.slot) (areas old)) piece.from (piece.from + piece.len)) (areas old))
    → LeavesOutside (side_of piece.to) piece.at piece.len (areas old) (areas new)
    → Reserves obeys areas s (Copies (areas old) s)
    (λ held. IsReservedWork (record { areas = held; state = s; prepared = p })) end old new
unit-reserves obeys areas s old new sound busy {n = n} u piece found p plan some fit end writes put left =
    let v : Holding = holding (areas old) s in
    writes-reserve obeys areas s (Copies (areas old) s)
    (λ held. IsReservedWork (record { areas = held; state = s; prepared = p })) old new end (side_of piece.to) piece.at
    (bytes v sound busy u piece found) (λ e. tt) (unit-copies v sound busy u piece found some)
    (unit-spares v sound busy u piece found some) writes put
    ((piece-own v sound busy u piece found).stands fit some (areas new) left)
    (λ ok. unit-holds v sound busy u piece found p plan some)

-- where no package is in processing a unit needs nothing
pub no-unit : (v : Holding) → v.state.status ≡ Processing → IsNextUnit v.state None → IsReservedWork v
no-unit v busy none =
    subst (λ status. IfSome v.state.session (IsUnitReady status v)) (sym busy) (of v.state.session none)
  where
    at : (x : SessionOf Extent) (p : Option ℕ) → IfSome p (λ id. stored_of v.state.transfers x.owner id ≡ None)
        → IfSome p (λ id. IfSome (stored_of v.state.transfers x.owner id) (IsPackageReady v x id))
    at x None n = tt
    at x (Some id) n = subst (λ o. IfSome o (IsPackageReady v x id)) (sym n) tt

    of : (o : Option (SessionOf Extent))
        → IfSome o (λ x. IfSome x.processing (λ id. stored_of v.state.transfers x.owner id ≡ None))
        → IfSome o (IsUnitReady Processing v)
    of None n = tt
    of (Some x) n = at x x.processing n

-- what isn't a block, a package or an activation needs nothing
pub other-ready : (v : Holding) (client : ℕ) (call : Call)
    → ((id counter : ℕ) (block : Bytes) → call ≡ TransferData id counter block → ⊥)
    → ((id : ℕ) → call ≡ TransferExit id → ⊥) → ((id tag : ℕ) → call ≡ ProcessSwPackage id tag → ⊥)
    → (call ≡ Activate → ⊥) → IsReady v client call
other-ready v client call no_data no_exit no_package no_activation = grind arith
