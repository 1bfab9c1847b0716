-- What copying the next unit of a package leaves of a sound node, and makes ready.
use Rattle.node_core.proofs.Names.{AllByRecursion, AreCopied, Areas, AreasFit, Bytes, Change, Extent, Holding, IfSome, IsArea, IsExtent, StandsFor, node_of}
use Rattle.node_core.proofs.Names.{IsPackageReady, IsReservedWork, IsSound, IsUnitOf, LeavesOutside, LieWithin, List, NextUnit, None}
use Rattle.node_core.proofs.Names.{Option, Piece, Processing, SessionOf, Some, State, StoredTransfer}
use Rattle.node_core.proofs.Names.{Transfer as MeantTransfer, ap, append-nil, arith, before-stands, changes_due, changes_to, content-here, content_of}
use Rattle.node_core.proofs.Names.{drop, each-imp, extents_in, if◌then◌else◌, length, length-drop, length-map, length-take, on_side, found-has, is_of, IsCopiedIn, Part, PartsLie, option_map}
use Rattle.node_core.proofs.Names.{overwritten, package_limit, package_reading, parts_place, piece_of, plan_kept, side_of, slice_range}
use Rattle.node_core.proofs.Names.{subst, sym, take, take-overwritten, take-take, transfer_meaning, with_content, with_length, ℕ, ◌++◌}
use Rattle.node_core.proofs.Names.{◌+◌, ◌-◌, ◌<◌, ◌∙◌, ◌≡◌, ◌≢◌, ◌≤◌}
use Rattle.transfer_blocks.specs.declared.area.Area.TheVariants.{Transfer}
use Rattle.node_core.proofs.Handled.{hand-copied, InHand, at_process, busy, extents, extents-are, in-hand}
use Rattle.node_core.proofs.Worked.{at-work}
use Rattle.node_core.proofs.Staging.{came-lies, slot-is}
use Rattle.node_core.proofs.Lastly.{brings, matches, planned-extents}
use Rattle.node_core.proofs.Packages.{parts-read}
use Rattle.node_core.proofs.Pieces.{Copies, lie-in-all, lie-within, next-piece, piece-front}
use Rattle.node_core.proofs.Placing.{match-length}
use Rattle.node_core.proofs.Sides.{AreApart, goes-apart, places-apart, same-extent, side-means, side-order}

-- what copying a piece needs, leaves and makes ready
pub record PieceNeeds (v : Holding) (slot came : ℕ) (changes : Option (List (Change Extent))) (piece : Piece) : Type 0
  where
    pub area : IsArea (side_of piece.to)
    pub inside : piece.from + piece.len ≤ came
    pub range : piece.from + piece.len ≤ length (content_of (Transfer slot) v.areas)
    pub begin : piece.at ≤ length (content_of (side_of piece.to) v.areas)
    pub fits : piece.at + piece.len ≤ package_limit
    pub stands : AreasFit v.areas → piece.len ≢ 0 → (areas : Areas)
        → LeavesOutside (side_of piece.to) piece.at piece.len v.areas areas → StandsFor areas v.state (node_of v)
    pub ready : AreasFit v.areas → piece.len ≢ 0 → (new : Holding) → new.state ≡ v.state
        → plan_kept new.prepared ≡ changes
        → LeavesOutside (side_of piece.to) piece.at piece.len v.areas new.areas
        → new.areas ≡ with_content (side_of piece.to) (overwritten piece.at
        (slice_range (content_of (Transfer slot) v.areas) piece.from (piece.from + piece.len))
        (content_of (side_of piece.to) v.areas)) v.areas
        → IsReservedWork new
    pub none : piece.len ≡ 0 → (new : Holding) → new.areas ≡ v.areas → new.state ≡ v.state
        → plan_kept new.prepared ≡ changes → IsReservedWork new

-- what a next unit needs: its package lies in the slot, and there is a piece
pub record Needs (v : Holding) (slot came done : ℕ) (extents : List Extent)
    (changes : Option (List (Change Extent))) : Type 0 where
  pub slot-is : IsArea (Transfer slot)
  pub front : piece_of (take came (content_of (Transfer slot) v.areas)) (parts_place (length extents)) done extents
      ≡ piece_of (content_of (Transfer slot) v.areas) (parts_place (length extents)) done extents
  pub lie : LieWithin (content_of (Transfer slot) v.areas) (parts_place (length extents)) extents
  pub some : piece_of (content_of (Transfer slot) v.areas) (parts_place (length extents)) done extents ≡ None → ⊥
  pub piece : (piece : Piece)
      → piece_of (content_of (Transfer slot) v.areas) (parts_place (length extents)) done extents ≡ Some piece
      → PieceNeeds v slot came changes piece

module _ (v : Holding) (x : SessionOf Extent) (id : ℕ) (sound : IsSound (at_process v x id)) (h : InHand v x id) where
  abbrev s : State
  s = (at_process v x id).state

  abbrev slot : Bytes
  slot = content_of (Transfer h.transfer.slot) v.areas

  abbrev goes : List Extent
  goes = extents v x id v.prepared sound h

  same-count : length goes ≡ length h.parts
  same-count = match-length (brings v x id sound h) goes (matches v x id sound h) ∙ length-map h.parts with_length

  abbrev came : ℕ
  came = h.transfer.header.received

  came-there : came ≤ length slot
  came-there = came-lies (at_process v x id) sound x.owner id h.transfer h.is

  parts-in-front : PartsLie (take came slot) (parts_place (length goes)) h.parts
  parts-in-front = subst (λ n. PartsLie (take came slot) (parts_place n) h.parts) (sym same-count)
      (parts-read (take came slot) h.parts h.reads).lie

  parts-lie : PartsLie slot (parts_place (length goes)) h.parts
  parts-lie = lie-in-all came slot (parts_place (length goes)) h.parts came-there parts-in-front

  front-is : piece_of (take came slot) (parts_place (length goes)) x.units_done goes
      ≡ piece_of slot (parts_place (length goes)) x.units_done goes
  front-is = piece-front came slot (parts_place (length goes)) x.units_done goes came-there
      (lie-within (take came slot) (parts_place (length goes)) h.parts goes (matches v x id sound h) parts-in-front)

  copied-so-far : AreCopied v.areas x.units_done h.parts goes
  copied-so-far =
      let own = found-has (λ t. is_of x.owner id t.header) (λ t. IsCopiedIn package_reading v.areas s t t.header.phase)
      v.state.transfers h.transfer sound.copied h.is in
      subst (λ (k : List (Part Bytes) × List Extent). AreCopied v.areas x.units_done k.0 k.1) (λ i.
      (h.means i, extents-are v x id v.prepared sound h i))
      (subst (IsCopiedIn package_reading v.areas s h.transfer) h.phase own.1)

  next : Copies slot v.areas (parts_place (length goes)) x.units_done h.parts goes
  next = next-piece slot v.areas (parts_place (length goes)) x.units_done h.parts goes parts-lie
      (matches v x id sound h) (places-apart v x id sound h)
      copied-so-far h.unfinished

  abbrev piece : Piece
  piece = next.piece

  -- its bytes are among those that came
  inside : piece.from + piece.len ≤ came
  inside =
      let first = next-piece (take came slot) v.areas (parts_place (length goes)) x.units_done h.parts goes
      parts-in-front
      (matches v x id sound h) (places-apart v x id sound h) copied-so-far h.unfinished in
      let same : first.piece ≡ piece = let z = sym first.is ∙ front-is ∙ next.is in cc in
      let range = first.range in
      subst (λ (p : Piece). p.from + p.len ≤ came) same (omega (arith, range, length-take came slot))

  extent : IsExtent piece.to
  extent = next.among IsExtent (planned-extents v x id sound h)

  area : IsArea (side_of piece.to)
  area = (extent.0, extent.1)

  begin : piece.at ≤ length (content_of (side_of piece.to) v.areas)
  begin = let lies = next.lies in
      omega (arith, lies, length-take piece.to.length (content_of (side_of piece.to) v.areas))

  as-left : (new : Holding) → new.state ≡ s
      → new ≡ record { areas = new.areas; state = s; prepared = new.prepared }
  as-left new e = λ i. record new { state = e i }

  same-read : (areas : Areas) → LeavesOutside (side_of piece.to) piece.at piece.len v.areas areas
      → (t : StoredTransfer) → transfer_meaning package_reading areas t ≡ transfer_meaning package_reading v.areas t
  same-read areas left t = ap (λ (k : Areas). transfer_meaning package_reading k t) left.elsewhere

  -- the other sides where payloads go hold what they held
  others-stand : AreasFit v.areas → (areas : Areas) → LeavesOutside (side_of piece.to) piece.at piece.len v.areas areas
      → AllByRecursion (λ e. e.place ≢ piece.to.place → on_side areas e ≡ on_side v.areas e) goes
  others-stand fit areas left = each-imp _ _ (λ e is differ.
      same-extent v x id sound h (side_of piece.to) piece.at piece.len areas area fit left (same-read areas left) e is
      (λ same. differ (place-of e piece.to same))) goes (planned-extents v x id sound h)
    where
      place-of : (e f : Extent) → side_of e ≡ side_of f → e.place ≡ f.place
      place-of e f same = cc

  -- the first bytes of the side where the piece goes
  front : (areas : Areas) (n : ℕ) → n ≤ piece.to.length
      → take n (on_side areas piece.to) ≡ take n (content_of (side_of piece.to) areas)
  front areas n le = take-take n piece.to.length (content_of (side_of piece.to) areas) le

  -- a put behind the done units, of no more than these bytes, leaves the node as it is
  put-stands : AreasFit v.areas → piece.len ≢ 0 → (areas : Areas)
      → LeavesOutside (side_of piece.to) piece.at piece.len v.areas areas
      → StandsFor areas s (node_of (at_process v x id))
  put-stands fit some areas left =
      let within = next.within in
      let long : 0 < piece.to.length = omega (arith, within, some) in
      let begins : piece.at ≤ piece.to.length = omega (arith, within) in record {
        node = side-means v x id sound h (side_of piece.to) piece.at piece.len areas area fit left
            (same-read areas left)
            (next.among (λ e. 0 < e.length → AreApart (side_of e) v x) (goes-apart v x id sound h) long);
        order = side-order v x id sound h (side_of piece.to) piece.at piece.len areas area fit left
            (same-read areas left);
        copied = hand-copied v x id v.prepared sound h areas s (same-read areas left)
            (subst (AreCopied areas x.units_done h.parts) (sym (extents-are v x id v.prepared sound h))
            (next.kept areas (others-stand fit areas left)
            (front areas piece.at begins
            ∙ before-stands piece.at piece.len (content_of (side_of piece.to) v.areas)
            (content_of (side_of piece.to) areas) piece.at (omega arith) left.here
            ∙ sym (front v.areas piece.at begins))));
      }

  -- and makes the unit ready
  unit-ready : (new : Holding) → new.state ≡ s
      → plan_kept new.prepared ≡ changes_due x.units_done id h.transfer.contents (extents_in s h.transfer)
      → transfer_meaning package_reading new.areas h.transfer ≡ transfer_meaning package_reading v.areas h.transfer
      → AreCopied new.areas (x.units_done + 1) h.parts goes → IsReservedWork new
  unit-ready new same kept reads bytes = subst IsReservedWork (sym (as-left new same))
      (subst (λ o. IfSome o (IsPackageReady left (busy x id) id)) (sym h.is) (record {
        bytes = subst (λ (k : List (Part Bytes) × List Extent). AreCopied new.areas (x.units_done + 1) k.0 k.1)
            (λ i. (
              sym (ap (λ (k : MeantTransfer). k.parts) reads ∙ h.means) i,
              sym (extents-are v x id v.prepared sound h) i,
            )) bytes;
        changes = λ last. kept ∙ ap (λ b. if b then None
            else Some (changes_to id h.transfer.contents (extents_in s h.transfer))) last;
      }))
    where
      left : Holding
      left = record { areas = new.areas; state = s; prepared = new.prepared }

  abbrev plan : Option (List (Change Extent))
  plan = changes_due x.units_done id h.transfer.contents (extents_in s h.transfer)

  needs-piece : PieceNeeds (at_process v x id) h.transfer.slot came plan piece
  needs-piece = record {
    area = area;
    inside = inside;
    range = next.range;
    begin = begin;
    fits = let within = next.within in let low = extent.2 in omega (arith, within, low);
    stands = put-stands;
    ready = λ fit some new same kept left put.
        let within = next.within in
        let range = next.range in
        let bytes = slice_range slot piece.from (piece.from + piece.len) in
        let wide : piece.from + piece.len - piece.from ≡ piece.len = omega arith in
        let piece-is : bytes ≡ take piece.len (drop piece.from slot) = ap (λ n. take n (drop piece.from slot)) wide in
        let long : piece.at + piece.len ≡ piece.at + length bytes =
        omega (
          arith,
          range,
          ap length piece-is,
          length-take piece.len (drop piece.from slot),
          length-drop piece.from slot,
        ) in
        unit-ready new same kept (same-read new.areas left h.transfer)
        (next.ready new.areas (others-stand fit new.areas left)
        (front new.areas (piece.at + piece.len) within
        ∙ ap (λ a. take (piece.at + piece.len) (content_of (side_of piece.to) a)) put
        ∙ ap (take (piece.at + piece.len)) (content-here (side_of piece.to) v.areas area fit _)
        ∙ take-overwritten piece.at bytes (content_of (side_of piece.to) v.areas) begin (piece.at + piece.len) long
        ∙ (λ i. sym (front v.areas piece.at (omega (arith, within))) i ++ piece-is i)));
    none = λ zero new areas same kept.
        unit-ready new same kept (ap (λ (k : Areas). transfer_meaning package_reading k h.transfer) areas)
        (next.ready new.areas (each-imp _ _ (λ e is differ. ap (λ a. on_side a e) areas) goes
        (planned-extents v x id sound h))
        (let all : piece.at + piece.len ≡ piece.at = omega (arith, zero) in
        (λ i. take (all i) (on_side (areas i) piece.to)) ∙ sym (append-nil (take piece.at (on_side v.areas piece.to)))
        ∙ ap (λ n. take piece.at (on_side v.areas piece.to) ++ take n (drop piece.from slot)) (sym zero)));
  }

  needs-next : Needs (at_process v x id) h.transfer.slot came x.units_done goes plan
  needs-next = record {
    slot-is = slot-is (at_process v x id) sound x.owner id h.transfer h.is;
    front = front-is;
    lie = lie-within slot (parts_place (length goes)) h.parts goes (matches v x id sound h) parts-lie;
    some = λ none. let z = sym none ∙ next.is in let f : ⊥ = cc in f;
    piece = λ other e. subst (PieceNeeds (at_process v x id) h.transfer.slot came plan) (let z = sym next.is ∙ e in
        let same : piece ≡ other = cc in same) needs-piece;
  }

-- what is needed of a node in processing, and of its next unit
pub needs : (v : Holding) → IsSound v → v.state.status ≡ Processing → {n : NextUnit} (u : IsUnitOf v.state n)
    → Needs v n.slot u.transfer.header.received n.done n.extents.items (option_map (λ c. c.items) n.changes)
needs v sound q {n = n} u =
    let at : v.state.session ≡ Some (busy u.x u.id) =
    u.session ∙ ap (λ p. Some (record u.x { processing = p })) u.processing in
    let base : v ≡ at_process v u.x u.id = at-work v Processing (busy u.x u.id) q at in
    let whole = subst IsSound base sound in
    let hand = in-hand v u.x u.id whole in
    let same : u.transfer ≡ hand.transfer = let z = sym u.stored ∙ hand.is in cc in
    let goes : n.extents.items ≡ extents v u.x u.id v.prepared whole hand =
    u.extents ∙ (λ i. extents_in (base i).state (same i)) ∙ extents-are v u.x u.id v.prepared whole hand in
    let plan : option_map (λ c. c.items) n.changes
    ≡ changes_due u.x.units_done u.id hand.transfer.contents
    (extents_in (at_process v u.x u.id).state hand.transfer) =
    u.changes ∙ (λ i. changes_due u.x.units_done u.id (same i).contents (extents_in (base i).state (same i))) in
    subst (λ (k : Holding × (ℕ × ℕ × ℕ) × List Extent × Option (List (Change Extent))).
    Needs k.0 k.1.0 k.1.1 k.1.2 k.2 k.3)
    (λ i. (
      sym base i,
      (
        sym (u.slot ∙ ap (λ (t : StoredTransfer). t.slot) same) i,
        sym (ap (λ (t : StoredTransfer). t.header.received) same) i,
        sym u.done i,
      ),
      sym goes i,
      sym plan i,
    )) (needs-next v u.x u.id whole hand)
