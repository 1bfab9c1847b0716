-- The units of a package are fewer than its bytes.
use Rattle.node_core.proofs.Names.{Bytes, Holding, IfSome, IsSound, List, None, Option, Part, Processing, SessionOf, Some, all_units, ap}
use Rattle.node_core.proofs.Names.{Extent, arith, cluster_limit, contents_of, length, length-take, package_limit, take, client_limit}
use Rattle.node_core.proofs.Names.{parts_place, PartsLie, payload_at, refl, slice_index_or, stored_of, subst, sum_by-cons, units_of}
use Rattle.node_core.proofs.Names.{[], ℕ, ◌+◌, ◌-◌, ◌<◌, ◌^◌, ◌∷◌, ◌≡◌, ◌≤◌, ◌∙◌}
use Rattle.pm_types.specs.Validity.{IsSound as IsSoundTransfer}
use Rattle.node_core.specs.Units.{CanProcess}
use Rattle.node_core.proofs.Handled.{InHand, at_process, busy, in-hand}
use Rattle.node_core.proofs.Lastly.{room}
use Rattle.node_core.proofs.Packages.{parts-read}
use Rattle.node_core.proofs.Stored.{found-fact}
use Rattle.node_core.proofs.Worked.{at-work}

-- a payload has no more units than bytes, but for an empty one
few-units : (size : ℕ) → units_of size ≤ size + 1
few-units size = omega arith

-- each part takes at least its units' bytes
units-lie : (bytes : Bytes) (place : ℕ) (parts : List (Part Bytes)) → PartsLie bytes place parts
    → all_units parts ≤ length bytes - place
units-lie bytes place [] lie = omega arith
units-lie bytes place (part ∷ parts) lie =
    let rest = units-lie bytes (payload_at bytes place + length part.payload) parts lie.2 in
    let one = few-units (length part.payload) in
    let sum = sum_by-cons (λ (p : Part Bytes). units_of (length p.payload)) part parts in
    let inside = lie.0 in
    omega (arith, rest, one, sum, inside)

module _ (v : Holding) (x : SessionOf Extent) (id : ℕ) (sound : IsSound (at_process v x id)) where
  abbrev hand : InHand v x id
  hand = in-hand v x id sound

  short : length (take hand.transfer.header.received (slice_index_or v.areas.slots hand.transfer.slot []))
      ≤ package_limit
  short =
      let sizes = found-fact (λ t. (t.header.size ≤ package_limit) × (t.header.client < client_limit)) v.areas x.owner
      id v.state.transfers hand.transfer sound.fit.consistent.limits.sizes hand.is in
      let own = found-fact (IsSoundTransfer v.state.next_id) v.areas x.owner id v.state.transfers hand.transfer
      sound.fit.consistent.transfers.each hand.is in
      let size = sizes.0 in
      let came = own.size in
      let len = length-take hand.transfer.header.received (slice_index_or v.areas.slots hand.transfer.slot []) in
      omega (arith, size, came, len)

  counted : x.units_done + 1 < 2 ^ 32
  counted =
      let lie = (parts-read _ hand.parts hand.reads).lie in
      let units = units-lie _ (parts_place (length hand.parts)) hand.parts lie in
      let left = hand.unfinished in
      omega (arith, units, left, short)

  fits : length x.changes + length (contents_of (stored_of v.state.transfers x.owner id)) ≤ cluster_limit
  fits =
      let brought = ap (λ o. length (contents_of o)) hand.is ∙ ap length hand.contents in
      omega (arith, brought, room v x id sound hand)

-- of a package in processing
pub can-process : (v : Holding) → IsSound v → CanProcess v.state
can-process v sound busy_now = go v.state.session refl
  where
    Can : SessionOf Extent → ℕ → Type 0
    Can x id = (x.units_done + 1 < 2 ^ 32)
        × (length x.changes + length (contents_of (stored_of v.state.transfers x.owner id)) ≤ cluster_limit)

    one : (x : SessionOf Extent) → v.state.session ≡ Some x → (o : Option ℕ) → x.processing ≡ o → IfSome o (Can x)
    one x there None is = tt
    one x there (Some id) is =
        let same : v ≡ at_process v x id = at-work v Processing (busy x id) busy_now
        (there ∙ ap (λ o. Some (record x { processing = o })) is) in
        (counted v x id (subst IsSound same sound), fits v x id (subst IsSound same sound))

    go : (o : Option (SessionOf Extent)) → v.state.session ≡ o → IfSome o (λ x. IfSome x.processing (Can x))
    go None there = tt
    go (Some x) there = one x there x.processing refl
