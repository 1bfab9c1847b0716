-- What the last unit of a package leaves of a sound node.
use Rattle.node_core.proofs.Names.{AllByRecursion, BeingProcessed, Bool, Bytes, Change, Cluster, Extent, Holding}
use Rattle.node_core.proofs.Names.{IsExtent, IsReservedWork, IsSound, IsUnitReady, List, None, Part, Processed}
use Rattle.node_core.proofs.Names.{Processing, SessionOf, Some, State, StoredTransfer, Table, Transfer, Within}
use Rattle.node_core.proofs.Names.{all_differ, all_units, ap, append-nil, append_assoc, applies, arith}
use Rattle.node_core.proofs.Names.{change_meaning, change_place, changes_to, cluster_at, cluster_limit}
use Rattle.node_core.proofs.Names.{cluster_meaning, cluster_of, cluster_place, different_names, each-append}
use Rattle.node_core.proofs.Names.{each-both, each-first, each-imp, each-map, each-unmap, false, found-has}
use Rattle.node_core.proofs.Names.{has-append, has_cluster, has_name, if◌then◌else◌, is_in, is_of, le-ltb, length}
use Rattle.node_core.proofs.Names.{length-append, length-map, length-take, ltb-false, map, map-append, map-map}
use Rattle.node_core.proofs.Names.{meaning, moved as moved_to, name-swap, names_fit_places, nat_lt, nat_tests}
use Rattle.node_core.proofs.Names.{node_of, package_limit, package_reading, parts_in, parts_place, phase_code}
use Rattle.node_core.proofs.Names.{places_in, plan_kept, refl, session_meaning, slice_index_or, stored_of}
use Rattle.node_core.proofs.Names.{stored_units, subst, suits, sym, table_of, taken_in, takes_side, transfer_meaning}
use Rattle.node_core.proofs.Names.{true, with_length, with_slots, with_stored, within-left, within-right, within-self}
use Rattle.node_core.proofs.Names.{ℕ, [], ◌++◌, ◌+◌, ◌<◌, ◌==◌, ◌||◌, ◌∙◌, ◌∷◌, ◌≡◌, ◌≤◌}
use Rattle.std.proofs.lemmas.List.{map-id}
use Rattle.pm_types.specs.Clusters.{changes_of}
use Rattle.pm_types.specs.Work.{end_processing}
use Rattle.node_core.proofs.Lists.{all-each, each-all, each-second, every}
use Rattle.node_core.proofs.Named.{differ-few, has-named, none-named}
use Rattle.node_core.proofs.Phased.{phased-means, phased-placed, phased-slots}
use Rattle.node_core.proofs.Sound.{table-is}
use Rattle.node_core.proofs.Worked.{IsUnit, at-work, none-copied}
use Rattle.node_core.proofs.Free.{Pair}
use Rattle.node_core.proofs.Handled.{InHand, at_process, busy, bytes-ready, bytes_of, changes-ready, extents, in-hand, parts-found}
use Rattle.node_core.proofs.Handled.{stored-same, unit-done}
use Rattle.node_core.proofs.Natural.{has-means}
use Rattle.node_core.proofs.Packages.{parts-read}
use Rattle.node_core.proofs.Pieces.{all-lie, lie-short}
use Rattle.node_core.proofs.Placing.{Match, all-fit, changes-side, extents-are-extents, extents-match, match-length, name_of, planned-payloads}

-- of different names, none of the later ones is an earlier one, and these differ
apart-names : (ns ms : List (List ℕ)) → all_differ (ns ++ ms) ≡ true
    → AllByRecursion (λ m. has_name ns m ≡ false) ms × (all_differ ms ≡ true)
apart-names [] ms d = (every (λ m. refl) ms, d)
apart-names (n ∷ ns) ms d =
    let parts : (has_name (ns ++ ms) n ≡ false) × (all_differ (ns ++ ms) ≡ true) = grind (arith, d) in
    let both : (has_name ns n || has_name ms n) ≡ false = sym (has-append ns ms n) ∙ parts.0 in
    let other : has_name ms n ≡ false = grind (arith, both) in
    let rest = apart-names ns ms parts.1 in (
      each-both _ _ _ (λ m h k. grind (arith, name-swap n m, h, k)) ms
          (none-named (λ (m : List ℕ). m) ms n (subst (λ l. has_name l n ≡ false) (sym (map-id ms)) other)) rest.0,
      rest.1,
    )

module _ (v : Holding) (x : SessionOf Extent) (id : ℕ) (sound : IsSound (at_process v x id)) (h : InHand v x id) where
  abbrev pub state : State
  state = (at_process v x id).state

  abbrev pub brings : List (Part ℕ)
  brings = map with_length h.parts

  abbrev names : List (List ℕ)
  names = map name_of brings

  abbrev changed : List (List ℕ)
  changed = map (λ (c : Change Extent). cluster_of c.part) x.changes

  abbrev plans : List (Part Bytes)
  plans = map (λ (c : Change Bytes). c.part) (map (change_meaning v.areas) x.changes)

  abbrev pub planned : List (Change Extent)
  planned = changes_to id brings (extents v x id v.prepared sound h)

  pub matches : Match brings (extents v x id v.prepared sound h)
  matches = extents-match v.state.running (taken_in state) brings

  -- the names that the session's parts have
  part-names : (changes : List (Change Extent))
      → map cluster_of (map (λ (c : Change Bytes). c.part) (map (change_meaning v.areas) changes) ++ h.parts)
      ≡ map (λ (c : Change Extent). cluster_of c.part) changes ++ names
  part-names [] = sym (map-map name_of with_length h.parts)
  part-names (c ∷ cs) = ap (λ ns. cluster_of c.part ∷ ns) (part-names cs)

  parts-are : parts_in (node_of (at_process v x id)) (session_meaning v.areas (busy x id)) ≡ plans ++ h.parts
  parts-are = ap (λ ps. plans ++ ps) (parts-found v x id v.prepared sound h)

  -- no change is planned of theirs, and they differ
  pub apart : AllByRecursion (λ n. has_name changed n ≡ false) names × (all_differ names ≡ true)
  apart = apart-names changed names
      (subst (λ ns. all_differ ns ≡ true) (part-names x.changes)
      (subst (λ ps. all_differ (map cluster_of ps) ≡ true) parts-are sound.fit.consistent.applying.differ))

  pub runs : v.state.running ≡ x.saved
  runs = sound.order.running

  -- each applies to what runs
  pub suiting : AllByRecursion (λ (part : Part ℕ). suits part.manifest.action
      (has_cluster v.state.running (cluster_of part)) ≡ true) brings
  suiting =
      each-map _ with_length h.parts (each-imp _ _ (λ part a.
      ap (λ cs. suits part.manifest.action (has_cluster cs (cluster_of part))) runs
      ∙ ap (suits part.manifest.action) (sym (has-means v.areas x.saved (cluster_of part))) ∙ a) h.parts
      (each-second (λ part. applies part (map (cluster_meaning v.areas) x.saved) ≡ true) plans h.parts
      (subst (AllByRecursion (λ part. applies part (map (cluster_meaning v.areas) x.saved) ≡ true)) parts-are
      sound.fit.consistent.applying.each)))

  abbrev ran : List (List ℕ)
  ran = map (λ (c : Cluster Extent). c.name) v.state.running

  abbrev kept : List (List ℕ)
  kept = map (λ (c : Cluster Extent). c.name) x.saved

  abbrev all : List (List ℕ)
  all = (ran ++ kept) ++ (changed ++ names)

  few : length (different_names all) ≤ cluster_limit
  few =
      let name_of : Cluster Bytes → List ℕ = λ c. c.name in
      let means = cluster_meaning v.areas in
      let meant = map means v.state.running ++ map means x.saved in
      subst (λ ns. length (different_names ns) ≤ cluster_limit)
      (λ i. (append-nil (map name_of meant) ∙ map-append name_of (map means v.state.running) (map means x.saved)
      ∙ (λ j. map-map name_of means v.state.running j ++ map-map name_of means x.saved j)) i
      ++ (ap (map cluster_of) parts-are ∙ part-names x.changes) i)
      sound.fit.consistent.limits.names

  among-changed : (ns : List (List ℕ)) → Within ns (changed ++ names) → Within ns all
  among-changed ns = within-right ns (ran ++ kept) (changed ++ names)

  among-clusters : (ns : List (List ℕ)) → Within ns (ran ++ kept) → Within ns all
  among-clusters ns = within-left ns (ran ++ kept) (changed ++ names)

  -- so their changes have room
  pub room : length x.changes + length brings ≤ cluster_limit
  room =
      let n = differ-few (changed ++ names) all
      (subst (λ ns. all_differ ns ≡ true) (part-names x.changes)
      (subst (λ ps. all_differ (map cluster_of ps) ≡ true) parts-are sound.fit.consistent.applying.differ))
      (among-changed (changed ++ names) (within-self (changed ++ names))) in
      omega (
        arith,
        n,
        few,
        length-append changed names,
        length-map x.changes (λ (c : Change Extent). cluster_of c.part),
        length-map brings name_of,
      )

  abbrev pub pairs : List Pair
  pairs = places_in state

  pair-names : map (λ (a : Pair). a.0) pairs ≡ ran ++ (kept ++ changed)
  pair-names =
      map-append (λ (a : Pair). a.0) (map cluster_place v.state.running) (map cluster_place x.saved
      ++ map change_place x.changes)
      ∙ (λ i. map-map (λ (a : Pair). a.0) cluster_place v.state.running i
      ++ (map-append (λ (a : Pair). a.0) (map cluster_place x.saved) (map change_place x.changes)
      ∙ (λ j. map-map (λ (a : Pair). a.0) cluster_place x.saved j
      ++ map-map (λ (a : Pair). a.0) change_place x.changes j)) i)

  inside : Within (map (λ (a : Pair). a.0) pairs) all
  inside = subst (λ ns. Within ns all) (sym pair-names)
      (each-append _ ran (kept ++ changed) (among-clusters ran (within-left ran ran kept (within-self ran)))
      (each-append _ kept changed (among-clusters kept (within-right kept ran kept (within-self kept)))
      (among-changed changed (within-left changed changed names (within-self changed)))))

  -- a part's name is among them where its cluster runs
  here : AllByRecursion (λ (part : Part ℕ). has_name (map (λ (a : Pair). a.0) pairs) (cluster_of part)
      ≡ has_cluster v.state.running (cluster_of part)) brings
  here = each-imp _ _ one brings (each-unmap (λ n. has_name changed n ≡ false) name_of brings apart.0)
    where
      twice : (b : Bool) → (b || (b || false)) ≡ b
      twice b = grind arith

      one : (part : Part ℕ) → has_name changed (cluster_of part) ≡ false
          → has_name (map (λ (a : Pair). a.0) pairs) (cluster_of part) ≡ has_cluster v.state.running (cluster_of part)
      one part new =
          let name = cluster_of part in
          let there = has-named (λ (c : Cluster Extent). c.name) v.state.running name in
          let saved = has-named (λ (c : Cluster Extent). c.name) x.saved name
          ∙ ap (λ cs. has_cluster cs name) (sym runs) in
          ap (λ ns. has_name ns name) pair-names
          ∙ has-append ran (kept ++ changed) name ∙ ap (λ b. has_name ran name || b) (has-append kept changed name)
          ∙ (λ i. there i || (saved i || new i)) ∙ twice (has_cluster v.state.running name)

  -- the places with the changes'
  pub later-fits : names_fit_places (pairs ++ map change_place planned) ≡ true
  later-fits = all-fit v.state.running all few id pairs brings sound.order.places
      (λ P each. each-first P (map cluster_place v.state.running) _ each) here suiting apart.1 inside
      (among-changed names (within-right names changed names (within-self names)))

  -- payloads are no longer than a package
  pub short : AllByRecursion (λ (part : Part ℕ). part.payload ≤ package_limit) brings
  short =
      let bounded =
      (found-has (λ t. is_of x.owner id t.header) _ v.state.transfers h.transfer
      (table-is (at_process v x id) sound).each h.is).1 in
      let came = length-take h.transfer.header.received (slice_index_or v.areas.slots h.transfer.slot []) in
      each-map _ with_length h.parts (lie-short (bytes_of v.areas h.transfer) (parts_place (length h.parts)) h.parts
      (omega (arith, bounded.received, bounded.size, came))
      (parts-read (bytes_of v.areas h.transfer) h.parts h.reads).lie)

  pub planned-extents : AllByRecursion IsExtent (extents v x id v.prepared sound h)
  planned-extents = extents-are-extents v.state.running sound.order.clusters (taken_in state) brings short

  -- the node after the last unit
  abbrev pub processed_with : List (Change Extent) → State
  processed_with changes = end_processing (with_slots [] []) state (busy x id) id changes

  abbrev after : Table
  after = with_stored id (moved_to Processed) (table_of v.state)

  was-whole : (phase_code h.transfer.header.phase == 0) ≡ false
  was-whole = ap (λ ph. phase_code ph == 0) h.phase

  none-in-processing : AllByRecursion (λ t. is_in BeingProcessed t.header ≡ false) after.list
  none-in-processing =
      each-map (λ t. is_in BeingProcessed t.header ≡ false) (λ t. if t.header.id == id then moved_to Processed t
      else t) v.state.transfers
      (each-imp _ _ (λ t due. by t (t.header.id == id) refl due) v.state.transfers
      (each-unmap (λ (t : Transfer). is_in BeingProcessed t.header ≡ (id == t.header.id))
      (transfer_meaning package_reading v.areas)
      v.state.transfers sound.fit.consistent.processing.each))
    where
      by : (t : StoredTransfer) (b : Bool) → (t.header.id == id) ≡ b
          → is_in BeingProcessed t.header ≡ (id == t.header.id)
          → is_in BeingProcessed (if b then moved_to Processed t else t).header ≡ false
      by t b e due = grind (arith, nat_tests)

  -- the last unit
  pub last-unit : (passed : Bool) → IsUnitReady Processing (at_process v x id) (busy x id)
      → nat_lt (x.units_done + 1) (all_units h.parts) ≡ false
      → IsUnit (at_process v x id) passed (processed_with planned)
  last-unit passed ready last = record {
    node = unit-done v x id v.prepared sound h passed false last
        ∙ (λ i. Some (record (meaning package_reading v.areas (processed_with planned)) {
          transfers =
              sym (phased-means (at_process v x id) sound x.owner id h.transfer h.is Processed was-whole refl) i;
          session =
              Some (record (session_meaning v.areas x) {
                changes = sym changes-mean i;
                processing = None;
                units_done =
                    x.units_done + 1;
              });
        }));
    order = record {
      clusters = sound.order.clusters;
      session = (
        sound.order.session.0,
        each-append (λ c. IsExtent c.part.payload) x.changes planned sound.order.session.1
            (each-unmap IsExtent (λ (c : Change Extent). c.part.payload) planned
            (subst (AllByRecursion IsExtent) (sym (planned-payloads id brings _ matches)) planned-extents)),
        each-all _ (x.changes ++ planned) (each-append _ x.changes planned (all-each _ x.changes sound.order.session.2)
            (subst (λ cs.
            AllByRecursion (λ (c : Change Extent). takes_side c.part.manifest.action c.part.payload.side
            (cluster_at cs (cluster_of c.part)) ≡ true) planned) runs
            (changes-side v.state.running id (taken_in state) brings))),
      );
      transfers = phased-placed (at_process v x id) sound x.owner id h.transfer h.is Processed was-whole refl;
      slots = phased-slots (at_process v x id) sound x.owner id h.transfer h.is Processed was-whole refl;
      places = subst (λ ps. names_fit_places ps ≡ true) places-are later-fits;
      running = sound.order.running;
    };
    copied = none-copied v.areas (processed_with planned) none-in-processing;
  }
    where
      places-are : pairs ++ map change_place planned ≡ map cluster_place v.state.running
          ++ (map cluster_place x.saved ++ map change_place (x.changes ++ planned))
      places-are =
          append_assoc (map cluster_place v.state.running) (map cluster_place x.saved ++ map change_place x.changes)
          (map change_place planned)
          ∙ ap (λ ps. map cluster_place v.state.running ++ ps)
          (append_assoc (map cluster_place x.saved) (map change_place x.changes) (map change_place planned)
          ∙ ap (λ ps. map cluster_place x.saved ++ ps) (sym (map-append change_place x.changes planned)))

      changes-mean : map (change_meaning v.areas) (x.changes ++ planned) ≡ map (change_meaning v.areas) x.changes
          ++ changes_of id h.parts
      changes-mean =
          map-append (change_meaning v.areas) x.changes planned
          ∙ ap (λ cs. map (change_meaning v.areas) x.changes ++ cs)
          (all-lie v.areas id (x.units_done + 1) h.parts (extents v x id v.prepared sound h) matches
          (ltb-false _ _ last) (bytes-ready v x id v.prepared sound h ready))

-- a node with a package in processing, by its parts
module _ {v w : Holding} (e : v ≡ w) (x : SessionOf Extent) (id : ℕ) (is : x.processing ≡ Some id)
    (there : v.state.session ≡ Some x) (sound : IsSound w) (ready : IsReservedWork w)
    (q : w.state.status ≡ Processing) where
  same : w ≡ at_process v x id
  same = sym e ∙ at-work v Processing (busy x id) (ap (λ (u : Holding). u.state.status) e ∙ q)
      (there ∙ ap (λ o. Some (record x { processing = o })) is)

  whole : IsSound (at_process v x id)
  whole = subst IsSound same sound

  ready-now : IsUnitReady Processing (at_process v x id) (busy x id)
  ready-now = subst IsReservedWork same ready

  hand : InHand v x id
  hand = in-hand v x id whole

  pub not-lost : stored_of v.state.transfers x.owner id ≡ None → ⊥
  not-lost none = let z = sym none ∙ hand.is in let f : ⊥ = cc in f

  -- the transfer that is looked up
  module _ (u : StoredTransfer) (found : stored_of v.state.transfers x.owner id ≡ Some u) where
    is-hand : hand.transfer ≡ u
    is-hand = let z = sym hand.is ∙ found in cc

    same-units : stored_units u.contents ≡ all_units hand.parts
    same-units = ap (λ (t : StoredTransfer). stored_units t.contents) (sym is-hand) ∙ ap stored_units hand.contents
        ∙ stored-same hand.parts

    pub next-fits : x.units_done < stored_units u.contents
    next-fits = subst (λ n. x.units_done < n) (sym same-units) hand.unfinished

    -- the last unit
    module _ (last : stored_units u.contents ≤ x.units_done + 1) where
      plan-ready : plan_kept v.prepared ≡ Some (planned v x id whole hand)
      plan-ready = changes-ready v x id v.prepared whole hand ready-now
          (le-ltb (x.units_done + 1) (all_units hand.parts) (subst (λ n. n ≤ x.units_done + 1) same-units last))

      pub has-room : (plan : List (Change Extent)) → plan_kept v.prepared ≡ Some plan
          → length x.changes + length plan ≤ cluster_limit
      has-room plan kept =
          let same-plan : planned v x id whole hand ≡ plan = (let z = sym plan-ready ∙ kept in cc) in
          let some = room v x id whole hand in
          let many = ap length (planned-payloads id (brings v x id whole hand) _ (matches v x id whole hand)) in
          let as_many = match-length (brings v x id whole hand) _ (matches v x id whole hand) in
          omega (
            arith,
            some,
            many,
            as_many,
            ap length same-plan,
            length-map (planned v x id whole hand) (λ (c : Change Extent). c.part.payload),
          )
