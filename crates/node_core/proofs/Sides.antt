-- What a put on the side that a package goes to leaves of a sound node.
use Rattle.node_core.proofs.Names.{Action, AllByRecursion, Area, Areas, AreasFit, Bool, Bytes, Change, Cluster, Extent, Holding, Install, IsArea}
use Rattle.node_core.proofs.Names.{IsExtent, IsInOrder, IsSound, LeavesOutside, List, None, Option, Part, Remove, SessionOf, Side, Some}
use Rattle.node_core.proofs.Names.{StoredTransfer, Update, all_differ, ap, arith, bytes_eq, change_meaning, change_place, changes_to, cluster_at}
use Rattle.node_core.proofs.Names.{cluster_meaning, cluster_of, cluster_place, cond, each-both, each-first, each-imp, each-map, each-unmap}
use Rattle.node_core.proofs.Names.{elsewhere-stands, false, found-has, has_cluster, has_name, is_some, length, map, map-map, meaning, name-eq}
use Rattle.node_core.proofs.Names.{name-swap, name_lt, names-behind, names-tail, names_rise, nat_tests, node_of, none-passes, not, not-true, on_side}
use Rattle.node_core.proofs.Names.{option_map_or, package_reading, refl, session_meaning, side_of, slots_differ, subst, suits, sym, take, taken_in}
use Rattle.node_core.proofs.Names.{takes_side, transfer_meaning, true, with_length, [], ℕ, ◌++◌, ◌<◌, ◌==◌, ◌∙◌, ◌∷◌, ◌≡◌, ◌≢◌}
use Rattle.std.specs.Prelude.{⊤}
use Rattle.node_core.proofs.Lastly.{apart, brings, later-fits, matches, pairs, planned, runs, state, suiting}
use Rattle.node_core.proofs.Stored.{read-order}
use Rattle.node_core.proofs.Lists.{each-second, every, found-some, map-same}
use Rattle.node_core.proofs.Ordered.{lt-self}
use Rattle.node_core.proofs.Named.{none-named}
use Rattle.node_core.proofs.Free.{FitsAll, Pair, each-fits}
use Rattle.node_core.proofs.Handled.{InHand, at_process, busy, bytes_of, extents}
use Rattle.node_core.proofs.Packages.{parts-read}
use Rattle.node_core.proofs.Placing.{Match, changes-side, name_of, places-differ, planned-names, planned-payloads}

-- of clusters in order one has the name
only-named : (cs : List (Cluster Extent)) (name : List ℕ) (c : Cluster Extent)
    → names_rise (map (λ (d : Cluster Extent). d.name) cs) ≡ true
    → cluster_at cs name ≡ Some c → AllByRecursion (λ d. bytes_eq d.name name ≡ true → d ≡ c) cs
only-named [] name c r e = tt
only-named (d ∷ cs) name c r e =
    go (bytes_eq d.name name) refl e
    (only-named cs name c (names-tail d.name (map (λ (b : Cluster Extent). b.name) cs) r))
  where
    later : AllByRecursion (λ (b : Cluster Extent). name_lt d.name b.name ≡ true) cs
    later =
        each-unmap (λ n. name_lt d.name n ≡ true) (λ (b : Cluster Extent). b.name) cs
        (names-behind d.name (map (λ (b : Cluster Extent). b.name) cs) r)

    go : (b : Bool) → bytes_eq d.name name ≡ b → cond b (Some d) (cluster_at cs name) ≡ Some c
        → (cluster_at cs name ≡ Some c → AllByRecursion (λ k. bytes_eq k.name name ≡ true → k ≡ c) cs)
        → AllByRecursion (λ k. bytes_eq k.name name ≡ true → k ≡ c) (d ∷ cs)
    go true q k rec = (
      λ _. let same : d ≡ c = cc k in same,
      each-imp _ _ (λ b lt same. absurd (lt-self d.name
          (subst (λ n. name_lt d.name n ≡ true) (name-eq b.name name same ∙ sym (name-eq d.name name q)) lt))) cs later,
    )
    go false q k rec = (λ same. absurd (let z = sym q ∙ same in let f : ⊥ = cc in f), rec k)

-- an extent that isn't on the area
abbrev pub Apart : Area → Extent → Type 0
Apart area e = Side e.place e.side ≢ area

-- extents that a state names, none on the area
pub record AreApart (area : Area) (v : Holding) (x : SessionOf Extent) : Type 0 where
  pub running : AllByRecursion (λ c. Apart area c.content) v.state.running
  pub saved : AllByRecursion (λ c. Apart area c.content) x.saved
  pub changes : AllByRecursion (λ c. Apart area c.part.payload) x.changes

-- a cluster that runs isn't where a change goes, unless this removes it
cluster-apart : (a : Action) (side : ℕ) (found : Option (Cluster Extent)) → takes_side a side found ≡ true
    → suits a (is_some found) ≡ true → a ≢ Remove
    → (c : Cluster Extent) → found ≡ Some c → (c.content.side == side) ≡ false
cluster-apart Install side found takes suit other c e =
    absurd (let z = ap (λ o. not (is_some o)) (sym e) ∙ suit in let f : ⊥ = cc in f)
cluster-apart Update side found takes suit other c e = let z =
    ap (λ o. option_map_or (λ (d : Cluster Extent). not (d.content.side == side)) o true) (sym e) ∙ takes in
    not-true _ z
cluster-apart Remove side found takes suit other c e = absurd (other refl)

module _ (v : Holding) (x : SessionOf Extent) (id : ℕ) (sound : IsSound (at_process v x id)) (h : InHand v x id) where
  rise : names_rise (map (λ (d : Cluster Extent). d.name) v.state.running) ≡ true
  rise =
      ap names_rise (sym (map-map (λ (d : Cluster Bytes). d.name) (cluster_meaning v.areas) v.state.running))
      ∙ sound.fit.consistent.limits.running

  -- what holds of each place holds of what runs, of what was saved and of what is planned
  each-place : (P : Pair → Type 0) → AllByRecursion P (pairs v x id sound h)
      → AllByRecursion (λ c. P (cluster_place c)) v.state.running
      × AllByRecursion (λ c. P (cluster_place c)) x.saved × AllByRecursion (λ c. P (change_place c)) x.changes
  each-place P each =
      let run = map cluster_place v.state.running in
      let saved = map cluster_place x.saved in
      let plan = map change_place x.changes in
      let rest = each-second P run (saved ++ plan) each in (
        each-unmap P cluster_place v.state.running (each-first P run (saved ++ plan) each),
        each-unmap P cluster_place x.saved (each-first P saved plan rest),
        each-unmap P change_place x.changes (each-second P saved plan rest),
      )

  -- a change whose name and place fit those of the state
  abbrev Placed : Change Extent → Type 0
  Placed c = AllByRecursion (λ (b : Pair). bytes_eq (cluster_of c.part) b.0 ≡ (c.part.payload.place == b.1))
      (pairs v x id sound h)

  -- goes to no extent that the state names, unless it removes a cluster
  change-apart : (c : Change Extent) → Placed c
      → takes_side c.part.manifest.action c.part.payload.side (cluster_at v.state.running (cluster_of c.part)) ≡ true
      → suits c.part.manifest.action (has_cluster v.state.running (cluster_of c.part)) ≡ true
      → has_name (map (λ (d : Change Extent). cluster_of d.part) x.changes) (cluster_of c.part) ≡ false
      → c.part.manifest.action ≢ Remove → AreApart (side_of c.part.payload) v x
  change-apart c placed takes suit new other = record {
    running = running;
    saved = subst (AllByRecursion (λ d. Apart area d.content)) (runs v x id sound h) running;
    changes = each-both _ _ (λ (d : Change Extent). Apart area d.part.payload) changed x.changes k.2
        (none-named (λ (d : Change Extent). cluster_of d.part) x.changes name new);
  }
    where
      name : List ℕ
      name = cluster_of c.part

      area : Area
      area = side_of c.part.payload

      k : AllByRecursion (λ (d : Cluster Extent). bytes_eq name d.name
          ≡ (c.part.payload.place == d.content.place)) v.state.running
          × AllByRecursion (λ (d : Cluster Extent). bytes_eq name d.name
          ≡ (c.part.payload.place == d.content.place)) x.saved
          × AllByRecursion (λ (d : Change Extent). bytes_eq name (cluster_of d.part)
          ≡ (c.part.payload.place == d.part.payload.place)) x.changes
      k = each-place _ placed

      changed : (d : Change Extent) → bytes_eq name (cluster_of d.part)
          ≡ (c.part.payload.place == d.part.payload.place) → bytes_eq name (cluster_of d.part) ≡ false
          → Apart area d.part.payload
      changed d same apart q = grind (arith, nat_tests, same, apart, q)

      own : (found : Option (Cluster Extent)) → cluster_at v.state.running name ≡ found
          → AllByRecursion (λ (d : Cluster Extent). bytes_eq d.name name ≡ true
          → (d.content.side == c.part.payload.side) ≡ false) v.state.running
      own None e =
          each-imp _ _ (λ d k t. absurd (let z = sym t ∙ k in let f : ⊥ = cc in f)) v.state.running
          (none-passes (λ (d : Cluster Extent). bytes_eq d.name name) v.state.running e)
      own (Some d) e =
          let there =
          found-has (λ (b : Cluster Extent). bytes_eq b.name name) (λ b. ⊤) v.state.running d
          (every (λ b. tt) v.state.running) e in
          let side = cluster-apart c.part.manifest.action c.part.payload.side (cluster_at v.state.running name) takes
          (ap (suits c.part.manifest.action)
          (found-some (λ (b : Cluster Extent). bytes_eq b.name name) v.state.running) ∙ suit) other d e in
          each-imp _ _ (λ b same t. ap (λ (k : Cluster Extent). k.content.side == c.part.payload.side) (same t)
          ∙ side) v.state.running (only-named v.state.running name d rise e)

      running : AllByRecursion (λ d. Apart area d.content) v.state.running
      running = each-both _ _ _ one v.state.running k.0 (own (cluster_at v.state.running name) refl)
        where
          one : (d : Cluster Extent) → bytes_eq name d.name ≡ (c.part.payload.place == d.content.place)
              → (bytes_eq d.name name ≡ true → (d.content.side == c.part.payload.side) ≡ false) → Apart area d.content
          one d same side q = grind (arith, nat_tests, name-swap name d.name, same, side, q)

  abbrev later : List Pair
  later = pairs v x id sound h ++ map change_place (planned v x id sound h)

  fitting : AllByRecursion (FitsAll later) (map change_place (planned v x id sound h))
  fitting = each-second (FitsAll later) (pairs v x id sound h) _ (each-fits later (later-fits v x id sound h))

  -- the places where payloads go differ
  pub places-apart : slots_differ (map (λ (e : Extent). e.place) (extents v x id v.prepared sound h)) ≡ true
  places-apart =
      let plan = planned v x id sound h in
      let fits = each-imp _ _ (λ a f. each-second _ (pairs v x id sound h) (map change_place plan) f)
      (map change_place plan) fitting in
      let names = map-map (λ (p : Pair). p.0) change_place plan
      ∙ planned-names id (brings v x id sound h) _ (matches v x id sound h) in
      let places = map-map (λ (p : Pair). p.1) change_place plan
      ∙ sym (map-map (λ (e : Extent). e.place) (λ (c : Change Extent). c.part.payload) plan)
      ∙ ap (map (λ (e : Extent). e.place)) (planned-payloads id (brings v x id sound h) _ (matches v x id sound h)) in
      ap slots_differ (sym places) ∙ places-differ (map change_place plan) fits (ap all_differ names
      ∙ (apart v x id sound h).1)

  -- no payload that has bytes goes to an extent that the state names
  pub goes-apart : AllByRecursion (λ (e : Extent). 0 < e.length
      → AreApart (side_of e) v x) (extents v x id v.prepared sound h)
  goes-apart = go (brings v x id sound h) (extents v x id v.prepared sound h) (matches v x id sound h)
      (each-imp _ _ (λ c f. each-first _ (pairs v x id sound h) (map change_place (planned v x id sound h)) f)
      (planned v x id sound h)
      (each-unmap (FitsAll later) change_place (planned v x id sound h) fitting))
      (changes-side v.state.running id (taken_in (state v x id sound h)) (brings v x id sound h))
      (suiting v x id sound h) (apart v x id sound h).0
      (each-map _ with_length h.parts
      (each-imp _ _ (λ part gone r. ap length (gone r)) h.parts
      (parts-read (bytes_of v.areas h.transfer) h.parts h.reads).removals))
    where
      go : (parts : List (Part ℕ)) (es : List Extent) → Match parts es → AllByRecursion Placed (changes_to id parts es)
          → AllByRecursion (λ c. takes_side c.part.manifest.action c.part.payload.side
          (cluster_at v.state.running (cluster_of c.part)) ≡ true) (changes_to id parts es)
          → AllByRecursion (λ (part : Part ℕ). suits part.manifest.action
          (has_cluster v.state.running (cluster_of part)) ≡ true) parts
          → AllByRecursion (λ n. has_name (map (λ (d : Change Extent). cluster_of d.part) x.changes) n ≡ false)
          (map name_of parts)
          → AllByRecursion (λ (part : Part ℕ). part.manifest.action ≡ Remove → part.payload ≡ 0) parts
          → AllByRecursion (λ (e : Extent). 0 < e.length → AreApart (side_of e) v x) es
      go [] es m placed takes suit new gone =
          subst (AllByRecursion (λ (e : Extent). 0 < e.length → AreApart (side_of e) v x)) (sym m) tt
      go (part ∷ parts) [] m placed takes suit new gone = absurd m
      go (part ∷ parts) (e ∷ es) m placed takes suit new gone = (
        λ some. change-apart (record { transfer = id; part = record { manifest = part.manifest; payload = e } })
            placed.0 takes.0 suit.0 new.0
            (λ r. let none = gone.0 r in let size = m.0 in let f : ⊥ = omega (arith, some, none, size) in f),
        go parts es m.1 placed.1 takes.1 suit.1 new.1 gone.1,
      )

  -- what a put there leaves
  module _ (area : Area) (at n : ℕ) (areas : Areas) (is : IsArea area) (fit : AreasFit v.areas)
      (left : LeavesOutside area at n v.areas areas)
      (reads : (t : StoredTransfer) → transfer_meaning package_reading areas t
      ≡ transfer_meaning package_reading v.areas t) where
    pub same-extent : (e : Extent) → IsExtent e → Apart area e → on_side areas e ≡ on_side v.areas e
    same-extent e extent apart =
        ap (take e.length) (elsewhere-stands area v.areas is fit (Side e.place e.side) at n areas (
          extent.0,
          extent.1,
        ) apart left)

    same-cluster : (c : Cluster Extent) → IsExtent c.content → Apart area c.content
        → cluster_meaning areas c ≡ cluster_meaning v.areas c
    same-cluster c extent apart =
        ap (λ b. record { name = c.name; version = c.version; needs = c.needs; content = b })
        (same-extent c.content extent apart)

    same-change : (c : Change Extent) → IsExtent c.part.payload → Apart area c.part.payload
        → change_meaning areas c ≡ change_meaning v.areas c
    same-change c extent apart =
        ap (λ b. record { transfer = c.transfer; part = record { manifest = c.part.manifest; payload = b } })
        (same-extent c.part.payload extent apart)

    pub side-means : AreApart area v x → meaning package_reading areas (at_process v x id).state
        ≡ node_of (at_process v x id)
    side-means apart = λ i. record (node_of (at_process v x id)) {
      running = map-same (cluster_meaning areas) (cluster_meaning v.areas) v.state.running
          (each-both _ _ _ same-cluster v.state.running sound.order.clusters apart.running) i;
      transfers = map-same (transfer_meaning package_reading areas)
          (transfer_meaning package_reading v.areas) v.state.transfers (every reads v.state.transfers) i;
      session = Some (record (session_meaning v.areas (busy x id)) {
        saved = map-same (cluster_meaning areas) (cluster_meaning v.areas) x.saved
            (each-both _ _ _ same-cluster x.saved sound.order.session.0 apart.saved) i;
        changes = map-same (change_meaning areas) (change_meaning v.areas) x.changes
            (each-both _ _ _ same-change x.changes sound.order.session.1 apart.changes) i;
      });
    }

    pub side-order : IsInOrder package_reading areas (at_process v x id).state
    side-order = read-order v.areas areas (at_process v x id).state (every reads v.state.transfers) sound.order
