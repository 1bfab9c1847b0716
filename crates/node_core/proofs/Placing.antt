-- Where the payloads of parts go: to extents of their lengths, at places that fit the names.
use Rattle.node_core.proofs.Names.{Action, AllByRecursion, Change, Cluster, Extent, Install, IsExtent, List, None, Option, Part}
use Rattle.node_core.proofs.Names.{Remove, Some, Update, Within, all_differ, ap, arith, append_assoc, bytes_eq, change_place, changes_to}
use Rattle.node_core.proofs.Names.{cluster_at, cluster_limit, cluster_of, cluster_place, different_names, each-append, each-both, each-first}
use Rattle.node_core.proofs.Names.{each-imp, each-map, extent_of, extents_of, false, found-has, goes_to, has-append, has_cluster, has_name, length, map}
use Rattle.node_core.proofs.Names.{map-append, name-eq, name-swap, names_fit_places, nat_tests, not-true, option_map_or, package_limit, refl}
use Rattle.node_core.proofs.Names.{append-nil, both_true, each-unmap, not, running_at, slots_differ, subst, suits, sym, takes_side, true, [], ℕ, ◌++◌, ◌<◌, ◌==◌}
use Rattle.node_core.proofs.Names.{◌∙◌, ◌∷◌, ◌≡◌, ◌≤◌}
use Rattle.std.proofs.Common.{suc, drop, min, nat_le, Bool}
use Rattle.std.proofs.lemmas.List.{drop_all}
use Rattle.std.proofs.lemmas.Bool.{leb-true}
use Rattle.node_core.proofs.Free.{FitsAll, Pair, each-fits, free-place, fresh-fits, lowest-low, places_of}
use Rattle.node_core.proofs.Lists.{any-found, each-all}
use Rattle.node_core.proofs.Named.{none-named}
use Rattle.node_core.proofs.Planned.{IsAmong, among-fit}

-- extents have the lengths of parts' payloads
abbrev pub Match : List (Part ℕ) → List Extent → Type 0
Match [] extents = extents ≡ []
Match (part ∷ parts) [] = ⊥
Match (part ∷ parts) (extent ∷ extents) = (extent.length ≡ part.payload) × Match parts extents

pub match-length : (parts : List (Part ℕ)) (extents : List Extent) → Match parts extents → length extents ≡ length parts
match-length [] extents m = ap length m
match-length (part ∷ parts) [] m = absurd m
match-length (part ∷ parts) (extent ∷ extents) m = ap suc (match-length parts extents m.1)

goes-size : (a : Action) (taken : List ℕ) (at : Extent) (size : ℕ) → (goes_to a taken at size).length ≡ size
goes-size a taken at size = grind arith

-- the changes that parts make are theirs, with the extents
pub planned-payloads : (id : ℕ) (parts : List (Part ℕ)) (extents : List Extent) → Match parts extents
    → map (λ (c : Change Extent). c.part.payload) (changes_to id parts extents) ≡ extents
planned-payloads id [] extents m = sym m
planned-payloads id (part ∷ parts) [] m = absurd m
planned-payloads id (part ∷ parts) (extent ∷ extents) m = ap (λ es. extent ∷ es) (planned-payloads id parts extents m.1)

-- behind the last place there are no changes
pub changes-end : (id : ℕ) (parts : List (Part ℕ)) (extents : List Extent) (i : ℕ)
    → min (length parts) (length extents) ≤ i
    → changes_to id (drop i parts) (drop i extents) ≡ []
changes-end id parts extents i le = go (nat_le (length parts) i) refl
  where
    none : (parts : List (Part ℕ)) → changes_to id parts [] ≡ []
    none [] = refl
    none (part ∷ parts) = refl

    go : (b : Bool) → nat_le (length parts) i ≡ b → changes_to id (drop i parts) (drop i extents) ≡ []
    go true h = ap (λ ps. changes_to id ps (drop i extents)) (drop_all i parts (leb-true (length parts) i h))
    go false h = let more : i < length parts = grind (arith, nat_tests, h) in
        ap (changes_to id (drop i parts)) (drop_all i extents (omega (arith, le, more))) ∙ none (drop i parts)

abbrev pub name_of : Part ℕ → List ℕ
name_of part = cluster_of part

pub planned-names : (id : ℕ) (parts : List (Part ℕ)) (extents : List Extent) → Match parts extents
    → map (λ (c : Change Extent). cluster_of c.part) (changes_to id parts extents) ≡ map name_of parts
planned-names id [] extents m = refl
planned-names id (part ∷ parts) [] m = absurd m
planned-names id (part ∷ parts) (extent ∷ extents) m =
    ap (λ ns. cluster_of part ∷ ns) (planned-names id parts extents m.1)

module _ (running : List (Cluster Extent)) where
  pub extents-match : (taken : List ℕ) (parts : List (Part ℕ)) → Match parts (extents_of running taken parts)
  extents-match taken [] = refl
  extents-match taken (part ∷ parts) =
      let extent = extent_of running taken part in (
        goes-size part.manifest.action taken (running_at running (cluster_of part)) part.payload,
        extents-match (taken ++ extent.place ∷ []) parts,
      )

  -- where a running cluster lies is an extent
  module _ (each : AllByRecursion (λ (c : Cluster Extent). IsExtent c.content) running) where
    run-extent : (name : List ℕ) → IsExtent (running_at running name)
    run-extent name = go (cluster_at running name) refl
      where
        go : (o : Option (Cluster Extent)) → cluster_at running name ≡ o
            → IsExtent (option_map_or (λ (c : Cluster Extent). c.content) o
            (record { place = 0; side = 0; length = 0 }))
        go None e = (omega arith, omega arith, omega arith)
        go (Some c) e =
            (found-has (λ (d : Cluster Extent). bytes_eq d.name name) (λ d. IsExtent d.content) running c each e).1

    goes-extent : (a : Action) (taken : List ℕ) (name : List ℕ) (size : ℕ) → size ≤ package_limit
        → IsExtent (goes_to a taken (running_at running name) size)
    goes-extent a taken name size short = grind (arith, lowest-low taken, run-extent name)

    pub extents-are-extents : (taken : List ℕ) (parts : List (Part ℕ))
        → AllByRecursion (λ (p : Part ℕ). p.payload ≤ package_limit) parts
        → AllByRecursion IsExtent (extents_of running taken parts)
    extents-are-extents taken [] short = tt
    extents-are-extents taken (part ∷ parts) short = (
      goes-extent part.manifest.action taken (cluster_of part) part.payload short.0,
      extents-are-extents (taken ++ (extent_of running taken part).place ∷ []) parts short.1,
    )

  -- and on its side
  goes-side : (a : Action) (taken : List ℕ) (name : List ℕ) (size : ℕ)
      → takes_side a (goes_to a taken (running_at running name) size).side (cluster_at running name) ≡ true
  goes-side a taken name size = grind (arith, nat_tests)

  pub changes-side : (id : ℕ) (taken : List ℕ) (parts : List (Part ℕ))
      → AllByRecursion (λ c. takes_side c.part.manifest.action c.part.payload.side
      (cluster_at running (cluster_of c.part)) ≡ true)
      (changes_to id parts (extents_of running taken parts))
  changes-side id taken [] = tt
  changes-side id taken (part ∷ parts) = (
    goes-side part.manifest.action taken (cluster_of part) part.payload,
    changes-side id (taken ++ (extent_of running taken part).place ∷ []) parts,
  )

  -- the parts' names differ, are few with all others, and each action suits what runs
  module _ (all : List (List ℕ)) (few : length (different_names all) ≤ cluster_limit) where
    -- a part more with its place
    one-fits : (pairs : List Pair) (a : Action) (name : List ℕ) (size : ℕ) → names_fit_places pairs ≡ true
        → IsAmong (map cluster_place running) pairs
        → has_name (map (λ (p : Pair). p.0) pairs) name ≡ has_cluster running name
        → suits a (has_cluster running name) ≡ true → Within (map (λ (p : Pair). p.0) pairs) all
        → has_name all name ≡ true
        → names_fit_places ((name, (goes_to a (places_of pairs) (running_at running name) size).place) ∷ pairs) ≡ true
    one-fits pairs a name size fit among here s within own = by a s
      where
        there : has_cluster running name ≡ true
            → names_fit_places ((name, (running_at running name).place) ∷ pairs) ≡ true
        there t =
            let c = any-found (λ (d : Cluster Extent). bytes_eq d.name name) running t in
            among-fit ((name, (running_at running name).place) ∷ pairs) pairs (λ P each.
            let found =
            found-has (λ (d : Cluster Extent). bytes_eq d.name name) (λ d. P (cluster_place d)) running c.0
            (each-unmap_ P each) c.1 in (
              subst P (λ i. (
                name-eq c.0.name name found.0 i,
                (option_map_or (λ (d : Cluster Extent). d.content) (sym c.1 i)
                    (record { place = 0; side = 0; length = 0 })).place,
              )) found.1,
              each,
            )) fit
          where
            each-unmap_ : (P : Pair → Type 0) → AllByRecursion P pairs
                → AllByRecursion (λ (d : Cluster Extent). P (cluster_place d)) running
            each-unmap_ P each = each-unmap P cluster_place running (among P each)

        by : (a : Action) → suits a (has_cluster running name) ≡ true
            → names_fit_places ((name, (goes_to a (places_of pairs) (running_at running name) size).place) ∷ pairs)
            ≡ true
        by Install s =
            let new = here ∙ not-true _ s in
            fresh-fits pairs name _ fit new (free-place pairs (each-fits pairs fit) name all new own within few)
        by Update s = there s
        by Remove s = there s

    -- all parts
    pub all-fit : (id : ℕ) (pairs : List Pair) (parts : List (Part ℕ)) → names_fit_places pairs ≡ true
        → IsAmong (map cluster_place running) pairs
        → AllByRecursion (λ part. has_name (map (λ (p : Pair). p.0) pairs) (cluster_of part)
        ≡ has_cluster running (cluster_of part)) parts
        → AllByRecursion (λ part. suits part.manifest.action (has_cluster running (cluster_of part)) ≡ true) parts
        → all_differ (map name_of parts) ≡ true → Within (map (λ (p : Pair). p.0) pairs) all
        → Within (map name_of parts) all
        → names_fit_places (pairs
        ++ map change_place (changes_to id parts (extents_of running (places_of pairs) parts))) ≡ true
    all-fit id pairs [] fit among here s differ within own =
        subst (λ ps. names_fit_places ps ≡ true) (sym (append-nil pairs)) fit
    all-fit id pairs (part ∷ parts) fit among here s differ within own =
        subst (λ ps. names_fit_places ps ≡ true) whole
        (all-fit id more parts
        (among-fit more (pair ∷ pairs) (λ P each. each-append P pairs (pair ∷ []) each.1 (each.0, tt))
        (one-fits pairs part.manifest.action name part.payload fit among here.0 s.0 within own.0))
        (λ P each. among P (each-first P pairs (pair ∷ []) each))
        (each-both _ _ _ still parts here.1 (others parts apart.0))
        s.1 apart.1
        (subst (λ ns. Within ns all) (sym names)
        (each-append _ (map (λ (p : Pair). p.0) pairs) (name ∷ []) within (own.0, tt)))
        own.1)
      where
        name : List ℕ
        name = cluster_of part

        extent : Extent
        extent = extent_of running (places_of pairs) part

        pair : Pair
        pair = (name, extent.place)

        more : List Pair
        more = pairs ++ pair ∷ []

        apart : (has_name (map name_of parts) name ≡ false) × (all_differ (map name_of parts) ≡ true)
        apart = grind (arith, differ)

        names : map (λ (p : Pair). p.0) more ≡ map (λ (p : Pair). p.0) pairs ++ name ∷ []
        names = map-append (λ (p : Pair). p.0) pairs (pair ∷ [])

        others : (ps : List (Part ℕ)) → has_name (map name_of ps) name ≡ false
            → AllByRecursion (λ p. bytes_eq name (cluster_of p) ≡ false) ps
        others ps e = none-named name_of ps name e

        still : (p : Part ℕ) → has_name (map (λ (q : Pair). q.0) pairs) (cluster_of p)
            ≡ has_cluster running (cluster_of p) → bytes_eq name (cluster_of p) ≡ false
            → has_name (map (λ (q : Pair). q.0) more) (cluster_of p) ≡ has_cluster running (cluster_of p)
        still p was other =
            ap (λ ns. has_name ns (cluster_of p)) names
            ∙ grind (
              arith,
              has-append (map (λ (q : Pair). q.0) pairs) (name ∷ []) (cluster_of p),
              name-swap name (cluster_of p),
            )

        whole : more ++ map change_place (changes_to id parts (extents_of running (places_of more) parts))
            ≡ pairs ++ pair
            ∷ map change_place
            (changes_to id parts (extents_of running (places_of pairs ++ extent.place ∷ []) parts))
        whole =
            append_assoc pairs (pair ∷ []) _
            ∙ ap (λ taken. pairs ++ pair ∷ map change_place (changes_to id parts (extents_of running taken parts)))
            (map-append (λ (p : Pair). p.1) pairs (pair ∷ []))

-- of pairs that fit, different names have different places
pub places-differ : (pairs : List Pair) → AllByRecursion (FitsAll pairs) pairs
    → all_differ (map (λ (p : Pair). p.0) pairs) ≡ true
    → slots_differ (map (λ (p : Pair). p.1) pairs) ≡ true
places-differ [] fit d = refl
places-differ (a ∷ pairs) fit d =
    let parts : (has_name (map (λ (p : Pair). p.0) pairs) a.0 ≡ false)
    × (all_differ (map (λ (p : Pair). p.0) pairs) ≡ true) = grind (arith, d) in
    both_true (each-all (λ n. not (n == a.1)) (map (λ (p : Pair). p.1) pairs) (each-map _ (λ (p : Pair). p.1) pairs
    (each-both _ _ _ (λ b f n. other b f n) pairs fit.0.1 (none-named (λ (p : Pair). p.0) pairs a.0 parts.0))))
    (places-differ pairs (each-imp _ _ (λ b f. f.1) pairs fit.1) parts.1)
  where
    other : (b : Pair) → bytes_eq a.0 b.0 ≡ (a.1 == b.1) → bytes_eq a.0 b.0 ≡ false → not (b.1 == a.1) ≡ true
    other b f n = grind (arith, nat_tests, f, n)
