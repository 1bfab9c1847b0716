-- Which places are taken, and that one is free where the names are few.
use Rattle.node_core.proofs.Names.{AllByRecursion, Bool, List, None, Option, Some, Within, is_free, lowest_free, length-map, ltb-true, nat_lt, not-true, range_with_len, subst, unwrap_or, ◌<◌}
use Rattle.node_core.proofs.Names.{all_differ, and_parts, ap, arith, beq, booleans_Decides, both_true, bytes_eq}
use Rattle.node_core.proofs.Names.{change_place, cluster_limit, cluster_place, different_names, each-both, each-imp, each-map}
use Rattle.node_core.proofs.Names.{each-unmap, eq-eqb, eq-name, false, find, found-has, has-within, has_name, length, list_all}
use Rattle.node_core.proofs.Names.{list_any, map, name-swap, names_fit_places, nat_tests, none-passes}
use Rattle.node_core.proofs.Names.{not, not-false, option_map_or, places_in, refl, slots_differ, sym, true, within-self}
use Rattle.node_core.proofs.Names.{within-trans, [], ℕ, ◌++◌, ◌==◌, ◌∙◌, ◌∷◌, ◌≡◌, ◌≤◌}
use Rattle.node_core.proofs.Lists.{all-each, each-all, any-found, every, none-any}
use Rattle.std.specs.Prelude.{⊤}
use Rattle.node_core.proofs.Names.{Change, Cluster, Extent, SessionOf, State, append-nil, append_assoc, change_place, cluster_place, map-append, map-map, places_in, taken_in}
use Rattle.node_core.proofs.Named.{differ-few, none-named}

abbrev pub Pair : Type 0
Pair = List ℕ × ℕ

-- their places
abbrev pub places_of : List Pair → List ℕ
places_of pairs = map (λ taken. taken.1) pairs

abbrev pub is_taken : List Pair → ℕ → Bool
is_taken pairs place = list_any (λ taken. taken.1 == place) pairs

-- a place is free where it isn't taken
free-is : (pairs : List Pair) (place : ℕ) → is_free (places_of pairs) place ≡ not (is_taken pairs place)
free-is [] place = refl
free-is (a ∷ pairs) place = grind (arith, free-is pairs place)

-- the places of a node, from the lowest
abbrev all_places : List ℕ
all_places = range_with_len 0 cluster_limit

-- the lowest free place is one of them
pub lowest-low : (taken : List ℕ) → lowest_free cluster_limit taken < cluster_limit
lowest-low taken = go (find (is_free taken) all_places) refl
  where
    go : (o : Option ℕ) → find (is_free taken) all_places ≡ o → lowest_free cluster_limit taken < cluster_limit
    go None e = subst (λ o. unwrap_or o 0 < cluster_limit) (sym e) (omega arith)
    go (Some p) e = subst (λ o. unwrap_or o 0 < cluster_limit) (sym e)
        (found-has (is_free taken) (λ p. p < cluster_limit) all_places p
        (each-imp _ _ (λ p k. ltb-true p cluster_limit k) all_places
        (all-each (λ p. nat_lt p cluster_limit) all_places refl)) e).1

-- one name has one place, and one place one name
abbrev pub FitsAll : List Pair → Pair → Type 0
FitsAll pairs a = AllByRecursion (λ b. bytes_eq a.0 b.0 ≡ (a.1 == b.1)) pairs

abbrev fits : Pair → Pair → Bool
fits a b = beq (bytes_eq a.0 b.0) (a.1 == b.1)

pub each-fits : (pairs : List Pair) → names_fit_places pairs ≡ true → AllByRecursion (FitsAll pairs) pairs
each-fits pairs fit =
    each-imp _ _ (λ a h. each-imp _ _ (λ b k. (booleans_Decides (bytes_eq a.0 b.0) (a.1 == b.1)).0 k) pairs
    (all-each (fits a) pairs h))
    pairs (all-each (λ a. list_all (fits a) pairs) pairs fit)

fits-each : (pairs : List Pair) → AllByRecursion (FitsAll pairs) pairs → names_fit_places pairs ≡ true
fits-each pairs each =
    each-all (λ a. list_all (fits a) pairs) pairs
    (each-imp _ _ (λ a h.
    each-all (fits a) pairs (each-imp _ _ (λ b k. (booleans_Decides (bytes_eq a.0 b.0) (a.1 == b.1)).1 k) pairs h))
    pairs each)

flip : (m n : ℕ) → (m == n) ≡ false → (n == m) ≡ false
flip m n e = grind (arith, nat_tests, e)

-- a pair with a name and a place of its own fits the others
pub fits-onto : (a : Pair) (pairs : List Pair)
    → AllByRecursion (λ b. (bytes_eq a.0 b.0 ≡ false) × ((a.1 == b.1) ≡ false)) pairs
    → names_fit_places pairs ≡ true → names_fit_places (a ∷ pairs) ≡ true
fits-onto a pairs apart fit = fits-each (a ∷ pairs) (
  (eq-name a.0 a.0 refl ∙ sym (eq-eqb a.1 a.1 refl), each-imp _ _ (λ b h. h.0 ∙ sym h.1) pairs apart),
  each-both _ _ _ (λ b h k. ((name-swap b.0 a.0 ∙ h.0 ∙ sym (flip a.1 b.1 h.1)), k)) pairs apart (each-fits pairs fit),
)

-- each pair's name is one of the names
own-names : (pairs : List Pair) → AllByRecursion (λ a. has_name (map (λ p. p.0) pairs) a.0 ≡ true) pairs
own-names pairs = each-unmap _ (λ (p : Pair). p.0) pairs (within-self (map (λ (p : Pair). p.0) pairs))

-- the name that has a place
abbrev name_at : List Pair → ℕ → List ℕ
name_at pairs place = option_map_or (λ (a : Pair). a.0) (find (λ a. a.1 == place) pairs) []

module _ (pairs : List Pair) (fit : AllByRecursion (FitsAll pairs) pairs) where
  two-names : (p q : ℕ) → is_taken pairs p ≡ true → is_taken pairs q ≡ true
      → bytes_eq (name_at pairs p) (name_at pairs q) ≡ (p == q)
  two-names p q s t =
      let a = any-found (λ (x : Pair). x.1 == p) pairs s in
      let b = any-found (λ (x : Pair). x.1 == q) pairs t in
      let at-a = found-has (λ (x : Pair). x.1 == p) (FitsAll pairs) pairs a.0 fit a.1 in
      let at-b = found-has (λ (x : Pair). x.1 == q) (λ (x : Pair). bytes_eq a.0.0 x.0
      ≡ (a.0.1 == x.1)) pairs b.0 at-a.1 b.1 in
      grind (arith, nat_tests, a.1, b.1, at-a.0, at-b)

  name-in : (p : ℕ) → is_taken pairs p ≡ true → has_name (map (λ (a : Pair). a.0) pairs) (name_at pairs p) ≡ true
  name-in p t =
      let a = any-found (λ (x : Pair). x.1 == p) pairs t in
      ap (λ o. has_name (map (λ (x : Pair). x.0) pairs) (option_map_or (λ (x : Pair). x.0) o [])) a.1
      ∙ (found-has (λ (x : Pair). x.1 == p) (λ (x : Pair). has_name (map (λ (y : Pair). y.0) pairs) x.0
      ≡ true) pairs a.0 (own-names pairs) a.1).1

  names-in : (ps : List ℕ) → AllByRecursion (λ p. is_taken pairs p ≡ true) ps
      → Within (map (name_at pairs) ps) (map (λ (a : Pair). a.0) pairs)
  names-in ps taken = each-map _ (name_at pairs) ps (each-imp _ _ name-in ps taken)

  names-differ : (ps : List ℕ) → AllByRecursion (λ p. is_taken pairs p ≡ true) ps → slots_differ ps ≡ true
      → all_differ (map (name_at pairs) ps) ≡ true
  names-differ [] t d = refl
  names-differ (p ∷ ps) t d =
      let parts = and_parts (list_all (λ other. not (other == p)) ps) (slots_differ ps) d in
      both_true (ap not (none ps t.1 parts.0)) (names-differ ps t.1 parts.1)
    where
      none : (qs : List ℕ) → AllByRecursion (λ q. is_taken pairs q ≡ true) qs
          → list_all (λ other. not (other == p)) qs ≡ true → has_name (map (name_at pairs) qs) (name_at pairs p) ≡ false
      none [] t e = refl
      none (q ∷ qs) u e = grind (arith, nat_tests, two-names p q t.0, none qs u.1)

  -- a name that isn't there
  other-name : (n : List ℕ) → has_name (map (λ (a : Pair). a.0) pairs) n ≡ false
      → (ns : List (List ℕ)) → Within ns (map (λ (a : Pair). a.0) pairs) → has_name ns n ≡ false
  other-name n new ns within = grind (arith, has-within ns (map (λ (a : Pair). a.0) pairs) n within)

  all-taken : (ps : List ℕ) → find (λ p. not (is_taken pairs p)) ps ≡ None
      → AllByRecursion (λ p. is_taken pairs p ≡ true) ps
  all-taken ps e = each-imp _ _ (λ p k. not-false _ k) ps (none-passes (λ p. not (is_taken pairs p)) ps e)

  -- where a further name is among few, the lowest free place is free
  pub free-place : (n : List ℕ) (zs : List (List ℕ)) → has_name (map (λ (a : Pair). a.0) pairs) n ≡ false
      → has_name zs n ≡ true
      → Within (map (λ (a : Pair). a.0) pairs) zs → length (different_names zs) ≤ cluster_limit
      → is_taken pairs (lowest_free cluster_limit (places_of pairs)) ≡ false
  free-place n zs new among within few = go (find (λ p. not (is_taken pairs p)) all_places) refl
    where
      same : lowest_free cluster_limit (places_of pairs) ≡ unwrap_or (find (λ p. not (is_taken pairs p)) all_places) 0
      same = ap (λ test. unwrap_or (find test all_places) 0) (λ i p. free-is pairs p i)

      go : (o : Option ℕ) → find (λ p. not (is_taken pairs p)) all_places ≡ o
          → is_taken pairs (lowest_free cluster_limit (places_of pairs)) ≡ false
      go (Some p) e =
          ap (is_taken pairs) (same ∙ ap (λ o. unwrap_or o 0) e)
          ∙ not-true _ (found-has (λ p. not (is_taken pairs p)) (λ p. ⊤) all_places p (every (λ p. tt) all_places) e).0
      go None e =
          let all = all-taken all_places e in
          let names = map (name_at pairs) all_places in
          let there = names-in all_places all in
          let count =
          differ-few (n ∷ names) zs
          (both_true (ap not (other-name n new names there)) (names-differ all_places all refl)) (
            among,
            within-trans names (map (λ (a : Pair). a.0) pairs) zs there within,
          ) in
          let size = length-map all_places (name_at pairs) in
          let as_many : length all_places ≡ cluster_limit = refl in
          absurd (let f : ⊥ = omega (arith, count, few, size, as_many) in f)

-- a pair with a new name and a new place fits the others
pub fresh-fits : (pairs : List Pair) (n : List ℕ) (place : ℕ) → names_fit_places pairs ≡ true
    → has_name (map (λ (a : Pair). a.0) pairs) n ≡ false → is_taken pairs place ≡ false
    → names_fit_places ((n, place) ∷ pairs) ≡ true
fresh-fits pairs n place fit new free =
    fits-onto (n, place) pairs (each-both _ _ _ (λ a h k. (h, flip a.1 place k)) pairs
    (none-named (λ (a : Pair). a.0) pairs n new)
    (none-any (λ (a : Pair). a.1 == place) pairs free)) fit

-- the places that a state's clusters and changes have, one kind behind the other
pub taken_none : (s : State) → s.session ≡ None → taken_in s ≡ map (λ (c : Cluster Extent). c.content.place) s.running
taken_none s e =
    ap (λ o. places_of (places_in (record s { session = o }))) e
    ∙ map-append (λ (p : Pair). p.1) (map cluster_place s.running) [] ∙ append-nil _
    ∙ map-map (λ (p : Pair). p.1) cluster_place s.running

pub taken_some : (s : State) (x : SessionOf Extent) → s.session ≡ Some x → taken_in s
    ≡ (map (λ (c : Cluster Extent). c.content.place) s.running ++ map (λ (c : Cluster Extent). c.content.place) x.saved)
    ++ map (λ (c : Change Extent). c.part.payload.place) x.changes
taken_some s x e =
    let place = λ (p : Pair). p.1 in
    ap (λ o. places_of (places_in (record s { session = o }))) e
    ∙ map-append place (map cluster_place s.running) (map cluster_place x.saved ++ map change_place x.changes)
    ∙ ap (λ ns. map place (map cluster_place s.running) ++ ns)
    (map-append place (map cluster_place x.saved) (map change_place x.changes))
    ∙ (λ i. map-map place cluster_place s.running i
    ++ (map-map place cluster_place x.saved i ++ map-map place change_place x.changes i))
    ∙ sym (append_assoc (map (λ (c : Cluster Extent). c.content.place) s.running)
    (map (λ (c : Cluster Extent). c.content.place) x.saved)
    (map (λ (c : Change Extent). c.part.payload.place) x.changes))
