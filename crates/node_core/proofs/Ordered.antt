-- Clusters in order of name: each is inserted behind those that stand before it.
use Rattle.node_core.proofs.Names.{AllByRecursion, Bool, Bytes, Cluster, Install, List, all_differ, ap, ap₂, arith, bytes_eq, cond}
use Rattle.node_core.proofs.Names.{drop, each-append, each-filter, each-imp, each-unmap, false, filter, fold, fold-append, in_order}
use Rattle.node_core.proofs.Names.{insert, length, length-filter, length-insert, lt-trans, map-append, name-eq}
use Rattle.node_core.proofs.Names.{name-swap, name_lt, named_before, names-behind, names-tail, names_of, names_rise, nat_list_cmp_total}
use Rattle.node_core.proofs.Names.{planned-rise, refl, subst, sym, take, texts_ties, true, with_cluster, [], ℕ, ◌++◌, ◌∙◌, ◌∷◌, ◌≡◌}
use Rattle.node_core.proofs.Names.{◌≤◌}
use Rattle.std.proofs.Common.{take-append-drop}
use Rattle.std.proofs.lemmas.List.{drop-map, drop_more, take-map, take_more}
use Rattle.node_core.proofs.Names.{get_or, map, ◌+◌, ◌<◌}
use Rattle.node_core.proofs.Named.{differ-before, none-named}

-- the order of names is strict and total
lt-not : (a b : List ℕ) → name_lt a b ≡ true → name_lt b a ≡ false
lt-not a b h = grind (arith, nat_list_cmp_total.antisymm b a)

pub lt-self : (a : List ℕ) → name_lt a a ≡ true → ⊥
lt-self a h = let z = sym h ∙ lt-not a a h in let f : ⊥ = cc in f

pub lt-differ : (a b : List ℕ) → name_lt a b ≡ true → bytes_eq a b ≡ false
lt-differ a b h = grind (arith, lt-self a, name-eq a b)

lt-other : (a b : List ℕ) → name_lt a b ≡ false → bytes_eq a b ≡ false → name_lt b a ≡ true
lt-other a b h differ = grind (arith, nat_list_cmp_total.antisymm b a, texts_ties a b)

module _ (n : List ℕ) where
  abbrev behind : List (Cluster Bytes) → List (Cluster Bytes)
  behind cs = filter (λ d. name_lt n d.name) cs

  none-before : (cs : List (Cluster Bytes)) → AllByRecursion (λ d. name_lt n d.name ≡ true) cs → named_before n cs ≡ []
  none-before [] h = refl
  none-before (d ∷ cs) h = ap (λ b. cond b (d ∷ named_before n cs) (named_before n cs)) (lt-not n d.name h.0)
      ∙ none-before cs h.1

  all-behind : (cs : List (Cluster Bytes)) → AllByRecursion (λ d. name_lt n d.name ≡ true) cs → behind cs ≡ cs
  all-behind [] h = refl
  all-behind (d ∷ cs) h = ap (λ b. cond b (d ∷ behind cs) (behind cs)) h.0 ∙ ap (λ l. d ∷ l) (all-behind cs h.1)

  -- a rising list is cut where a name belongs
  cut : (cs : List (Cluster Bytes)) → names_rise (names_of cs) ≡ true
      → AllByRecursion (λ d. bytes_eq d.name n ≡ false) cs
      → (take (length (named_before n cs)) cs ≡ named_before n cs) × (drop (length (named_before n cs)) cs ≡ behind cs)
  cut [] r apart = (refl, refl)
  cut (d ∷ cs) r apart = go (name_lt d.name n) refl (cut cs (names-tail d.name (names_of cs) r) apart.1)
    where
      go : (b : Bool) → name_lt d.name n ≡ b → (take (length (named_before n cs)) cs ≡ named_before n cs)
          × (drop (length (named_before n cs)) cs ≡ behind cs)
          → (take (length (cond b (d ∷ named_before n cs) (named_before n cs))) (d ∷ cs)
          ≡ cond b (d ∷ named_before n cs) (named_before n cs))
          × (drop (length (cond b (d ∷ named_before n cs) (named_before n cs))) (d ∷ cs)
          ≡ cond (name_lt n d.name) (d ∷ behind cs) (behind cs))
      go true e rest =
          (ap (λ l. d ∷ l) rest.0, rest.1 ∙ sym (ap (λ b. cond b (d ∷ behind cs) (behind cs)) (lt-not d.name n e)))
      go false e rest =
          let first = lt-other d.name n e apart.0 in
          let later =
          each-imp _ _ (λ x h. lt-trans n d.name x.name first h) cs
          (each-unmap (λ x. name_lt d.name x ≡ true) (λ (x : Cluster Bytes). x.name) cs
          (names-behind d.name (names_of cs) r)) in
          let none = none-before cs later in (
            ap (λ l. take (length l) (d ∷ cs)) none ∙ sym none,
            ap (λ l. drop (length l) (d ∷ cs)) none
                ∙ sym (ap (λ b. cond b (d ∷ behind cs) (behind cs)) first ∙ ap (λ l. d ∷ l) (all-behind cs later)),
          )

inserted : (c : Cluster Bytes) (cs : List (Cluster Bytes)) → names_rise (names_of cs) ≡ true
    → AllByRecursion (λ d. bytes_eq d.name c.name ≡ false) cs
    → insert cs (length (named_before c.name cs)) c ≡ with_cluster c cs
inserted c cs r apart = let at = cut c.name cs r apart in ap₂ (λ xs ys. xs ++ c ∷ ys) at.0 at.1

with-rise : (c : Cluster Bytes) (cs : List (Cluster Bytes)) → names_rise (names_of cs) ≡ true
    → names_rise (names_of (with_cluster c cs)) ≡ true
with-rise c cs r =
    planned-rise (record {
      transfer = 0;
      part =
          record {
            manifest = record {
              action = Install;
              name = c.name;
              version = c.version;
              needs = c.needs;
              sha256 =
                  [];
            };
            payload = c.content;
          };
    } ∷ []) cs r

rises-from : (cs ordered : List (Cluster Bytes)) → names_rise (names_of ordered) ≡ true
    → names_rise (names_of (fold (λ ordered c. with_cluster c ordered) ordered cs)) ≡ true
rises-from [] ordered r = r
rises-from (c ∷ cs) ordered r = rises-from cs (with_cluster c ordered) (with-rise c ordered r)

pub order-rises : (cs : List (Cluster Bytes)) → names_rise (names_of (in_order cs)) ≡ true
order-rises cs = rises-from cs [] refl

each-from : (P : Cluster Bytes → Type 0) (cs ordered : List (Cluster Bytes)) → AllByRecursion P ordered
    → AllByRecursion P cs → AllByRecursion P (fold (λ ordered c. with_cluster c ordered) ordered cs)
each-from P [] ordered h k = h
each-from P (c ∷ cs) ordered h k =
    each-from P cs (with_cluster c ordered)
    (each-append P _ _ (each-filter P _ ordered h) (k.0, each-filter P _ ordered h)) k.1

-- what is so of each is so of each in order
pub order-each : (P : Cluster Bytes → Type 0) (cs : List (Cluster Bytes)) → AllByRecursion P cs
    → AllByRecursion P (in_order cs)
order-each P cs h = each-from P cs [] tt h

-- a name that none of these has
apart : (ys : List (Cluster Bytes)) (c : Cluster Bytes) (rest : List (Cluster Bytes))
    → all_differ (names_of (ys ++ c ∷ rest)) ≡ true → AllByRecursion (λ d. bytes_eq d.name c.name ≡ false) ys
apart ys c rest h =
    each-imp _ _ (λ d k. name-swap d.name c.name ∙ k) ys (none-named (λ (d : Cluster Bytes). d.name) ys c.name
    (differ-before (names_of ys) c.name (names_of rest)
    (ap all_differ (sym (map-append (λ (d : Cluster Bytes). d.name) ys (c ∷ rest))) ∙ h)))

-- one cluster more is inserted where it belongs
pub one-inserted : (ys : List (Cluster Bytes)) (c : Cluster Bytes) (rest : List (Cluster Bytes))
    → all_differ (names_of (ys ++ c ∷ rest)) ≡ true
    → insert (in_order ys) (length (named_before c.name (in_order ys))) c ≡ in_order (ys ++ c ∷ [])
one-inserted ys c rest h =
    inserted c (in_order ys) (order-rises ys) (order-each (λ d. bytes_eq d.name c.name ≡ false) ys (apart ys c rest h))
    ∙ sym (fold-append (λ ordered c. with_cluster c ordered) [] ys (c ∷ []))

-- what is lent of clusters stands where these do
module _ {R : Type 0} (lent : R → Cluster Bytes) where
  named-lent : (n : List ℕ) (rs : List R)
      → length (filter (λ r. name_lt (lent r).name n) rs) ≡ length (named_before n (map lent rs))
  named-lent n [] = refl
  named-lent n (r ∷ rs) = go (name_lt (lent r).name n) (named-lent n rs)
    where
      go : (b : Bool) → length (filter (λ r. name_lt (lent r).name n) rs) ≡ length (named_before n (map lent rs))
          → length (cond b (r ∷ filter (λ r. name_lt (lent r).name n) rs) (filter (λ r. name_lt (lent r).name n) rs))
          ≡ length (cond b (lent r ∷ named_before n (map lent rs)) (named_before n (map lent rs)))
      go true same = omega (arith, same)
      go false same = same

  insert-lent : (rs : List R) (k : ℕ) (r : R) → map lent (insert rs k r) ≡ insert (map lent rs) k (lent r)
  insert-lent rs k r = map-append lent (take k rs) (r ∷ drop k rs)
      ∙ (λ i. sym (take-map lent k rs) i ++ lent r ∷ sym (drop-map lent k rs) i)

  -- the next one of a list is inserted into those before it
  pub next-lent : (sorted new : List R) (all : List (Cluster Bytes)) (i k : ℕ) (r : R) → i < length all
      → lent r ≡ get_or all i (lent r) → k ≡ length (filter (λ s. name_lt (lent s).name (lent r).name) sorted)
      → new ≡ insert sorted k r → all_differ (names_of all) ≡ true → map lent sorted ≡ in_order (take i all)
      → length (map lent sorted) ≡ i
      → (map lent new ≡ in_order (take (i + 1) all)) × (length (map lent new) ≡ i + 1)
  next-lent sorted new all i k r less item at is differ so_far many =
      let c = lent r in
      let place = at ∙ named-lent c.name sorted in
      let inserted_here = ap (map lent) is ∙ insert-lent sorted k r in
      let more : take i all ++ c ∷ [] ≡ take (i + 1) all =
      ap (λ d. take i all ++ d ∷ []) item ∙ sym (take_more all i c less) in
      let whole : take i all ++ c ∷ drop (i + 1) all ≡ all =
      ap (λ d. take i all ++ d ∷ drop (i + 1) all) item
      ∙ ap (λ l. take i all ++ l) (sym (drop_more all i c less)) ∙ take-append-drop i all in
      let here = ap (λ j. insert (map lent sorted) j c) place
      ∙ ap (λ l. insert l (length (named_before c.name l)) c) so_far in
      let few : k ≤ length (map lent sorted) =
      subst (λ j. j ≤ length (map lent sorted)) (sym place)
      (length-filter (λ d. name_lt d.name c.name) (map lent sorted)) in (
        inserted_here ∙ here
            ∙ one-inserted (take i all) c (drop (i + 1) all) (ap (λ l. all_differ (names_of l)) whole ∙ differ)
            ∙ ap in_order more,
        ap length inserted_here ∙ length-insert (map lent sorted) k c few ∙ omega (arith, many),
      )
