-- What planned changes make of each cluster.
use Rattle.world.proofs.Names.{in-contained}
use Rattle.world.proofs.Names.{and_parts, arith, ◌≡◌, inl, inr, ℕ, List, [], ◌∷◌, Some, None, Bool, true, false, refl}
use Rattle.world.proofs.Names.{sym, ◌∙◌, ap, subst, cond, not, find, filter, map, option_or, nat_cmp, is_lt, is_eq}
use Rattle.world.proofs.Names.{ordering_reverse, slice_cmp, texts_ties, bytes_eq, Ordering, Less, Equal, Greater}
use Rattle.world.proofs.Names.{nat_list_cmp_total, find-append, name_lt, has_name, all_differ, Bytes, Part, Cluster}
use Rattle.world.proofs.Names.{Change, cluster_of, cluster_at, without, with_cluster, brought, changed_by, planned}
use Rattle.world.proofs.Names.{IsIn, left_by, RunsNew}
use Rattle.node_laws.proofs.Lists.{neither, not-true}
use Rattle.node_laws.proofs.NameLists.{eq-name, name-eq, name-swap}

lt-not_eq : (a b : List ℕ) → bytes_eq a b ≡ true → name_lt a b ≡ false
lt-not_eq a b e = go (slice_cmp nat_cmp a b) (sym (texts_ties a b) ∙ e)
  where
    go : (o : Ordering) → is_eq o ≡ true → is_lt o ≡ false
    go Less q = absurd (cc q)
    go _ q = refl

lt-other : (a b : List ℕ) → bytes_eq a b ≡ false → name_lt b a ≡ not (name_lt a b)
lt-other a b e =
    go (slice_cmp nat_cmp a b) (slice_cmp nat_cmp b a) (sym (texts_ties a b) ∙ e) (nat_list_cmp_total.antisymm a b)
  where
    go : (o p : Ordering) → is_eq o ≡ false → o ≡ ordering_reverse p → is_lt p ≡ not (is_lt o)
    go Less Greater q r = refl
    go Equal p q r = absurd (cc q)
    go Greater Less q r = refl
    go _ _ q r = absurd (cc r)

-- a filter by name keeps what is found, or leaves nothing
found-by_name : (q : List ℕ → Bool) (name : List ℕ) (cs : List (Cluster Bytes))
    → find (λ (c : Cluster Bytes). bytes_eq c.name name) (filter (λ (d : Cluster Bytes). q d.name) cs)
    ≡ cond (q name) (find (λ (c : Cluster Bytes). bytes_eq c.name name) cs) None
found-by_name q name [] = grind arith
found-by_name q name (d ∷ ds) = grind (arith, name-eq, found-by_name q name ds)

with-at : (c : Cluster Bytes) (cs : List (Cluster Bytes)) (name : List ℕ)
    → cluster_at (with_cluster c cs) name ≡ cond (bytes_eq c.name name) (Some c) (cluster_at cs name)
with-at c cs name =
    find-append (λ (d : Cluster Bytes). bytes_eq d.name name) (filter (λ (d : Cluster Bytes). name_lt d.name c.name) cs)
    (c ∷ filter (λ (d : Cluster Bytes). name_lt c.name d.name) cs)
    ∙ (ap (λ o. option_or o
    (cond (bytes_eq c.name name) (Some c)
    (find (λ (d : Cluster Bytes). bytes_eq d.name name)
    (filter (λ (d : Cluster Bytes). name_lt c.name d.name) cs)))) (found-by_name (λ n. name_lt n c.name) name cs)
    ∙ (ap (λ o. option_or (cond (name_lt name c.name) (cluster_at cs name) None)
    (cond (bytes_eq c.name name) (Some c) o)) (found-by_name (λ n. name_lt c.name n) name cs)
    ∙ go (bytes_eq c.name name) refl (name_lt name c.name) refl))
  where
    go : (e : Bool) → bytes_eq c.name name ≡ e → (l : Bool) → name_lt name c.name ≡ l
        → option_or (cond l (cluster_at cs name) None)
        (cond e (Some c) (cond (name_lt c.name name) (cluster_at cs name) None)) ≡ cond e (Some c) (cluster_at cs name)
    go true p true q = absurd (let z = lt-not_eq name c.name (name-swap name c.name ∙ p) in cc (z, q))
    go true p false q = refl
    go false p true q = grind arith
    go false p false q = grind (arith, lt-other, name-swap)

without-at : (n : List ℕ) (cs : List (Cluster Bytes)) (name : List ℕ)
    → cluster_at (without n cs) name ≡ cond (bytes_eq n name) None (cluster_at cs name)
without-at n cs name =
    found-by_name (λ m. not (bytes_eq m n)) name cs
    ∙ (ap (λ x. cond (not x) (cluster_at cs name) None) (name-swap name n) ∙ go (bytes_eq n name))
  where
    go : (b : Bool) → cond (not b) (cluster_at cs name) None ≡ cond b None (cluster_at cs name)
    go true = refl
    go false = refl

changed-at : (p : Part Bytes) (cs : List (Cluster Bytes)) (name : List ℕ)
    → cluster_at (changed_by p cs) name
    ≡ cond (bytes_eq (cluster_of p) name) (left_by p.manifest.action (brought p)) (cluster_at cs name)
changed-at p cs name = grind (arith, without-at, with-at)

-- the clusters after the parts, each in turn
abbrev pub run_parts : List (Part Bytes) → List (Cluster Bytes) → List (Cluster Bytes)
run_parts [] cs = cs
run_parts (p ∷ ps) cs = run_parts ps (changed_by p cs)

pub planned-run : (changes : List (Change Bytes)) (cs : List (Cluster Bytes))
    → planned changes cs ≡ run_parts (map (λ (change : Change Bytes). change.part) changes) cs
planned-run [] cs = refl
planned-run (c ∷ changes) cs = planned-run changes (changed_by c.part cs)

-- a name that no part has
run-others : (ps : List (Part Bytes)) (cs : List (Cluster Bytes)) (name : List ℕ)
    → has_name (map cluster_of ps) name ≡ false → cluster_at (run_parts ps cs) name ≡ cluster_at cs name
run-others [] cs name h = refl
run-others (p ∷ ps) cs name h =
    let q = neither (bytes_eq name (cluster_of p)) (has_name (map cluster_of ps) name) h in
    run-others ps (changed_by p cs) name q.1
    ∙ (changed-at p cs name
    ∙ ap (λ x. cond x (left_by p.manifest.action (brought p)) (cluster_at cs name)) (name-swap (cluster_of p) name
    ∙ q.0))

run-named : (ps : List (Part Bytes)) (cs : List (Cluster Bytes)) (p : Part Bytes)
    → all_differ (map cluster_of ps) ≡ true → IsIn p ps
    → cluster_at (run_parts ps cs) (cluster_of p) ≡ left_by p.manifest.action (brought p)
run-named [] cs p d h = absurd h
run-named (q ∷ qs) cs p d h =
    let both = and_parts (not (has_name (map cluster_of qs) (cluster_of q))) (all_differ (map cluster_of qs)) d in
    elim h [
      | inl e ↦ subst (λ x. cluster_at (run_parts (q ∷ qs) cs) (cluster_of x) ≡ left_by x.manifest.action (brought x))
          (sym e)
          (run-others qs (changed_by q cs) (cluster_of q)
          (not-true (has_name (map cluster_of qs) (cluster_of q)) both.0)
          ∙ (changed-at q cs (cluster_of q)
          ∙ ap (λ x. cond x (left_by q.manifest.action (brought q)) (cluster_at cs (cluster_of q)))
          (eq-name (cluster_of q) (cluster_of q) refl)))
      | inr h' ↦ run-named qs (changed_by q cs) p both.1 h'
    ]

pub runs-new : (ps : List (Part Bytes)) (saved running : List (Cluster Bytes)) → all_differ (map cluster_of ps) ≡ true
    → running ≡ run_parts ps saved → RunsNew ps saved running
runs-new ps saved running d e = grind (arith, run-named, run-others, in-contained)
