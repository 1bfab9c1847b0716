-- Which names things have, and how many different ones there are.
use Rattle.node_core.proofs.Names.{AllByRecursion, Change, Cluster, Extent, List, Part, Within, added, all_differ, ap, arith, bytes_eq}
use Rattle.node_core.proofs.Names.{cluster_of, count_of, different_names, drop, each-imp, false, fewer-within, get_or}
use Rattle.node_core.proofs.Names.{has-append, has_name, if◌then◌else◌, length, list_any, map, name-swap, refl, subst, sym, take}
use Rattle.node_core.proofs.Names.{take_rest, true, [], ℕ, ◌++◌, ◌+◌, ◌-◌, ◌||◌, ◌∙◌, ◌∷◌, ◌≡◌, ◌≤◌}
use Rattle.node_core.proofs.Lists.{none-any}

-- a name is among others where one of what they name has it
pub has-named : {X : Type 0} (f : X → List ℕ) (xs : List X) (n : List ℕ)
    → has_name (map f xs) n ≡ list_any (λ x. bytes_eq (f x) n) xs
has-named f [] n = refl
has-named f (x ∷ xs) n = λ i. name-swap n (f x) i || has-named f xs n i

-- where it isn't, each has another
pub none-named : {X : Type 0} (f : X → List ℕ) (xs : List X) (n : List ℕ)
    → has_name (map f xs) n ≡ false → AllByRecursion (λ x. bytes_eq n (f x) ≡ false) xs
none-named f xs n e =
    each-imp _ _ (λ x h. name-swap n (f x) ∙ h) xs (none-any (λ x. bytes_eq (f x) n) xs (sym (has-named f xs n) ∙ e))

-- of different names, none is a later one
pub differ-before : (ns : List (List ℕ)) (n : List ℕ) (rest : List (List ℕ)) → all_differ (ns ++ n ∷ rest) ≡ true
    → has_name ns n ≡ false
differ-before [] n rest d = refl
differ-before (m ∷ ns) n rest d = grind (arith, has-append ns (n ∷ rest) m, name-swap n m, differ-before ns n rest)

-- different names, each once
different-self : (ns : List (List ℕ)) → all_differ ns ≡ true → different_names ns ≡ ns
different-self [] d = refl
different-self (n ∷ ns) d = grind (arith, different-self ns)

-- different names are no more than those that they are among
pub differ-few : (ns zs : List (List ℕ)) → all_differ ns ≡ true → Within ns zs → length ns ≤ length (different_names zs)
differ-few ns zs d w = subst (λ l. length l ≤ length (different_names zs)) (different-self ns d) (fewer-within ns zs w)

-- the different ones of some names are not more
pub not-more : (ns : List (List ℕ)) → length (different_names ns) ≤ length ns
not-more [] = omega arith
not-more (n ∷ ns) = grind (arith, not-more ns)

-- one name more
pub one-named : (ns : List (List ℕ)) (n : List ℕ)
    → length (different_names (n ∷ ns)) ≡ (if has_name ns n then 0 else 1) + length (different_names ns)
one-named ns n = grind arith

-- a cluster more
pub cluster-more : (c : Cluster Extent) (cs : List (Cluster Extent)) (changes : List (Change Extent))
    (parts : List (Part ℕ))
    → count_of (c ∷ cs) changes parts ≡ added cs changes parts c.name + count_of cs changes parts
cluster-more c cs changes parts =
    let names = map (λ (d : Cluster Extent). d.name) cs in
    let plans = map (λ (d : Change Extent). cluster_of d.part) changes in
    let brings = map (λ (p : Part ℕ). cluster_of p) parts in
    let own = has-named (λ (d : Cluster Extent). d.name) cs c.name in
    let planned = has-named (λ (d : Change Extent). cluster_of d.part) changes c.name in
    let brought = has-named (λ (p : Part ℕ). cluster_of p) parts c.name in
    grind (
      arith,
      one-named (names ++ plans ++ brings) c.name,
      has-append (names ++ plans) brings c.name,
      has-append names plans c.name,
      own,
      planned,
      brought,
    )

-- a change more
pub change-more : (change : Change Extent) (changes : List (Change Extent)) (parts : List (Part ℕ))
    → count_of [] (change ∷ changes) parts ≡ added [] changes parts (cluster_of change.part) + count_of [] changes parts
change-more change changes parts =
    let name = cluster_of change.part in
    let plans = map (λ (d : Change Extent). cluster_of d.part) changes in
    let brings = map (λ (p : Part ℕ). cluster_of p) parts in
    let planned = has-named (λ (d : Change Extent). cluster_of d.part) changes name in
    let brought = has-named (λ (p : Part ℕ). cluster_of p) parts name in
    grind (arith, one-named (plans ++ brings) name, has-append plans brings name, planned, brought)

-- a part more
pub part-more : (part : Part ℕ) (parts : List (Part ℕ))
    → count_of [] [] (part ∷ parts) ≡ added [] [] parts (cluster_of part) + count_of [] [] parts
part-more part parts = grind (
  arith,
  one-named (map (λ (p : Part ℕ). cluster_of p) parts) (cluster_of part),
  has-named (λ (p : Part ℕ). cluster_of p) parts (cluster_of part),
)

pub one-at-most : (clusters : List (Cluster Extent)) (changes : List (Change Extent)) (parts : List (Part ℕ))
    (name : List ℕ) → added clusters changes parts name ≤ 1
one-at-most clusters changes parts name = grind arith

-- a list without its first
abbrev pub rest_of : {X : Type 0} → List X → List X
rest_of xs = take (length xs - 1) (drop 1 xs)

-- the rest of a list that is counted, one at a time, each as one more or as none
pub counted-on : {X : Type 0} (total : List X → ℕ) (more : List X → X → ℕ)
    → ((x : X) (xs : List X) → total (x ∷ xs) ≡ more xs x + total xs) → ((xs : List X) (x : X) → more xs x ≤ 1)
    → (xs : List X) (x : X) (count now n few : ℕ) → 1 ≤ length xs → x ≡ get_or xs 0 x → now ≡ more (rest_of xs) x
    → (count + total xs ≡ n) × (count + length xs ≤ few)
    → (count + now + total (rest_of xs) ≡ n) × (count + now + length (rest_of xs) ≤ few)
counted-on total more step least [] x count now n few some is one so_far = absurd (omega (arith, some))
counted-on total more step least (y ∷ ys) x count now n few some is one so_far =
    let rest = take_rest (y ∷ ys) 1 in
    let sum = so_far.0 in
    let room = so_far.1 in
    let this : now ≡ more ys y = one ∙ (λ i. more (rest i) (is i)) in (
      omega (arith, step y ys, this, sum, ap total rest),
      omega (arith, least ys y, this, room, ap length rest),
    )
