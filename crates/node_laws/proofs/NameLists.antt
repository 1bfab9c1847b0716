-- Lists of names: which are different, and which rise.
use Rattle.node_laws.proofs.Names.{◌≡◌, refl, sym, ap, ◌∙◌, ℕ, ◌+◌, ◌≤◌, Bool, true, false, List, [], ◌∷◌, ◌++◌, length}
use Rattle.node_laws.proofs.Names.{arith, ◌||◌, not, cond, filter, map, AllByRecursion, bytes_eq, nat_list_cmp_total}
use Rattle.node_laws.proofs.Names.{bytes_eq-Decides, and_parts, name_lt, has_name, different_names, names_rise, subst}
use Rattle.node_laws.proofs.Names.{map-append, Action, Remove, Bytes, Change, Cluster, Part, cluster_of, with_cluster}
use Rattle.node_laws.proofs.Names.{brought, changed_as, changed_by, planned, append_assoc, ◌&&◌, nat_le, None, list_any}
use Rattle.node_laws.proofs.Names.{both_true, leb-false, append-nil, Install, cluster_limit, all_differ, first_refusal}
use Rattle.node_laws.proofs.Names.{has_cluster, part_refusals, parts_refusal, applies, suits, is_install, names_among}
use Rattle.node_laws.proofs.Lists.{each-append, each-imp, each-both, each-map, each-unmap, each-filter, each-passes}
use Rattle.node_laws.proofs.Lists.{both-none, neither}

pub name-eq : (a b : List ℕ) → bytes_eq a b ≡ true → a ≡ b
name-eq a b e = (bytes_eq-Decides a b).0 e

pub eq-name : (a b : List ℕ) → a ≡ b → bytes_eq a b ≡ true
eq-name a b e = (bytes_eq-Decides a b).1 e

pub name-swap : (a b : List ℕ) → bytes_eq a b ≡ bytes_eq b a
name-swap a b = grind (arith, eq-name, name-eq)

-- all names of one list are in another
abbrev pub Within : List (List ℕ) → List (List ℕ) → Type 0
Within xs ys = AllByRecursion (λ x. has_name ys x ≡ true) xs

pub or-right : (a b : Bool) → b ≡ true → (a || b) ≡ true
or-right true b h = refl
or-right false b h = h

pub has-more : (ys : List (List ℕ)) (y x : List ℕ) → has_name ys x ≡ true → has_name (y ∷ ys) x ≡ true
has-more ys y x h = or-right (bytes_eq x y) (has_name ys x) h

pub within-more : (xs ys : List (List ℕ)) (y : List ℕ) → Within xs ys → Within xs (y ∷ ys)
within-more xs ys y h = each-imp _ _ (λ x. has-more ys y x) xs h

pub has-self : (n : List ℕ) (ns : List (List ℕ)) → has_name (n ∷ ns) n ≡ true
has-self n ns = ap (λ b. b || has_name ns n) (eq-name n n refl)

pub within-self : (xs : List (List ℕ)) → Within xs xs
within-self [] = tt
within-self (x ∷ xs) = (has-self x xs, within-more xs xs x (within-self xs))

pub has-append : (xs ys : List (List ℕ)) (n : List ℕ) → has_name (xs ++ ys) n ≡ (has_name xs n || has_name ys n)
has-append [] ys n = refl
has-append (x ∷ xs) ys n = grind (arith, has-append xs ys n)

pub within-left : (zs xs ys : List (List ℕ)) → Within zs xs → Within zs (xs ++ ys)
within-left zs xs ys h = each-imp _ _ (λ z k. has-append xs ys z ∙ ap (λ b. b || has_name ys z) k) zs h

pub within-right : (zs xs ys : List (List ℕ)) → Within zs ys → Within zs (xs ++ ys)
within-right zs xs ys h = each-imp _ _ (λ z k. has-append xs ys z ∙ or-right (has_name xs z) _ k) zs h

pub has-within : (xs ys : List (List ℕ)) (n : List ℕ) → Within xs ys → has_name xs n ≡ true → has_name ys n ≡ true
has-within [] ys n h e = absurd (cc)
has-within (x ∷ xs) ys n h e = go (bytes_eq n x) refl e (has-within xs ys n h.1)
  where
    go : (b : Bool) → bytes_eq n x ≡ b → (b || has_name xs n) ≡ true → (has_name xs n ≡ true → has_name ys n ≡ true)
        → has_name ys n ≡ true
    go true q k rec = ap (has_name ys) (name-eq n x q) ∙ h.0
    go false q k rec = rec k

pub within-trans : (xs ys zs : List (List ℕ)) → Within xs ys → Within ys zs → Within xs zs
within-trans xs ys zs h k = each-imp _ _ (λ x e. has-within ys zs x k e) xs h

-- the names without one
abbrev apart_from : List ℕ → List (List ℕ) → List (List ℕ)
apart_from n ys = filter (λ y. not (bytes_eq n y)) ys

-- another name is still there
still-has : (n x : List ℕ) (ys : List (List ℕ)) → bytes_eq x n ≡ false → has_name (apart_from n ys) x ≡ has_name ys x
still-has n x [] e = refl
still-has n x (y ∷ ys) e = go (bytes_eq n y) refl (still-has n x ys e)
  where
    go : (b : Bool) → bytes_eq n y ≡ b → has_name (apart_from n ys) x ≡ has_name ys x
        → has_name (cond (not b) (y ∷ apart_from n ys) (apart_from n ys)) x ≡ (bytes_eq x y || has_name ys x)
    go true q k = k ∙ sym (ap (λ b. b || has_name ys x) (ap (bytes_eq x) (sym (name-eq n y q)) ∙ e))
    go false q k = ap (λ b. bytes_eq x y || b) k

apart-none : (n : List ℕ) (ys : List (List ℕ)) → has_name ys n ≡ false → apart_from n ys ≡ ys
apart-none n [] e = refl
apart-none n (y ∷ ys) e = grind (arith, apart-none n ys)

abbrev CountsOnce : List ℕ → List (List ℕ) → Type 0
CountsOnce n ys = length (different_names ys) ≡ 1 + length (different_names (apart_from n ys))

-- a name that is there counts once
one-less : (n : List ℕ) (ys : List (List ℕ)) → has_name ys n ≡ true → CountsOnce n ys
one-less n [] e = absurd (cc)
one-less n (y ∷ ys) e = grind (arith, name-eq, apart-none, still-has, name-swap, one-less n ys)

none-is : (xs : List (List ℕ)) (n : List ℕ) → has_name xs n ≡ false → AllByRecursion (λ x. bytes_eq x n ≡ false) xs
none-is [] n e = tt
none-is (x ∷ xs) n e = grind (arith, name-swap, none-is xs n)

-- names that are all in another list are not more
pub fewer-within : (xs ys : List (List ℕ)) → Within xs ys → length (different_names xs) ≤ length (different_names ys)
fewer-within [] ys h = omega arith
fewer-within (x ∷ xs) ys h = go (has_name xs x) refl (fewer-within xs ys h.1) (fewer-within xs (apart_from x ys))
  where
    go : (b : Bool) → has_name xs x ≡ b → length (different_names xs) ≤ length (different_names ys)
        → (Within xs (apart_from x ys) → length (different_names xs) ≤ length (different_names (apart_from x ys)))
        → length (cond b (different_names xs) (x ∷ different_names xs)) ≤ length (different_names ys)
    go true e here rest = here
    go false e here rest =
        let k = rest (each-both _ _ _ (λ z p q. still-has x z ys q ∙ p) xs h.1 (none-is xs x e)) in
        let once = one-less x ys h.0 in
        omega (arith, k, once)

-- one name more is at most one more
pub one-more : (xs : List (List ℕ)) (n : List ℕ) → length (different_names (n ∷ xs)) ≤ length (different_names xs) + 1
one-more xs n = grind arith

-- the order of names
pub lt-trans : (a b c : List ℕ) → name_lt a b ≡ true → name_lt b c ≡ true → name_lt a c ≡ true
lt-trans a b c h k = grind (arith, nat_list_cmp_total)

-- each name of a list stands behind another
abbrev pub Behind : List ℕ → List (List ℕ) → Type 0
Behind a ns = AllByRecursion (λ n. name_lt a n ≡ true) ns

pub names-tail : (a : List ℕ) (ns : List (List ℕ)) → names_rise (a ∷ ns) ≡ true → names_rise ns ≡ true
names-tail a x r = grind arith

pub names-behind : (a : List ℕ) (ns : List (List ℕ)) → names_rise (a ∷ ns) ≡ true → Behind a ns
names-behind a [] r = tt
names-behind a (b ∷ ns) r =
    let parts = and_parts (name_lt a b) (names_rise (b ∷ ns)) r in
    (parts.0, each-imp _ _ (λ n h. lt-trans a b n parts.0 h) ns (names-behind b ns parts.1))

pub names-onto : (a : List ℕ) (ns : List (List ℕ)) → Behind a ns → names_rise ns ≡ true → names_rise (a ∷ ns) ≡ true
names-onto a x h r = grind arith

-- names before one, that one, and names behind it
pub names-around : (xs : List (List ℕ)) (n : List ℕ) (ys : List (List ℕ)) → names_rise xs ≡ true
    → AllByRecursion (λ x. name_lt x n ≡ true) xs → names_rise (n ∷ ys) ≡ true → names_rise (xs ++ n ∷ ys) ≡ true
names-around [] n ys r h k = k
names-around (x ∷ xs) n ys r h k =
    grind (arith, each-append, each-imp, names-tail, names-around xs n ys (names-tail x xs r) h.1 k)

pub names-filter : {X : Type 0} (f : X → List ℕ) (p : X → Bool) (xs : List X) → names_rise (map f xs) ≡ true
    → names_rise (map f (filter p xs)) ≡ true
names-filter f p [] r = refl
names-filter {X} f p (x ∷ xs) r = go (p x) (names-filter f p xs (names-tail (f x) (map f xs) r))
  where
    go : (b : Bool) → names_rise (map f (filter p xs)) ≡ true
        → names_rise (map f (cond b (x ∷ filter p xs) (filter p xs))) ≡ true
    go true rest =
        names-onto (f x) (map f (filter p xs))
        (each-map _ f (filter p xs) (each-filter _ p xs (each-unmap _ f xs (names-behind (f x) (map f xs) r)))) rest
    go false rest = rest

-- Planned changes leave clusters in order of name, and bring no other names than their own.
abbrev pub names_of : List (Cluster Bytes) → List (List ℕ)
names_of cs = map (λ c. c.name) cs

abbrev pub changed_names : List (Change Bytes) → List (List ℕ)
changed_names changes = map (λ change. cluster_of change.part) changes

pub names-of-parts : (changes : List (Change Bytes))
    → map cluster_of (map (λ change. change.part) changes) ≡ changed_names changes
names-of-parts [] = refl
names-of-parts (c ∷ cs) = ap (λ ns. cluster_of c.part ∷ ns) (names-of-parts cs)

with-rise : (c : Cluster Bytes) (cs : List (Cluster Bytes)) → names_rise (names_of cs) ≡ true
    → names_rise (names_of (with_cluster c cs)) ≡ true
with-rise c cs r =
    let before = filter (λ (d : Cluster Bytes). name_lt d.name c.name) cs in
    let behind = filter (λ (d : Cluster Bytes). name_lt c.name d.name) cs in
    ap names_rise (map-append (λ (d : Cluster Bytes). d.name) before (c ∷ behind))
    ∙ names-around (names_of before) c.name (names_of behind) (names-filter _ _ cs r)
    (each-map _ _ before (each-passes _ cs))
    (names-onto c.name (names_of behind) (each-map _ _ behind (each-passes _ cs)) (names-filter _ _ cs r))

changed-rise : (part : Part Bytes) (cs : List (Cluster Bytes)) → names_rise (names_of cs) ≡ true
    → names_rise (names_of (changed_by part cs)) ≡ true
changed-rise part cs r = grind (arith, names-filter, with-rise)

pub planned-rise : (changes : List (Change Bytes)) (cs : List (Cluster Bytes)) → names_rise (names_of cs) ≡ true
    → names_rise (names_of (planned changes cs)) ≡ true
planned-rise [] cs r = r
planned-rise (change ∷ changes) cs r = planned-rise changes (changed_by change.part cs) (changed-rise change.part cs r)

filter-within : (p : Cluster Bytes → Bool) (cs : List (Cluster Bytes)) → Within (names_of (filter p cs)) (names_of cs)
filter-within p cs = each-map _ _ (filter p cs) (each-filter _ p cs (each-unmap _ _ cs (within-self (names_of cs))))

changed-within : (part : Part Bytes) (cs : List (Cluster Bytes))
    → Within (names_of (changed_by part cs)) (cluster_of part ∷ names_of cs)
changed-within part cs = go part.manifest.action
  where
    some : (p : Cluster Bytes → Bool) → Within (names_of (filter p cs)) (cluster_of part ∷ names_of cs)
    some p = within-more (names_of (filter p cs)) (names_of cs) (cluster_of part) (filter-within p cs)

    with : Within (names_of (with_cluster (brought part) cs)) (cluster_of part ∷ names_of cs)
    with =
        subst (λ ns. Within ns (cluster_of part ∷ names_of cs))
        (sym (map-append (λ (d : Cluster Bytes). d.name)
        (filter (λ (d : Cluster Bytes). name_lt d.name (cluster_of part)) cs) _))
        (each-append _ _ _ (some (λ d. name_lt d.name (cluster_of part)))
        (has-self (cluster_of part) (names_of cs), some (λ d. name_lt (cluster_of part) d.name)))

    go : (a : Action) → Within (names_of (changed_as a (brought part) cs)) (cluster_of part ∷ names_of cs)
    go Remove = some (λ d. not (bytes_eq d.name (cluster_of part)))
    go _ = with

pub planned-within : (changes : List (Change Bytes)) (cs : List (Cluster Bytes))
    → Within (names_of (planned changes cs)) (names_of cs ++ changed_names changes)
planned-within [] cs = within-left (names_of cs) (names_of cs) [] (within-self (names_of cs))
planned-within (change ∷ changes) cs =
    let name = cluster_of change.part in
    let rest = changed_names changes in
    let all = names_of cs ++ name ∷ rest in
    let own : Within (name ∷ rest) all = within-right (name ∷ rest) (names_of cs) (name ∷ rest)
    (within-self (name ∷ rest)) in
    let old : Within (names_of cs) all = within-left (names_of cs) (names_of cs) (name ∷ rest)
    (within-self (names_of cs)) in
    within-trans _ (names_of (changed_by change.part cs) ++ rest) all
    (planned-within changes (changed_by change.part cs))
    (each-append _ (names_of (changed_by change.part cs)) rest
    (within-trans _ (name ∷ names_of cs) all (changed-within change.part cs) (own.0, old)) own.1)

-- A package that isn't refused leaves the names of planned parts different, and not too many.
-- names differ over two lists where each does and none of the first is in the second
differ-append : (xs ys : List (List ℕ)) → all_differ xs ≡ true → all_differ ys ≡ true
    → AllByRecursion (λ x. has_name ys x ≡ false) xs → all_differ (xs ++ ys) ≡ true
differ-append [] ys h k m = k
differ-append (x ∷ xs) ys h k m =
    let parts = and_parts (not (has_name xs x)) (all_differ xs) h in
    both_true (rw (has-append xs ys x, m.0) (go (has_name xs x) parts.0)) (differ-append xs ys parts.1 k m.1)
  where
    go : (b : Bool) → not b ≡ true → not (b || false) ≡ true
    go false e = refl
    go true e = e

pub differ-first : (xs ys : List (List ℕ)) → all_differ (xs ++ ys) ≡ true → all_differ xs ≡ true
differ-first [] ys h = refl
differ-first (x ∷ xs) ys h =
    let parts = and_parts (not (has_name (xs ++ ys) x)) (all_differ (xs ++ ys)) h in
    both_true (go (has_name xs x) (ap not (sym (has-append xs ys x)) ∙ parts.0)) (differ-first xs ys parts.1)
  where
    go : (b : Bool) → not (b || has_name ys x) ≡ true → not b ≡ true
    go false e = refl
    go true e = e

-- what each part of a package that isn't refused shows, where some parts stand before it
abbrev Passes : List (Cluster Bytes) → List (Change Bytes) → List (Part Bytes) → Part Bytes → Type 0
Passes running changes before part =
    (list_any (λ (change : Change Bytes). bytes_eq (cluster_of change.part) (cluster_of part)) changes ≡ false)
    × (applies part running ≡ true)
    × ((is_install part.manifest.action && nat_le cluster_limit (length (names_among running changes before))) ≡ false)

passes : (running : List (Cluster Bytes)) (changes : List (Change Bytes)) (before : List (Part Bytes))
    (part : Part Bytes) → first_refusal (part_refusals running changes before part) ≡ None
    → Passes running changes before part
passes running changes before part e = grind arith

pub each-applies : (running : List (Cluster Bytes)) (changes : List (Change Bytes)) (before parts : List (Part Bytes))
    → parts_refusal running changes before parts ≡ None → AllByRecursion (λ part. applies part running ≡ true) parts
each-applies running changes before [] e = tt
each-applies running changes before (part ∷ parts) e =
    let both = both-none (first_refusal (part_refusals running changes before part))
    (parts_refusal running changes (before ++ part ∷ []) parts) e in
    ((passes running changes before part both.0).1, each-applies running changes (before ++ part ∷ []) parts both.1)

-- no planned change has the name of a part
clear : (running : List (Cluster Bytes)) (changes : List (Change Bytes)) (before parts : List (Part Bytes))
    → parts_refusal running changes before parts ≡ None
    → AllByRecursion
    (λ part. list_any (λ (change : Change Bytes). bytes_eq (cluster_of change.part) (cluster_of part)) changes ≡ false)
    parts
clear running changes before [] e = tt
clear running changes before (part ∷ parts) e =
    let both = both-none (first_refusal (part_refusals running changes before part))
    (parts_refusal running changes (before ++ part ∷ []) parts) e in
    ((passes running changes before part both.0).0, clear running changes (before ++ part ∷ []) parts both.1)

swap : (changes : List (Change Bytes)) (parts : List (Part Bytes))
    → AllByRecursion
    (λ part. list_any (λ (change : Change Bytes). bytes_eq (cluster_of change.part) (cluster_of part)) changes ≡ false)
    parts → AllByRecursion (λ name. has_name (map cluster_of parts) name ≡ false) (changed_names changes)
swap [] parts h = tt
swap (c ∷ cs) parts h = (head parts h, swap cs parts (tail parts h))
  where
    head : (ps : List (Part Bytes))
        → AllByRecursion
        (λ part. (bytes_eq (cluster_of c.part) (cluster_of part) || list_any
        (λ (change : Change Bytes). bytes_eq (cluster_of change.part) (cluster_of part)) cs) ≡ false) ps
        → has_name (map cluster_of ps) (cluster_of c.part) ≡ false
    head [] k = refl
    head (p ∷ ps) k =
        ap (λ b. b || has_name (map cluster_of ps) (cluster_of c.part))
        (neither (bytes_eq (cluster_of c.part) (cluster_of p)) _ k.0).0 ∙ head ps k.1

    tail : (ps : List (Part Bytes))
        → AllByRecursion
        (λ part. (bytes_eq (cluster_of c.part) (cluster_of part) || list_any
        (λ (change : Change Bytes). bytes_eq (cluster_of change.part) (cluster_of part)) cs) ≡ false) ps
        → AllByRecursion
        (λ part. list_any (λ (change : Change Bytes). bytes_eq (cluster_of change.part) (cluster_of part)) cs ≡ false)
        ps
    tail [] k = tt
    tail (p ∷ ps) k = ((neither _ _ k.0).1, tail ps k.1)

-- the names still differ after an accepted package
pub differ-kept : (running : List (Cluster Bytes)) (changes : List (Change Bytes)) (parts : List (Part Bytes))
    → parts_refusal running changes [] parts ≡ None → all_differ (changed_names changes) ≡ true
    → all_differ (map cluster_of parts) ≡ true → all_differ (changed_names changes ++ map cluster_of parts) ≡ true
differ-kept running changes parts e h k = differ-append _ _ h k (swap changes parts (clear running changes [] parts e))

-- a running cluster's name
running-name : (clusters : List (Cluster Bytes)) (name : List ℕ) → has_cluster clusters name ≡ true
    → has_name (names_of clusters) name ≡ true
running-name [] name h = absurd (cc)
running-name (c ∷ cs) name h = grind (arith, name-swap, running-name cs name)

-- with a part more the names are those before and the part's
with-part : (running : List (Cluster Bytes)) (changes : List (Change Bytes)) (before : List (Part Bytes))
    (part : Part Bytes)
    → Within (names_of running ++ changed_names changes ++ map cluster_of (before ++ part ∷ []))
    (cluster_of part ∷ (names_of running ++ changed_names changes ++ map cluster_of before))
with-part running changes before part =
    let front = names_of running ++ changed_names changes in
    let old = front ++ map cluster_of before in
    each-append _ front _
    (within-more front old (cluster_of part) (within-left front front (map cluster_of before) (within-self front)))
    (subst (λ ns. Within ns (cluster_of part ∷ old)) (sym (map-append cluster_of before (part ∷ [])))
    (each-append _ (map cluster_of before) _
    (within-more (map cluster_of before) old (cluster_of part)
    (within-right (map cluster_of before) front (map cluster_of before) (within-self (map cluster_of before))))
    (has-self (cluster_of part) old, tt)))

few-with : (running : List (Cluster Bytes)) (changes : List (Change Bytes)) (before : List (Part Bytes))
    (part : Part Bytes) → Passes running changes before part
    → length (names_among running changes before) ≤ cluster_limit
    → length (names_among running changes (before ++ part ∷ [])) ≤ cluster_limit
few-with running changes before part p few = go part.manifest.action p.1 p.2
  where
    front : List (List ℕ)
    front = names_of running ++ changed_names changes

    old : List (List ℕ)
    old = names_of running ++ changed_names changes ++ map cluster_of before

    more : List (List ℕ)
    more = names_of running ++ changed_names changes ++ map cluster_of (before ++ part ∷ [])

    there : has_cluster running (cluster_of part) ≡ true → length (different_names more) ≤ cluster_limit
    there h =
        let running-in : Within (names_of running) old = within-left (names_of running) front (map cluster_of before)
        (within-left (names_of running) (names_of running) (changed_names changes) (within-self (names_of running)))
        in
        let name = has-within (names_of running) old (cluster_of part) running-in
        (running-name running (cluster_of part) h) in
        let same = fewer-within more old
        (within-trans more (cluster_of part ∷ old) old (with-part running changes before part)
        (name, within-self old)) in
        omega (arith, same, few)

    go : (a : Action) → suits a (has_cluster running (cluster_of part)) ≡ true
        → (is_install a && nat_le cluster_limit (length (names_among running changes before))) ≡ false
        → length (different_names more) ≤ cluster_limit
    go Install h k = grind (arith, leb-false, fewer-within, cluster_of, with-part)
    go _ h k = there h

-- the names stay few after an accepted package
pub few-kept : (running : List (Cluster Bytes)) (changes : List (Change Bytes)) (before parts : List (Part Bytes))
    → parts_refusal running changes before parts ≡ None → length (names_among running changes before) ≤ cluster_limit
    → length (names_among running changes (before ++ parts)) ≤ cluster_limit
few-kept running changes before [] e few =
    subst (λ ps. length (names_among running changes ps) ≤ cluster_limit) (sym (append-nil before)) few
few-kept running changes before (part ∷ parts) e few =
    let both = both-none (first_refusal (part_refusals running changes before part))
    (parts_refusal running changes (before ++ part ∷ []) parts) e in
    subst (λ ps. length (names_among running changes ps) ≤ cluster_limit) (append_assoc before (part ∷ []) parts)
    (few-kept running changes (before ++ part ∷ []) parts both.1
    (few-with running changes before part (passes running changes before part both.0) few))
