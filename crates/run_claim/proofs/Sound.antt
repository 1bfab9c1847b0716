-- A script in form asks for what the laws ask of scripts.
use Rattle.std.proofs.Common.{◌≡◌, ◌∙◌, ◌≤◌, ◌<◌, ◌+◌, ◌++◌, ℕ, zero, suc, Bool, true, false, cond, List, [], ◌∷◌, Option, Some, None, Ok, length, map, refl, sym, ap, subst, append_assoc, arith}
use Rattle.std.specs.Prelude.{◌&&◌, ◌||◌, ◌==◌, not, filter, find, slice_get, take}
use Rattle.std.specs.List.{AllByRecursion, flat_map}
use Rattle.std.specs.Str.{bytes_eq}
use Rattle.std.proofs.lemmas.Bool.{and_parts}
use Rattle.std.proofs.lemmas.Bool.Decides.{nat_tests}
use Rattle.std.proofs.lemmas.List.{append-nil, length-append, length-map, map-append}
use Rattle.std.proofs.lemmas.List.Concat.{flat_map-cons}
use Rattle.std.proofs.lemmas.List.Folds.{list_any-append}
use Rattle.sha2.specs.Sha256.{sha256}
use Rattle.sha2.proofs.Facts256.{length-sha256}
use Rattle.ucm_base.specs.Limits.{cluster_limit}
use Rattle.ucm_base.specs.Names.{all_differ, different_names, has_name, names_rise}
use Rattle.ucm_base.specs.Parts.{Bytes, cluster_of}
use Rattle.ucm_base.specs.declared.parts.Action.TheVariants.{Install}
use Rattle.ucm_base.specs.declared.parts.Part.{Part}
use Rattle.package_reader.specs.Packed.{PackedOf}
use Rattle.package_reader.specs.Spelling.{sealed}
use Rattle.pm_types.specs.declared.clusters.Change.{Change}
use Rattle.pm_types.specs.declared.clusters.Cluster.{Cluster}
use Rattle.pm_types.specs.Histories.{Reading}
use Rattle.pm_types.specs.Transfers.{parts_read}
use Rattle.node_laws.specs.Fit.{IsInstalled}
use Rattle.node_laws.proofs.Lists.{each-append, each-imp, each-map, each-unmap, neither}
use Rattle.node_laws.proofs.NameLists.{Within, fewer-within, has-append, has-self, name-swap, names_of, planned-rise, planned-within, within-more, within-trans}
use Rattle.vehicle_package.specs.declared.vehicle.Step.{Step}
use Rattle.vehicle_package.specs.declared.vehicle.Vehicle.{Vehicle}
use Rattle.vehicle_package.specs.Changes.{again_in, change_on, changes_of, first_at, has_change, or_else_below, parts_of, twice_at}
use Rattle.vehicle_package.specs.Plan.{IsStep}
use Rattle.vehicle_package.specs.Spelling.{IsCarried}
use Rattle.run_script.specs.declared.lines.InstalledLine.{InstalledLine}
use Rattle.run_script.specs.declared.script.Script.{Script}
use Rattle.run_script.specs.Above.{on_node}
use Rattle.run_script.specs.InForm.{IsInForm, IsLoaded}
use Rattle.run_script.specs.Scripts.{said}
use Rattle.world.specs.Law.{parts_in}
use Rattle.run_claim.specs.Asked.{IsSound, ReadsPackages, asked, installed_meant, step_meant}
use Rattle.run_claim.specs.Calm.{AreWhole, IsWhole}
use Rattle.run_claim.specs.Script.{Installed, in_order}

-- ---- clusters

-- the change that brings a cluster
abbrev as_change : Cluster Bytes → Change Bytes
as_change c =
    record {
      transfer = 0;
      part =
          record {
            manifest =
                record { action = Install; name = c.name; version = c.version; needs = c.needs; sha256 = [] };
            payload = c.content;
          };
    }

ordered : (cs : List (Cluster Bytes)) → names_rise (names_of (in_order cs)) ≡ true
ordered [] = refl
ordered (c ∷ cs) = planned-rise (as_change c ∷ []) (in_order cs) (ordered cs)

not-more : (ns : List (List ℕ)) → length (different_names ns) ≤ length ns
not-more [] = omega arith
not-more (n ∷ ns) = go (has_name ns n) (not-more ns)
  where
    go : (b : Bool) → length (different_names ns) ≤ length ns
        → length (cond b (different_names ns) (n ∷ different_names ns)) ≤ suc (length ns)
    go true h = omega (arith, h)
    go false h = omega (arith, h)

-- an ordered list has no other names
within-ordered : (cs : List (Cluster Bytes)) → Within (names_of (in_order cs)) (names_of cs)
within-ordered [] = tt
within-ordered (c ∷ cs) =
    within-trans (names_of (in_order (c ∷ cs))) (names_of (in_order cs) ++ c.name ∷ []) (c.name ∷ names_of cs)
    (planned-within (as_change c ∷ []) (in_order cs))
    (each-append (λ x. has_name (c.name ∷ names_of cs) x ≡ true) (names_of (in_order cs)) (c.name ∷ [])
    (within-more (names_of (in_order cs)) (names_of cs) c.name (within-ordered cs)) (has-self c.name (names_of cs), tt))

few-names : (cs : List (Cluster Bytes)) → length (different_names (names_of (in_order cs))) ≤ length cs
few-names cs =
    omega (
      arith,
      fewer-within (names_of (in_order cs)) (names_of cs) (within-ordered cs),
      not-more (names_of cs),
      length-map cs (λ (c : Cluster Bytes). c.name),
    )

on-node : (attached : Bytes) (n : ℕ) (ls : List InstalledLine)
    → length (filter (λ x. x.node == n) (map (installed_meant attached) ls)) ≡ on_node ls n
on-node attached n [] = refl
on-node attached n (l ∷ ls) = go (l.node == n) (on-node attached n ls)
  where
    xs : ℕ
    xs = length (filter (λ x. x.node == n) (map (installed_meant attached) ls))

    go : (b : Bool) → xs ≡ on_node ls n
        → length (cond b (installed_meant attached l ∷ filter (λ x. x.node == n) (map (installed_meant attached) ls))
        (filter (λ x. x.node == n) (map (installed_meant attached) ls)))
        ≡ length (cond b (l ∷ filter (λ k. k.node == n) ls) (filter (λ k. k.node == n) ls))
    go true h = ap suc h
    go false h = h

-- so a node can be formatted with the clusters of its lines
fits : (attached : Bytes) (n : ℕ) (ls : List InstalledLine) → on_node ls n ≤ cluster_limit
    → IsInstalled (in_order (map (λ x. x.cluster) (filter (λ x. x.node == n) (map (installed_meant attached) ls))))
fits attached n ls room =
    let here : List Installed = filter (λ x. x.node == n) (map (installed_meant attached) ls) in
    let cs : List (Cluster Bytes) = map (λ x. x.cluster) here in
    let few : length (different_names (names_of (in_order cs))) ≤ cluster_limit =
    omega (
      arith,
      few-names cs,
      length-map here (λ (x : Installed). x.cluster),
      on-node attached n ls,
      room,
    ) in
    record {
      rise = ordered cs;
      few =
          subst (λ (ns : List (List ℕ)). length (different_names ns) ≤ cluster_limit)
          (sym (append-nil (names_of (in_order cs) ++ []) ∙ append-nil (names_of (in_order cs)))) few;
    }

-- ---- packages

carried-at : (ps : List PackedOf) (i : ℕ) → AllByRecursion IsCarried ps → i < length ps
    → (p : PackedOf) × (slice_get ps i ≡ Some p) × IsCarried p
carried-at [] i h lt = absurd (omega (arith, lt))
carried-at (p ∷ ps) zero h lt = (p, refl, h.0)
carried-at (p ∷ ps) (suc i) h lt = carried-at ps i h.1 (omega (arith, lt))

-- a package has its digest at least
some-bytes : (front bytes : Bytes) → bytes ≡ sealed front → 1 ≤ length bytes
some-bytes front bytes e =
    omega (arith, ap length e, length-append front (sha256 front), length-sha256 front)

none-found : {A : Type 0} (p : A → Bool) (xs : List A) → find p xs ≡ None → AllByRecursion (λ x. p x ≡ false) xs
none-found p [] e = tt
none-found {A} p (x ∷ xs) e = go (p x) refl e (none-found p xs)
  where
    go : (b : Bool) → p x ≡ b → cond b (Some x) (find p xs) ≡ None
        → (find p xs ≡ None → AllByRecursion (λ y. p y ≡ false) xs) → AllByRecursion (λ y. p y ≡ false) (x ∷ xs)
    go true is h more = absurd (cc)
    go false is h more = (is, more h)

-- a name that none of some names is
not-in : (x : List ℕ) (ys : List (List ℕ)) → AllByRecursion (λ y. bytes_eq y x ≡ false) ys → has_name ys x ≡ false
not-in x [] h = refl
not-in x (y ∷ ys) h = rw (name-swap x y, h.0) (not-in x ys h.1)

unless : (b : Bool) → not b ≡ true → b ≡ false
unless true h = absurd (cc)
unless false h = refl

-- names differ over two lists where each does and none of the second is in the first
differ-both : (xs ys : List (List ℕ)) → all_differ xs ≡ true → all_differ ys ≡ true
    → AllByRecursion (λ y. has_name xs y ≡ false) ys → all_differ (xs ++ ys) ≡ true
differ-both [] ys d e m = e
differ-both (x ∷ xs) ys d e m =
    let parts = and_parts (not (has_name xs x)) (all_differ xs) d in
    let first : has_name ys x ≡ false =
    not-in x ys (each-imp (λ y. has_name (x ∷ xs) y ≡ false) (λ y. bytes_eq y x ≡ false)
    (λ y h. (neither (bytes_eq y x) (has_name xs y) h).0) ys m) in
    let rest : all_differ (xs ++ ys) ≡ true =
    differ-both xs ys parts.1 e (each-imp (λ y. has_name (x ∷ xs) y ≡ false) (λ y. has_name xs y ≡ false)
    (λ y h. (neither (bytes_eq y x) (has_name xs y) h).1) ys m) in
    rw (has-append xs ys x, unless (has_name xs x) parts.0, first, rest) refl

or-none : (ps : List PackedOf) (steps : List Step) (place n : ℕ) → first_at (twice_at ps steps) place (suc n) ≡ None
    → (twice_at ps steps place ≡ None) × (first_at (twice_at ps steps) (place + 1) n ≡ None)
or-none ps steps place n e = go (twice_at ps steps place) refl e
  where
    go : (o : Option _) → twice_at ps steps place ≡ o
        → or_else_below o (first_at (twice_at ps steps) (place + 1) n) ≡ None
        → (twice_at ps steps place ≡ None) × (first_at (twice_at ps steps) (place + 1) n ≡ None)
    go (Some c) is h = absurd (cc)
    go None is h = (is, h)

none-at : (ps : List PackedOf) (steps : List Step) (place n k : ℕ) → first_at (twice_at ps steps) place n ≡ None
    → k < n → twice_at ps steps (place + k) ≡ None
none-at ps steps place zero k e lt = absurd (omega (arith, lt))
none-at ps steps place (suc n) zero e lt =
    let same : place ≡ place + 0 = omega arith in
    subst (λ m. twice_at ps steps m ≡ None) same (or-none ps steps place n e).0
none-at ps steps place (suc n) (suc k) e lt =
    let same : place + 1 + k ≡ place + suc k = omega arith in
    subst (λ m. twice_at ps steps m ≡ None) same
    (none-at ps steps (place + 1) n k (or-none ps steps place n e).1 (omega (arith, lt)))

from-none : (k : ℕ) → 0 + k ≡ k
from-none k = omega arith

taken : (before after : List Step) → take (length before) (before ++ after) ≡ before
taken [] after = refl
taken (s ∷ ss) after = ap (λ xs. s ∷ xs) (taken ss after)

met : (before : List Step) (s : Step) (after : List Step) → slice_get (before ++ s ∷ after) (length before) ≡ Some s
met [] s after = refl
met (x ∷ xs) s after = met xs s after

-- no part of a step is of a part's cluster, where none changes it on its node
parts-apart : (node n : ℕ) (parts : List (Part Bytes)) (q : Part Bytes) → (node == n) ≡ true
    → has_change (map (change_on node) parts) (change_on n q) ≡ false
    → has_name (map cluster_of parts) (cluster_of q) ≡ false
parts-apart node n [] q here h = refl
parts-apart node n (p ∷ ps) q here h =
    let both = neither ((node == n) && bytes_eq (cluster_of p) (cluster_of q))
    (has_change (map (change_on node) ps) (change_on n q)) h in
    let other : bytes_eq (cluster_of p) (cluster_of q) ≡ false =
    subst (λ b. (b && bytes_eq (cluster_of p) (cluster_of q)) ≡ false) here both.0 in
    rw (name-swap (cluster_of q) (cluster_of p), other) (parts-apart node n ps q here both.1)

module _ (ps : List PackedOf) where
  -- the parts that a step brings to a node
  abbrev on : ℕ → Step → List (Part Bytes)
  on n s = cond (s.node == n) (parts_of ps s) []

  abbrev names : ℕ → List Step → List (List ℕ)
  names n steps = map cluster_of (flat_map (on n) steps)

  names-cons : (n : ℕ) (s : Step) (ss : List Step) → names n (s ∷ ss) ≡ map cluster_of (on n s) ++ names n ss
  names-cons n s ss =
      ap (map cluster_of) (flat_map-cons (on n) s ss) ∙ map-append cluster_of (on n s) (flat_map (on n) ss)

  names-last : (n : ℕ) (before : List Step) (s : Step)
      → names n (before ++ s ∷ []) ≡ names n before ++ map cluster_of (on n s)
  names-last n [] s = names-cons n s [] ∙ append-nil (map cluster_of (on n s))
  names-last n (x ∷ xs) s =
      names-cons n x (xs ++ s ∷ [])
      ∙ ap (λ ns. map cluster_of (on n x) ++ ns) (names-last n xs s)
      ∙ sym (append_assoc (map cluster_of (on n x)) (names n xs) (map cluster_of (on n s)))
      ∙ ap (λ ns. ns ++ map cluster_of (on n s)) (sym (names-cons n x xs))

  apart : (n : ℕ) (before : List Step) (q : Part Bytes)
      → has_change (flat_map (changes_of ps) before) (change_on n q) ≡ false
      → has_name (names n before) (cluster_of q) ≡ false
  apart n [] q h = refl
  apart n (s ∷ ss) q h =
      let own = has_change (changes_of ps s) (change_on n q) in
      let rest = has_change (flat_map (changes_of ps) ss) (change_on n q) in
      let split : (own || rest) ≡ false =
      sym (list_any-append _ (changes_of ps s) (flat_map (changes_of ps) ss))
      ∙ (ap (λ xs. has_change xs (change_on n q)) (sym (flat_map-cons (changes_of ps) s ss)) ∙ h) in
      let both = neither own rest split in
      ap (λ ns. has_name ns (cluster_of q)) (names-cons n s ss)
      ∙ (has-append (map cluster_of (on n s)) (names n ss) (cluster_of q)
      ∙ rw (at (s.node == n) refl both.0) (apart n ss q both.1))
    where
      at : (here : Bool) → (s.node == n) ≡ here → has_change (changes_of ps s) (change_on n q) ≡ false
          → has_name (map cluster_of (on n s)) (cluster_of q) ≡ false
      at true e k = rw e (parts-apart s.node n (parts_of ps s) q e k)
      at false e k = rw e refl

  one-more : (n : ℕ) (before : List Step) (s : Step) → all_differ (names n before) ≡ true
      → all_differ (map cluster_of (parts_of ps s)) ≡ true
      → again_in (flat_map (changes_of ps) before) (changes_of ps s) ≡ None
      → all_differ (names n (before ++ s ∷ [])) ≡ true
  one-more n before s d own none =
      ap all_differ (names-last n before s) ∙ at (s.node == n) refl
    where
      free : AllByRecursion (λ p. has_change (flat_map (changes_of ps) before) (change_on s.node p) ≡ false)
          (parts_of ps s)
      free =
          each-unmap (λ c. has_change (flat_map (changes_of ps) before) c ≡ false) (change_on s.node) (parts_of ps s)
          (none-found (has_change (flat_map (changes_of ps) before)) (changes_of ps s) none)

      at : (here : Bool) → (s.node == n) ≡ here → all_differ (names n before ++ map cluster_of (on n s)) ≡ true
      at false e = rw (e, append-nil (names n before)) d
      at true e =
          let same : s.node ≡ n = grind (arith, nat_tests) in
          rw e (differ-both (names n before) (map cluster_of (parts_of ps s)) d own
          (each-map (λ y. has_name (names n before) y ≡ false) cluster_of (parts_of ps s)
          (each-imp (λ p. has_change (flat_map (changes_of ps) before) (change_on s.node p) ≡ false)
          (λ p. has_name (names n before) (cluster_of p) ≡ false)
          (λ p h. apart n before p
          (subst (λ m. has_change (flat_map (changes_of ps) before) (change_on m p) ≡ false) same h))
          (parts_of ps s) free)))

  walk : (n : ℕ) (before after : List Step) → all_differ (names n before) ≡ true
      → AllByRecursion (λ s. all_differ (map cluster_of (parts_of ps s)) ≡ true) after
      → ((k : ℕ) → k < length (before ++ after) → twice_at ps (before ++ after) k ≡ None)
      → all_differ (names n (before ++ after)) ≡ true
  walk n before [] d own none = subst (λ ss. all_differ (names n ss) ≡ true) (sym (append-nil before)) d
  walk n before (s ∷ ss) d own none =
      let same : (before ++ s ∷ []) ++ ss ≡ before ++ s ∷ ss = append_assoc before (s ∷ []) ss in
      let place : length before < length (before ++ s ∷ ss) = omega (arith, length-append before (s ∷ ss)) in
      let here : again_in (flat_map (changes_of ps) before) (changes_of ps s) ≡ None =
      sym (rw (met before s ss, taken before (s ∷ ss)) refl) ∙ none (length before) place in
      subst (λ xs. all_differ (names n xs) ≡ true) same
      (walk n (before ++ s ∷ []) ss (one-more n before s d own.0 here) own.1
      (subst (λ xs. (k : ℕ) → k < length xs → twice_at ps xs k ≡ None) (sym same) none))

module _ (read : Reading) (reads : ReadsPackages read) (v : Vehicle) (loaded : IsLoaded v) where
  -- what a step brings
  pub record IsBrought (s : Step) : Type 0 where
    pub whole : IsWhole read (step_meant v s).bytes
    pub parts : parts_read (read (step_meant v s).bytes) ≡ parts_of v.packages s
    pub differ : all_differ (map cluster_of (parts_of v.packages s)) ≡ true

  brought : (s : Step) → IsStep (length v.packages) s → IsBrought s
  brought s is =
      let c = carried-at v.packages s.«package» loaded.packages is.below in
      let bytes : (step_meant v s).bytes ≡ c.0.bytes = rw c.1 refl in
      let parts : parts_of v.packages s ≡ c.0.parts = rw c.1 refl in
      let e : read c.0.bytes ≡ Ok c.0.parts = reads c.0.bytes c.0.parts c.2.is in
      let whole : IsWhole read c.0.bytes =
      (some-bytes _ c.0.bytes c.2.is.spelled, c.2.small, e ∙ ap (λ ps. Ok ps) (sym (ap parts_read e))) in
      record {
        whole = subst (IsWhole read) (sym bytes) whole;
        parts = ap (λ b. parts_read (read b)) bytes ∙ (ap parts_read e ∙ sym parts);
        differ = subst (λ ps. all_differ (map cluster_of ps) ≡ true) (sym parts) c.2.is.differ;
      }

  abbrev bring : ℕ → List Step → List Bytes
  bring n steps = map (λ x. x.bytes) (filter (λ x. x.node == n) (map (step_meant v) steps))

  each-whole : (n : ℕ) (steps : List Step) → AllByRecursion IsBrought steps
      → AllByRecursion (IsWhole read) (bring n steps)
  each-whole n [] h = tt
  each-whole n (s ∷ ss) h = go (s.node == n) (each-whole n ss h.1)
    where
      go : (b : Bool) → AllByRecursion (IsWhole read) (bring n ss)
          → AllByRecursion (IsWhole read) (map (λ x. x.bytes) (cond b
          (step_meant v s ∷ filter (λ x. x.node == n) (map (step_meant v) ss))
          (filter (λ x. x.node == n) (map (step_meant v) ss))))
      go true k = (h.0.whole, k)
      go false k = k

  same-parts : (n : ℕ) (steps : List Step) → AllByRecursion IsBrought steps
      → parts_in read (bring n steps) ≡ flat_map (on v.packages n) steps
  same-parts n [] h = refl
  same-parts n (s ∷ ss) h =
      go (s.node == n) refl (same-parts n ss h.1) ∙ sym (flat_map-cons (on v.packages n) s ss)
    where
      go : (b : Bool) → (s.node == n) ≡ b → parts_in read (bring n ss) ≡ flat_map (on v.packages n) ss
          → parts_in read (bring n (s ∷ ss)) ≡ on v.packages n s ++ flat_map (on v.packages n) ss
      go true e k =
          rw e (flat_map-cons (λ b. parts_read (read b)) (step_meant v s).bytes (bring n ss)
          ∙ ap (λ ps. ps ++ parts_in read (bring n ss)) h.0.parts
          ∙ ap (λ qs. parts_of v.packages s ++ qs) k)
      go false e k = rw e k

  pub are-whole : (n : ℕ) → AreWhole read (bring n v.steps)
  are-whole n =
      let each : AllByRecursion IsBrought v.steps =
      each-imp (IsStep (length v.packages)) IsBrought brought v.steps loaded.steps in
      let own : AllByRecursion (λ s. all_differ (map cluster_of (parts_of v.packages s)) ≡ true) v.steps =
      each-imp IsBrought (λ s. all_differ (map cluster_of (parts_of v.packages s)) ≡ true) (λ s b. b.differ) v.steps each
      in
      record {
        each = each-whole n v.steps each;
        differ =
            ap (λ ps. all_differ (map cluster_of ps)) (same-parts n v.steps each)
            ∙ walk v.packages n [] v.steps refl own
            (λ k lt. subst (λ m. twice_at v.packages v.steps m ≡ None) (from-none k)
            (none-at v.packages v.steps 0 (length v.steps) k loaded.once lt));
      }

pub sound : (read : Reading) → ReadsPackages read → (s : Script) → IsInForm s → IsSound read (asked (said s))
sound read reads s form =
    record {
      campaign = form.campaign;
      installed = λ n. fits s.attached.now n s.lines.installed (form.lines.installed.room n);
      packages = λ n. are-whole read reads s.vehicle form.vehicle n;
    }
