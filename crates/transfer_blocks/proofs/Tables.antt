-- The transfers stay a table: their ids and their slots differ, their counts lie in their bounds.
use Rattle.std.proofs.Common.{◌≡◌, refl, sym, ap, subst, ◌∙◌, ℕ, zero, suc, ◌+◌, ◌<◌, ◌≤◌, ◌==◌, Bool, true, false, not, cond, List, [], ◌∷◌, ◌++◌, length, get_or, set, map, filter, Option, Some, None, arith, length-append}
use Rattle.std.specs.Prelude.{find, if◌then◌else◌}
use Rattle.std.specs.List.{list_all, position, AllByRecursion}
use Rattle.std.specs.Cmp.Derive.{both_true}
use Rattle.std.proofs.Math.Seq.{map-set_same}
use Rattle.std.proofs.lemmas.Bool.{and_parts, not-true, eqb-false, eq-eqb, ne_eqb}
use Rattle.std.proofs.lemmas.List.Quantifiers.{position-Some}
use Rattle.std.proofs.lemmas.List.{length-map, length-set, map-append}
use Rattle.ucm_base.specs.Limits.{transfer_limit, package_limit}
use Rattle.pm_types.specs.declared.state.StoredTransfer.{StoredTransfer}
use Rattle.pm_types.specs.declared.state.Transfers.{Transfers as Table}
use Rattle.pm_types.specs.declared.transfers.Header.{Header}
use Rattle.pm_types.specs.Stored.{slots_differ}
use Rattle.pm_types.specs.Transfers.{fresh}
use Rattle.transfer_blocks.specs.declared.lookup.Placed.{Placed}
use Rattle.transfer_blocks.specs.Table.{IsAt, IsBounded, IsTable, is_free, lowest_free, slots_of, with_fresh, with_stored}
use Rattle.transfer_blocks.proofs.Lists.{each-at, each-push, each-set, each-filter, each-imp, fewer-filter, none-passes, position-find, position-none}
use Rattle.transfer_blocks.proofs.Slots.{lowest-is_free}

abbrev id_of : StoredTransfer → ℕ
id_of t = t.header.id

-- a number that isn't among different ones, behind them
differ-push : (xs : List ℕ) (x : ℕ) → slots_differ xs ≡ true → is_free xs x ≡ true → slots_differ (xs ++ x ∷ []) ≡ true
differ-push [] x differ free = refl
differ-push (y ∷ ys) x differ free =
    let parts = and_parts (list_all (λ other. not (other == y)) ys) (slots_differ ys) differ in
    let frees = and_parts (not (y == x)) (is_free ys x) free in
    both_true (push ys parts.0 frees.0) (differ-push ys x parts.1 frees.1)
  where
    push : (zs : List ℕ) → is_free zs y ≡ true → not (y == x) ≡ true → is_free (zs ++ x ∷ []) y ≡ true
    push [] free apart = both_true (ap not (ne_eqb x y (λ e. eqb-false y x (not-true _ apart) (sym e)))) refl
    push (z ∷ zs) free apart = let parts = and_parts (not (z == y)) (is_free zs y) free in
        both_true parts.0 (push zs parts.1 apart)

-- some of different ones
differ-filter : (f : StoredTransfer → ℕ) (p : StoredTransfer → Bool) (ts : List StoredTransfer)
    → slots_differ (map f ts) ≡ true → slots_differ (map f (filter p ts)) ≡ true
differ-filter f p [] differ = refl
differ-filter f p (t ∷ ts) differ =
    let parts = and_parts (is_free (map f ts) (f t)) (slots_differ (map f ts)) differ in
    by-test (p t) (fewer ts parts.0) (differ-filter f p ts parts.1)
  where
    fewer : (us : List StoredTransfer) → is_free (map f us) (f t) ≡ true → is_free (map f (filter p us)) (f t) ≡ true
    fewer [] free = refl
    fewer (u ∷ us) free = let parts = and_parts (not (f u == f t)) (is_free (map f us) (f t)) free in
        by-other (p u) parts.0 (fewer us parts.1)
      where
        by-other : (b : Bool) → not (f u == f t) ≡ true → is_free (map f (filter p us)) (f t) ≡ true
            → is_free (map f (cond b (u ∷ filter p us) (filter p us))) (f t) ≡ true
        by-other true here rest = both_true here rest
        by-other false here rest = rest

    by-test : (b : Bool) → is_free (map f (filter p ts)) (f t) ≡ true → slots_differ (map f (filter p ts)) ≡ true
        → slots_differ (map f (cond b (t ∷ filter p ts) (filter p ts))) ≡ true
    by-test true free rest = both_true free rest
    by-test false free rest = rest

-- the next id is none of those before
next-is_free : (next : ℕ) (ts : List StoredTransfer) → AllByRecursion (IsBounded next) ts
    → is_free (map id_of ts) next ≡ true
next-is_free next [] each = refl
next-is_free next (t ∷ ts) each =
    both_true (ap not (ne_eqb t.header.id next (λ e. absurd (omega (arith, e, each.0.id)))))
    (next-is_free next ts each.1)

raised : (next : ℕ) (t : StoredTransfer) → IsBounded next t → IsBounded (next + 1) t
raised next t is = record {
  id = omega (arith, is.id);
  received = is.received;
  size = is.size;
  counter = is.counter;
  slot = is.slot;
}

-- a transfer more
pub table-fresh : (client size : ℕ) (s : Table) → IsTable s → length s.list < transfer_limit
    → size ≤ package_limit → IsTable (with_fresh client size s)
table-fresh client size s is few small =
    let free = lowest-is_free transfer_limit (slots_of s.list)
    (omega (arith, few, length-map s.list (λ t. t.slot))) in
    record {
      few = omega (
        arith,
        few,
        length-append s.list (record {
          header = fresh s.next_id client size;
          slot = lowest_free transfer_limit (slots_of s.list);
          contents = [];
        } ∷ []),
      );
      each = each-push (IsBounded (s.next_id + 1)) s.list _
          (each-imp (IsBounded s.next_id) (IsBounded (s.next_id + 1)) (raised s.next_id) s.list is.each)
          (record { id = omega arith; received = omega arith; size = small; counter = omega arith; slot = free.1 });
      ids = ap slots_differ (map-append id_of s.list _)
          ∙ differ-push (map id_of s.list) s.next_id is.ids (next-is_free s.next_id s.list is.each);
      slots = ap slots_differ (map-append (λ (t : StoredTransfer). t.slot) s.list _)
          ∙ differ-push (slots_of s.list) _ is.slots free.0;
    }

-- a transfer changed at its place, which keeps its id and its slot
pub table-set : (s : Table) (i : ℕ) (y d : StoredTransfer) → IsTable s → IsBounded s.next_id y
    → y.header.id ≡ (get_or s.list i d).header.id → y.slot ≡ (get_or s.list i d).slot
    → IsTable (record s { list = set s.list i y })
table-set s i y d is here id slot = record {
  few = omega (arith, is.few, length-set s.list i y);
  each = each-set (IsBounded s.next_id) s.list i y is.each here;
  ids = ap slots_differ (map-set_same id_of s.list i y d id) ∙ is.ids;
  slots = ap slots_differ (map-set_same (λ (t : StoredTransfer). t.slot) s.list i y d slot) ∙ is.slots;
}

-- some of the transfers
pub table-filter : (p : StoredTransfer → Bool) (s : Table) → IsTable s
    → IsTable (record s { list = filter p s.list })
table-filter p s is = record {
  few = omega (arith, is.few, fewer-filter p s.list);
  each = each-filter (IsBounded s.next_id) p s.list is.each;
  ids = differ-filter id_of p s.list is.ids;
  slots = differ-filter (λ t. t.slot) p s.list is.slots;
}

-- a change of the transfer of an id is a change at its place
module _ (id : ℕ) (change : StoredTransfer → StoredTransfer) where
  changed : StoredTransfer → StoredTransfer
  changed t = if t.header.id == id then change t else t

  pub others-stand : (ts : List StoredTransfer) → is_free (map id_of ts) id ≡ true
      → map (λ t. if t.header.id == id then change t else t) ts ≡ ts
  others-stand [] free = refl
  others-stand (t ∷ ts) free =
      let parts = and_parts (not (t.header.id == id)) (is_free (map id_of ts) id) free in
      λ i. cond (not-true _ parts.0 i) (change t) t ∷ others-stand ts parts.1 i

  pub set-at : (ts : List StoredTransfer) (i : ℕ) (d : StoredTransfer) → i < length ts → (get_or ts i d).header.id ≡ id
      → slots_differ (map id_of ts) ≡ true
      → set ts i (change (get_or ts i d)) ≡ map (λ t. if t.header.id == id then change t else t) ts
  set-at [] i d lt here differ = absurd (omega (arith, lt))
  set-at (t ∷ ts) zero d lt here differ =
      let parts = and_parts (is_free (map id_of ts) t.header.id) (slots_differ (map id_of ts)) differ in
      λ i. cond (sym (eq-eqb t.header.id id here) i) (change t) t
      ∷ sym (others-stand ts (ap (is_free (map id_of ts)) (sym here) ∙ parts.0)) i
  set-at (t ∷ ts) (suc i) d lt here differ =
      let parts = and_parts (is_free (map id_of ts) t.header.id) (slots_differ (map id_of ts)) differ in
      let apart : (t.header.id == id) ≡ false =
      ne_eqb _ _ (λ e.
      absurd (apart-at ts i (omega (arith, lt)) (subst (λ n. is_free (map id_of ts) n ≡ true) e parts.0) here)) in
      λ j. cond (sym apart j) (change t) t ∷ set-at ts i d (omega (arith, lt)) here parts.1 j
    where
      apart-at : (us : List StoredTransfer) (i : ℕ) → i < length us → is_free (map id_of us) id ≡ true
          → (get_or us i d).header.id ≡ id → ⊥
      apart-at [] i lt free here = absurd (omega (arith, lt))
      apart-at (u ∷ us) zero lt free here =
          eqb-false u.header.id id
          (not-true _ (and_parts (not (u.header.id == id)) (is_free (map id_of us) id) free).0) here
      apart-at (u ∷ us) (suc i) lt free here =
          apart-at us i (omega (arith, lt)) (and_parts (not (u.header.id == id)) (is_free (map id_of us) id) free).1
          here

-- the first transfer that passes, changed at its place with what its header becomes
module _ {s : Table} {test : Header → Bool} {p : Placed} (is : IsTable s) (at : IsAt s.list test p)
    (becomes : Header → Header) (with : Header → StoredTransfer
    → StoredTransfer) (h : Header) (put : h ≡ becomes p.header)
    (list : List StoredTransfer)
    (puts : (t : StoredTransfer) → t ≡ get_or s.list p.place t → list ≡ set s.list p.place (with h t))
    (keeps : (t : StoredTransfer) → ((with (becomes t.header) t).header.id ≡ t.header.id)
    × ((with (becomes t.header) t).slot ≡ t.slot)) where
  abbrev change : StoredTransfer → StoredTransfer
  change t = with (becomes t.header) t

  changed-list : list ≡ set s.list p.place (change at.transfer)
  changed-list =
      puts at.transfer at.here
      ∙ ap (λ k. set s.list p.place (with k at.transfer)) (put ∙ ap becomes (sym at.header))

  pub put-is : (id : ℕ) → p.header.id ≡ id → record s { list = list } ≡ with_stored id change s
  put-is id here =
      ap (λ ts. record s { list = ts }) (changed-list ∙ ap (λ t. set s.list p.place (change t)) at.here
      ∙ set-at id change s.list p.place at.transfer at.lies (sym (ap id_of at.here) ∙ ap (λ k. k.id) at.header
      ∙ here) is.ids)

  pub put-table : (IsBounded s.next_id at.transfer → IsBounded s.next_id (change at.transfer))
      → IsTable (record s { list = list })
  put-table bounds =
      let own = subst (IsBounded s.next_id) (sym at.here)
      (each-at (IsBounded s.next_id) s.list p.place at.transfer at.lies is.each) in
      subst (λ ts. IsTable (record s { list = ts })) (sym changed-list)
      (table-set s p.place (change at.transfer) at.transfer is (bounds own)
      ((keeps at.transfer).0 ∙ ap id_of at.here) ((keeps at.transfer).1 ∙ ap (λ t. t.slot) at.here))

-- where a search ends
module _ {all list : List StoredTransfer} (same : all ≡ list) (test : Header → Bool) (o : Option ℕ)
    (searched : o ≡ position (λ t. test t.header) all) where
  pub place-is : (i : ℕ) (t : StoredTransfer) → o ≡ Some i → t ≡ get_or all i t
      → IsAt list test (record { place = i; header = (get_or all i t).header })
  place-is i t is here =
      let found = sym is ∙ searched in
      subst (λ l. IsAt l test (record { place = i; header = (get_or all i t).header })) same (record {
        transfer = t;
        found = position-find (λ (t : StoredTransfer). test t.header) all (Some i) found t ∙ ap Some (sym here);
        here = here;
        lies = (position-Some (λ (t : StoredTransfer). test t.header) all i t (sym found)).0;
        header = ap (λ t. t.header) here;
        passes = (position-Some (λ (t : StoredTransfer). test t.header) all i t (sym found)).1;
      })

  pub none-is : o ≡ None → find (λ t. test t.header) list ≡ None
  none-is is =
      ap (find (λ (t : StoredTransfer). test t.header)) (sym same)
      ∙ position-none (λ (t : StoredTransfer). test t.header) all (sym searched ∙ is)

-- an id that isn't found is free
pub free-is : (id : ℕ) (ts : List StoredTransfer) → find (λ t. t.header.id == id) ts ≡ None
    → is_free (map id_of ts) id ≡ true
free-is id ts none = free ts (none-passes (λ (t : StoredTransfer). t.header.id == id) ts none)
  where
    free : (ts : List StoredTransfer) → AllByRecursion (λ t. (t.header.id == id) ≡ false) ts
        → is_free (map id_of ts) id ≡ true
    free [] each = refl
    free (t ∷ ts) each = both_true (ap not each.0) (free ts each.1)
