-- What the areas of an image hold after an extent has changed.
use Rattle.std.proofs.Common.{◌≡◌, ◌≢◌, ⊎_elim, inr, ℕ, zero, suc, ◌+◌, ◌<◌, ◌≤◌, List, [], length, map, get_or, set, refl, lit<, sym, ◌∙◌, ap, subst, arith, get_or-set_other, get_or-set_same}
use Rattle.std.proofs.lemmas.Bool.{cases_eq}
use Rattle.std.proofs.lemmas.List.{ext_get_or, length-set}
use Rattle.std.proofs.lemmas.List.FromFn.{get_or-map-range_with_len, length-map-range_with_len}
use Rattle.std.specs.List.{range_with_len}
use Rattle.disk_core.specs.Bytes.{Torn, Puts}
use Rattle.disk_area.specs.Windows.{window, InArea}
use Rattle.disk_area.proofs.Windows.{length-window, window_apart}
use Rattle.ucm_base.specs.Limits.{transfer_limit, cluster_limit}
use Rattle.transfer_blocks.specs.declared.area.Area.{Area}
use Rattle.transfer_blocks.specs.declared.area.Area.TheVariants.{Transfer, Side}
use Rattle.transfer_blocks.specs.Areas.{IsArea, on_pair, with_side, content_of, with_content, overwritten, AgreesOutside, LeavesOutside}
use Rattle.transfer_blocks.specs.Steps.{with_bytes}
use Rattle.slot_store.specs.Extents.{extent_in, slot_in, sides_in, held_in, HasExtents}
use Rattle.slot_store.specs.declared.places.Places.{Places}
use Rattle.slot_store.specs.Laws.{one_of, content_held, same_long}
use Rattle.slot_store.proofs.Apart.{IsSound, extents_apart, extent_behind, extent_inside}

-- a list of n things of which the k-th alone has changed
one_changed : {A : Type 0} (f g : ℕ → A) (n k : ℕ) (d x : A) → k < n → g k ≡ x
    → ((i : ℕ) → i < n → i ≢ k → g i ≡ f i)
    → map g (range_with_len 0 n) ≡ set (map f (range_with_len 0 n)) k x
one_changed f g n k d x lt here others = ext_get_or d (map g (range_with_len 0 n))
    (set (map f (range_with_len 0 n)) k x)
    (length-map-range_with_len g 0 n ∙ sym (length-set (map f (range_with_len 0 n)) k x
    ∙ length-map-range_with_len f 0 n))
    (λ i below.
    let small : i < n = omega (arith, below, length-map-range_with_len g 0 n) in
    get_or-map-range_with_len g 0 n i i d small (omega arith)
    ∙ ⊎_elim
    (λ same. ap g same ∙ here
    ∙ sym (ap (λ (j : ℕ). get_or (set (map f (range_with_len 0 n)) k x) j d) same
    ∙ get_or-set_same (map f (range_with_len 0 n)) k x d (omega (arith, lt, length-map-range_with_len f 0 n))))
    (λ differ. others i small differ
    ∙ sym (get_or-set_other (map f (range_with_len 0 n)) k i x d differ
    ∙ get_or-map-range_with_len f 0 n i i d small (omega arith)))
    (cases_eq i k))

same_all : {A : Type 0} (f g : ℕ → A) (n : ℕ) (d : A) → ((i : ℕ) → i < n → g i ≡ f i)
    → map g (range_with_len 0 n) ≡ map f (range_with_len 0 n)
same_all f g n d same = ext_get_or d (map g (range_with_len 0 n)) (map f (range_with_len 0 n))
    (length-map-range_with_len g 0 n ∙ sym (length-map-range_with_len f 0 n))
    (λ i below.
    let small : i < n = omega (arith, below, length-map-range_with_len g 0 n) in
    get_or-map-range_with_len g 0 n i i d small (omega arith) ∙ same i small
    ∙ sym (get_or-map-range_with_len f 0 n i i d small (omega arith)))

-- the sides of a pair of which one has changed
one_side : (side : ℕ) (a b x y : List ℕ) → side < 2 → ((s : ℕ) → s < 2 → s ≢ side → on_pair s (x, y) ≡ on_pair s (a, b))
    → (x, y) ≡ with_side side (on_pair side (x, y)) (a, b)
one_side zero a b x y lt other = λ i. (x, other 1 (omega arith) (λ e. absurd (cc e)) i)
one_side (suc zero) a b x y lt other = λ i. (other 0 (omega arith) (λ e. absurd (cc e)) i, y)
one_side (suc (suc side)) a b x y lt other = absurd (omega (arith, lt))

module _ (places : Places) (sound : IsSound places) where
  -- an area holds a whole extent
  pub content_long : (area : Area) (image : List ℕ) → IsArea area → HasExtents places image
      → length (content_of area (held_in places image)) ≡ places.len
  content_long area image is has =
      ap length (content_held places area image is)
      ∙ length-window (extent_in places area) image (extent_inside places sound area image is has)
      ∙ same_long places area

  module _ (x y : List ℕ) where
    -- another area, where no byte outside its extent changed
    other_same : (area other : Area) → IsArea area
        → Torn (extent_in places area).at (extent_in places area).len x y → IsArea other → other ≢ area
        → window (extent_in places other) y ≡ window (extent_in places other) x
    other_same area other is torn other_is differ = window_apart (extent_in places area) (extent_in places other) x y
        (extents_apart places sound area other is other_is differ) torn

    -- what is torn before the extents leaves the areas
    pub torn_before : (at n : ℕ) → at + n ≤ places.slots → Torn at n x y → held_in places y ≡ held_in places x
    unfolding held_in
    torn_before at n le torn =
        let same : (area : Area) → IsArea area
        → window (extent_in places area) y ≡ window (extent_in places area) x =
        λ area is. window_apart (record { at = at; len = n }) (extent_in places area) x y
        (inr (omega (arith, le, extent_behind places sound area))) torn in
        let slots = same_all (slot_in places x) (slot_in places y) transfer_limit []
        (λ i lt. same (Transfer i) lt) in
        let sides = same_all (sides_in places x) (sides_in places y) cluster_limit ([], [])
        (λ i lt j. (same (Side i 0) (lt, lit< tt) j, same (Side i 1) (lt, lit< tt) j)) in
        λ i. record { slots = slots i; sides = sides i }

    -- then the areas are those of before with the changed one
    pub held_changed : (area : Area) → IsArea area
        → Torn (extent_in places area).at (extent_in places area).len x y
        → held_in places y ≡ with_content area (window (extent_in places area) y) (held_in places x)
    unfolding held_in
    held_changed (Transfer slot) is torn =
        let slots = one_changed (slot_in places x) (slot_in places y) transfer_limit slot [] (slot_in places y slot) is
        refl
        (λ i lt differ. other_same (Transfer slot) (Transfer i) is torn lt (λ e. differ cc)) in
        let sides = same_all (sides_in places x) (sides_in places y) cluster_limit ([], [])
        (λ i lt j. (
          other_same (Transfer slot) (Side i 0) is torn (lt, lit< tt) (λ e. absurd (cc e)) j,
          other_same (Transfer slot) (Side i 1) is torn (lt, lit< tt) (λ e. absurd (cc e)) j,
        )) in
        λ i. record { slots = slots i; sides = sides i }
    held_changed (Side place side) is torn =
        let slots = same_all (slot_in places x) (slot_in places y) transfer_limit []
        (λ i lt. other_same (Side place side) (Transfer i) is torn lt (λ e. absurd (cc e))) in
        let here : sides_in places y place ≡ with_side side (window (extent_in places (Side place side)) y)
        (get_or (map (sides_in places x) (range_with_len 0 cluster_limit)) place ([], [])) =
        one_side side (slot_side x 0) (slot_side x 1) (slot_side y 0) (slot_side y 1) is.1
        (λ s lt differ. one_of places place s y lt
        ∙ other_same (Side place side) (Side place s) is torn (is.0, lt) (λ e. differ cc)
        ∙ sym (one_of places place s x lt))
        ∙ (λ i. with_side side (one_of places place side y is.1 i)
        (sym (get_or-map-range_with_len (sides_in places x) 0 cluster_limit place place ([], []) is.0 (omega arith)) i))
        in
        let sides = one_changed (sides_in places x) (sides_in places y) cluster_limit place ([], [])
        (with_side side (window (extent_in places (Side place side)) y)
        (get_or (map (sides_in places x) (range_with_len 0 cluster_limit)) place ([], []))) is.0 here
        (λ i lt differ j. (
          other_same (Side place side) (Side i 0) is torn (lt, lit< tt) (λ e. differ cc) j,
          other_same (Side place side) (Side i 1) is torn (lt, lit< tt) (λ e. differ cc) j,
        )) in
        λ i. record { slots = slots i; sides = sides i }
      where
        slot_side : List ℕ → ℕ → List ℕ
        slot_side image s = window (extent_in places (Side place s)) image

    -- a torn range leaves what lies outside of it
    pub torn_leaves : (area : Area) (at n : ℕ) → IsArea area → InArea (extent_in places area) (Torn at n) x y
        → LeavesOutside area at n (held_in places x) (held_in places y)
    torn_leaves area at n is torn = record {
      here = subst (λ (p : List ℕ × List ℕ). AgreesOutside at n p.0 p.1)
          (λ i. (sym (content_held places area x is) i, sym (content_held places area y is) i))
          (record {
            no_shorter = omega (arith, torn.inside.size);
            before = torn.inside.before;
            behind = torn.inside.after;
          });
      elsewhere = held_changed area is torn.outside
          ∙ ap (λ (content : List ℕ). with_content area content (held_in places x))
          (sym (content_held places area y is));
    }

    -- bytes that are put
    pub put_held : (area : Area) (at : ℕ) (bytes : List ℕ) → IsArea area
        → InArea (extent_in places area) (Puts at bytes) x y
        → held_in places y ≡ with_bytes area at bytes (held_in places x)
    put_held area at bytes is put = held_changed area is put.outside
        ∙ ap (λ (content : List ℕ). with_content area content (held_in places x))
        (put.inside ∙ ap (overwritten at bytes) (sym (content_held places area x is)))
