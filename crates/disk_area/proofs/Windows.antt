-- What a step of the disk is within a window.
use Rattle.std.proofs.Common.{◌≡◌, ◌⊎◌, inl, inr, ℕ, ◌+◌, ◌-◌, ◌≤◌, List, ◌++◌, length, take, drop, sym, ◌∙◌, ap, subst, arith, length-drop, take-append-drop}
use Rattle.std.proofs.lemmas.List.{take-take, drop-take, drop-drop, drop_at, drop-append-le, length-take-le}
use Rattle.std.specs.List.{slice_range}
use Rattle.disk_core.specs.Bytes.{put_at, Puts, Torn}
use Rattle.disk_core.proofs.Pieces.{put_torn, put_back, put_take, range_take, take_past}
use Rattle.disk_area.specs.declared.area.Area.{Area}
use Rattle.disk_area.specs.Windows.{window, IsInside, InArea}

pub length-window : (area : Area) (bytes : List ℕ) → IsInside area bytes → length (window area bytes) ≡ area.len
length-window area bytes inside =
    length-take-le area.len (drop area.at bytes) (omega (arith, length-drop area.at bytes, inside))

-- a range of the window is one of the disk
pub window_range : (area : Area) (bytes : List ℕ) (i j : ℕ) → i ≤ j → j ≤ area.len
    → slice_range bytes (area.at + i) (area.at + j) ≡ slice_range (window area bytes) i j
window_range area bytes i j le fits =
    (λ t. take (same t) (sym (drop-drop i area.at bytes) t))
    ∙ sym (range_take (drop area.at bytes) area.len i j le fits)
  where
    same : area.at + j - (area.at + i) ≡ j - i
    same = omega (arith, le)

-- what is behind k bytes of a window
window_rest : (area : Area) (k : ℕ) (bytes : List ℕ) → k ≤ area.len
    → drop k (window area bytes) ≡ take (area.len - k) (drop (area.at + k) bytes)
window_rest area k bytes le =
    let is : area.len ≡ k + (area.len - k) = omega (arith, le) in
    ap (λ (m : ℕ). drop k (take m (drop area.at bytes))) is ∙ drop-take k (area.len - k) (drop area.at bytes)
    ∙ ap (λ (xs : List ℕ). take (area.len - k) xs) (drop-drop k area.at bytes)

-- a torn range within the window
pub window_torn : (area : Area) (k n : ℕ) (old new : List ℕ) → k + n ≤ area.len → IsInside area old
    → Torn (area.at + k) n old new → InArea area (Torn k n) old new
window_torn area k n old new fits inside torn = record {
  outside = record {
    size = torn.size;
    before = sym (take-take area.at (area.at + k) new (omega arith))
        ∙ ap (λ (xs : List ℕ). take area.at xs) torn.before ∙ take-take area.at (area.at + k) old (omega arith);
    after = further new ∙ ap (λ (xs : List ℕ). drop (area.len - (k + n)) xs) torn.after ∙ sym (further old);
  };
  inside = record {
    size = length-window area new (omega (arith, torn.size, inside)) ∙ sym (length-window area old inside);
    before = fronts new ∙ ap (λ (xs : List ℕ). drop area.at xs) torn.before ∙ sym (fronts old);
    after = rest new ∙ ap (λ (xs : List ℕ). take (area.len - (k + n)) xs) torn.after ∙ sym (rest old);
  };
}
  where
    further : (xs : List ℕ) → drop (area.at + area.len) xs ≡ drop (area.len - (k + n)) (drop (area.at + k + n) xs)
    further xs = ap (λ (m : ℕ). drop m xs) (omega (arith, fits))
        ∙ sym (drop-drop (area.len - (k + n)) (area.at + k + n) xs)

    fronts : (xs : List ℕ) → take k (window area xs) ≡ drop area.at (take (area.at + k) xs)
    fronts xs = take-take k area.len (drop area.at xs) (omega (arith, fits)) ∙ sym (drop-take area.at k xs)

    rest : (xs : List ℕ) → drop (k + n) (window area xs) ≡ take (area.len - (k + n)) (drop (area.at + k + n) xs)
    rest xs = window_rest area (k + n) xs fits ∙ ap (λ (m : ℕ). take (area.len - (k + n)) (drop m xs)) (omega arith)

-- a torn range of the window is one of the disk
pub torn_window : (area : Area) (k n : ℕ) (old new : List ℕ) → k + n ≤ area.len → IsInside area old
    → InArea area (Torn k n) old new → Torn (area.at + k) n old new
torn_window area k n old new fits inside changed = record {
  size = changed.outside.size;
  before = fronts new here ∙ (λ i. changed.outside.before i ++ changed.inside.before i) ∙ sym (fronts old inside);
  after = rests new here ∙ (λ i. changed.inside.after i ++ changed.outside.after i) ∙ sym (rests old inside);
}
  where
    here : IsInside area new
    here = omega (arith, inside, changed.outside.size)

    whole : (xs : List ℕ) → drop area.at xs ≡ window area xs ++ drop (area.at + area.len) xs
    whole xs = sym (take-append-drop area.len (drop area.at xs))
        ∙ ap (λ (ys : List ℕ). window area xs ++ ys) (drop-drop area.len area.at xs)

    fronts : (xs : List ℕ) → IsInside area xs → take (area.at + k) xs ≡ take area.at xs ++ take k (window area xs)
    fronts xs inside =
        let front : length (take area.at xs) ≡ area.at = length-take-le area.at xs (omega (arith, inside)) in
        ap (λ (ys : List ℕ). take (area.at + k) ys) (sym (take-append-drop area.at xs))
        ∙ take_past (take area.at xs) (drop area.at xs) (area.at + k) k (omega (arith, front))
        ∙ ap (λ (ys : List ℕ). take area.at xs ++ ys)
        (sym (take-take k area.len (drop area.at xs) (omega (arith, fits))))

    rests : (xs : List ℕ) → IsInside area xs
        → drop (area.at + k + n) xs ≡ drop (k + n) (window area xs) ++ drop (area.at + area.len) xs
    rests xs inside =
        ap (λ (m : ℕ). drop m xs) (omega arith)
        ∙ sym (drop-drop (k + n) area.at xs)
        ∙ ap (λ (ys : List ℕ). drop (k + n) ys) (whole xs)
        ∙ drop-append-le (k + n) (window area xs) (drop (area.at + area.len) xs)
        (omega (arith, fits, length-window area xs inside))

-- a piece that is put within the window
pub window_put : (area : Area) (k : ℕ) (piece old new : List ℕ) → k + length piece ≤ area.len → IsInside area old
    → Puts (area.at + k) piece old new → InArea area (Puts k piece) old new
window_put area k piece old new fits inside is = record {
  outside = (window_torn area k (length piece) old new fits inside
      (subst (λ (xs : List ℕ). Torn (area.at + k) (length piece) old xs) (sym is)
      (put_torn (area.at + k) piece old (omega (arith, fits, inside))))).outside;
  inside = ap (λ (xs : List ℕ). window area xs) is
      ∙ ap (λ (xs : List ℕ). take area.len xs)
      (ap (λ (xs : List ℕ). drop area.at (put_at xs (area.at + k) piece)) (sym (take-append-drop area.at old))
      ∙ ap (λ (xs : List ℕ). drop area.at xs) behind
      ∙ drop_at (take area.at old) (put_at (drop area.at old) k piece) area.at front)
      ∙ put_take (drop area.at old) area.len k piece fits (omega (arith, length-drop area.at old, inside));
}
  where
    front : length (take area.at old) ≡ area.at
    front = length-take-le area.at old (omega (arith, inside))

    behind : put_at (take area.at old ++ drop area.at old) (area.at + k) piece ≡ take area.at old ++ put_at
        (drop area.at old) k piece
    behind = put_back (take area.at old) (drop area.at old) (area.at + k) k piece (omega (arith, front))

-- a window beside the one that changes
pub window_apart : (area other : Area) (old new : List ℕ)
    → (other.at + other.len ≤ area.at) ⊎ (area.at + area.len ≤ other.at) → Torn area.at area.len old new
    → window other new ≡ window other old
window_apart area other old new (inl before) torn =
    fronts new ∙ ap (λ (xs : List ℕ). drop other.at (take (other.at + other.len) xs)) torn.before ∙ sym (fronts old)
  where
    fronts : (xs : List ℕ) → window other xs ≡ drop other.at (take (other.at + other.len) (take area.at xs))
    fronts xs = sym (ap (λ (ys : List ℕ). drop other.at ys) (take-take (other.at + other.len) area.at xs before)
        ∙ drop-take other.at other.len xs)
window_apart area other old new (inr behind) torn =
    backs new ∙ ap (λ (xs : List ℕ). take other.len (drop (other.at - (area.at + area.len)) xs)) torn.after
    ∙ sym (backs old)
  where
    place : other.at ≡ area.at + area.len + (other.at - (area.at + area.len))
    place = omega (arith, behind)

    backs : (xs : List ℕ) → window other xs ≡ take other.len
        (drop (other.at - (area.at + area.len)) (drop (area.at + area.len) xs))
    backs xs = ap (λ (n : ℕ). take other.len (drop n xs)) place
        ∙ ap (λ (ys : List ℕ). take other.len ys)
        (sym (drop-drop (other.at - (area.at + area.len)) (area.at + area.len) xs))
