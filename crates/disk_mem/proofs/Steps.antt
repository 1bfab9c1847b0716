-- How far a loop over the pages of a range has come.
use Rattle.std.proofs.Common.{◌≡◌, ℕ, ◌+◌, ◌*◌, ◌-◌, ◌/◌, ◌<◌, ◌≤◌, min, max, List, ◌++◌, length, take, drop, sym, ◌∙◌, ap, arith}
use Rattle.std.proofs.lemmas.List.{length-take-le, take-append-drop, take-take, drop-take}
use Rattle.std.specs.List.{slice_range}
use Rattle.disk_core.specs.Bytes.{put_at}
use Rattle.disk_core.proofs.Pieces.{range_range, put_put}

-- the place that is reached before page `index`
abbrev pub reached : ℕ → ℕ → ℕ → ℕ
reached start end index = min end (max start (4096 * index))

-- a front and the range behind it
pub take_range : (xs : List ℕ) (j k : ℕ) → j ≤ k → take j xs ++ slice_range xs j k ≡ take k xs
take_range xs j k le =
    let back : drop j (take k xs) ≡ slice_range xs j k = ap (λ (m : ℕ). drop j (take m xs)) (same j k le)
    ∙ drop-take j (k - j) xs in
    (λ i. sym (take-take j k xs le) i ++ sym back i) ∙ take-append-drop j (take k xs)
  where
    same : (j k : ℕ) → j ≤ k → k ≡ j + (k - j)
    same j k le = omega (arith, le)

-- the part from `from` to `to` of page `index` comes next
module _ (start end index from to : ℕ) (some : start < end) (low : start / 4096 ≤ index)
    (high : index < (end - 1) / 4096 + 1) (from_is : from ≡ max start (index * 4096) - index * 4096)
    (to_is : to ≡ min (end - index * 4096) 4096) where
  pub here : reached start end index ≡ 4096 * index + from
  here = omega (arith, some, low, high, from_is)

  pub there : reached start end (index + 1) ≡ 4096 * index + to
  there = omega (arith, some, low, high, to_is)

  pub in_order : from ≤ to
  in_order = omega (arith, some, low, high, from_is, to_is)

  pub read_step : (bytes page : List ℕ) → end ≤ length bytes
      → page ≡ slice_range bytes (4096 * index + from) (4096 * index + to)
      → slice_range bytes start (reached start end index)
      ++ page ≡ slice_range bytes start (reached start end (index + 1))
  read_step bytes page le is =
      (λ i. slice_range bytes start (here i) ++ is i)
      ∙ range_range bytes start (4096 * index + from) (4096 * index + to) (omega (arith, here, some))
      (omega (arith, in_order)) (omega (arith, there, le))
      ∙ ap (λ (n : ℕ). slice_range bytes start n) (sym there)

  pub write_step : (old piece : List ℕ) → length piece ≡ end - start → end ≤ length old
      → put_at (put_at old start (take (reached start end index - start) piece)) (4096 * index + from)
      (slice_range piece (index * 4096 + from - start) (index * 4096 + to - start))
      ≡ put_at old start (take (reached start end (index + 1) - start) piece)
  write_step old piece long le =
      let a : List ℕ = take (reached start end index - start) piece in
      let length_a : length a ≡ reached start end index - start = length-take-le
      (reached start end index - start) piece (omega (arith, long, some)) in
      let first : index * 4096 + from - start ≡ reached start end index - start = omega (arith, here) in
      let last : index * 4096 + to - start ≡ reached start end (index + 1) - start = omega (arith, there) in
      put_put old start (4096 * index + from) a _ (omega (arith, length_a, here, some))
      (omega (arith, length_a, some, le))
      ∙ (λ i. put_at old start (a ++ slice_range piece (first i) (last i)))
      ∙ ap (λ (xs : List ℕ). put_at old start xs) (take_range piece (reached start end index - start)
      (reached start end (index + 1) - start) (omega (arith, here, there, in_order)))
