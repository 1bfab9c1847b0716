use Rattle.std.proofs.Common.{◌≡◌, ℕ, ◌+◌, ◌*◌, ◌-◌, ◌/◌, ◌≤◌, List, [], ◌∷◌, ◌++◌, Option, Some, length, take, drop, vec_len, sym, ap, subst, ◌∙◌, arith, length-drop, length-take, take-append-drop}
use Rattle.std.specs.Option.{option_to_list}
use Rattle.std.proofs.lemmas.List.{take_all, length-take-le}
use Rattle.disk_core.specs.Bytes.{put_at}
use Rattle.disk_core.proofs.Pieces.{length-put_at}
use Rattle.disk_mem.specs.Tears.{total, AllWithin, mended}
use Rattle.disk_mem.proofs.Mending.{mended_push, total-push, within_front}
use Rattle.disk_mem.proofs.tear.mend.Goals as goal

-- the newest range, with its bytes
module _ (all rs : List (ℕ × ℕ)) (bytes content : List ℕ) (at n : ℕ) (popped : Option (ℕ × ℕ))
    (items : all ≡ rs ++ option_to_list popped) (is : popped ≡ Some (at, n)) (sum : total all ≡ length bytes)
    (within : AllWithin (length content) all) where
  ranges : all ≡ rs ++ (at, n) ∷ []
  ranges = items ∙ ap (λ (o : Option (ℕ × ℕ)). rs ++ option_to_list o) is

  fits : n ≤ length bytes
  fits = omega (arith, ap total ranges, total-push rs at n, sum)

  inside : AllWithin (length content) rs × (at + n ≤ length content)
  inside = within_front (length content) rs at n
      (subst (λ (r : List (ℕ × ℕ)). AllWithin (length content) r) ranges within)

  module _ (rest : ℕ) (rest_is : rest ≡ length bytes - n) (piece : List ℕ)
      (piece_is : piece ≡ take (length bytes - rest) (drop rest bytes)) where
    whole : piece ≡ drop rest bytes
    whole = piece_is ∙ take_all (length bytes - rest) (drop rest bytes) (omega (arith, length-drop rest bytes))

    long : length piece ≡ n
    long = omega (arith, ap length whole, length-drop rest bytes, rest_is, fits)

    left : total rs ≡ length (take rest bytes)
    left = omega (
      arith,
      ap total ranges,
      total-push rs at n,
      sum,
      rest_is,
      length-take-le rest bytes (omega (arith, rest_is)),
    )

    mended_there : mended rs (take rest bytes) (put_at content at piece) ≡ mended all bytes content
    mended_there =
        ap (λ (p : List ℕ). mended rs (take rest bytes) (put_at content at p)) whole
        ∙ sym (mended_push rs (take rest bytes) (drop rest bytes) content at n left
        (omega (arith, ap length whole, long)))
        ∙ (λ i. mended (sym ranges i) (take-append-drop rest bytes i) content)

    size : length (put_at content at piece) ≡ length content
    size = length-put_at at piece content (omega (arith, long, inside.1))

pub overflow_sub-rest : goal.overflow_sub-rest
overflow_sub-rest c =
    omega (
      arith,
      c.len.ensures,
      c.loop-at.bytes.ok.0,
      fits c.loop-at.ranges.items c.pop.new.self.items c.loop-at.bytes.items c.loop-at.pages.bytes c.in-Some.at
          c.in-Some.len c.pop.result c.pop.ensures.items c.in-Some.is c.loop-at.invariant.all
          c.loop-at.invariant.within,
    )

pub write-requires-clause-range : goal.write-requires-clause-range
write-requires-clause-range c =
    let bytes : List ℕ = c.loop-at.bytes.items in
    let rest : ℕ = c.len.result - c.in-Some.len in
    let rest_is : rest ≡ length bytes - c.in-Some.len = omega (arith, c.len.ensures, c.loop-at.bytes.ok.0) in
    let same : take (length c.deref.result.now - rest) (drop rest c.deref.result.now) ≡ take (length bytes - rest)
    (drop rest bytes) = ap (λ (xs : List ℕ). take (length xs - rest) (drop rest xs)) c.deref.ensures.value in
    let n = long c.loop-at.ranges.items c.pop.new.self.items bytes c.loop-at.pages.bytes c.in-Some.at
    c.in-Some.len c.pop.result c.pop.ensures.items c.in-Some.is c.loop-at.invariant.all c.loop-at.invariant.within
    rest rest_is _ same in
    let there = inside c.loop-at.ranges.items c.pop.new.self.items bytes c.loop-at.pages.bytes c.in-Some.at
    c.in-Some.len c.pop.result c.pop.ensures.items c.in-Some.is c.loop-at.invariant.all c.loop-at.invariant.within in
    omega (arith, n, there.1)

pub loop-at-preserved : goal.loop-at-preserved
loop-at-preserved c =
    let bytes : List ℕ = c.loop-at.bytes.items in
    let rest : ℕ = c.len.result - c.in-Some.len in
    let rest_is : rest ≡ length bytes - c.in-Some.len = omega (arith, c.len.ensures, c.loop-at.bytes.ok.0) in
    let piece : List ℕ = take (length c.deref.result.now - rest) (drop rest c.deref.result.now) in
    let same : piece ≡ take (length bytes - rest) (drop rest bytes) =
    ap (λ (xs : List ℕ). take (length xs - rest) (drop rest xs)) c.deref.ensures.value in
    let n = long c.loop-at.ranges.items c.pop.new.self.items bytes c.loop-at.pages.bytes c.in-Some.at
    c.in-Some.len c.pop.result c.pop.ensures.items c.in-Some.is c.loop-at.invariant.all c.loop-at.invariant.within
    rest rest_is piece same in
    let there = inside c.loop-at.ranges.items c.pop.new.self.items bytes c.loop-at.pages.bytes c.in-Some.at
    c.in-Some.len c.pop.result c.pop.ensures.items c.in-Some.is c.loop-at.invariant.all c.loop-at.invariant.within in
    let few = left c.loop-at.ranges.items c.pop.new.self.items bytes c.loop-at.pages.bytes c.in-Some.at
    c.in-Some.len c.pop.result c.pop.ensures.items c.in-Some.is c.loop-at.invariant.all c.loop-at.invariant.within
    rest rest_is piece same in
    let put = mended_there c.loop-at.ranges.items c.pop.new.self.items bytes c.loop-at.pages.bytes c.in-Some.at
    c.in-Some.len c.pop.result c.pop.ensures.items c.in-Some.is c.loop-at.invariant.all c.loop-at.invariant.within
    rest rest_is piece same in
    let kept = size c.loop-at.ranges.items c.pop.new.self.items bytes c.loop-at.pages.bytes c.in-Some.at
    c.in-Some.len c.pop.result c.pop.ensures.items c.in-Some.is c.loop-at.invariant.all c.loop-at.invariant.within
    rest rest_is piece same in
    let fewer : vec_len c.pop.new.self + 1 ≡ vec_len c.loop-at.ranges = c.in-Some.ensures.cases in
    let shorter : vec_len c.truncate.new.self + c.in-Some.len ≡ vec_len c.loop-at.bytes =
    omega (
      arith,
      c.truncate.ensures.len,
      rest_is,
      c.loop-at.bytes.ok.0,
      c.len.ensures,
      fits c.loop-at.ranges.items c.pop.new.self.items bytes c.loop-at.pages.bytes c.in-Some.at
          c.in-Some.len c.pop.result c.pop.ensures.items c.in-Some.is c.loop-at.invariant.all
          c.loop-at.invariant.within,
    ) in
    record {
      mended = (λ i. mended c.pop.new.self.items (c.truncate.ensures.items i) (c.write.ensures.bytes i))
          ∙ put ∙ c.loop-at.invariant.mended;
      all = few ∙ ap length (sym c.truncate.ensures.items);
      within = omega (arith, there.0, kept, ap length c.write.ensures.bytes);
      spare = omega (arith, c.loop-at.invariant.spare, c.write.ensures.spare, n, fewer, shorter);
      leaves = omega (arith, c.loop-at.invariant.leaves, c.write.ensures.leaves, n, fewer, shorter);
      ranges_capacity = c.pop.ensures.capacity ∙ c.loop-at.invariant.ranges_capacity;
      bytes_capacity = c.truncate.ensures.capacity ∙ c.loop-at.invariant.bytes_capacity;
    }
