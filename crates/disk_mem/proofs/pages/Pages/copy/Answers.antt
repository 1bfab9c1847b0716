use Rattle.std.proofs.Common.{◌≡◌, ◌+◌, ◌*◌, ◌-◌, ◌/◌, ◌<◌, ◌≤◌, ◌++◌, List, ℕ, ap, ◌∙◌, arith, min, max, append_assoc, refl}
use Rattle.std.specs.List.{slice_range}
use Rattle.disk_mem.proofs.Steps.{read_step, in_order, here, there}
use Rattle.disk_mem.proofs.pages.Pages.copy.Goals as goal

pub loop-index-preserved : goal.loop-index-preserved
loop-index-preserved c =
    let start = c.args.at in
    let end : ℕ = c.args.at + c.args.len in
    let index = c.loop-index.index in
    let from : ℕ = c.max.result - index * 4096 in
    let to = c.min-to.result in
    let bytes : List ℕ = c.args.self.now.bytes in
    let out : List ℕ = c.args.out.now.items in
    let some : start < end = omega arith in
    let low : start / 4096 ≤ index = omega arith in
    let high : index < (end - 1) / 4096 + 1 = omega arith in
    let from_is : from ≡ max start (index * 4096) - index * 4096 = omega arith in
    let to_is : to ≡ min (end - index * 4096) 4096 = omega arith in
    let part : List ℕ = slice_range bytes (4096 * index + from) (4096 * index + to) in
    record {
      bytes = c.in_ok-copy_page.ensures.bytes
          ∙ ap (λ (xs : List ℕ). xs ++ part) c.loop-index.invariant.bytes
          ∙ append_assoc out (slice_range bytes start _) part
          ∙ ap (λ (xs : List ℕ). out ++ xs)
          (read_step start end index from to some low high from_is to_is bytes part c.requires refl);
      len = omega (
        arith,
        c.in_ok-copy_page.ensures.len,
        c.loop-index.invariant.len,
        here start end index from to some low high from_is to_is,
        there start end index from to some low high from_is to_is,
        in_order start end index from to some low high from_is to_is,
      );
      capacity = omega (arith, c.in_ok-copy_page.ensures.capacity, c.loop-index.invariant.capacity);
    }
