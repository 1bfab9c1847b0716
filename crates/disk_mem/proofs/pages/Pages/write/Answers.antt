use Rattle.std.proofs.Common.{◌≡◌, ◌+◌, ◌*◌, ◌-◌, ◌/◌, ◌<◌, ◌≤◌, List, ℕ, ap, ◌∙◌, arith, length, min, max}
use Rattle.std.specs.List.{slice_range}
use Rattle.disk_core.specs.Bytes.{put_at}
use Rattle.std.proofs.lemmas.Bool.Decides.{nat_tests}
use Rattle.disk_core.proofs.Pieces.{length-put_at, length-range}
use Rattle.disk_mem.proofs.Steps.{write_step}
use Rattle.disk_mem.proofs.pages.Pages.write.Goals as goal

pub loop-index-preserved : goal.loop-index-preserved
loop-index-preserved c =
    let start = c.args.at in
    let piece = c.args.piece.now in
    let end : ℕ = c.args.at + length piece in
    let index = c.loop-index.index in
    let from : ℕ = c.max.result - index * 4096 in
    let to = c.min-to.result in
    let some : start < end = grind (arith, nat_tests) in
    let low : start / 4096 ≤ index = omega arith in
    let high : index < (end - 1) / 4096 + 1 = omega arith in
    let from_is : from ≡ max start (index * 4096) - index * 4096 = omega arith in
    let to_is : to ≡ min (end - index * 4096) 4096 = omega arith in
    let part : List ℕ = slice_range piece (index * 4096 + from - start) (index * 4096 + to - start) in
    let long : length part ≡ index * 4096 + to - start - (index * 4096 + from - start) = length-range piece _ _
    (omega (arith, to_is)) in
    let within : 4096 * index + from + length part ≤ length c.loop-index.self.bytes = omega
    (arith, long, some, low, high, from_is, to_is, c.loop-index.invariant.size, c.requires.range) in
    record {
      bytes = c.put.ensures.bytes
          ∙ ap (λ (xs : List ℕ). put_at xs (4096 * index + from) part) c.loop-index.invariant.bytes
          ∙ write_step start end index from to some low high from_is to_is c.args.self.now.bytes piece
          (omega arith) c.requires.range;
      size = ap length c.put.ensures.bytes ∙ length-put_at (4096 * index + from) part c.loop-index.self.bytes within
          ∙ c.loop-index.invariant.size;
      stock = omega (arith, c.put.ensures.spare, c.loop-index.invariant.stock);
      leaves = c.put.ensures.leaves ∙ c.loop-index.invariant.leaves;
      made = λ k low lt. c.put.ensures.kept k (c.loop-index.invariant.made k low lt);
    }
