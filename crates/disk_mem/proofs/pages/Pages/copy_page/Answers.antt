use Rattle.std.proofs.Common.{◌≡◌, ◌+◌, ◌*◌, ◌-◌, ◌/◌, ◌%◌, ◌≤◌, ◌<◌, ◌++◌, ℕ, List, Option, length, get_or, replicate, sym, ap, ◌∙◌, arith}
use Rattle.std.specs.List.{slice_range}
use Rattle.std.proofs.lemmas.Result.{on_ok_weaker}
use Rattle.std.proofs.lemmas.Bool.Decides.{nat_tests}
use Rattle.disk_mem.specs.declared.leaf.Leaf.{Leaf}
use Rattle.disk_mem.specs.Pages.{Paged, leaf_bytes, shown}
use Rattle.disk_mem.proofs.Content.{shown_range, shown_behind, length-shown}
use Rattle.disk_mem.proofs.pages.Pages.copy_page.Goals as goal

module _ (size index k j from to : ℕ) (table : List (Option Leaf)) (bytes : List ℕ) (view : shown size table ≡ bytes)
    (index_is : index ≡ 512 * k + j) (small : j < 512) (order : from ≤ to) (fits : to ≤ 4096)
    (within : 4096 * index + to ≤ length bytes) where
  long : length bytes ≡ size
  long = ap (λ (xs : List ℕ). length xs) (sym view) ∙ length-shown size table

  -- a range of a page of leaf k
  there : (slot : Option Leaf) → k < length table → slot ≡ get_or table k slot
      → slice_range (leaf_bytes slot) (4096 * j + from) (4096 * j + to)
      ≡ slice_range bytes (4096 * index + from) (4096 * index + to)
  there slot lt is =
      let low : 2097152 * k + (4096 * j + from) ≡ 4096 * index + from = omega (arith, index_is) in
      let high : 2097152 * k + (4096 * j + to) ≡ 4096 * index + to = omega (arith, index_is) in
      shown_range size table k slot (4096 * j + from) (4096 * j + to) lt is (omega (arith, order))
      (omega (arith, small, fits)) (omega (arith, high, within, long))
      ∙ (λ i. slice_range (view i) (low i) (high i))

  -- a range behind the table
  behind : length table ≤ k → replicate (to - from) 0 ≡ slice_range bytes (4096 * index + from) (4096 * index + to)
  behind ge =
      let same : to - from ≡ 4096 * index + to - (4096 * index + from) = omega (arith, order) in
      ap (λ (n : ℕ). replicate {A = ℕ} n 0) same
      ∙ shown_behind size table (4096 * index + from) (4096 * index + to) (omega (arith, index_is, ge))
      (omega (arith, order)) (omega (arith, within, long))
      ∙ ap (λ (xs : List ℕ). slice_range xs (4096 * index + from) (4096 * index + to)) view

pub returns-in-Some-clause-bytes : goal.returns-in-Some-clause-bytes
returns-in-Some-clause-bytes c = on_ok_weaker c.copy_leaf.result
    (λ added.
    let p = c.self.inside in
    let table : List (Option Leaf) = p.table.items in
    let k : ℕ = c.args.index / 512 in
    let slot : Option Leaf = c.in-Some.leaf.now in
    let found = c.in-Some.ensures.lookup in
    let same : length c.deref.result.now ≡ length table = ap length c.deref.ensures.value in
    let lt : k < length table = grind (arith, nat_tests, found.0, same) in
    let is : slot ≡ get_or table k slot =
    found.1 ∙ ap (λ (leaves : List (Option Leaf)). get_or leaves k slot) c.deref.ensures.value in
    added ∙ ap (λ (xs : List ℕ). c.args.out.now.items ++ xs)
    (there p.size c.args.index k (c.args.index % 512) c.args.from c.args.to table c.args.self.now.bytes
    (ap (λ (v : Paged). v.bytes) c.self.view_is) (omega arith) (omega arith) c.requires.order c.requires.within
    c.requires.range slot lt is))
    c.copy_leaf.ensures.bytes

pub returns-in-None-clause-bytes : goal.returns-in-None-clause-bytes
returns-in-None-clause-bytes c = on_ok_weaker c.add_zeros.result
    (λ added.
    let p = c.self.inside in
    let table : List (Option Leaf) = p.table.items in
    let k : ℕ = c.args.index / 512 in
    let found = c.in-None.ensures.lookup in
    let same : length c.deref.result.now ≡ length table = ap length c.deref.ensures.value in
    let ge : length table ≤ k = grind (arith, nat_tests, found.0, same) in
    added ∙ ap (λ (xs : List ℕ). c.args.out.now.items ++ xs)
    (behind p.size c.args.index k (c.args.index % 512) c.args.from c.args.to table c.args.self.now.bytes
    (ap (λ (v : Paged). v.bytes) c.self.view_is) (omega arith) (omega arith) c.requires.order c.requires.within
    c.requires.range ge))
    c.add_zeros.ensures.bytes
