use Rattle.std.proofs.Common.{◌≡◌, ◌+◌, ◌*◌, ◌-◌, ◌++◌, ℕ, List, Option, replicate, sym, ap, ◌∙◌, arith}
use Rattle.std.specs.List.{slice_range}
use Rattle.std.proofs.lemmas.Result.{on_ok_weaker}
use Rattle.disk_mem.specs.declared.leaf.Leaf.{Leaf}
use Rattle.disk_mem.specs.Pages.{leaf_bytes}
use Rattle.disk_mem.proofs.Content.{blank_range}
use Rattle.disk_mem.proofs.slots.copy_leaf.Goals as goal

pub returns-in-Some-clause-bytes : goal.returns-in-Some-clause-bytes
returns-in-Some-clause-bytes c = on_ok_weaker c.copy.result
    (λ added.
    added ∙ ap (λ (leaf : Option Leaf). c.args.out.now.items ++ slice_range (leaf_bytes leaf)
    (4096 * c.args.index + c.args.from) (4096 * c.args.index + c.args.to)) (sym c.in-Some.is))
    c.copy.ensures.bytes

pub returns-in-None-clause-bytes : goal.returns-in-None-clause-bytes
returns-in-None-clause-bytes c = on_ok_weaker c.add_zeros.result
    (λ added.
    let i : ℕ = 4096 * c.args.index + c.args.from in
    let j : ℕ = 4096 * c.args.index + c.args.to in
    let same : c.args.to - c.args.from ≡ j - i = omega arith in
    added ∙ ap (λ (n : ℕ). c.args.out.now.items ++ replicate n 0) same
    ∙ ap (λ (xs : List ℕ). c.args.out.now.items ++ xs)
    (blank_range i j (omega (arith, c.requires.order)) (omega (arith, c.requires.inside, c.requires.within)))
    ∙ ap (λ (leaf : Option Leaf). c.args.out.now.items ++ slice_range (leaf_bytes leaf) i j) (sym c.in-None.is))
    c.add_zeros.ensures.bytes
