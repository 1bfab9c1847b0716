use Rattle.std.proofs.Common.{◌<◌, ◌∙◌, ap, arith, length, sym}
use Rattle.recipe.specs.Named.{place_of}
use Rattle.recipe.proofs.With.{is-joined, is-unknown, stands-there}
use Rattle.recipe.proofs.parts.join.Goals as goal

pub returns-in-Some-clause-joined : goal.returns-in-Some-clause-joined
returns-in-Some-clause-joined c =
    let at = ap (λ ps. place_of ps c.args.name) (sym c.as_slice.ensures.value) ∙ sym c.in-Some.ensures.place in
    let within : c.in-Some.place < length c.args.made.now.items =
    omega (arith, ap length c.as_slice.ensures.value, c.in-Some.ensures.within) in
    is-joined c.args.made.now.items c.args.name c.args.part c.in-Some.place c.index_mut.result.now c.add.new.self
    c.add.result at (stands-there c.args.made.now.items c.in-Some.place c.index_mut.result.now within
    c.index_mut.ensures.value) c.add.ensures

pub returns-in-None-clause-joined : goal.returns-in-None-clause-joined
returns-in-None-clause-joined c =
    let at = ap (λ ps. place_of ps c.args.name) (sym c.as_slice.ensures.value) ∙ sym c.in-None.ensures.place in
    (tt, is-unknown c.args.made.now.items c.args.name c.args.part at)
