use Rattle.std.proofs.Common.{◌≡◌, ◌*◌, ◌-◌, length, take, drop, ap, ◌∙◌, arith}
use Rattle.std.proofs.lemmas.List.{take_min, take_all, length-drop}
use Rattle.ucm_base.specs.Limits.{block_limit}
use Rattle.sub_core.proofs.calls.block_of.Goals as goal

pub returns : goal.returns
returns c =
    let start = block_limit * (c.args.counter - 1) in
    let rest = drop start c.args.bytes.now in
    let seen = take (length c.args.bytes.now - start) rest in
    let same : seen ≡ rest = take_all _ rest (omega (arith, length-drop start c.args.bytes.now)) in
    c.of.ensures
    ∙ (c.in_ok-to_vec.ensures.items_if_clones_equal (λ x y is. is)
    ∙ (ap (λ n. take n seen) c.min-end.ensures ∙ (take_min block_limit seen ∙ ap (take block_limit) same)))
