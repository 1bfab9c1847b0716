use Rattle.std.proofs.Common.{◌∷◌, [], ◌<◌, ◌+◌, ◌++◌, ◌∙◌, ap, arith, length, refl, rules, sym, take}
use Rattle.std.specs.Fmt.{decimal}
use Rattle.std.proofs.Output.{has_written_append, has_written_of_eq}
use Rattle.ucm_base.specs.Printed.{numbers_from}
use Rattle.ucm_base.proofs.NodeTexts.{comma, joined, joined-more, separator, with-node, without-node}
use Rattle.ucm_base.proofs.display.NodeSetDisplay.fmt.Goals as goal
use Rattle.ucm_base.proofs.display.NodeSetDisplay.fmt.Goals.{then-flag+in_ok-write, else-flag}

pub loop-before-preserved : goal.loop-before-preserved
unfolding lib.Utf8.encode
loop-before-preserved g c =
    let below : c.loop-before.before < length c.args.self.now.flags = omega arith in
    let before = numbers_from 1 (take c.loop-before.before c.args.self.now.flags) in
    elim c.if-flag.branch [
      | then-flag+in_ok-write w ↦
          let more = with-node _ _ below w.if-flag.true in
          rw (w.separator-is, w.f-is) (
            (44 ∷ [], (refl, refl)),
            comma before _ _ more,
            (λ p. has_written_of_eq _ _ _ _ _
                (ap (λ t. joined before ++ (t ++ decimal (c.loop-before.before + 1))) c.loop-before.invariant.1
                ∙ joined-more before _ _ more)
                (has_written_append _ _ _ _ _ _ (c.loop-before.invariant.2 p) (search rules))),
          )
      | else-flag w ↦
          let same = sym (without-node _ _ below w.if-flag.false) in
          rw (w.separator-is, w.f-is) (
            c.loop-before.invariant.0,
            c.loop-before.invariant.1 ∙ ap separator same,
            (λ p. has_written_of_eq _ _ _ _ _ (ap joined same) (c.loop-before.invariant.2 p)),
          )
    ]
