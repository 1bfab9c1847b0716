use Rattle.std.proofs.Common.{◌++◌, ◌∙◌, ap, rules, string_bytes}
use Rattle.std.proofs.lemmas.List.{take-append-drop}
use Rattle.report.proofs.Spelled.{all-spelled, next-piece}
use Rattle.report.proofs.blocks.add_hex.Goals as goal

pub loop-left-preserved : goal.loop-left-preserved
loop-left-preserved c =
    next-piece (string_bytes c.loop-left.text) _ c.split_at.result.0.now _ c.loop-left.left.now _
    (c.in_ok-push_str.ensures.bytes ∙ ap (λ t. string_bytes c.loop-left.text ++ t)
    (c.as_str.ensures.value ∙ c.in_ok-digits.ensures))
    (rw (c.split_at.ensures.front, c.split_at.ensures.back) (take-append-drop _ _)) c.loop-left.invariant

pub returns : goal.returns
returns c = all-spelled _ c.loop-left.left.now _ (search rules) c.loop-left.invariant
