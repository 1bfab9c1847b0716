use Rattle.node_core.proofs.Names.{ap, map, ⊎_elim, ◌∙◌}
use Rattle.node_core.specs.Prepared.{stored_part}
use Rattle.node_core.proofs.Packages.{bad-verdict, good-verdict}
use Rattle.node_core.proofs.transfers.verdict.Goals as goal

pub returns-in_ok-contents-in-Ok : goal.returns-in_ok-contents-in-Ok
returns-in_ok-contents-in-Ok c =
    good-verdict c.args.bytes.now _ c.in-Ok.ensures.ok c.in-Ok.ensures.within _ (c.in_ok-contents-in-Ok.ensures
    ∙ ap (map stored_part) c.as_slice.ensures)

pub returns-in_ok-refusal_of-in-Err : goal.returns-in_ok-refusal_of-in-Err
returns-in_ok-refusal_of-in-Err c = ⊎_elim (λ none. absurd (c.in_ok-refusal_of-in-Err.ensures.1 none))
    (λ r. bad-verdict c.args.bytes.now _ _ r c.in_ok-refusal_of-in-Err.ensures.0) c.in-Err.ensures.err
