use Rattle.std.proofs.Common.{sym, subst}
use Rattle.std.proofs.lemmas.Result.{IfOk-weaker}
use Rattle.ucm_prog.specs.declared.output.Output.{Output}
use Rattle.ucm_prog.specs.Outcome.{IsEnd}
use Rattle.ucm_prog.proofs.Outputs.{inspect_end}
use Rattle.ucm_prog.proofs.plain.output.Goals as goal

pub returns-in-Inspect-clause-plain : goal.returns-in-Inspect-clause-plain
returns-in-Inspect-clause-plain g c =
    IfOk-weaker c.inspect.result _ _ (λ (o : Output) is. subst IsEnd (sym is.status) (inspect_end c.args.input.now))
    c.inspect.ensures
