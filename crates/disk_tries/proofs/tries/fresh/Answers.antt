use Rattle.std.proofs.Common.{ℕ, sym, ◌∙◌, subst, arith}
use Rattle.disk_area.specs.declared.area.Area.{Area}
use Rattle.journal.specs.Ready.{IsReady}
use Rattle.disk_tries.proofs.Zeros.{ready_on_zeros}
use Rattle.disk_tries.proofs.tries.fresh.Goals as goal

pub returns-clause-ready : goal.returns-clause-ready
returns-clause-ready c x now =
    let is = c.in_ok-disk.ensures.nothing_pending x now ∙ c.in_ok-disk.ensures.zeros in
    subst (λ (p : Area × ℕ). IsReady p.0 p.1 x) (λ i. (sym c.fresh.ensures.area i, sym c.fresh.ensures.used i))
    (ready_on_zeros c.of.result c.args.size x c.of.ensures.at (omega (arith, c.of.ensures.len, c.requires.some))
    (omega (arith, c.of.ensures.len, c.requires.inside)) is)
