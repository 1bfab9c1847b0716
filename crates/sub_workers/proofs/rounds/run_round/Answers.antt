use Rattle.sub_workers.proofs.Going.{ran_begun}
use Rattle.sub_workers.proofs.rounds.run_round.Goals as goal

pub returns-clause-ran : goal.returns-clause-ran
returns-clause-ran g c =
    let U = g.U.Subordinate in
    ran_begun U.last U.counted U.sends U.works c.args.round c.args.worker.now c.drive.new.worker c.begin.new.self
    c.requires.ready.1 c.begin.ensures.is c.drive.ensures.drove
