use Rattle.node_core.proofs.Names.{over}
use Rattle.node_core.proofs.Executed.{accepted-none}
use Rattle.node_core.proofs.ready.Ready.answer_with.Goals as goal

pub accept-requires : goal.accept-requires
accept-requires c =
    let r = c.requires.judged in record {
      accepted = (
        r.0,
        r.1,
        r.2,
        accepted-none (over r.0 c.args.self.now) c.args.client c.args.call.now c.args.reply.now r.3
            c.in_default.not-Refused,
      );
    }
