use Rattle.node_core.proofs.Names.{over, sym}
use Rattle.node_core.proofs.Executed.{newer-executed}
use Rattle.node_core.proofs.ready.Ready.exec.Goals as goal

pub returns-clause-executed : goal.returns-clause-executed
returns-clause-executed c = λ areas sound ready.
    let newer = ready (sym c.in_default.ensures.repeat) in
    newer-executed (over areas c.args.self.now) c.args.client c.args.no c.args.call.now c.repeated.ensures.client
    sound newer (sym c.in_default.ensures.repeat) c.reply-reply.result (c.reply-reply.ensures areas sound newer)
    c.execute.new.self.state c.execute.ensures.state c.execute.new.self.prepared
