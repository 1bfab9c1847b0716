use Rattle.run_script.proofs.Planned.{call_more}
use Rattle.run_script.proofs.plan.add_calls.Goals as goal

pub loop-k-preserved : goal.loop-k-preserved
loop-k-preserved c =
    call_more c.args.line.now.kind c.args.line.now.first c.loop-k.k c.args.fails.now.items c.loop-k.fails.items
    c.push.new.self.items c.loop-k.invariant c.in_ok-push.ensures.items
