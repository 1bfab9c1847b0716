use Rattle.node_core.proofs.Plans.{put-between}
use Rattle.node_core.proofs.plan.put.Goals as goal

pub returns : goal.returns
returns c =
    put-between c.args.plan.now c.in_ok-all.all.items c.in_ok-behind.behind.items c.push.new.self.items
    c.append.new.self.items _ c.in_ok-all.ensures c.in_ok-behind.ensures c.in_ok-push.ensures.items
    c.in_ok-append.ensures.items
