use Rattle.std.proofs.Common.{refl, sym, subst}
use Rattle.decision_log.specs.declared.list.MasterLog.{MasterLog}
use Rattle.master_gate.specs.Stands.{StandsFor}
use Rattle.master_gate.proofs.Stands.{grows, stays}
use Rattle.master_gate.proofs.shared.SharedLog.add_open.Goals as goal

pub returns-in-Added-clause-stands : goal.returns-in-Added-clause-stands
returns-in-Added-clause-stands g c o stands =
    let d = g.D.Disk in
    let old = c.args.self.now in
    let after = c.list.new.self.events.items in
    let adds = c.in-Added.ensures.adds in
    subst (λ (l : MasterLog g.row.D.Denot). StandsFor d.moment d.left_since d.seen d.images o l after)
    (sym c.list.ensures.log)
    (grows d.moment d.left_since d.seen d.images o old.log c.add.new.self old.events.items after stands c.args.event.now
    c.list.ensures.events adds.0 adds.1 c.in-Added.ensures.count c.add.ensures.known c.add.ensures.any_moment)

pub returns-in-NoReply-clause-stands : goal.returns-in-NoReply-clause-stands
returns-in-NoReply-clause-stands g c o stands =
    let d = g.D.Disk in
    let old = c.args.self.now in
    let said = c.in-NoReply.ensures in
    stays d.moment d.left_since d.seen d.images o old.log c.add.new.self old.events.items old.events.items stands
    c.args.event.now refl said.adds.1 said.count c.add.ensures.known c.add.ensures.any_moment

pub returns-in-OutOfMemory-clause-stands : goal.returns-in-OutOfMemory-clause-stands
returns-in-OutOfMemory-clause-stands g c o stands =
    let d = g.D.Disk in
    let old = c.args.self.now in
    let said = c.in-OutOfMemory.ensures in
    stays d.moment d.left_since d.seen d.images o old.log c.add.new.self old.events.items old.events.items stands
    c.args.event.now refl said.adds.1 said.count c.add.ensures.known c.add.ensures.any_moment
