use Rattle.std.proofs.Common.{◌∙◌, ap, is_some, sym}
use Rattle.sub_workers.proofs.Going.{failed, gone_nothing, gone_on, ready_on, rested, stopped}
use Rattle.sub_workers.proofs.rounds.drive.Goals as goal

pub loop-preserved : goal.loop-preserved
loop-preserved g c =
    let U = g.U.Subordinate in
    let i = c.loop.invariant in
    let w = c.loop.worker in
    let m = c.try_once.new.worker in
    let t = c.in-Gave.ensures in (
      tt,
      tt,
      ready_on U.ready U.last m c.on.new.self t.ready c.on.ensures.later,
      t.same.found ∙ i.3,
      t.same.packages ∙ i.4,
      c.on.ensures.round ∙ (ap (λ d. d.round) t.same.driver ∙ i.5),
      gone_on U.last U.counted U.sends U.works c.args.worker.now w m i.4 i.6 t.same
          (ap is_some i.5 ∙ c.requires.begun) (sym c.if-not-has_number.ensures) c.in-Gave.got c.on.new.self t.tried
          c.on.ensures.is,
    )

pub returns-then-not-has_number-clause-drove : goal.returns-then-not-has_number-clause-drove
returns-then-not-has_number-clause-drove g c =
    let U = g.U.Subordinate in
    let i = c.loop.invariant in
    stopped U.last U.counted U.sends U.works c.args.worker.now c.loop.worker i.4 i.5 i.3
    (sym c.if-not-has_number.ensures) i.6

pub returns-in-GaveNothing-clause-drove : goal.returns-in-GaveNothing-clause-drove
returns-in-GaveNothing-clause-drove g c =
    let U = g.U.Subordinate in
    let i = c.loop.invariant in
    let t = c.in-GaveNothing.ensures in
    gone_nothing U.last U.counted U.sends U.works c.args.worker.now c.loop.worker c.try_once.new.worker i.4 i.6 t.same
    (ap is_some i.5 ∙ c.requires.begun) (sym c.if-not-has_number.ensures) c.on_nothing.new.self t.tried
    c.on_nothing.ensures.is c.on_nothing.ensures.round i.5 i.3

pub returns-in-Rests-clause-drove : goal.returns-in-Rests-clause-drove
returns-in-Rests-clause-drove g c =
    let U = g.U.Subordinate in
    let i = c.loop.invariant in
    let t = c.in-Rests.ensures in
    rested U.last U.counted U.sends U.works c.args.worker.now c.loop.worker c.try_once.new.worker i.4 i.5 i.6 t.same
    t.tried.1 c.in-Rests.finding t.tried.0

pub returns-in-OutOfMemory-clause-drove : goal.returns-in-OutOfMemory-clause-drove
returns-in-OutOfMemory-clause-drove g c =
    let U = g.U.Subordinate in
    let i = c.loop.invariant in
    let t = c.in-OutOfMemory.ensures in
    failed U.last U.counted U.sends U.works c.args.worker.now c.loop.worker c.try_once.new.worker i.4 i.5 i.6 t.same
    t.tried.0 i.3 t.tried.1
