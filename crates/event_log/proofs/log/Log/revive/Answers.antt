use Rattle.std.proofs.Common.{ℕ, List, Some, Ok, sym, ◌∙◌, subst}
use Rattle.std.proofs.lemmas.Result.{err_from_is_err_and}
use Rattle.disk_core.proofs.Moments.{weaker}
use Rattle.checkpoint.specs.Halves.{layout_of}
use Rattle.event_log.specs.Holds.{Holds}
use Rattle.event_log.specs.Doubts.{Either, ended, of_event}
use Rattle.event_log.specs.declared.revive.Revived.{Revived}
use Rattle.disk_core.proofs.Runs.{first_run, then_run}
use Rattle.event_log.proofs.Steps.{either}
use Rattle.event_log.proofs.Reviving.{doubt_size, doubt_opens, doubt_reads, settled, lost}
use Rattle.event_log.proofs.Histories.{revive_known}
use Rattle.event_log.proofs.log.Log.revive.Goals as goal

pub returns-in_err-restart-clause-any_moment : goal.returns-in_err-restart-clause-any_moment
returns-in_err-restart-clause-any_moment g c =
    let d = g.D.Disk in
    let s = g.S.Stored in
    let old = c.args.disk.now in
    let run =
    first_run d.moment d.left_since d.images old c.restart.new.self
    (g.met.D.Disk.only_now old) c.restart.ensures.images c.restart.ensures.time in
    weaker d.moment d.left_since old c.restart.new.self (d.images old)
    (Either s.start s.step (layout_of c.args.self.now.half)
    (of_event g.S.Stored.step c.args.present.now c.args.event.now)) (λ x was. either s.start s.step
    c.args.self.now (of_event g.S.Stored.step c.args.present.now c.args.event.now) x
    (c.requires.in_doubt x was)) run

pub returns-in_err-restart-clause-in_doubt : goal.returns-in_err-restart-clause-in_doubt
returns-in_err-restart-clause-in_doubt g c =
    let p = err_from_is_err_and c.from_residual.result c.from_residual.ensures.1 in
    rw p.1 (λ x now. c.requires.in_doubt x (c.restart.ensures.images x now))

pub open-requires-clause-size : goal.open-requires-clause-size
open-requires-clause-size g c =
    doubt_size g.S.Stored.start g.S.Stored.step c.args.self.now
    (of_event g.S.Stored.step c.args.present.now c.args.event.now) _
    (c.requires.in_doubt _ c.in_ok-restart.ensures.one)

pub open-requires-clause-can : goal.open-requires-clause-can
open-requires-clause-can g c =
    doubt_opens g.S.Stored.start g.S.Stored.step c.args.self.now
    (of_event g.S.Stored.step c.args.present.now c.args.event.now) _
    (c.requires.in_doubt _ c.in_ok-restart.ensures.one)

pub returns-in_err-found-clause-any_moment : goal.returns-in_err-found-clause-any_moment
returns-in_err-found-clause-any_moment g c =
    let d = g.D.Disk in
    let s = g.S.Stored in
    let old = c.args.disk.now in
    let first =
    first_run d.moment d.left_since d.images old c.restart.new.self
    (g.met.D.Disk.only_now old) c.restart.ensures.images c.restart.ensures.time in
    let run =
    then_run d.moment d.left_since d.images old c.restart.new.self c.open.new.disk first c.restart.ensures.images
    c.open.ensures.any_moment in
    weaker d.moment d.left_since old c.open.new.disk (d.images old)
    (Either s.start s.step (layout_of c.args.self.now.half)
    (of_event g.S.Stored.step c.args.present.now c.args.event.now)) (λ x was. either s.start s.step
    c.args.self.now (of_event g.S.Stored.step c.args.present.now c.args.event.now) x
    (c.requires.in_doubt x was)) run

pub returns-in_err-found-clause-in_doubt : goal.returns-in_err-found-clause-in_doubt
returns-in_err-found-clause-in_doubt g c =
    let p = err_from_is_err_and c.from_residual-in_err-found.result c.from_residual-in_err-found.ensures.1 in
    rw p.1 (λ x now. c.requires.in_doubt x (c.restart.ensures.images x (c.open.ensures.images x now)))

pub unreachable-requires : goal.unreachable-requires
unreachable-requires g c =
    doubt_reads g.S.Stored.start g.S.Stored.step c.args.self.now
    (of_event g.S.Stored.step c.args.present.now c.args.event.now) _
    (c.requires.in_doubt _ (c.restart.ensures.images _ (c.open.ensures.images _
    (g.met.D.Disk.reads_as_image c.open.new.disk)))) (rw c.in_default.is at c.in_ok-found.ensures.found)

pub returns-clause-decided : goal.returns-clause-decided
returns-clause-decided g c x now =
    let s = g.S.Stored in
    let image = g.D.Disk.seen c.open.new.disk in
    let found = c.in-Some.found in
    let is = rw c.in-Some.is at c.in_ok-found.ensures.found in
    let held =
    settled s.start s.step c.args.self.now (of_event g.S.Stored.step c.args.present.now c.args.event.now) image
    found.log found.text.items found.records is (c.requires.in_doubt _
    (c.restart.ensures.images _ (c.open.ensures.images _ (g.met.D.Disk.reads_as_image c.open.new.disk)))) in
    subst (λ (p : List ℕ × Revived). Holds s.start s.step found.log
    (ended p.1 (of_event g.S.Stored.step c.args.present.now c.args.event.now)) p.0)
    (λ i. (
      sym (c.in_ok-found.ensures.durable x now) i,
      sym c.settle-revived.ensures i,
    )) held

pub returns-clause-lost : goal.returns-clause-lost
returns-clause-lost g c begun =
    let s = g.S.Stored in
    let image = g.D.Disk.seen c.open.new.disk in
    let found = c.in-Some.found in
    let is = rw c.in-Some.is at c.in_ok-found.ensures.found in
    c.settle-revived.ensures ∙ lost s.start s.step c.args.self.now
    (of_event s.step c.args.present.now c.args.event.now) image found.log found.text.items found.records is
    (Some c.args.present.now) (begun _ (c.restart.ensures.images _ (c.open.ensures.images _
    (g.met.D.Disk.reads_as_image c.open.new.disk))))

pub returns-clause-pair : goal.returns-clause-pair
returns-clause-pair g c = (rw c.in-Some.is at c.in_ok-found.ensures.found).pair

pub returns-clause-durable : goal.returns-clause-durable
returns-clause-durable g c x now = c.in_ok-found.ensures.durable x now

pub returns-clause-any_moment : goal.returns-clause-any_moment
returns-clause-any_moment g c =
    let d = g.D.Disk in
    let s = g.S.Stored in
    let old = c.args.disk.now in
    let first =
    first_run d.moment d.left_since d.images old c.restart.new.self
    (g.met.D.Disk.only_now old) c.restart.ensures.images c.restart.ensures.time in
    let run =
    then_run d.moment d.left_since d.images old c.restart.new.self c.open.new.disk first c.restart.ensures.images
    c.open.ensures.any_moment in
    weaker d.moment d.left_since old c.open.new.disk (d.images old)
    (Either s.start s.step (layout_of c.args.self.now.half)
    (of_event g.S.Stored.step c.args.present.now c.args.event.now)) (λ x was. either s.start s.step
    c.args.self.now (of_event g.S.Stored.step c.args.present.now c.args.event.now) x
    (c.requires.in_doubt x was)) run

pub returns-in_err-restart-clause-no_writes : goal.returns-in_err-restart-clause-no_writes
returns-in_err-restart-clause-no_writes g c =
    let d = g.D.Disk in
    let old = c.args.disk.now in
    first_run d.moment d.left_since d.images old c.restart.new.self
    (g.met.D.Disk.only_now old) c.restart.ensures.images c.restart.ensures.time

pub returns-in_err-found-clause-no_writes : goal.returns-in_err-found-clause-no_writes
returns-in_err-found-clause-no_writes g c =
    let d = g.D.Disk in
    let old = c.args.disk.now in
    let first =
    first_run d.moment d.left_since d.images old c.restart.new.self
    (g.met.D.Disk.only_now old) c.restart.ensures.images c.restart.ensures.time in
    then_run d.moment d.left_since d.images old c.restart.new.self c.open.new.disk first c.restart.ensures.images
    c.open.ensures.any_moment

pub returns-in_err-found-clause-images : goal.returns-in_err-found-clause-images
returns-in_err-found-clause-images g c x now = c.restart.ensures.images x (c.open.ensures.images x now)

pub returns-clause-no_writes : goal.returns-clause-no_writes
returns-clause-no_writes g c =
    let d = g.D.Disk in
    let old = c.args.disk.now in
    let first =
    first_run d.moment d.left_since d.images old c.restart.new.self
    (g.met.D.Disk.only_now old) c.restart.ensures.images c.restart.ensures.time in
    then_run d.moment d.left_since d.images old c.restart.new.self c.open.new.disk first c.restart.ensures.images
    c.open.ensures.any_moment

pub returns-clause-images : goal.returns-clause-images
returns-clause-images g c x now = c.restart.ensures.images x (c.open.ensures.images x now)

pub returns-in_err-restart-clause-known : goal.returns-in_err-restart-clause-known
returns-in_err-restart-clause-known g c =
    let s = g.S.Stored in
    revive_known s.start s.step c.args.self.now c.args.present.now c.args.event.now
    (g.D.Disk.images c.restart.new.self) c.from_residual.result
    (let p = err_from_is_err_and c.from_residual.result c.from_residual.ensures.1 in rw p.1 tt)
    (returns-in_err-restart-clause-in_doubt g c)

pub returns-in_err-found-clause-known : goal.returns-in_err-found-clause-known
returns-in_err-found-clause-known g c =
    let s = g.S.Stored in
    let result = c.from_residual-in_err-found.result in
    revive_known s.start s.step c.args.self.now c.args.present.now c.args.event.now
    (g.D.Disk.images c.open.new.disk) result
    (let p = err_from_is_err_and result c.from_residual-in_err-found.ensures.1 in rw p.1 tt)
    (returns-in_err-found-clause-in_doubt g c)

pub returns-clause-known : goal.returns-clause-known
returns-clause-known g c =
    let s = g.S.Stored in
    revive_known s.start s.step c.in-Some.found.log c.args.present.now c.args.event.now
    (g.D.Disk.images c.open.new.disk) (Ok c.settle-revived.result) (returns-clause-decided g c) tt
