use Rattle.std.proofs.Common.{rules, ◌≡◌, ⊎_elim, refl, sym, subst}
use Rattle.std.specs.Prelude.{IsSome}
use Rattle.decision_log.specs.Answers.{Revives, counted_again}
use Rattle.decision_log.specs.declared.answers.MasterRevived.{MasterRevived}
use Rattle.decision_log.specs.declared.answers.MasterRevived.TheVariants.{Lost, Nothing}
use Rattle.decision_log.specs.declared.list.MasterLog.{MasterLog}
use Rattle.master_gate.specs.Stands.{StandsFor}
use Rattle.master_gate.proofs.Stands.{same, stays_closed, stood}
use Rattle.master_gate.proofs.shared.SharedLog.settle.Goals as goal

pub returns-in-Stood-clause-stands : goal.returns-in-Stood-clause-stands
returns-in-Stood-clause-stands g c o stands =
    let d = g.D.Disk in
    let mid = c.make_room.new.self in
    let new = c.revive.new.self in
    let after = c.list.new.self.events.items in
    let found = subst (λ (r : MasterRevived). Revives r mid.log.campaign.fold mid.log.pending new.campaign.fold)
    c.in-Stood.is c.in_ok-stood.ensures.revives in
    let on = same d.moment d.left_since d.seen d.images o c.args.self.now.log mid.log c.args.self.now.events.items
    mid.events.items stands c.make_room.ensures.log c.make_room.ensures.events in
    let counted = subst (λ (r : MasterRevived). new.count ≡ counted_again r mid.log.count) c.in-Stood.is
    c.in_ok-stood.ensures.count in
    subst (λ (l : MasterLog g.row.D.Denot). StandsFor d.moment d.left_since d.seen d.images o l after)
    (sym c.list.ensures.log)
    (stood d.moment d.left_since d.seen d.images o mid.log new mid.events.items after on c.in-Stood.stood found.0
    c.list.ensures.events found.1 counted c.revive.ensures.known c.revive.ensures.any_moment)

pub returns-in_err-stood-clause-stands : goal.returns-in_err-stood-clause-stands
returns-in_err-stood-clause-stands g c o stands =
    let d = g.D.Disk in
    let old = c.args.self.now in
    let mid = c.make_room.new.self in
    let said = c.in_err-stood.ensures in
    let closed : IsSome mid.log.pending = search rules in
    let on = same d.moment d.left_since d.seen d.images o old.log mid.log old.events.items mid.events.items stands
    c.make_room.ensures.log c.make_room.ensures.events in
    stays_closed d.moment d.left_since d.seen d.images o mid.log c.revive.new.self mid.events.items mid.events.items on
    closed refl said.fold said.same_count c.revive.ensures.known c.revive.ensures.any_moment

pub returns-in-Lost-clause-stands : goal.returns-in-Lost-clause-stands
returns-in-Lost-clause-stands g c o stands =
    let d = g.D.Disk in
    let old = c.args.self.now in
    let mid = c.make_room.new.self in
    let new = c.revive.new.self in
    let said = c.in_ok-stood.ensures in
    let closed : IsSome mid.log.pending = search rules in
    let ends = λ (r : MasterRevived). Revives r mid.log.campaign.fold mid.log.pending new.campaign.fold in
    let counts = λ (r : MasterRevived). new.count ≡ counted_again r mid.log.count in
    let it = c.in_ok-stood.field-0 in
    let fold : new.campaign.fold ≡ mid.log.campaign.fold = ⊎_elim (λ (t : it ≡ Lost). (subst ends t said.revives).1)
    (λ (t : it ≡ Nothing). (subst ends t said.revives).1) c.in-Lost.is in
    let count : new.count ≡ mid.log.count = ⊎_elim (λ (t : it ≡ Lost). subst counts t said.count)
    (λ (t : it ≡ Nothing). subst counts t said.count) c.in-Lost.is in
    let on = same d.moment d.left_since d.seen d.images o old.log mid.log old.events.items mid.events.items stands
    c.make_room.ensures.log c.make_room.ensures.events in
    stays_closed d.moment d.left_since d.seen d.images o mid.log new mid.events.items mid.events.items on closed refl
    fold count c.revive.ensures.known c.revive.ensures.any_moment
