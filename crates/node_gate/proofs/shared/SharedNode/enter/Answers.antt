use Rattle.std.proofs.Common.{◌≡◌, ◌∙◌, ◌++◌, ◌∷◌, [], Err, refl, sym, ap, None, Some, true}
use Rattle.pm_types.specs.declared.history.Entry.TheVariants.{Numbered}
use Rattle.node_store.specs.Serving.{node_on, stepped}
use Rattle.node_gate.specs.Stands.{node_after}
use Rattle.node_gate.proofs.Entered.{entered, here, none_pending, pends, stays_without}
use Rattle.node_gate.proofs.Rises.{at_least_one}
use Rattle.node_gate.proofs.Stands.{same_stands, settles_lost}
use Rattle.node_gate.proofs.Stepped.{call_goes}
use Rattle.node_gate.proofs.shared.SharedNode.enter.Goals as goal

pub returns-in-Ok-clause-stands : goal.returns-in-Ok-clause-stands
returns-in-Ok-clause-stands g c o stands =
    let d = g.D.Disk in
    let old = c.args.self.now in
    let opened = c.requires.open in
    let new = c.enter.new.self in
    let end = c.list.new.self in
    let e = Numbered c.args.client c.args.no c.args.call c.args.reply in
    let n = node_on old.node.ready.state (d.seen old.node.extents.disk) in
    let none = none_pending d o old new stands opened in
    let goes = call_goes n (node_after d.seen o old.entries.items) (here d o old new stands opened)
    c.args.client c.args.no c.args.call c.args.reply old.fails.items c.requires.client c.requires.due in
    same_stands d o old.fails.items new (old.entries.items ++ e ∷ []) None end (ap (λ v. v.items) c.list.ensures.fails)
    c.list.ensures.node c.list.ensures.entries (c.list.ensures.pending ∙ none)
    (entered d o old new stands opened
    e (stepped n c.args.client c.args.no c.args.call).0 goes.0 (goes.1, goes.2) (c.enter.ensures.closed ∙ opened)
    c.in-Ok.ensures.known (ap (λ t. t.0) c.in-Ok.ensures.stepped) c.enter.ensures.any_moment)

pub returns-in-Err-OutOfMemory-clause-stands : goal.returns-in-Err-OutOfMemory-clause-stands
returns-in-Err-OutOfMemory-clause-stands g c o stands =
    let d = g.D.Disk in
    let old = c.args.self.now in
    let opened = c.requires.open in
    let new = c.enter.new.self in
    let e = Numbered c.args.client c.args.no c.args.call c.args.reply in
    let n = node_on old.node.ready.state (d.seen old.node.extents.disk) in
    let goes = call_goes n (node_after d.seen o old.entries.items) (here d o old new stands opened)
    c.args.client c.args.no c.args.call c.args.reply old.fails.items c.requires.client c.requires.due in
    let kept = c.enter.ensures.memory (c.in-Err-OutOfMemory.is ∙ ap Err c.in-Err-OutOfMemory.field-0-is) in
    stays_without d o old new stands opened
    e (stepped n c.args.client c.args.no c.args.call).0 goes.0 (goes.1, goes.2) (c.enter.ensures.closed ∙ opened)
    kept.0 kept.1 c.enter.ensures.any_moment

pub returns-in-Err-Failed-clause-stands : goal.returns-in-Err-Failed-clause-stands
returns-in-Err-Failed-clause-stands g c o stands =
    let d = g.D.Disk in
    let old = c.args.self.now in
    let opened = c.requires.open in
    let mid = c.enter.new.self in
    let end = c.shut-faults.new.self in
    let new = record mid { is_closed = true } in
    let e = Numbered c.args.client c.args.no c.args.call c.args.reply in
    let n = node_on old.node.ready.state (d.seen old.node.extents.disk) in
    let goes = call_goes n (node_after d.seen o old.entries.items) (here d o old new stands opened)
    c.args.client c.args.no c.args.call c.args.reply old.fails.items c.requires.client c.requires.due in
    let run = c.enter.ensures.any_moment in
    same_stands d o old.fails.items new old.entries.items (Some e) end (ap (λ v. v.items) c.shut-faults.ensures.fails)
    c.shut-faults.ensures.closed (ap (λ v. v.items) c.shut-faults.ensures.entries) c.shut-faults.ensures.pending
    (pends d o old new stands opened
    e (stepped n c.args.client c.args.no c.args.call).0 goes.0 (goes.1, goes.2) c.in-Err-Failed.ensures.kept refl
    (λ image now. run.each image (g.met.D.Disk.counts_now mid.extents.disk (d.moment old.node.extents.disk) image
    run.later now)) run)
