use Rattle.std.proofs.Common.{◌≡◌, ◌∙◌, Err, inl, inr, refl, sym, ap, subst, ℕ, ◌<◌, None, Some, true}
use Rattle.ucm_base.specs.Limits.{client_limit}
use Rattle.pm_types.specs.declared.replies.Reached.TheVariants.{Again, Stale}
use Rattle.node_store.specs.Serving.{node_on}
use Rattle.node_gate.specs.Stands.{listing_in, node_after, node_at}
use Rattle.node_gate.proofs.Entered.{gives_up, here, none_pending, stays_open}
use Rattle.node_gate.proofs.Rises.{at_least_one}
use Rattle.node_gate.proofs.Stands.{same_stands, settles_lost}
use Rattle.node_gate.proofs.Stepped.{repeats}
use Rattle.node_gate.proofs.shared.SharedNode.call_open.Goals as goal

pub returns-in-Ok-Again-clause-stands : goal.returns-in-Ok-Again-clause-stands
returns-in-Ok-Again-clause-stands g c o stands =
    let d = g.D.Disk in
    let old = c.args.self.now in
    let opened = c.requires.open in
    let new = c.foresee.new.self in
    stays_open d o old new stands opened
    (c.foresee.ensures.closed ∙ opened) c.in-Ok-Again.ensures.known c.foresee.ensures.node c.foresee.ensures.any_moment

pub returns-in-Ok-Stale-clause-stands : goal.returns-in-Ok-Stale-clause-stands
returns-in-Ok-Stale-clause-stands g c o stands =
    let d = g.D.Disk in
    let old = c.args.self.now in
    let opened = c.requires.open in
    let new = c.foresee.new.self in
    stays_open d o old new stands opened
    (c.foresee.ensures.closed ∙ opened) c.in-Ok-Stale.ensures.known c.foresee.ensures.node c.foresee.ensures.any_moment

pub returns-in-Ok-Again-clause-calls : goal.returns-in-Ok-Again-clause-calls
returns-in-Ok-Again-clause-calls g c o stands =
    let d = g.D.Disk in
    let old = c.args.self.now in
    let opened = c.requires.open in
    let new = c.foresee.new.self in
    let n = node_on old.node.ready.state (d.seen old.node.extents.disk) in
    let low = subst (λ (k : ℕ). k < client_limit) c.number.ensures.number c.number.ensures.form in
    let reached = Again c.in-Ok-Again.reply in
    record {
      settled = record {
        settled = settles_lost old.entries.items old.pending;
        no_doubt = none_pending d o old new stands opened;
      };
      kept = repeats (node_at d.seen o) n old.entries.items stands.fit
          (here d o old new stands opened)
          c.args.client c.args.no c.args.call low reached (λ reply e. absurd (cc e))
          (sym c.in-Ok-Again.field-0-is ∙ c.in-Ok-Again.ensures.reached);
    }

pub returns-in-Ok-Stale-clause-calls : goal.returns-in-Ok-Stale-clause-calls
returns-in-Ok-Stale-clause-calls g c o stands =
    let d = g.D.Disk in
    let old = c.args.self.now in
    let opened = c.requires.open in
    let new = c.foresee.new.self in
    let n = node_on old.node.ready.state (d.seen old.node.extents.disk) in
    let low = subst (λ (k : ℕ). k < client_limit) c.number.ensures.number c.number.ensures.form in
    let reached = Stale c.in-Ok-Stale.last in
    record {
      settled = record {
        settled = settles_lost old.entries.items old.pending;
        no_doubt = none_pending d o old new stands opened;
      };
      kept = repeats (node_at d.seen o) n old.entries.items stands.fit
          (here d o old new stands opened)
          c.args.client c.args.no c.args.call low reached (λ reply e. absurd (cc e))
          (sym c.in-Ok-Stale.field-0-is ∙ c.in-Ok-Stale.ensures.reached);
    }

pub returns-in-Ok-Done-clause-calls : goal.returns-in-Ok-Done-clause-calls
returns-in-Ok-Done-clause-calls g c o stands =
    let d = g.D.Disk in
    let old = c.args.self.now in
    let opened = c.requires.open in
    let new = c.foresee.new.self in
    c.enter.ensures.calls o
    (stays_open d o old new stands opened
    (c.foresee.ensures.closed ∙ opened) c.in-Ok-Done.ensures.known c.foresee.ensures.node c.foresee.ensures.any_moment)

pub returns-in-Ok-Done-clause-stands : goal.returns-in-Ok-Done-clause-stands
returns-in-Ok-Done-clause-stands g c o stands =
    let d = g.D.Disk in
    let old = c.args.self.now in
    let opened = c.requires.open in
    let new = c.foresee.new.self in
    c.enter.ensures.stands o
    (stays_open d o old new stands opened
    (c.foresee.ensures.closed ∙ opened) c.in-Ok-Done.ensures.known c.foresee.ensures.node c.foresee.ensures.any_moment)

pub returns-in-Err-OutOfMemory-clause-stands : goal.returns-in-Err-OutOfMemory-clause-stands
returns-in-Err-OutOfMemory-clause-stands g c o stands =
    let d = g.D.Disk in
    let old = c.args.self.now in
    let opened = c.requires.open in
    let new = c.foresee.new.self in
    let kept = c.foresee.ensures.memory (c.in-Err-OutOfMemory.is ∙ ap Err c.in-Err-OutOfMemory.field-0-is) in
    stays_open d o old new stands opened
    (c.foresee.ensures.closed ∙ opened) kept c.foresee.ensures.node c.foresee.ensures.any_moment

pub returns-clause-stands : goal.returns-clause-stands
returns-clause-stands g c o stands =
    let d = g.D.Disk in
    let old = c.args.self.now in
    let opened = c.requires.open in
    let mid = c.foresee.new.self in
    let end = c.shut-faults.new.self in
    let new = record mid { is_closed = true } in
    let run = c.foresee.ensures.any_moment in
    same_stands d o old.fails.items new old.entries.items None end
    (ap (λ v. v.items) c.shut-faults.ensures.fails) c.shut-faults.ensures.closed
    (ap (λ v. v.items) c.shut-faults.ensures.entries) c.shut-faults.ensures.pending
    (gives_up d o old new stands opened
    c.foresee.ensures.state refl
    (λ image now. run.each image (g.met.D.Disk.counts_now mid.extents.disk (d.moment old.node.extents.disk) image
    run.later now)) run)
