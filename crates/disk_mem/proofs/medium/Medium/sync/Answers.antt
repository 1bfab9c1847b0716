use Rattle.std.proofs.Common.{rules, ◌≡◌, ◌+◌, ◌*◌, ◌/◌, ◌≤◌, ℕ, List, [], length, sym, ap, subst, ◌∙◌, arith}
use Rattle.std.proofs.lemmas.List.{append-nil}
use Rattle.disk_mem.specs.declared.event.Event.TheVariants.{Synced}
use Rattle.disk_mem.specs.Events.{Course, settled_at, kept_by}
use Rattle.disk_mem.specs.Medium.{course}
use Rattle.disk_mem.specs.Tears.{Mends}
use Rattle.disk_mem.proofs.Images.{only_settled}
use Rattle.disk_mem.proofs.History.{kept-push, course_synced, elapses_push}
use Rattle.disk_mem.proofs.Mending.{mends_none}
use Rattle.disk_mem.proofs.medium.Medium.sync.Goals as goal

pub returns-then-self-clause-durable : goal.returns-then-self-clause-durable
returns-then-self-clause-durable c =
    only_settled (course c.args.self.now) c.args.self.now.pages.bytes (c.args.self.now.pending (search rules))

pub returns-clause-course : goal.returns-clause-course
returns-clause-course c =
    let m = c.args.self.now in
    course_synced m.tear (length m.pages.bytes) m.events.items c.push_reserved.new.self.items m.pieces.items m.kept
    c.push_reserved.ensures.items ∙ ap settled_at m.replayed

pub returns-clause-durable : goal.returns-clause-durable
returns-clause-durable c = only_settled _ c.args.self.now.pages.bytes (returns-clause-course c)

pub returns-clause-time : goal.returns-clause-time
returns-clause-time c =
    let m = c.args.self.now in
    elapses_push m.tear (length m.pages.bytes) m.events.items c.push_reserved.new.self.items Synced m.pieces.items []
    m.pieces.items c.push_reserved.ensures.items (sym (append-nil m.pieces.items)) m.kept

pub invariant_of-self : goal.invariant_of-self
invariant_of-self c =
    let m = c.args.self.now in
    let is =
    course_synced m.tear (length m.pages.bytes) m.events.items c.push_reserved.new.self.items m.pieces.items m.kept
    c.push_reserved.ensures.items ∙ ap settled_at m.replayed in
    record {
      replayed = ap (λ (k : Course). k.now) is;
      kept = ap kept_by c.push_reserved.ensures.items ∙ kept-push m.events.items Synced ∙ omega (arith, m.kept);
      pending = λ e. is;
      mends = subst (λ (p : List (ℕ × ℕ) × Course). Mends m.tear p.0 c.clear-2.new.self.items p.1)
          (λ i. (sym c.clear.ensures.items i, sym is i))
          (mends_none m.tear c.clear-2.new.self.items m.pages.bytes);
      all = search rules;
      within = search rules;
      events_room = search rules;
      pieces_room = search rules;
      ranges_room = omega (arith, m.ranges_room, c.clear.ensures.len, c.clear.ensures.capacity);
      bytes_room = omega (arith, m.bytes_room, c.clear-2.ensures.len, c.clear-2.ensures.capacity);
      pages_room = omega (arith, m.pages_room, c.clear.ensures.len, c.clear-2.ensures.len);
      leaves_room = omega (arith, m.leaves_room, c.clear.ensures.len, c.clear-2.ensures.len);
      small = search rules;
    }
