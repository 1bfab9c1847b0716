use Rattle.std.proofs.Common.{rules, ◌≡◌, ◌+◌, ◌*◌, ◌/◌, ◌≤◌, ℕ, List, [], length, refl, sym, ap, subst, ◌∙◌, arith}
use Rattle.std.proofs.lemmas.List.{append-nil}
use Rattle.disk_core.specs.Moments.{Elapses}
use Rattle.disk_mem.specs.declared.event.Event.TheVariants.{Restarted}
use Rattle.disk_mem.specs.Events.{Course, settled_at, torn, course_of, kept_by, IsImage, MayLeave}
use Rattle.disk_mem.specs.Laws.{reads_as_image}
use Rattle.disk_mem.specs.Medium.{course}
use Rattle.disk_mem.specs.Tears.{Mends, mended}
use Rattle.disk_mem.proofs.Images.{only_settled}
use Rattle.disk_mem.proofs.History.{kept-push, course_restarted, elapses_push, Left}
use Rattle.disk_mem.proofs.Mending.{mended_size, mends_none, mends_torn, torn_settled, torn_image}
use Rattle.disk_mem.proofs.medium.Medium.restart.Goals as goal

-- where nothing is pending the tear takes nothing
pub returns-then-self-clause-torn : goal.returns-then-self-clause-torn
returns-then-self-clause-torn c =
    let m = c.args.self.now in
    sym (ap (torn m.tear) (m.pending (search rules)) ∙ torn_settled m.tear m.pages.bytes)

pub returns-then-self-clause-one : goal.returns-then-self-clause-one
returns-then-self-clause-one c =
    reads_as_image (course c.args.self.now) c.args.self.now.pages.bytes c.args.self.now.replayed

pub returns-then-self-clause-durable : goal.returns-then-self-clause-durable
returns-then-self-clause-durable c =
    only_settled (course c.args.self.now) c.args.self.now.pages.bytes (c.args.self.now.pending (search rules))

-- what is mended is what the tear says
pub returns-clause-torn : goal.returns-clause-torn
returns-clause-torn c =
    let m = c.args.self.now in
    c.mend.ensures.mended
    ∙ ap (λ (xs : List ℕ). mended m.torn_ranges.items m.torn_bytes.items xs) (sym m.replayed)
    ∙ mends_torn m.tear m.torn_ranges.items m.torn_bytes.items (course m) m.mends

pub returns-clause-size : goal.returns-clause-size
returns-clause-size c =
    let m = c.args.self.now in
    ap length c.mend.ensures.mended
    ∙ mended_size m.pages.bytes m.torn_ranges.items m.torn_bytes.items m.within m.all

pub returns-clause-one : goal.returns-clause-one
returns-clause-one c =
    let m = c.args.self.now in
    subst (λ (xs : List ℕ). MayLeave (course m) xs) (sym (returns-clause-torn c))
    (torn_image m.tear m.torn_ranges.items m.torn_bytes.items (course m) m.mends
    (subst (λ (n : ℕ). Rattle.disk_mem.specs.Tears.AllWithin n m.torn_ranges.items) (ap length (sym m.replayed))
    m.within) m.all)

pub returns-clause-course : goal.returns-clause-course
returns-clause-course c =
    let m = c.args.self.now in
    ap (λ (s : ℕ). course_of m.tear s c.push_reserved.new.self.items m.pieces.items) (returns-clause-size c)
    ∙ course_restarted m.tear (length m.pages.bytes) m.events.items c.push_reserved.new.self.items m.pieces.items m.kept
    c.push_reserved.ensures.items ∙ ap settled_at (sym (returns-clause-torn c))

pub returns-clause-durable : goal.returns-clause-durable
returns-clause-durable c = only_settled _ c.mend.new.pages.bytes (returns-clause-course c)

pub returns-clause-time : goal.returns-clause-time
returns-clause-time c =
    let m = c.args.self.now in
    let later = c.push_reserved.new.self.items in
    subst (λ (s : ℕ). Elapses (length m.events.items) (length later)
    (Left m.tear (length m.pages.bytes) m.events.items m.pieces.items) (Left m.tear s later m.pieces.items)
    (MayLeave (course_of m.tear s later m.pieces.items))) (sym (returns-clause-size c))
    (elapses_push m.tear (length m.pages.bytes) m.events.items later Restarted m.pieces.items []
    m.pieces.items c.push_reserved.ensures.items (sym (append-nil m.pieces.items)) m.kept)

pub invariant_of-self : goal.invariant_of-self
invariant_of-self c =
    let m = c.args.self.now in
    let mends =
    c.mend.ensures.mended
    ∙ ap (λ (xs : List ℕ). mended m.torn_ranges.items m.torn_bytes.items xs) (sym m.replayed)
    ∙ mends_torn m.tear m.torn_ranges.items m.torn_bytes.items (course m) m.mends in
    let long =
    ap length c.mend.ensures.mended
    ∙ mended_size m.pages.bytes m.torn_ranges.items m.torn_bytes.items m.within m.all in
    let is =
    ap (λ (s : ℕ). course_of m.tear s c.push_reserved.new.self.items m.pieces.items) long
    ∙ course_restarted m.tear (length m.pages.bytes) m.events.items c.push_reserved.new.self.items m.pieces.items m.kept
    c.push_reserved.ensures.items ∙ ap settled_at (sym mends) in
    record {
      replayed = ap (λ (k : Course). k.now) is;
      kept = ap kept_by c.push_reserved.ensures.items ∙ kept-push m.events.items Restarted ∙ omega (arith, m.kept);
      pending = λ e. is;
      mends = subst (λ (p : List (ℕ × ℕ) × Course). Mends m.tear p.0 c.mend.new.bytes.items p.1)
          (λ i. (sym c.mend.ensures.ranges i, sym is i))
          (mends_none m.tear c.mend.new.bytes.items c.mend.new.pages.bytes);
      all = search rules;
      within = search rules;
      events_room = search rules;
      pieces_room = search rules;
      ranges_room = omega (arith, m.ranges_room, c.mend.ensures.ranges_len, c.mend.ensures.ranges_capacity);
      bytes_room = omega (arith, m.bytes_room, c.mend.ensures.bytes_len, c.mend.ensures.bytes_capacity);
      pages_room = omega (
        arith,
        m.pages_room,
        c.mend.ensures.ranges_len,
        c.mend.ensures.bytes_len,
        c.mend.ensures.pages,
      );
      leaves_room = omega (
        arith,
        m.leaves_room,
        c.mend.ensures.ranges_len,
        c.mend.ensures.bytes_len,
        c.mend.ensures.leaves,
      );
      small = omega (arith, long, m.small);
    }
