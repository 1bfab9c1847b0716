use Rattle.std.proofs.Common.{rules, ◌≡◌, ℕ, ◌+◌, ◌-◌, ◌≤◌, List, [], ◌∷◌, ◌++◌, length, take, sym, ap, subst, ◌∙◌, arith, length-append, length-take}
use Rattle.disk_core.specs.Bytes.{put_at, Torn}
use Rattle.disk_core.specs.Images.{Follows, Allows}
use Rattle.disk_core.specs.Moments.{Elapses}
use Rattle.disk_mem.specs.declared.event.Event.TheVariants.{Wrote}
use Rattle.disk_mem.specs.Events.{Course, wrote, course_of, kept_by, MayLeave}
use Rattle.disk_mem.specs.Medium.{course, images}
use Rattle.disk_mem.specs.Tears.{bytes_kept, total, AllWithin, Mends, more}
use Rattle.disk_mem.proofs.Images.{wrote_torn, wrote_size, wrote_follows, wrote_allows}
use Rattle.disk_mem.proofs.History.{kept-push, course_wrote, elapses_push, Left}
use Rattle.disk_mem.proofs.Mending.{mends_wrote, total_wrote, within_wrote}
use Rattle.disk_mem.proofs.Rooms.{more-add, pages_wrote, leaves_wrote}
use Rattle.disk_mem.proofs.medium.Medium.write.Goals as goal

pub returns-clause-reads : goal.returns-clause-reads
returns-clause-reads c =
    wrote_torn c.args.at (length c.args.bytes.now) (take c.args.kept c.args.bytes.now) c.args.self.now.pages.bytes _
    (omega (arith, length-take c.args.kept c.args.bytes.now)) c.requires.range c.write.ensures.bytes

pub returns-clause-course : goal.returns-clause-course
returns-clause-course c =
    let m = c.args.self.now in
    let piece = take c.args.kept c.args.bytes.now in
    let size = wrote_size c.args.at (length c.args.bytes.now) piece m.pages.bytes c.write.new.self.bytes
    (omega (arith, length-take c.args.kept c.args.bytes.now)) c.requires.range c.write.ensures.bytes in
    let all : c.extend_from_slice.new.self.items ≡ m.pieces.items ++ piece = search rules in
    let long : length piece ≡ c.args.kept = omega (arith, length-take c.args.kept c.args.bytes.now, c.requires.kept) in
    ap (λ (s : ℕ). course_of m.tear s c.push_reserved.new.self.items c.extend_from_slice.new.self.items) size
    ∙ course_wrote m.tear (length m.pages.bytes) m.events.items c.push_reserved.new.self.items m.pieces.items m.kept
    c.args.at (length c.args.bytes.now) c.args.kept piece c.extend_from_slice.new.self.items
    c.push_reserved.ensures.items all long

pub returns-clause-images : goal.returns-clause-images
returns-clause-images c =
    let m = c.args.self.now in
    let piece = take c.args.kept c.args.bytes.now in
    subst (λ (k : Course). Follows (Torn c.args.at (length c.args.bytes.now)) (images m) (MayLeave k))
    (sym (returns-clause-course c))
    (wrote_follows c.args.at (length c.args.bytes.now) piece (course m)
    (omega (arith, length-take c.args.kept c.args.bytes.now))
    (omega (arith, c.requires.range, ap length m.replayed)))

pub returns-clause-any_bytes : goal.returns-clause-any_bytes
returns-clause-any_bytes c =
    let m = c.args.self.now in
    let piece = take c.args.kept c.args.bytes.now in
    subst (λ (k : Course). Allows (Torn c.args.at (length c.args.bytes.now)) (images m) (MayLeave k))
    (sym (returns-clause-course c))
    (wrote_allows c.args.at (length c.args.bytes.now) piece (course m)
    (omega (arith, length-take c.args.kept c.args.bytes.now))
    (omega (arith, c.requires.range, ap length m.replayed)))

pub returns-clause-time : goal.returns-clause-time
returns-clause-time c =
    let m = c.args.self.now in
    let piece = take c.args.kept c.args.bytes.now in
    let later = c.push_reserved.new.self.items in
    let pieces = c.extend_from_slice.new.self.items in
    let size = wrote_size c.args.at (length c.args.bytes.now) piece m.pages.bytes c.write.new.self.bytes
    (omega (arith, length-take c.args.kept c.args.bytes.now)) c.requires.range c.write.ensures.bytes in
    let all : pieces ≡ m.pieces.items ++ piece = search rules in
    subst (λ (s : ℕ). Elapses (length m.events.items) (length later)
    (Left m.tear (length m.pages.bytes) m.events.items m.pieces.items) (Left m.tear s later pieces)
    (MayLeave (course_of m.tear s later pieces))) (sym size)
    (elapses_push m.tear (length m.pages.bytes) m.events.items later _ m.pieces.items piece pieces
    c.push_reserved.ensures.items all m.kept)

pub invariant_of-self : goal.invariant_of-self
invariant_of-self c =
    let m = c.args.self.now in
    let n : ℕ = length c.args.bytes.now in
    let piece = take c.args.kept c.args.bytes.now in
    let size = wrote_size c.args.at n piece m.pages.bytes c.write.new.self.bytes
    (omega (arith, length-take c.args.kept c.args.bytes.now)) c.requires.range c.write.ensures.bytes in
    let all : c.extend_from_slice.new.self.items ≡ m.pieces.items ++ piece = search rules in
    let long : length piece ≡ c.args.kept = omega (arith, length-take c.args.kept c.args.bytes.now, c.requires.kept) in
    let short : length piece ≤ n = omega (arith, long, c.requires.kept) in
    let fits : c.args.at + n ≤ length (course m).now = omega (arith, c.requires.range, ap length m.replayed) in
    let is =
    ap (λ (s : ℕ). course_of m.tear s c.push_reserved.new.self.items c.extend_from_slice.new.self.items) size
    ∙ course_wrote m.tear (length m.pages.bytes) m.events.items c.push_reserved.new.self.items m.pieces.items m.kept
    c.args.at n c.args.kept piece c.extend_from_slice.new.self.items c.push_reserved.ensures.items all long in
    let bytes_are : c.note.new.bytes.items ≡ m.torn_bytes.items ++ bytes_kept m.tear (course m).now c.args.at n =
    c.note.ensures.bytes
    ∙ ap (λ (xs : List ℕ). m.torn_bytes.items ++ bytes_kept m.tear xs c.args.at n) (sym m.replayed) in
    let writes : m.room_writes ≡ m.room_writes - 1 + 1 = omega (arith, c.requires.room.enough_writes) in
    let room : m.room_bytes ≡ m.room_bytes - n + n = omega (arith, c.requires.room.enough_bytes) in
    record {
      replayed = ap (λ (k : Course). k.now) is
          ∙ ap (λ (xs : List ℕ). put_at xs c.args.at piece) m.replayed ∙ sym c.write.ensures.bytes;
      kept = ap kept_by c.push_reserved.ensures.items ∙ kept-push m.events.items (Wrote c.args.at n c.args.kept)
          ∙ omega (arith, m.kept, ap length all, length-append m.pieces.items piece, long);
      pending = search rules;
      mends = subst (λ (p : List (ℕ × ℕ) × List ℕ × Course). Mends m.tear p.0 p.1 p.2)
          (λ i. (sym c.note.ensures.ranges i, sym bytes_are i, sym is i))
          (mends_wrote c.args.at n piece short m.torn_ranges.items m.torn_bytes.items m.all
          (course m) fits m.tear m.mends);
      all = ap total c.note.ensures.ranges
          ∙ total_wrote c.args.at n piece short m.torn_ranges.items m.torn_bytes.items m.all (course m) fits m.tear
          ∙ ap length (sym bytes_are);
      within = subst (λ (p : ℕ × List (ℕ × ℕ)). AllWithin p.0 p.1)
          (λ i. (sym size i, sym c.note.ensures.ranges i))
          (within_wrote c.args.at n piece short m.torn_ranges.items m.torn_bytes.items m.all (course m) fits m.tear
          (length m.pages.bytes) c.requires.range m.within);
      events_room = search (rules, arith);
      pieces_room = omega (
        arith,
        c.extend_from_slice.ensures.len,
        ap length all,
        length-append m.pieces.items piece,
        long,
      );
      ranges_room = omega (
        arith,
        m.ranges_room,
        c.note.ensures.ranges_len,
        c.note.ensures.ranges_capacity,
        ap (more m.tear) writes,
        more-add m.tear (m.room_writes - 1) 1,
      );
      bytes_room = omega (
        arith,
        m.bytes_room,
        c.note.ensures.bytes_len,
        c.note.ensures.bytes_capacity,
        ap (more m.tear) room,
        more-add m.tear (m.room_bytes - n) n,
      );
      pages_room = pages_wrote m.tear _ _ m.room_writes m.room_bytes _ _ _ _ n (length piece) m.pages.spare _
          writes room short c.note.ensures.ranges_len c.note.ensures.bytes_len m.pages_room c.write.ensures.spare;
      leaves_room = leaves_wrote m.tear _ _ m.room_writes m.room_bytes _ _ _ _ n (length piece) m.pages.leaves _
          writes room short c.note.ensures.ranges_len c.note.ensures.bytes_len m.leaves_room c.write.ensures.leaves;
      small = omega (arith, size, m.small);
    }

pub note-requires-clause-ranges : goal.note-requires-clause-ranges
note-requires-clause-ranges c =
    let m = c.args.self.now in
    let writes : m.room_writes ≡ m.room_writes - 1 + 1 = omega (arith, c.requires.room.enough_writes) in
    omega (arith, m.ranges_room, ap (more m.tear) writes, more-add m.tear (m.room_writes - 1) 1)

pub note-requires-clause-bytes : goal.note-requires-clause-bytes
note-requires-clause-bytes c =
    let m = c.args.self.now in
    let n : ℕ = length c.args.bytes.now in
    let room : m.room_bytes ≡ m.room_bytes - n + n = omega (arith, c.requires.room.enough_bytes) in
    omega (arith, m.bytes_room, ap (more m.tear) room, more-add m.tear (m.room_bytes - n) n)
