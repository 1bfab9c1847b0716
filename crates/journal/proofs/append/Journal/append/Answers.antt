use Rattle.std.proofs.Common.{◌≡◌, ◌+◌, ◌≤◌, ℕ, List, length, ◌∙◌, subst, arith}
use Rattle.disk_core.specs.Bytes.{Puts, Torn}
use Rattle.disk_core.specs.Images.{EachImage, From}
use Rattle.disk_core.specs.Moments.{LeavesOnly}
use Rattle.disk_area.specs.Windows.{InArea}
use Rattle.disk_core.proofs.Moments.{started, goes_on}
use Rattle.journal.proofs.Appends.{body, ready_room}
use Rattle.journal.proofs.Moments.{reserved, body_written, gate_written, done}
use Rattle.journal.proofs.append.Journal.append.Goals as goal

pub overflow_sub-self : goal.overflow_sub-self
overflow_sub-self g c =
    omega (
      arith,
      ready_room c.args.self.now.area c.args.self.now.used _
          (c.requires.ready _ (g.met.D.Disk.reads_as_image c.args.disk.now)),
    )

pub returns-in_err-write_synced-clause-any_moment : goal.returns-in_err-write_synced-clause-any_moment
returns-in_err-write_synced-clause-any_moment g c =
    let d = g.D.Disk in
    let a = c.args.self.now.area in
    let used = c.args.self.now.used in
    let payload = c.args.payload.now in
    let old = c.args.disk.now in
    let fits : used + 6 + length payload ≤ a.len = omega (arith, c.if-self-taken.false) in
    let piece : c.deref.result.now ≡ body payload = c.deref.ensures.value ∙ c.in_ok-body.ensures in
    let start =
    reserved d.moment d.left_since d.images a used payload c.requires.short fits old c.requires.ready
    c.reserve.new.self (g.met.D.Disk.only_now old) c.reserve.ensures.images c.reserve.ensures.time in
    body_written d.moment d.left_since d.images a used payload c.requires.short fits old c.requires.ready
    c.reserve.new.self c.write_synced.new.disk c.reserve.ensures.images start
    (subst (λ (b : List ℕ). LeavesOnly d.moment d.left_since c.reserve.new.self c.write_synced.new.disk
    (From (d.images c.reserve.new.self) (InArea a
    (Torn (used + 1) (length b))))) piece c.write_synced.ensures.any_moment)

pub returns-in_err-write_synced-2-clause-any_moment : goal.returns-in_err-write_synced-2-clause-any_moment
returns-in_err-write_synced-2-clause-any_moment g c =
    let d = g.D.Disk in
    let a = c.args.self.now.area in
    let used = c.args.self.now.used in
    let payload = c.args.payload.now in
    let old = c.args.disk.now in
    let fits : used + 6 + length payload ≤ a.len = omega (arith, c.if-self-taken.false) in
    let piece : c.deref.result.now ≡ body payload = c.deref.ensures.value ∙ c.in_ok-body.ensures in
    let start =
    reserved d.moment d.left_since d.images a used payload c.requires.short fits old c.requires.ready
    c.reserve.new.self (g.met.D.Disk.only_now old) c.reserve.ensures.images c.reserve.ensures.time in
    let half = body_written d.moment d.left_since d.images a used payload c.requires.short fits old
    c.requires.ready c.reserve.new.self c.write_synced.new.disk c.reserve.ensures.images start
    (subst (λ (b : List ℕ). LeavesOnly d.moment d.left_since c.reserve.new.self c.write_synced.new.disk
    (From (d.images c.reserve.new.self) (InArea a
    (Torn (used + 1) (length b))))) piece c.write_synced.ensures.any_moment) in
    let put : EachImage (d.images c.write_synced.new.disk) (InArea a (Puts (used + 1) (body payload)) (d.seen old)) =
    λ x now. subst (λ (p : List ℕ × List ℕ). InArea a (Puts (used + 1) p.0) p.1 x)
    (λ i. (piece i, c.reserve.ensures.reads i)) (c.in_ok-write_synced.ensures.written x now) in
    gate_written d.moment d.left_since d.images a used payload c.requires.short fits old c.requires.ready
    c.write_synced.new.disk c.write_synced-2.new.disk (d.seen old)
    (g.met.D.Disk.reads_as_image old) put half c.write_synced-2.ensures.any_moment

pub returns-clause-any_moment : goal.returns-clause-any_moment
returns-clause-any_moment g c =
    let d = g.D.Disk in
    let a = c.args.self.now.area in
    let used = c.args.self.now.used in
    let payload = c.args.payload.now in
    let old = c.args.disk.now in
    let fits : used + 6 + length payload ≤ a.len = omega (arith, c.if-self-taken.false) in
    let piece : c.deref.result.now ≡ body payload = c.deref.ensures.value ∙ c.in_ok-body.ensures in
    let start =
    reserved d.moment d.left_since d.images a used payload c.requires.short fits old c.requires.ready
    c.reserve.new.self (g.met.D.Disk.only_now old) c.reserve.ensures.images c.reserve.ensures.time in
    let half = body_written d.moment d.left_since d.images a used payload c.requires.short fits old
    c.requires.ready c.reserve.new.self c.write_synced.new.disk c.reserve.ensures.images start
    (subst (λ (b : List ℕ). LeavesOnly d.moment d.left_since c.reserve.new.self c.write_synced.new.disk
    (From (d.images c.reserve.new.self) (InArea a
    (Torn (used + 1) (length b))))) piece c.write_synced.ensures.any_moment) in
    let put : EachImage (d.images c.write_synced.new.disk) (InArea a (Puts (used + 1) (body payload)) (d.seen old)) =
    λ x now. subst (λ (p : List ℕ × List ℕ). InArea a (Puts (used + 1) p.0) p.1 x)
    (λ i. (piece i, c.reserve.ensures.reads i)) (c.in_ok-write_synced.ensures.written x now) in
    gate_written d.moment d.left_since d.images a used payload c.requires.short fits old c.requires.ready
    c.write_synced.new.disk c.write_synced-2.new.disk (d.seen old)
    (g.met.D.Disk.reads_as_image old) put half c.write_synced-2.ensures.any_moment

pub returns-clause-acknowledged : goal.returns-clause-acknowledged
returns-clause-acknowledged g c x now =
    let d = g.D.Disk in
    let a = c.args.self.now.area in
    let used = c.args.self.now.used in
    let payload = c.args.payload.now in
    let old = c.args.disk.now in
    let mid = d.seen c.write_synced.new.disk in
    let fits : used + 6 + length payload ≤ a.len = omega (arith, c.if-self-taken.false) in
    let piece : c.deref.result.now ≡ body payload = c.deref.ensures.value ∙ c.in_ok-body.ensures in
    let put =
    subst (λ (p : List ℕ × List ℕ). InArea a (Puts (used + 1) p.0) p.1 mid)
    (λ i. (piece i, c.reserve.ensures.reads i))
    (c.in_ok-write_synced.ensures.written mid (g.met.D.Disk.reads_as_image c.write_synced.new.disk)) in
    done a used payload c.requires.short fits (d.seen old)
    (c.requires.ready _ (g.met.D.Disk.reads_as_image old)) mid x put (c.in_ok-write_synced-2.ensures.written x now)

pub returns-clause-ready : goal.returns-clause-ready
returns-clause-ready g c x now =
    let d = g.D.Disk in
    let a = c.args.self.now.area in
    let used = c.args.self.now.used in
    let payload = c.args.payload.now in
    let old = c.args.disk.now in
    let mid = d.seen c.write_synced.new.disk in
    let fits : used + 6 + length payload ≤ a.len = omega (arith, c.if-self-taken.false) in
    let piece : c.deref.result.now ≡ body payload = c.deref.ensures.value ∙ c.in_ok-body.ensures in
    let put =
    subst (λ (p : List ℕ × List ℕ). InArea a (Puts (used + 1) p.0) p.1 mid)
    (λ i. (piece i, c.reserve.ensures.reads i))
    (c.in_ok-write_synced.ensures.written mid (g.met.D.Disk.reads_as_image c.write_synced.new.disk)) in
    let ready = c.requires.ready _ (g.met.D.Disk.reads_as_image old) in
    let grown =
    done a used payload c.requires.short fits (d.seen old) ready mid x put
    (c.in_ok-write_synced-2.ensures.written x now) in
    record { inside = omega (arith, grown.outside.size, ready.inside); goes_on = grown.inside.goes_on }

pub returns-in_err-reserve-clause-memory_moment : goal.returns-in_err-reserve-clause-memory_moment
returns-in_err-reserve-clause-memory_moment g c e =
    let d = g.D.Disk in
    let old = c.args.disk.now in
    goes_on d.moment d.left_since old old c.reserve.new.self (d.images old) _
    (started d.moment d.left_since old (d.images old)
    (g.met.D.Disk.only_now old)) c.reserve.ensures.time c.reserve.ensures.images.none_new

pub returns-in_err-body-clause-memory_moment : goal.returns-in_err-body-clause-memory_moment
returns-in_err-body-clause-memory_moment g c e =
    let d = g.D.Disk in
    let old = c.args.disk.now in
    started d.moment d.left_since old (d.images old) (g.met.D.Disk.only_now old)

pub returns-then-self-taken-clause-full_moment : goal.returns-then-self-taken-clause-full_moment
returns-then-self-taken-clause-full_moment g c e =
    let d = g.D.Disk in
    let old = c.args.disk.now in
    started d.moment d.left_since old (d.images old) (g.met.D.Disk.only_now old)
