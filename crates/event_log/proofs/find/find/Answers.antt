use Rattle.std.proofs.Common.{◌≡◌, ◌<◌, ℕ, List, Option, Some, sym, ◌∙◌, subst}
use Rattle.std.specs.Option.{IfSome}
use Rattle.disk_area.specs.Windows.{window}
use Rattle.journal.specs.Records.{taken}
use Rattle.journal.specs.Ready.{GoesOn}
use Rattle.checkpoint.specs.Halves.{Body, HasPair, layout_of, journal_area}
use Rattle.checkpoint.specs.declared.layout.Layout.{Layout}
use Rattle.event_log.specs.Meaning.{current}
use Rattle.event_log.specs.Meaning.{events_of}
use Rattle.event_log.specs.Finds.{IsFound}
use Rattle.disk_core.proofs.Runs.{then_run, same_both}
use Rattle.event_log.proofs.OneLog.{can_go_on}
use Rattle.event_log.proofs.find.find.Goals as goal

-- what holds of a half that counts, by the pair
of_pair : {A : Type 0} (P : A → Type 0) (o : Option A) (a : A) → o ≡ Some a → IfSome o P → P a
of_pair {A} P o a is holds = subst (λ (o : Option A). IfSome o P) is holds

pub with_records-requires-clause-half : goal.with_records-requires-clause-half
with_records-requires-clause-half g c =
    of_pair (λ (b : ℕ × Body). b.0 < 4) _ _ c.in-Some.is c.in_ok-counting.ensures.half

pub with_records-requires-clause-size : goal.with_records-requires-clause-size
with_records-requires-clause-size g c =
    let pair =
    of_pair (λ (b : ℕ × Body). layout_of b.0 ≡ layout_of c.args.half) _ _ c.in-Some.is
    c.in_ok-counting.ensures.pair in
    subst (λ (p : Layout × List ℕ). HasPair p.0 p.1)
    (λ i. (sym pair i, sym c.read_current.ensures.reads i)) c.requires.size

pub with_records-requires-clause-counts : goal.with_records-requires-clause-counts
with_records-requires-clause-counts g c =
    let pair =
    of_pair (λ (b : ℕ × Body). layout_of b.0 ≡ layout_of c.args.half) _ _ c.in-Some.is
    c.in_ok-counting.ensures.pair in
    (λ i. current g.S.Stored.start (pair i) (c.read_current.ensures.reads i))
    ∙ sym c.in_ok-counting.ensures.current ∙ c.in-Some.is

pub with_records-requires-clause-goes_on : goal.with_records-requires-clause-goes_on
with_records-requires-clause-goes_on g c =
    let image = g.D.Disk.seen c.args.disk.now in
    subst (λ (i : List ℕ). GoesOn (taken (events_of c.in-Some.counting i))
    (window (journal_area c.in-Some.counting) i)) (sym c.read_current.ensures.reads)
    (can_go_on g.S.Stored.start (layout_of c.args.half) image c.in-Some.counting c.in-Some.body c.requires.can
    (sym c.in_ok-counting.ensures.current ∙ c.in-Some.is))

pub returns-in_err-with_records-clause-images : goal.returns-in_err-with_records-clause-images
returns-in_err-with_records-clause-images g c =
    let d = g.D.Disk in
    same_both (d.images c.args.disk.now) (d.images c.read_current.new.disk)
    (d.images c.with_records.new.disk) c.read_current.ensures.images c.with_records.ensures.images

pub returns-in_err-with_records-clause-any_moment : goal.returns-in_err-with_records-clause-any_moment
returns-in_err-with_records-clause-any_moment g c =
    let d = g.D.Disk in
    then_run d.moment d.left_since d.images c.args.disk.now c.read_current.new.disk c.with_records.new.disk
    c.read_current.ensures.any_moment c.read_current.ensures.images.none_new c.with_records.ensures.any_moment

pub returns-clause-found : goal.returns-clause-found
returns-clause-found g c =
    let pair =
    of_pair (λ (b : ℕ × Body). layout_of b.0 ≡ layout_of c.args.half) _ _ c.in-Some.is
    c.in_ok-counting.ensures.pair in
    let found = c.in_ok-with_records.field-0 in
    subst (λ (p : Layout × List ℕ). IsFound g.S.Stored.start p.0 found.log found.text.items found.records p.1)
    (λ i. (pair i, c.read_current.ensures.reads i)) c.in_ok-with_records.ensures.found

pub returns-clause-reads : goal.returns-clause-reads
returns-clause-reads g c = c.with_records.ensures.reads ∙ c.read_current.ensures.reads

pub returns-clause-images : goal.returns-clause-images
returns-clause-images g c =
    let d = g.D.Disk in
    same_both (d.images c.args.disk.now) (d.images c.read_current.new.disk)
    (d.images c.with_records.new.disk) c.read_current.ensures.images c.with_records.ensures.images

pub returns-clause-any_moment : goal.returns-clause-any_moment
returns-clause-any_moment g c =
    let d = g.D.Disk in
    then_run d.moment d.left_since d.images c.args.disk.now c.read_current.new.disk c.with_records.new.disk
    c.read_current.ensures.any_moment c.read_current.ensures.images.none_new c.with_records.ensures.any_moment
