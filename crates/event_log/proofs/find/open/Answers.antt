use Rattle.std.proofs.Common.{◌≡◌, List, ℕ, Option, Some, None, sym, ◌∙◌, ap, subst}
use Rattle.std.specs.Option.{MatchOption, IfSome}
use Rattle.disk_core.specs.Images.{EachImage, Only}
use Rattle.checkpoint.specs.Halves.{Body, layout_of}
use Rattle.checkpoint.specs.declared.layout.Layout.{Layout}
use Rattle.event_log.specs.Meaning.{state_of, current, meaning, means_by}
use Rattle.event_log.specs.Holds.{Holds}
use Rattle.event_log.specs.Finds.{IsFound, found_state}
use Rattle.event_log.specs.declared.find.Found.{Found}
use Rattle.event_log.proofs.Steps.{stands_for}
use Rattle.event_log.proofs.OneLog.{found_holds}
use Rattle.disk_core.proofs.Runs.{first_run, then_run}
use Rattle.event_log.proofs.find.open.Goals as goal

pub returns-in_err-sync-clause-any_moment : goal.returns-in_err-sync-clause-any_moment
returns-in_err-sync-clause-any_moment g c =
    let d = g.D.Disk in
    first_run d.moment d.left_since d.images c.args.disk.now c.sync.new.self
    (g.met.D.Disk.only_now c.args.disk.now) c.sync.ensures.images c.sync.ensures.time

pub returns-in_err-find-clause-any_moment : goal.returns-in_err-find-clause-any_moment
returns-in_err-find-clause-any_moment g c =
    let d = g.D.Disk in
    let first =
    first_run d.moment d.left_since d.images c.args.disk.now c.sync.new.self
    (g.met.D.Disk.only_now c.args.disk.now) c.sync.ensures.images c.sync.ensures.time in
    then_run d.moment d.left_since d.images c.args.disk.now c.sync.new.self c.find.new.disk first
    c.sync.ensures.images c.find.ensures.any_moment

pub returns-clause-any_moment : goal.returns-clause-any_moment
returns-clause-any_moment g c =
    let d = g.D.Disk in
    let first =
    first_run d.moment d.left_since d.images c.args.disk.now c.sync.new.self
    (g.met.D.Disk.only_now c.args.disk.now) c.sync.ensures.images c.sync.ensures.time in
    then_run d.moment d.left_since d.images c.args.disk.now c.sync.new.self c.find.new.disk first
    c.sync.ensures.images c.find.ensures.any_moment

opened_holds : {S : Type 0} (start : List ℕ → Option S) (step : S → List ℕ
    → Option S) (layout : Layout) (found : Option Found) (image : List ℕ) (images : List ℕ
    → Type 0) → Only image images → MatchOption found (current start layout image ≡ None) (λ f. IsFound start
    layout f.log f.text.items f.records image)
    → IfSome found (λ f. EachImage images (Holds start step f.log (state_of start step f.text.items f.records)))
opened_holds start step layout None image images only is = tt
opened_holds start step layout (Some f) image images only is =
    λ x now. subst (λ (i : List ℕ). Holds start step f.log (state_of start step f.text.items f.records) i)
    (sym (only x now)) (found_holds start step layout f.log f.text.items f.records image is)

pub returns-clause-holds : goal.returns-clause-holds
returns-clause-holds g c =
    let d = g.D.Disk in
    opened_holds g.S.Stored.start g.S.Stored.step (layout_of c.args.half) c.in_ok-find.field-0
    (d.seen c.sync.new.self) (d.images c.find.new.disk)
    (λ x now. c.in_ok-sync.ensures.durable x (c.find.ensures.images.none_new x now)
    ∙ sym c.sync.ensures.reads) c.in_ok-find.ensures.found

opened_means : {S : Type 0} (start : List ℕ → Option S) (step : S → List ℕ
    → Option S) (layout : Layout) (found : Option Found) (image : List ℕ) → MatchOption found (current start layout
    image ≡ None) (λ f. IsFound start layout f.log f.text.items f.records
    image) → meaning start step layout image ≡ found_state start step found
opened_means start step layout None image is = ap (λ (o : Option (ℕ × Body)). means_by start step o image) is
opened_means start step layout (Some f) image is =
    subst (λ (l : Layout). meaning start step l image ≡ state_of start step f.text.items f.records) is.pair
    (stands_for start step f.log (state_of start step f.text.items f.records) image
    (found_holds start step layout f.log f.text.items f.records image is)).means

pub returns-clause-means : goal.returns-clause-means
returns-clause-means g c =
    let d = g.D.Disk in
    ap (λ (i : List ℕ). meaning g.S.Stored.start g.S.Stored.step (layout_of c.args.half) i) c.find.ensures.reads
    ∙ opened_means g.S.Stored.start g.S.Stored.step (layout_of c.args.half) c.in_ok-find.field-0
    (d.seen c.sync.new.self) c.in_ok-find.ensures.found
