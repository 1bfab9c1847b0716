use Rattle.std.proofs.Common.{◌≡◌, ℕ, List, Bool, true, false, refl, sym, subst, ap, ◌∙◌}
use Rattle.disk_core.specs.Images.{EachImage}
use Rattle.event_log.specs.declared.log.Log.{Log}
use Rattle.pm_types.specs.NodeState.{NodeState}
use Rattle.node_core.specs.Core.{Readied}
use Rattle.node_core.specs.Units.{after_work, answer_to}
use Rattle.node_store.specs.Open.{IsOpen}
use Rattle.node_store.specs.Serving.{MakesOne, ServesEither, node_on, stepped}
use Rattle.node_replay.specs.declared.given.Given.TheVariants.{Worked}
use Rattle.node_replay.specs.Lines.{after_event, given_by}
use Rattle.node_replay.specs.Standing.{StandsAt}
use Rattle.node_replay.proofs.events.give.Goals as goal

-- a node that its disk has closed in an event
closed-at : (n m k : NodeState) (closed : Bool) (log : Log) (r : Readied) (seen : List ℕ) (images : List ℕ → Type 0)
    → closed ≡ true → m ≡ k → EachImage images (ServesEither n k) → n.entries ≡ r.state.entries → MakesOne n k
    → StandsAt n m closed log r seen images
closed-at n m k closed log r seen images shut same serves count one =
    subst (λ b. StandsAt n m b log r seen images) (sym shut)
    (subst (λ x. EachImage images (ServesEither n x) × (n.entries ≡ r.state.entries) × MakesOne n x) (sym same)
    (serves, count, one))

-- an open node, behind an event that was answered
open-at : (m k : NodeState) (closed : Bool) (log : Log) (r : Readied) (seen : List ℕ) (images : List ℕ → Type 0)
    → closed ≡ false → m ≡ k → IsOpen log r seen images → node_on r.state seen ≡ k
    → StandsAt m m closed log r seen images
open-at m k closed log r seen images shut same known is =
    subst (λ b. StandsAt m m b log r seen images) (sym shut) (known, is ∙ sym same, refl)

pub returns-in-NoReply-clause-stands : goal.returns-in-NoReply-clause-stands
returns-in-NoReply-clause-stands g c =
    let D = g.D.Disk in
    let old = c.args.node.now in
    let new = c.exec.new.self in
    let n = node_on old.ready.state (D.seen old.extents.disk) in
    let client = c.in-Call.client in
    let call = c.in_ok-call-in-Call.call in
    let e = c.in-NoReply.ensures in
    let made : after_event c.args.script.now c.args.attached.now n c.args.event.now
    ≡ (stepped n client c.in-Call.no call).0 =
    ap (after_event c.args.script.now c.args.attached.now n) c.in-Call.is
    ∙ ap (λ k. (stepped n client c.in-Call.no k).0) (sym c.in_ok-call-in-Call.ensures) in
    closed-at n (after_event c.args.script.now c.args.attached.now n c.args.event.now)
    (stepped n client c.in-Call.no call).0 new.is_closed new.log new.ready (D.seen new.extents.disk)
    (D.images new.extents.disk) e.closed made (e.pending e.closed) (ap (λ s. s.entries) (sym (e.kept e.closed)))
    (c.events_make_one_entry.ensures.call n client c.in-Call.no call)

pub returns-in-Worked-clause-stands : goal.returns-in-Worked-clause-stands
returns-in-Worked-clause-stands g c =
    let D = g.D.Disk in
    let old = c.args.node.now in
    let new = c.work.new.self in
    let n = node_on old.ready.state (D.seen old.extents.disk) in
    let e = c.in-Worked.ensures in
    let fails : c.as_slice.result.now ≡ c.args.script.now.fails = c.as_slice.ensures in
    let made : after_event c.args.script.now c.args.attached.now n c.args.event.now
    ≡ after_work c.as_slice.result.now n =
    ap (after_event c.args.script.now c.args.attached.now n) c.in-Work.is ∙ ap (λ f. after_work f n) (sym fails) in (
      ap (λ w. Worked w) e.answers.0 ∙ (ap (λ f. Worked (answer_to f n)) fails
          ∙ sym (ap (given_by c.args.script.now c.args.attached.now n) c.in-Work.is)),
      open-at (after_event c.args.script.now c.args.attached.now n c.args.event.now)
          (after_work c.as_slice.result.now n) new.is_closed new.log new.ready (D.seen new.extents.disk) (D.images new.extents.disk) e.closed made
          (e.known e.closed) e.answers.1,
    )

pub returns-in-NoReply-work-clause-stands : goal.returns-in-NoReply-work-clause-stands
returns-in-NoReply-work-clause-stands g c =
    let D = g.D.Disk in
    let old = c.args.node.now in
    let new = c.work.new.self in
    let n = node_on old.ready.state (D.seen old.extents.disk) in
    let e = c.in-NoReply-work.ensures in
    let made : after_event c.args.script.now c.args.attached.now n c.args.event.now
    ≡ after_work c.as_slice.result.now n =
    ap (after_event c.args.script.now c.args.attached.now n) c.in-Work.is
    ∙ ap (λ f. after_work f n) (sym c.as_slice.ensures) in
    closed-at n (after_event c.args.script.now c.args.attached.now n c.args.event.now)
    (after_work c.as_slice.result.now n) new.is_closed new.log new.ready (D.seen new.extents.disk)
    (D.images new.extents.disk) e.closed made (e.pending e.closed) (ap (λ s. s.entries) (sym (e.kept e.closed)))
    (c.events_make_one_entry.ensures.unit n c.as_slice.result.now)
