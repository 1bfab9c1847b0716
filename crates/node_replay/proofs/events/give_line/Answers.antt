use Rattle.std.proofs.Common.{◌≡◌, ◌⊎◌, inl, inr, ℕ, ◌+◌, ◌<◌, List, Bool, true, false, refl, sym, subst, ap, ◌∙◌, arith}
use Rattle.std.specs.Prelude.{Result, Ok, Err, IfOk}
use Rattle.disk_core.specs.Images.{EachImage}
use Rattle.event_log.specs.declared.log.Log.{Log}
use Rattle.event_log.specs.declared.revive.Revived.{Revived}
use Rattle.event_log.specs.declared.revive.Revived.TheVariants.{Stood, Lost}
use Rattle.pm_types.specs.NodeState.{NodeState}
use Rattle.node_core.specs.Core.{Readied}
use Rattle.node_store.specs.Serving.{MakesOne, ServesEither, ended_in, node_on}
use Rattle.ucm_base.specs.Limits.{entry_limit}
use Rattle.node_replay.specs.Lines.{after_event, given_by}
use Rattle.node_replay.specs.Standing.{StandsAfter, StandsAt, StandsBehind}
use Rattle.node_replay.proofs.events.give_line.Goals as goal
use Rattle.node_replay.proofs.events.give_line.Goals.{then-is_closed+in-Ok, else-is_closed}

if-ok : {A E : Type 0} (r : Result A E) (P Q : A → Type 0) → ((a : A) → P a → Q a) → IfOk r P → IfOk r Q
if-ok (Ok a) P Q more is = more a is
if-ok (Err e) P Q more is = is

one-of : (n m k : NodeState) (revived : Revived) → k ≡ ended_in revived n m → (k ≡ n) ⊎ (k ≡ m)
one-of n m k Stood is = inr is
one-of n m k Lost is = inl is

few-of : (n m k : NodeState) (most : ℕ) → MakesOne n m → m.entries < most → (k ≡ n) ⊎ (k ≡ m) → k.entries < most
few-of n m k most one few (inr same) = subst (λ (x : NodeState). x.entries < most) (sym same) few
few-of n m k most (inl all) few (inl same) =
    subst (λ (x : NodeState). x.entries < most) (sym (same ∙ sym all)) few
few-of n m k most (inr one) few (inl same) =
    omega (arith, one, few, ap (λ (x : NodeState). x.entries) same)

module _ (n m : NodeState) (closed : Bool) (log : Log) (r : Readied) (seen : List ℕ) (images : List ℕ → Type 0)
    (stands : StandsAt n m closed log r seen images) where
  -- the node is closed
  as-closed : closed ≡ true → StandsAt n m true log r seen images
  as-closed is = subst (λ b. StandsAt n m b log r seen images) is stands

  -- or open
  as-open : closed ≡ false → StandsAt n m false log r seen images
  as-open is = subst (λ b. StandsAt n m b log r seen images) is stands

  one-at : (b : Bool) → StandsAt n m b log r seen images → MakesOne n m
  one-at true is = is.2
  one-at false is = inl is.2

pub give-requires-clause-entries : goal.give-requires-clause-entries
give-requires-clause-entries g c =
    let D = g.D.Disk in
    let old = c.args.node.now in
    let at = c.if-is_closed.node in
    let n = c.requires.stands.0 in
    let m = c.requires.stands.1 in
    let stands = c.requires.stands.3 in
    let one = one-at n m old.is_closed old.log old.ready (D.seen old.extents.disk) (D.images old.extents.disk) stands
    old.is_closed stands in
    few-of n m (node_on at.ready.state (D.seen at.extents.disk)) entry_limit one c.requires.stands.2
    (elim c.if-is_closed.branch [
      | then-is_closed+in-Ok w ↦
          let s = as-closed n m old.is_closed old.log old.ready (D.seen old.extents.disk) (D.images old.extents.disk)
          stands (sym c.is_closed.ensures ∙ w.if-is_closed.true) in
          one-of n m (node_on at.ready.state (D.seen at.extents.disk)) w.in-Ok.field-0
          (ap (λ x. node_on x.ready.state (D.seen x.extents.disk)) w.node-is ∙ w.in-Ok.ensures.ended n m s.0 s.1 s.2)
      | else-is_closed w ↦
          let s = as-open n m old.is_closed old.log old.ready (D.seen old.extents.disk) (D.images old.extents.disk)
          stands (sym c.is_closed.ensures ∙ w.if-is_closed.false) in
          inl (ap (λ x. node_on x.ready.state (D.seen x.extents.disk)) w.node-is ∙ s.1)
    ])

pub returns-clause-stands : goal.returns-clause-stands
returns-clause-stands g c =
    let D = g.D.Disk in
    let old = c.args.node.now in
    let at = c.if-is_closed.node in
    let new = c.give.new.node in
    let k = node_on at.ready.state (D.seen at.extents.disk) in
    let event = c.args.event.now in
    let script = c.args.script.now in
    let attached = c.args.attached.now in
    if-ok c.give.result
    (λ given. StandsAfter k (after_event script attached k event) (given_by script attached k event) given
    new.is_closed new.log new.ready (D.seen new.extents.disk) (D.images new.extents.disk))
    (λ given. (n m : NodeState)
    → StandsAt n m old.is_closed old.log old.ready (D.seen old.extents.disk) (D.images old.extents.disk)
    → StandsBehind script attached event n m given new.is_closed new.log new.ready (D.seen new.extents.disk)
    (D.images new.extents.disk))
    (λ given behind n m stands. inr (
      k,
      elim c.if-is_closed.branch [
        | then-is_closed+in-Ok w ↦
            let s = as-closed n m old.is_closed old.log old.ready (D.seen old.extents.disk) (D.images old.extents.disk)
            stands (sym c.is_closed.ensures ∙ w.if-is_closed.true) in
            one-of n m k w.in-Ok.field-0
            (ap (λ x. node_on x.ready.state (D.seen x.extents.disk)) w.node-is ∙ w.in-Ok.ensures.ended n m s.0 s.1 s.2)
        | else-is_closed w ↦
            let s = as-open n m old.is_closed old.log old.ready (D.seen old.extents.disk) (D.images old.extents.disk)
            stands (sym c.is_closed.ensures ∙ w.if-is_closed.false) in
            inl (ap (λ x. node_on x.ready.state (D.seen x.extents.disk)) w.node-is ∙ s.1)
      ],
      behind,
    ))
    c.give.ensures.stands
