-- The moments of a switch.
use Rattle.std.proofs.Common.{◌≡◌, inl, ℕ, ◌+◌, List, Option, Some}
use Rattle.disk_core.specs.Images.{EachImage}
use Rattle.disk_core.specs.Moments.{LeavesOnly}
use Rattle.disk_core.proofs.Moments.{started, weaker, joined}
use Rattle.checkpoint.specs.Halves.{other, stored_in}
use Rattle.checkpoint.specs.Counting.{MayClose, MayOpen}
use Rattle.event_log.specs.Holds.{Holds}
use Rattle.event_log.specs.Doubts.{MaySwitch}
use Rattle.event_log.specs.declared.log.Log.{Log}
use Rattle.event_log.proofs.Steps.{kept, may_switch}

module _ {D : Type 0} (moment : D → ℕ) (left_since : D → ℕ → List ℕ → Type 0) (images : D → List ℕ
    → Type 0) {S : Type 0} (start : List ℕ → Option S) (step : S → List ℕ
    → Option S) (log : Log) (now : Option S) (old : D)
    (holds : EachImage (images old) (Holds start step log now)) where
  pub not_begun : EachImage (left_since old (moment old)) (images old)
      → LeavesOnly moment left_since old old (MaySwitch start step log now)
  not_begun here = started moment left_since old (MaySwitch start step log now) (λ c left. inl (holds c (here c left)))

  pub prepared : (mid : D) (s : List ℕ) → Holds start step log now s
      → LeavesOnly moment left_since old mid (MayClose (other log.half) s)
      → LeavesOnly moment left_since old mid (MaySwitch start step log now)
  prepared mid s held run = weaker moment left_since old mid (MayClose (other log.half) s)
      (MaySwitch start step log now) (λ c keeps. inl (kept start step log now s c held keeps)) run

  pub opening : (mid new : D) (state : S) (text s : List ℕ) → Holds start step log now s
      → stored_in (other log.half) s ≡ Some (record { generation = log.generation + 1; state = text })
      → start text ≡ Some state → now ≡ Some state
      → LeavesOnly moment left_since old mid (MaySwitch start step log now)
      → LeavesOnly moment left_since mid new (MayOpen (other log.half) s)
      → LeavesOnly moment left_since old new (MaySwitch start step log now)
  opening mid new state text s held stored tells is first second =
      joined moment left_since old mid new (MaySwitch start step log now) (MayOpen (other log.half) s) first second
      (λ c may. may_switch start step log now state text s c held stored tells is may)

-- what holds of each moment of a run holds now
pub at_end : {D : Type 0} (moment : D → ℕ) (left_since : D → ℕ → List ℕ → Type 0) (images : D → List ℕ
    → Type 0) (old new : D) (P : List ℕ
    → Type 0) → EachImage (images new) (left_since new (moment old)) → LeavesOnly moment left_since old new P
    → EachImage (images new) P
at_end moment left_since images old new P counts run c now = run.each c (counts c now)
