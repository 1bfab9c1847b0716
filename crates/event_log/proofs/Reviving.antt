-- How a doubt is settled by what is found.
use Rattle.std.proofs.Common.{◌≡◌, ◌≢◌, ⊎_elim, ℕ, ◌+◌, ◌<◌, cond, ◌&&◌, not, eqb, List, Option, Some, None, refl, sym, ◌∙◌, ap, subst, arith}
use Rattle.std.proofs.lemmas.Bool.{cond-false, and_left, eq-eqb, ne_eqb}
use Rattle.checkpoint.specs.Halves.{Body, HasPair, layout_of}
use Rattle.checkpoint.specs.declared.layout.Layout.{Layout}
use Rattle.checkpoint.proofs.Places.{same_layout}
use Rattle.event_log.specs.Meaning.{current}
use Rattle.event_log.specs.Holds.{Stands, Holds, CanOpen}
use Rattle.event_log.specs.Doubts.{Doubt, InDoubt, MaySwitch, switched, ended}
use Rattle.event_log.specs.Finds.{IsFound}
use Rattle.event_log.specs.Settles.{settles}
use Rattle.event_log.specs.declared.log.Log.{Log}
use Rattle.event_log.specs.declared.revive.Revived.{Revived}
use Rattle.event_log.specs.declared.revive.Revived.TheVariants.{Stood, Lost}
use Rattle.event_log.proofs.OneLog.{same_log}
use Rattle.event_log.proofs.Steps.{either}

stood_by : (a m n : ℕ) → m ≢ n → cond (eqb a a && not (eqb m n)) Stood Lost ≡ Stood
stood_by a m n more = (λ i. cond (eq-eqb a a refl i && not (ne_eqb m n more i)) Stood Lost)

lost_by_used : (a m : ℕ) → cond (eqb a a && not (eqb m m)) Stood Lost ≡ Lost
lost_by_used a m = (λ i. cond (eq-eqb a a refl i && not (eq-eqb m m refl i)) Stood Lost)

lost_by_generation : (a b m n : ℕ) → a ≢ b → cond (eqb a b && not (eqb m n)) Stood Lost ≡ Lost
lost_by_generation a b m n unlike =
    cond-false (eqb a b && not (eqb m n)) Stood Lost (and_left (eqb a b) (not (eqb m n)) (ne_eqb a b unlike))

no_half : (o : Option (ℕ × Body)) (half : ℕ) (body : Body) → o ≡ Some (half, body) → o ≡ None → ⊥
no_half o half body some none = cc

module _ {S : Type 0} (start : List ℕ → Option S) (step : S → List ℕ
    → Option S) (log : Log) (doubt : Doubt S) (image : List ℕ) where
  pub doubt_size : InDoubt start step log doubt image → HasPair (layout_of log.half) image
  doubt_size doubts = ⊎_elim (λ before. before.size) (λ after. after.size) (either start step log doubt image doubts)

  pub doubt_opens : InDoubt start step log doubt image → CanOpen start (layout_of log.half) image
  doubt_opens doubts = ⊎_elim (λ before. before.opens) (λ after. after.opens) (either start step log doubt image doubts)

  none_by : (l : Log) (text : List ℕ) → layout_of l.half ≡ layout_of log.half → Stands start l text image
      → current start (layout_of log.half) image ≡ None → ⊥
  none_by l text pair stands none = no_half (current start (layout_of l.half) image) l.half
      (record { generation = l.generation; state = text }) stands.counts
      (ap (λ (o : Layout). current start o image) pair ∙ none)

  pub doubt_reads : InDoubt start step log doubt image → current start (layout_of log.half) image ≡ None → ⊥
  doubt_reads doubts none = ⊎_elim
      (⊎_elim (λ held. none_by log held.text refl held.stands none)
      (λ held. none_by (switched log) held.text (same_layout log.half) held.stands none))
      (λ longer. none_by (record log { used = longer.0 }) longer.2.text refl longer.2.stands none)
      doubts

  module _ (found : Log) (text : List ℕ) (records : List (List ℕ))
      (is : IsFound start (layout_of log.half) found text records image) where
    settled_as : (l : Log) (revived : Revived) → layout_of l.half ≡ layout_of log.half → settles log l ≡ revived
        → Holds start step l (ended revived doubt) image
        → Holds start step found (ended (settles log found) doubt) image
    settled_as l revived pair settled held =
        let same = same_log start l found held.text text image (pair ∙ sym is.pair) held.stands is.stands in
        subst (λ (l : Log). Holds start step l (ended (settles log l) doubt) image) same
        (subst (λ (r : Revived). Holds start step l (ended r doubt) image) (sym settled) held)

    by_log : settles log log ≡ Lost
    by_log = lost_by_used log.generation log.used

    by_switch : settles log (switched log) ≡ Lost
    by_switch = lost_by_generation (log.generation + 1) log.generation 0 log.used (next log.generation)
      where
        next : (n : ℕ) → n + 1 ≢ n
        next n same = omega (arith, same)

    pub settled : InDoubt start step log doubt image → Holds start step found (ended (settles log found) doubt) image
    settled doubts = ⊎_elim
        (⊎_elim
        (λ held. settled_as log Lost refl by_log held)
        (λ held. settled_as (switched log) Lost (same_layout log.half) by_switch held))
        (λ longer. settled_as (record log { used = longer.0 }) Stood refl
        (stood_by log.generation longer.0 log.used (above longer.0 log.used longer.1)) longer.2)
        doubts
      where
        above : (m n : ℕ) → n < m → m ≢ n
        above m n lt same = omega (arith, lt, same)

    -- where the switch alone was begun, the event is lost
    pub lost : (now : Option S) → MaySwitch start step log now image → settles log found ≡ Lost
    lost now = ⊎_elim
        (λ held. ap (λ (l : Log). settles log l)
        (sym (same_log start log found held.text text image (sym is.pair) held.stands is.stands)) ∙ by_log)
        (λ held. ap (λ (l : Log). settles log l)
        (sym (same_log start (switched log) found held.text text image
        (same_layout log.half ∙ sym is.pair) held.stands is.stands)) ∙ by_switch)
