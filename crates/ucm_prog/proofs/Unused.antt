-- The disks that a command is given, and what becomes of them.
use Rattle.std.proofs.Common.{◌≡◌, ◌≤◌, ◌<◌, ℕ, List, [], ◌∷◌, length, replicate, take, get_or, refl, sym, subst, ap, ◌∙◌, arith}
use Rattle.std.specs.List.{insert, remove}
use Rattle.disk_core.specs.declared.plan.FaultPlan.{FaultPlan}
use Rattle.disk_core.specs.Images.{EachImage}
use Rattle.slot_store.specs.Extents.{HasExtents, node_end, node_places}
use Rattle.node_store.specs.Open.{IsBlank}
use Rattle.node_replay.proofs.Zeros.{zeros_blank}
use Rattle.ucm_prog.specs.Disks.{AreDisks, IsUnused, Node1Goes}

-- an unused disk of a node can be formatted
pub unused_extents : (seen : List ℕ) (images : List ℕ → Type 0) (armed : FaultPlan)
    → IsUnused node_end seen images armed → HasExtents node_places seen
unused_extents seen images armed is = omega (arith, is.large)

pub unused_blank : (seen : List ℕ) (images : List ℕ → Type 0) (armed : FaultPlan)
    → IsUnused node_end seen images armed → EachImage images IsBlank
unused_blank seen images armed is = λ c one. zeros_blank (length seen) c (is.durable c one ∙ is.zeros)

module _ {A : Type 0} where
  -- no disk changes
  pub stays : (Is : ℕ → A → Type 0) (step : A → A → Type 0) (disks : List A) → AreDisks Is disks
      → ((d : A) → step d d) → Node1Goes step disks disks
  stays Is step [] are same = absurd are
  stays Is step (master ∷ []) are same = absurd (omega (arith, are.1))
  stays Is step (master ∷ d ∷ others) are same = (d, same d, refl)

  pub goes_so : (step step' : A → A → Type 0) (disks after : List A)
      → ((d d' : A) → step d d' → step' d d') → Node1Goes step disks after → Node1Goes step' disks after
  goes_so step step' [] after more goes = goes
  goes_so step step' (master ∷ []) after more goes = goes
  goes_so step step' (master ∷ d ∷ others) after more (d', is, same) = (d', more d d' is, same)

  -- the disk of node 1 is one of a node
  pub second : (Is : ℕ → A → Type 0) (disks : List A) (d : A) → AreDisks Is disks → d ≡ get_or disks 1 d
      → Is node_end d
  second Is [] d are same = absurd are
  second Is (master ∷ []) d are same = absurd (omega (arith, are.1))
  second Is (master ∷ e ∷ others) d are same = subst (Is node_end) (sym same) (are.2.0)

  pub many : (Is : ℕ → A → Type 0) (disks : List A) → AreDisks Is disks → 2 ≤ length disks
  many Is [] are = absurd are
  many Is (master ∷ nodes) are = omega (arith, are.1)

  -- it was taken out and put back
  pub put_back : (step : A → A → Type 0) (disks others after : List A) (d d' : A) → 2 ≤ length disks
      → d ≡ get_or disks 1 d → others ≡ remove disks 1 → after ≡ insert others 1 d' → step d d'
      → Node1Goes step disks after
  put_back step [] others after d d' two is out back so = absurd (omega (arith, two))
  put_back step (master ∷ []) others after d d' two is out back so = absurd (omega (arith, two))
  put_back step (master ∷ e ∷ rest) others after d d' two is out back so =
      (d', subst (λ x. step x d') is so, back ∙ ap (λ os. insert os 1 d') out)

-- the disk of node 1 is unused
pub found : {A : Type 0} (seen : A → List ℕ) (images : A → List ℕ → Type 0) (armed : A → FaultPlan)
    (disks reserved : List A) (d : A) → AreDisks (λ size e. IsUnused size (seen e) (images e) (armed e)) disks
    → reserved ≡ disks → d ≡ get_or reserved 1 d → IsUnused node_end (seen d) (images d) (armed d)
found seen images armed disks reserved d are same is =
    second (λ size e. IsUnused size (seen e) (images e) (armed e)) disks d are (is ∙ ap (λ ds. get_or ds 1 d) same)
