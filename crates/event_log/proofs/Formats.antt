-- The moments of formatting.
use Rattle.std.proofs.Common.{◌≡◌, ⊎_elim, ℕ, List, None, ◌∙◌}
use Rattle.disk_core.specs.Images.{EachImage, From, Within}
use Rattle.disk_core.specs.Moments.{Elapses, LeavesOnly}
use Rattle.disk_core.proofs.Pieces.{torn_none}
use Rattle.disk_core.proofs.Moments.{started, weaker, joined}
use Rattle.disk_core.proofs.Runs.{first_run}
use Rattle.disk_area.proofs.Steps.{torn_both}
use Rattle.checkpoint.specs.Halves.{layout_of, other, half_of}
use Rattle.checkpoint.specs.Counting.{MayClose, MayOpen}
use Rattle.checkpoint.proofs.Switches.{gate_in_head}
use Rattle.event_log.specs.Beside.{InHalves}
use Rattle.event_log.proofs.Elsewhere.{by_head}

module _ {D : Type 0} (moment : D → ℕ) (left_since : D → ℕ → List ℕ → Type 0) (images : D → List ℕ → Type 0) (half : ℕ)
    (old : D) (none : EachImage (images old) (λ image. half_of (other half) image ≡ None)) where
  -- an image of before in whose halves something changed, but the other half reads as nothing
  abbrev pub Formats : List ℕ → Type 0
  Formats x = From (images old) (InHalves (layout_of half)) x × (half_of (other half) x ≡ None)

  was : EachImage (images old) Formats
  was x now = ((x, now, torn_none _ _ x), none x now)

  pub not_begun : EachImage (left_since old (moment old)) (images old) → LeavesOnly moment left_since old old Formats
  not_begun here = started moment left_since old Formats (λ x left. was x (here x left))

  pub synced : (mid : D) → EachImage (left_since old (moment old)) (images old) → Within (images old) (images mid)
      → Elapses (moment old) (moment mid) (left_since old) (left_since mid) (images mid)
      → LeavesOnly moment left_since old mid Formats
  synced mid here within time = weaker moment left_since old mid (images old) Formats was
      (first_run moment left_since images old mid here within time)

  closed : (s : List ℕ) → images old s → EachImage (MayClose half s) Formats
  closed s now x may = ((s, now, by_head half s x may.outside), may.beside ∙ none s now)

  pub closing : (mid new : D) (s : List ℕ) → images old s → LeavesOnly moment left_since old mid Formats
      → LeavesOnly moment left_since mid new (MayClose half s) → LeavesOnly moment left_since old new Formats
  closing mid new s now so_far more =
      joined moment left_since old mid new Formats (MayClose half s) so_far more (closed s now)

  opened : (s e : List ℕ) → images old s → MayClose half s e → EachImage (MayOpen half e) Formats
  opened s e now may x = ⊎_elim
      (λ shut. (
        (
          s,
          now,
          torn_both _ _ s e x (by_head half s e may.outside) (by_head half e x (gate_in_head half e x shut.gate)),
        ),
        shut.beside ∙ may.beside ∙ none s now,
      ))
      (λ opens. (
        (
          s,
          now,
          torn_both _ _ s e x (by_head half s e may.outside) (by_head half e x (gate_in_head half e x opens.gate)),
        ),
        opens.beside ∙ may.beside ∙ none s now,
      ))

  pub opening : (mid new : D) (s e : List ℕ) → images old s → MayClose half s e
      → LeavesOnly moment left_since old mid Formats → LeavesOnly moment left_since mid new (MayOpen half e)
      → LeavesOnly moment left_since old new Formats
  opening mid new s e now may so_far more =
      joined moment left_since old mid new Formats (MayOpen half e) so_far more (opened s e now may)

  -- both parts of it
  pub other_none : (new : D) → LeavesOnly moment left_since old new Formats
      → LeavesOnly moment left_since old new (λ image. half_of (other half) image ≡ None)
  other_none new run = weaker moment left_since old new Formats (λ image. half_of (other half) image ≡ None)
      (λ x formats. formats.1) run

  pub in_halves : (new : D) → LeavesOnly moment left_since old new Formats
      → LeavesOnly moment left_since old new (From (images old) (InHalves (layout_of half)))
  in_halves new run = weaker moment left_since old new Formats (From (images old) (InHalves (layout_of half)))
      (λ x formats. formats.0) run
