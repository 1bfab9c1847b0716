-- Images that are lists of events, and stand for the list that they are.
use Rattle.std.specs.Prelude.{◌≡◌, ◌⊎◌, ℕ, ⊤, List, [], ◌∷◌, Some, None}
use Rattle.std.proofs.Common.{refl, inl, inr, arith}
use Rattle.run_claim.specs.Images.{StandsAtExit, StandsAtEachMoment}

abbrev Is : List ℕ → List ℕ → Type 0
Is image state = image ≡ state

abbrev as_it_is : List ℕ → List ℕ
as_it_is events = events

-- with 3 pending after 1 and 2, a crash leaves either
pending : StandsAtExit (λ image. (image ≡ 1 ∷ 2 ∷ []) ⊎ (image ≡ 1 ∷ 2 ∷ 3 ∷ [])) Is as_it_is (1 ∷ 2 ∷ []) (Some 3)
pending image now = now

-- without, the acknowledged 2 may not be missing
dropped : StandsAtExit (λ image. image ≡ 1 ∷ []) Is as_it_is (1 ∷ 2 ∷ []) None → ⊥
dropped h = elim (h (1 ∷ []) refl) [ inl e ↦ cc e | inr f ↦ f ]

-- at an earlier moment an event was pending that was lost
moments : StandsAtEachMoment (λ image. (image ≡ []) ⊎ (image ≡ 9 ∷ [])) Is as_it_is (λ before e. ⊤) (1 ∷ 2 ∷ [])
moments image (inl e) = (0, omega arith, inl e)
moments image (inr e) = (0, omega arith, inr (9, tt, e))
