-- What the images of a disk stand for, whatever its events and states are.
use Rattle.std.specs.Prelude.{◌≡◌, ◌⊎◌, ℕ, ◌≤◌, Bool, true, false, List, [], ◌∷◌, ◌++◌, length, take, Option, Some, None}

-- the image stands for the state after these events and the pending one, where one is pending
abbrev pub StandsWith : {I E S : Type 0} → (I → S → Type 0) → (List E → S) → List E → Option E → I → Type 0
StandsWith stands state events None image = ⊥
StandsWith stands state events (Some e) image = stands image (state (events ++ e ∷ []))

-- each image of now stands for the history's state, or for the one after the pending event
abbrev pub StandsAtExit : {I E S : Type 0} → (I → Type 0) → (I → S → Type 0) → (List E → S) → List E → Option E → Type 0
StandsAtExit {I} now stands state history pending =
    (image : I) → now image → stands image (state history) ⊎ StandsWith stands state history pending image

-- the image stands for a prefix of the history, or for one with an event that may come after it
abbrev pub StandsForPrefix : {I E S : Type 0} → (I → S → Type 0) → (List E → S) → (List E → E → Type 0) → List E → I
    → Type 0
StandsForPrefix {I} {E} stands state may_follow history image =
    (n : ℕ) × (n ≤ length history)
    × (stands image (state (take n history))
    ⊎ ((e : E) × may_follow (take n history) e × stands image (state (take n history ++ e ∷ []))))

-- each image of any moment since the formatting does
abbrev pub StandsAtEachMoment : {I E S : Type 0} → (I → Type 0) → (I → S → Type 0) → (List E → S)
    → (List E → E → Type 0) → List E → Type 0
StandsAtEachMoment {I} since stands state may_follow history =
    (image : I) → since image → StandsForPrefix stands state may_follow history image

-- the plan of a disk: the script's where it is used and all were formatted, that or the empty one where a formatting
-- ended the run, else the empty one
abbrev pub PlanIsDue : {P : Type 0} → (used unformatted : Bool) → (script empty armed : P) → Type 0
PlanIsDue true false script empty armed = armed ≡ script
PlanIsDue true true script empty armed = (armed ≡ script) ⊎ (armed ≡ empty)
PlanIsDue false _ script empty armed = armed ≡ empty
