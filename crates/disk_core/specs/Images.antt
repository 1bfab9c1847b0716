-- Crash images: what a crash may leave on a disk, as a set of byte lists.
use Rattle.std.specs.Prelude.{◌≡◌, ℕ, List}

-- each image has this property
abbrev pub EachImage : (List ℕ → Type 0) → (List ℕ → Type 0) → Type 0
EachImage images P = (c : List ℕ) → images c → P c

-- a crash leaves this image and no other
abbrev pub Only : List ℕ → (List ℕ → Type 0) → Type 0
Only image images = EachImage images (λ c. c ≡ image)

-- no new image
abbrev pub Within : (List ℕ → Type 0) → (List ℕ → Type 0) → Type 0
Within old new = (c : List ℕ) → new c → old c

-- the same images
pub record SameImages (old new : List ℕ → Type 0) : Type 0 where
  pub none_new : (c : List ℕ) → new c → old c
  pub none_lost : (c : List ℕ) → old c → new c

-- the image comes from one of these by this step
abbrev pub From : (List ℕ → Type 0) → (List ℕ → List ℕ → Type 0) → List ℕ → Type 0
From images step c = (d : List ℕ) × images d × step d c

-- each new image comes from an old one by this step
abbrev pub Follows : (List ℕ → List ℕ → Type 0) → (List ℕ → Type 0) → (List ℕ → Type 0) → Type 0
Follows step old new = EachImage new (From old step)

-- and whatever comes from an old one by this step is a new image
abbrev pub Allows : (List ℕ → List ℕ → Type 0) → (List ℕ → Type 0) → (List ℕ → Type 0) → Type 0
Allows step old new = (d c : List ℕ) → old d → step d c → new c
