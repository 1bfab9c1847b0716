-- Short texts in a fixed number of bytes: the text, and zeros after it.
use Rattle.std.specs.Prelude.{◌≡◌, ◌-◌, ◌++◌, ℕ, List, length, take, replicate}
use Rattle.std.proofs.Common.{sym, ◌∙◌, ap}

-- the first n of some bytes, and zeros up to their size
abbrev pub IsPadded : ℕ → List ℕ → ℕ → Type 0
IsPadded size bytes n = (length (take n bytes) ≡ n) × (bytes ≡ take n bytes ++ replicate (size - n) 0)

-- the bytes that hold a text
abbrev pub padded : ℕ → List ℕ → List ℕ
padded size text = text ++ replicate (size - length text) 0

pub padded-again : (size : ℕ) (bytes : List ℕ) (n : ℕ) → IsPadded size bytes n → padded size (take n bytes) ≡ bytes
padded-again size bytes n h = ap (λ k. take n bytes ++ replicate (size - k) 0) (h.0) ∙ sym (h.1)
