-- The first line of a text, and the lines behind it.
use Rattle.std.proofs.Common.{◌≡◌, ◌<◌, ◌+◌, ◌∙◌, ℕ, List, [], ◌∷◌, Option, Some, None, Bor, length, refl, sym, ap, arith}
use Rattle.std.specs.Prelude.{unwrap_or}
use Rattle.std.proofs.lemmas.List.Splits.{length-slice_split}
use Rattle.scenario.specs.Scripts.{pieces, pieces_left, size_left, text_left}
use Rattle.recipe.specs.Lines.{without_end, lines_in}

-- a line before another stays
before : (line : List ℕ) (lines : List (List ℕ)) → 0 < length lines
    → without_end (line ∷ lines) ≡ line ∷ without_end lines
before [] [] h = absurd (omega arith)
before [] (l ∷ ls) h = refl
before (b ∷ bs) ls h = refl

-- a line alone stays, if it has a byte
alone : (line : List ℕ) → 0 < length line → without_end (line ∷ []) ≡ line ∷ []
alone [] h = absurd (omega arith)
alone (b ∷ bs) h = refl

-- a text that isn't empty begins with a line: its first piece
pub first-line : (text line : List ℕ) (left : Option (Bor (List ℕ))) (none : Bor (List ℕ)) → none.now ≡ []
    → 0 < length text → pieces 10 text ≡ line ∷ pieces_left 10 (text_left left)
    → length line + size_left (text_left left) ≡ length text
    → (lines_in text ≡ line ∷ lines_in (unwrap_or left none).now) × (length (unwrap_or left none).now < length text)
first-line text line (Some rest) none e some split size =
    let more : 0 < length (pieces 10 rest.now) = rw length-slice_split (omega arith) in
    (ap without_end split ∙ before line (pieces 10 rest.now) more, omega (arith, size))
first-line text line None none e some split size = (
  ap without_end split ∙ alone line (omega (arith, size)) ∙ ap (λ (xs : List ℕ). line ∷ lines_in xs) (sym e),
  rw e some,
)
