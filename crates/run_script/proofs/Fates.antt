-- In a script in form each attempt of a line has the line's fate, wherever the line stands.
use Rattle.std.proofs.Common.{◌≡◌, ◌≤◌, ℕ, Bool, true, false, List, [], ◌∷◌, ◌++◌, Some, refl, arith}
use Rattle.std.specs.Prelude.{◌||◌, ◌&&◌, not}
use Rattle.std.specs.List.{list_any}
use Rattle.std.proofs.lemmas.Bool.Decides.{nat_tests}
use Rattle.range_set.specs.Ranges.{track_range}
use Rattle.run_script.specs.declared.lines.FateLine.{FateLine}
use Rattle.run_script.specs.InForm.{are_apart, ranges_meet}
use Rattle.run_script.specs.Plans.{fate_given, has_attempt}
use Rattle.run_script.specs.Taken.{attempts_of}

abbrev Entry : Type 0
Entry = (ℕ × ℕ) × ℕ

abbrev entry : FateLine → Entry
entry f = track_range f.node f.first f.last

either : (x y : Bool) → (x || y) ≡ false → (x ≡ false) × (y ≡ false)
either true y h = absurd (cc)
either false y h = (refl, h)

both : (x y : Bool) → (not x && y) ≡ true → (x ≡ false) × (y ≡ true)
both true y h = absurd (cc)
both false y h = (refl, h)

-- what meets none of some lines doesn't meet one of them
not-met : (g : FateLine) (before after : List FateLine) (f : FateLine)
    → list_any (ranges_meet (entry g)) (attempts_of (before ++ f ∷ after)) ≡ false
    → ranges_meet (entry g) (entry f) ≡ false
not-met g [] after f h = (either (ranges_meet (entry g) (entry f)) _ h).0
not-met g (x ∷ xs) after f h =
    not-met g xs after f (either (ranges_meet (entry g) (entry x)) _ h).1

elsewhere : (g f : FateLine) (attempt : ℕ) → ranges_meet (entry g) (entry f) ≡ false → f.first ≤ attempt
    → attempt ≤ f.last → has_attempt f.node attempt g ≡ false
elsewhere g f attempt h from to = grind (arith, nat_tests)

pub fate-of-line : (before after : List FateLine) (f : FateLine) (attempt : ℕ)
    → are_apart ranges_meet (attempts_of (before ++ f ∷ after)) ≡ true → f.first ≤ attempt → attempt ≤ f.last
    → fate_given (before ++ f ∷ after) f.node attempt ≡ Some f.fate
fate-of-line [] after f attempt apart from to =
    let here : has_attempt f.node attempt f ≡ true = grind (arith, nat_tests) in rw here refl
fate-of-line (g ∷ gs) after f attempt apart from to =
    let b = both (list_any (ranges_meet (entry g)) (attempts_of (gs ++ f ∷ after))) _ apart in
    let other : has_attempt f.node attempt g ≡ false = elsewhere g f attempt (not-met g gs after f b.0) from to in
    rw other (fate-of-line gs after f attempt b.1 from to)
