-- Steps within a window, one after another.
use Rattle.std.proofs.Common.{◌≡◌, ℕ, ◌+◌, ◌-◌, ◌≤◌, List, take, drop, sym, ◌∙◌, ap, arith}
use Rattle.std.proofs.lemmas.List.{drop-drop, take-take}
use Rattle.disk_core.specs.Bytes.{Torn}
use Rattle.disk_core.proofs.Pieces.{torn_none}
use Rattle.disk_area.specs.declared.area.Area.{Area}
use Rattle.disk_area.specs.Windows.{window, InArea}

-- two torn ranges of one place
pub torn_both : (at n : ℕ) (a b c : List ℕ) → Torn at n a b → Torn at n b c → Torn at n a c
torn_both at n a b c s t = record { size = t.size ∙ s.size; before = t.before ∙ s.before; after = t.after ∙ s.after }

-- a torn range within a wider one
pub torn_wider : (at n a m : ℕ) (x y : List ℕ) → a ≤ at → at + n ≤ a + m → Torn at n x y → Torn a m x y
torn_wider at n a m x y low high torn = record {
  size = torn.size;
  before = sym (take-take a at y low) ∙ ap (λ (xs : List ℕ). take a xs) torn.before ∙ take-take a at x low;
  after = further y ∙ ap (λ (xs : List ℕ). drop (a + m - (at + n)) xs) torn.after ∙ sym (further x);
}
  where
    place : a + m ≡ at + n + (a + m - (at + n))
    place = omega (arith, high)

    further : (xs : List ℕ) → drop (a + m) xs ≡ drop (a + m - (at + n)) (drop (at + n) xs)
    further xs = ap (λ (k : ℕ). drop k xs) place ∙ sym (drop-drop (a + m - (at + n)) (at + n) xs)

-- no step
pub stays : (area : Area) (step : List ℕ → List ℕ → Type 0) (a : List ℕ) → step (window area a) (window area a)
    → InArea area step a a
stays area step a s = record { outside = torn_none area.at area.len a; inside = s }

-- two steps
pub both : (area : Area) (first second whole : List ℕ → List ℕ → Type 0) (a b c : List ℕ) → InArea area first a b
    → InArea area second b c
    → (first (window area a) (window area b) → second (window area b) (window area c)
    → whole (window area a) (window area c)) → InArea area whole a c
both area first second whole a b c s t join =
    record { outside = torn_both area.at area.len a b c s.outside t.outside; inside = join s.inside t.inside }

-- a weaker step
pub as_step : (area : Area) (step weak : List ℕ → List ℕ → Type 0) (a b : List ℕ) → InArea area step a b
    → (step (window area a) (window area b) → weak (window area a) (window area b)) → InArea area weak a b
as_step area step weak a b s weaken = record { outside = s.outside; inside = weaken s.inside }
