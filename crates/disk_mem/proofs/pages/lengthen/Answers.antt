use Rattle.std.proofs.Common.{◌≡◌, ℕ, ◌+◌, ◌-◌, ◌≤◌, List, [], ◌∷◌, ◌++◌, Option, None, replicate, ◌∙◌, ap, arith, append_assoc}
use Rattle.std.proofs.lemmas.List.{replicate_more}
use Rattle.std.proofs.lemmas.Grind.{common_steps}
use Rattle.disk_mem.specs.declared.leaf.Leaf.{Leaf}
use Rattle.disk_mem.proofs.pages.lengthen.Goals as goal

-- one place more
one_more : (first all : List (Option Leaf)) (n m : ℕ) → m ≤ n → all ≡ first ++ replicate (n - m) None
    → all ++ None ∷ [] ≡ first ++ replicate (n + 1 - m) None
one_more first all n m le is =
    ap (λ (xs : List (Option Leaf)). xs ++ None ∷ []) is
    ∙ append_assoc first (replicate (n - m) None) (None ∷ [])
    ∙ ap (λ (xs : List (Option Leaf)). first ++ xs) (replicate_more (n - m) None
    ∙ ap (λ (k : ℕ). replicate k None) (omega (arith, le)))

pub loop-place-preserved : goal.loop-place-preserved
loop-place-preserved c = grind (arith, common_steps, one_more)
