-- Whether a list rises, by what `is_sorted_by` answers.
use Rattle.std.proofs.Common.{◌≡◌, ◌↔◌, ◌∷◌, ◌∙◌, [], Bool, true, false, List, IsTrue, refl, sym, true≢false, arith}
use Rattle.std.specs.List.{IsAllAdjacentAnswer}
use Rattle.report.specs.Shown.{Rises}

pub decides : {A : Type 0} (before : A → A → Bool) (list : List A) (r : Bool)
    → IsAllAdjacentAnswer (λ x y b. b ≡ before x y) list r → IsTrue r ↔ Rises before list
decides before list true all = ((λ _ k d h. sym (all k d h)), (λ _. refl))
decides before [] false apart = absurd (omega (arith, apart.1))
decides before (x ∷ list) false apart = (
  (λ no. absurd (true≢false (sym no))),
  (λ rises. absurd (true≢false
      (sym (rises apart.0 x apart.1) ∙ sym (apart.2 x)))),
)
