-- The text of one id more.
use Rattle.std.proofs.Common.{◌≡◌, ◌<◌, ◌+◌, ◌++◌, ◌∙◌, ◌∷◌, [], ℕ, List, length, take, get_or, sym, ap, append_assoc}
use Rattle.std.specs.Prelude.{codes}
use Rattle.std.specs.Fmt.{decimal}
use Rattle.std.proofs.lemmas.List.{append-nil, take_more}
use Rattle.pm_types.specs.Text.{more_ids_text}

appended : (ids : List ℕ) (id : ℕ) → more_ids_text (ids ++ id ∷ []) ≡ more_ids_text ids ++ (codes "," ++ decimal id)
appended [] id = append-nil (codes "," ++ decimal id)
appended (x ∷ ids) id =
    ap (λ t. codes "," ++ decimal x ++ t) (appended ids id)
    ∙ sym (append_assoc (codes "," ++ decimal x) (more_ids_text ids) (codes "," ++ decimal id))

pub one-more : (ids : List ℕ) (i : ℕ) → i < length ids
    → more_ids_text (take (i + 1) ids) ≡ more_ids_text (take i ids) ++ (codes "," ++ decimal (get_or ids i 0))
one-more ids i h = ap more_ids_text (take_more ids i 0 h) ∙ appended (take i ids) (get_or ids i 0)
