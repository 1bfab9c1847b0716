-- Folding notes.
use Rattle.std.proofs.Common.{◌≡◌, ℕ, ◌+◌, ◌<◌, List, [], ◌∷◌, length, drop, get_or, Option, Some, None, refl, sym, ◌∙◌, ap}
use Rattle.std.proofs.lemmas.List.{drop_more}
use Rattle.event_log.specs.Meaning.{after_all}
use Rattle.disk_tries.specs.Tallies.{with_note}
use Rattle.disk_tries.specs.declared.tally.Tally.{Tally}

pub after_none : (notes : List (List ℕ)) → after_all with_note None notes ≡ None
after_none [] = refl
after_none (note ∷ notes) = after_none notes

-- a note that has no room ends the fold
pub no_room : (tally : Tally) (notes : List (List ℕ)) (i : ℕ) (item note : List ℕ) → i < length notes
    → item ≡ get_or notes i item → note ≡ item → with_note tally note ≡ None
    → after_all with_note (Some tally) (drop i notes) ≡ None
no_room tally notes i item note lt is same none =
    ap (λ (ns : List (List ℕ)). after_all with_note (Some tally) ns) (drop_more notes i item lt)
    ∙ ap (λ (n : List ℕ). after_all with_note (with_note tally n) (drop (i + 1) notes)) (sym is ∙ sym same)
    ∙ ap (λ (o : Option Tally). after_all with_note o (drop (i + 1) notes)) none
    ∙ after_none (drop (i + 1) notes)
