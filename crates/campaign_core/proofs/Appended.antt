-- The fold of one list after another, and when the two are legal.
use Rattle.std.proofs.Common.{◌≡◌, List, [], ◌∷◌, ◌++◌, refl, None}
use Rattle.campaign_core.specs.declared.events.MasterEvent.{MasterEvent}
use Rattle.campaign_core.specs.declared.fold.Fold.{Fold}
use Rattle.campaign_core.specs.Campaign.{campaign_from, after_event, refusal_of, IsLegalFrom}

-- the fold goes on from that of the first list
pub fold_append : (f : Fold) (es gs : List MasterEvent)
    → campaign_from f (es ++ gs) ≡ campaign_from (campaign_from f es) gs
fold_append f [] gs = refl
fold_append f (e ∷ es) gs = fold_append (after_event f e) es gs

-- both lists are legal, the second after the first
pub legal_append : (f : Fold) (es gs : List MasterEvent)
    → IsLegalFrom f es → IsLegalFrom (campaign_from f es) gs → IsLegalFrom f (es ++ gs)
legal_append f [] gs first second = second
legal_append f (e ∷ es) gs first second = (first.0, legal_append (after_event f e) es gs first.1 second)

pub legal_parts : (f : Fold) (es gs : List MasterEvent)
    → IsLegalFrom f (es ++ gs) → IsLegalFrom f es × IsLegalFrom (campaign_from f es) gs
legal_parts f [] gs legal = (tt, legal)
legal_parts f (e ∷ es) gs legal =
    let rest = legal_parts (after_event f e) es gs legal.1 in ((legal.0, rest.0), rest.1)

-- one event more
pub legal_more : (f : Fold) (es : List MasterEvent) (e : MasterEvent)
    → IsLegalFrom f es → refusal_of (campaign_from f es) e ≡ None → IsLegalFrom f (es ++ e ∷ [])
legal_more f es e legal may = legal_append f es (e ∷ []) legal (may, tt)
