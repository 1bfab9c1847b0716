-- One more entry of a history, and one more event of the master's list.
use Rattle.campaign_core.proofs.Appended.{fold_append}
use Rattle.node_laws.proofs.GoingOn.{after-append as append-after}
use Rattle.world.proofs.Names.{IsIn}
use Rattle.world.proofs.Names.{arith, ◌≡◌, refl, sym, ap, subst, ◌∙◌, inl, inr, ℕ, List, [], ◌∷◌, ◌++◌, option_map}
use Rattle.world.proofs.Names.{Option, Some, None, Entry, NodeState, Reading, after_entry, state_after, CampaignResult}
use Rattle.world.proofs.Names.{MasterEvent, Enter, Current, Fold, after_event, campaign_from, campaign, nothing_yet}
use Rattle.world.proofs.Names.{entered, Spans, span_step, spans_from, IsEntered}

pub after-append : (read : Reading) (s : NodeState) (es : List Entry) (e : Entry)
    → state_after read s (es ++ e ∷ []) ≡ after_entry read (state_after read s es) e
after-append read s es e = append-after read s es (e ∷ [])

pub spans-append : (read : Reading) (k : ℕ) (s : NodeState) (es : List Entry) (e : Entry) (x : Spans)
    → spans_from read k s (es ++ e ∷ []) x
    ≡ span_step k (state_after read s es) (after_entry read (state_after read s es) e) e (spans_from read k s es x)
spans-append read k s [] e x = refl
spans-append read k s (y ∷ es) e x = spans-append read k (after_entry read s y) es e _

pub fold-append : (f : Fold) (es : List MasterEvent) (e : MasterEvent)
    → campaign_from f (es ++ e ∷ []) ≡ after_event (campaign_from f es) e
fold-append f es e = fold_append f es (e ∷ [])

in-more : (e : ℕ × CampaignResult) (xs : List (ℕ × CampaignResult)) (y : ℕ × CampaignResult) → IsIn e xs
    → IsIn e (xs ++ y ∷ [])
in-more e [] y h = absurd h
in-more e (x ∷ xs) y (inl q) = inl q
in-more e (x ∷ xs) y (inr h) = inr (in-more e xs y h)

in-last : (e : ℕ × CampaignResult) (xs : List (ℕ × CampaignResult)) → IsIn e (xs ++ e ∷ [])
in-last e [] = inl refl
in-last e (x ∷ xs) = inr (in-last e xs)

-- an earlier campaign stays one
stays : (f : Fold) (e : MasterEvent) (x : ℕ × CampaignResult) → IsIn x f.earlier → IsIn x (after_event f e).earlier
stays f x y h = grind (arith, in-more)

all-stay : (f : Fold) (es : List MasterEvent) (x : ℕ × CampaignResult) → IsIn x f.earlier
    → IsIn x (campaign_from f es).earlier
all-stay f [] x h = h
all-stay f (e ∷ es) x h = all-stay (after_event f e) es x (stays f e x h)

-- a campaign that was entered is an earlier one of the fold
pub entered-earlier : (k : ℕ) (result : CampaignResult) (list : List MasterEvent) → IsEntered k result list
    → IsIn (k, result) (campaign list).earlier
entered-earlier k result list h =
    subst (λ (f : Fold). IsIn (k, result) f.earlier)
    (sym (ap campaign h.there ∙ fold_append nothing_yet h.before (Enter result ∷ h.after)))
    (all-stay (after_event (campaign h.before) (Enter result)) h.after (k, result)
    (go (campaign h.before).current h.of))
  where
    go : (o : Option Current) → option_map (λ c. c.campaign) o ≡ Some k
        → IsIn (k, result) (entered (campaign h.before).earlier o result)
    go None e = absurd (cc)
    go (Some c) e =
        let same : c.campaign ≡ k = cc in
        subst (λ (i : ℕ). IsIn (k, result) ((campaign h.before).earlier ++ (i, result) ∷ [])) (sym same)
        (in-last (k, result) (campaign h.before).earlier)
