-- The result that a list enters last, with one event more.
use Rattle.std.proofs.Common.{◌≡◌, ◌<◌, ◌+◌, ◌++◌, ◌∷◌, ◌∙◌, [], ℕ, List, ap, get_or, length, refl, sym, take}
use Rattle.std.specs.Prelude.{Option, Some, None}
use Rattle.std.specs.Option.{option_or}
use Rattle.std.proofs.lemmas.List.{take_more}
use Rattle.campaign_core.specs.declared.events.CampaignResult.{CampaignResult}
use Rattle.campaign_core.specs.declared.events.MasterEvent.{MasterEvent}
use Rattle.report.specs.Lines.{last_result, result_in}

or-assoc : (a b c : Option CampaignResult) → option_or (option_or a b) c ≡ option_or a (option_or b c)
or-assoc None b c = refl
or-assoc (Some x) b c = refl

appended : (list : List (ℕ × MasterEvent)) (e : ℕ × MasterEvent)
    → last_result (list ++ e ∷ []) ≡ option_or (result_in e.1) (last_result list)
appended [] e = refl-or (result_in e.1)
  where
    refl-or : (o : Option CampaignResult) → option_or None o ≡ option_or o None
    refl-or None = refl
    refl-or (Some r) = refl
appended (x ∷ list) e =
    ap (λ o. option_or o (result_in x.1)) (appended list e) ∙ or-assoc (result_in e.1) (last_result list)
    (result_in x.1)

entered_more : (list : List (ℕ × MasterEvent)) (i : ℕ) (d : ℕ × MasterEvent) → i < length list
    → last_result (take (i + 1) list) ≡ option_or (result_in (get_or list i d).1) (last_result (take i list))
entered_more list i d h = ap last_result (take_more list i d h) ∙ appended (take i list) (get_or list i d)

-- the result after one event more
pub next-event : (list : List (ℕ × MasterEvent)) (i : ℕ) (e : ℕ × MasterEvent) (r last next : Option CampaignResult)
    → i < length list → e ≡ get_or list i e → last ≡ last_result (take i list) → r ≡ result_in e.1
    → next ≡ option_or r last → next ≡ last_result (take (i + 1) list)
next-event list i e r last next below is before entered or =
    or
    ∙ ap (λ x. option_or x last) entered
    ∙ ap (option_or (result_in e.1)) before
    ∙ ap (λ x. option_or (result_in x.1) (last_result (take i list))) is
    ∙ sym (entered_more list i e below)
