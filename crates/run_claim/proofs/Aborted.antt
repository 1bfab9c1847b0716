-- What a run promises of the master's entries and of its list makes every named node of a failed or cancelled campaign
-- old.
use Rattle.std.specs.Prelude.{◌≡◌, ◌≢◌, ℕ, ◌≤◌, Bool, true, false, List, [], ◌∷◌, ◌++◌, Some}
use Rattle.std.proofs.Common.{refl, sym, ◌∙◌, subst}
use Rattle.pm_types.specs.declared.history.Entry.{Entry}
use Rattle.pm_types.specs.Histories.{Reading}
use Rattle.campaign_core.specs.declared.events.CampaignResult.{CampaignResult}
use Rattle.campaign_core.specs.declared.events.CampaignResult.TheVariants.{Successful, Failed, Cancelled}
use Rattle.campaign_core.specs.declared.events.MasterEvent.{MasterEvent}
use Rattle.node_laws.specs.Fit.{IsReading, IsInstalled}
use Rattle.world.specs.Spans.{IsOld}
use Rattle.run_claim.specs.Script.{Script, packages_of, installed_on}
use Rattle.run_claim.specs.Masters.{finishes_new, has_commit, has_end}
use Rattle.sub_core.specs.Made.{Made, ends_at_rest}
use Rattle.run_claim.specs.FailedAttempts.{Counted}
use Rattle.run_claim.specs.Left.{IsLeftSo, result_of}
use Rattle.run_claim.specs.Law.{NodeIsLegal, MasterFits, ListFits, opening_of}
use Rattle.run_claim.proofs.Lists.{failed}
use Rattle.run_claim.proofs.OldNodes.{old-left}

-- where the later entries end at rest, all do
pub rest-append : (a b : List Made) → ends_at_rest b ≡ true → ends_at_rest (a ++ b) ≡ true
rest-append [] b e = e
rest-append (m ∷ a) b e = go (a ++ b) (rest-append a b e)
  where
    go : (ms : List Made) → ends_at_rest ms ≡ true → ends_at_rest (m ∷ ms) ≡ true
    go [] f = absurd (cc f)
    go (n ∷ ns) f = f

-- a test that would imply what doesn't hold is false
refuted : (b : Bool) → (b ≡ true → false ≡ true) → b ≡ false
refuted true f = absurd (let e = f refl in cc e)
refuted false f = refl

module _ (read : Reading) (reading : IsReading read) (s : Script) (counted : ℕ → Counted) (n : ℕ)
    (list : List MasterEvent) (history : List Entry) where
  is-old : IsInstalled (installed_on s n) → NodeIsLegal read s n history → MasterFits read s n list history
      → has_commit list ≡ false → has_end n list ≡ true → IsOld read s.campaign (opening_of s n) history
  is-old installed node master no_commit ended =
      old-left read reading (installed_on s n) installed s.campaign history node.legal
      (refuted (finishes_new read (opening_of s n) history) (λ f. sym no_commit ∙ master.decision.finish f))
      (subst (λ (ms : List Made). ends_at_rest ms ≡ true) (sym master.order.split)
      (rest-append master.order.rounds master.order.ends (master.order.rest ended)))

  -- a named node is left as the result says, where that isn't Successful
  pub left-old : IsInstalled (installed_on s n) → NodeIsLegal read s n history → MasterFits read s n list history
      → ListFits s counted list → 1 ≤ n → n ≤ 8 → packages_of s n ≢ [] → (r : CampaignResult) → result_of list ≡ Some r
      → r ≢ Successful
      → IsLeftSo read (Some r) s.campaign (packages_of s n) (opening_of s n) history
  left-old installed node master fits low high some r e f =
      by r (is-old installed node master h.0 (h.1 n low high some)) f
    where
      h : (has_commit list ≡ false) × ((n : ℕ) → 1 ≤ n → n ≤ 8 → packages_of s n ≢ [] → has_end n list ≡ true)
      h = failed s list 0 r fits.legal fits.begins e f

      by : (r : CampaignResult) → IsOld read s.campaign (opening_of s n) history → r ≢ Successful
          → IsLeftSo read (Some r) s.campaign (packages_of s n) (opening_of s n) history
      by Successful old f = absurd (f refl)
      by Failed old f = old
      by Cancelled old f = old
