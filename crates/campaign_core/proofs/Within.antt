-- A legal list has no more campaigns than a master keeps.
use Rattle.std.proofs.Common.{◌≡◌, ℕ, ◌+◌, ◌≤◌, Bool, true, false, List, [], ◌∷◌, length, Option, Some, None, refl, arith}
use Rattle.std.specs.Prelude.{◌&&◌, is_none}
use Rattle.std.proofs.lemmas.Bool.Decides.{nat_tests}
use Rattle.std.proofs.lemmas.List.{length-append}
use Rattle.ucm_base.specs.Limits.{campaign_limit}
use Rattle.ucm_base.specs.declared.ids.NodeSet.{NodeSet}
use Rattle.campaign_core.specs.declared.events.CampaignResult.{CampaignResult}
use Rattle.campaign_core.specs.declared.events.MasterEvent.{MasterEvent}
use Rattle.campaign_core.specs.declared.events.MasterEvent.TheVariants.{Start, Begin, PhaseTo, VoteOf, CancelAsked, Decide, EndedAt, Enter}
use Rattle.campaign_core.specs.declared.fold.Current.{Current}
use Rattle.campaign_core.specs.declared.fold.Fold.{Fold}
use Rattle.campaign_core.specs.Campaign.{after_event, campaign_from, changed_in, entered, IsLegalFrom, may_begin, refusal_of, unless}
use Rattle.campaign_core.specs.Standing.{IsWithin, running}

-- of two conditions that hold, each
pub both : (a b : Bool) → (a && b) ≡ true → (a ≡ true) × (b ≡ true)
both true b e = (refl, e)
both false b e = absurd (cc)

pub allowed : (b : Bool) → unless b ≡ None → b ≡ true
allowed true e = refl
allowed false e = absurd (cc)

none_running : (o : Option Current) → is_none o ≡ true → running o ≡ 0
none_running None e = refl
none_running (Some c) e = absurd (cc)

-- a campaign that may begin finds none, and fewer than the limit
begins : (f : Fold) (k : ℕ) (named : NodeSet) → may_begin f k named ≡ true → length f.earlier + 1 ≤ campaign_limit
begins f k named e = grind (arith, nat_tests, both)

changes : (o : Option Current) (e : MasterEvent) → running (changed_in o e) ≡ running o
changes None e = refl
changes (Some c) e = refl

enters : (earlier : List (ℕ × CampaignResult)) (o : Option Current) (r : CampaignResult)
    → length (entered earlier o r) ≡ length earlier + running o
enters earlier None r = omega arith
enters earlier (Some c) r = omega (arith, length-append earlier ((c.campaign, r) ∷ []))

pub stays_within : (f : Fold) (e : MasterEvent) → IsWithin f → refusal_of f e ≡ None → IsWithin (after_event f e)
stays_within f (Start epoch) within may = omega (arith, within, changes f.current (Start epoch))
stays_within f (Begin k named) within may = omega (arith, begins f k named (allowed (may_begin f k named) may))
stays_within f (PhaseTo p) within may = omega (arith, within, changes f.current (PhaseTo p))
stays_within f (VoteOf n v) within may = omega (arith, within, changes f.current (VoteOf n v))
stays_within f CancelAsked within may = omega (arith, within, changes f.current CancelAsked)
stays_within f (Decide d) within may = omega (arith, within, changes f.current (Decide d))
stays_within f (EndedAt n o) within may = omega (arith, within, changes f.current (EndedAt n o))
stays_within f (Enter r) within may = omega (arith, within, enters f.earlier f.current r)

pub legal_within : (f : Fold) (es : List MasterEvent) → IsWithin f → IsLegalFrom f es → IsWithin (campaign_from f es)
legal_within f [] within legal = within
legal_within f (e ∷ es) within legal =
    legal_within (after_event f e) es (stays_within f e within legal.0) legal.1
