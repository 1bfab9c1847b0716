-- What one unit of work comes to: its entry, or that there is none to do.
use Rattle.std.proofs.Common.{◌≡◌, ◌∙◌, ℕ, Bool, true, false, List, [], ◌∷◌, refl, sym, ap, subst, arith, Option, Some, None}
use Rattle.std.specs.Prelude.{IsTrue, ◌||◌, not, option_map, unwrap_or}
use Rattle.pm_types.specs.declared.history.Entry.TheVariants.{Unit as UnitEntry}
use Rattle.pm_types.specs.declared.replies.Worked.TheVariants.{Unit as UnitDone, Nothing}
use Rattle.pm_types.specs.declared.status.Status.{Status}
use Rattle.pm_types.specs.declared.status.Status.TheVariants.{Verifying}
use Rattle.pm_types.specs.Histories.{IsLegal, IsNext, IsTrueTo, after_entry, passes, unit_passes, worked}
use Rattle.pm_types.specs.NodeState.{NodeState, has_status, is_working}
use Rattle.pm_types.specs.Validity.{ProcessingIsDue, SessionIsDue}
use Rattle.pm_types.specs.Work.{unit}
use Rattle.node_core.specs.Packages.{package_reading}
use Rattle.node_core.specs.Units.{after_work, answer_of, answer_to}

module _ (fails : List (List ℕ)) (n : NodeState) (passed : Bool) (after : Status)
    (due : answer_to fails n ≡ UnitDone passed after) where
  answered : (u : Option NodeState) → answer_of n.status (unit_passes fails n) u ≡ UnitDone passed after
      → (passed ≡ unit_passes fails n) × (option_map (λ t. t.status) u ≡ Some after)
  answered None e = absurd (cc e)
  answered (Some t) e = (cc, cc)

  passes_so : passed ≡ unit_passes fails n
  passes_so = (answered (unit n (unit_passes fails n)) due).0

  leads_so : option_map (λ t. t.status) (unit n passed) ≡ Some after
  leads_so = ap (λ b. option_map (λ t. t.status) (unit n b)) passes_so
      ∙ (answered (unit n (unit_passes fails n)) due).1

  -- a unit that doesn't pass is one of Verifying
  may_fail : (v : Bool) → has_status Verifying n ≡ v → passed ≡ (not v || passes fails n)
      → IsTrue (passed || v)
  may_fail true e is = grind arith
  may_fail false e is = grind arith

  next_unit : IsNext package_reading n (UnitEntry passed after)
  next_unit = (leads_so, may_fail (has_status Verifying n) refl passes_so)

  -- its entry may stand
  unit_may_go : IsLegal package_reading n (UnitEntry passed after ∷ [])
      × IsTrueTo fails package_reading n (UnitEntry passed after ∷ [])
  unit_may_go = ((next_unit, tt), (passes_so, tt))

  unit_leads : after_work fails n ≡ after_entry package_reading n (UnitEntry passed after)
  unit_leads = ap (λ b. unwrap_or (worked n b) n) (sym passes_so)

-- a unit that is done by these names, on a node that is this one: it leads to the node after its entry, which may stand
pub unit_goes : (here n : NodeState) → here ≡ n → (names fails : List (List ℕ)) → names ≡ fails → (passed : Bool)
    (after : Status) → answer_to fails here ≡ UnitDone passed after
    → (after_work names here ≡ after_entry package_reading n (UnitEntry passed after))
    × IsLegal package_reading n (UnitEntry passed after ∷ [])
    × IsTrueTo fails package_reading n (UnitEntry passed after ∷ [])
unit_goes here n same names fails same_names passed after due =
    let due_on = subst (λ (m : NodeState). answer_to fails m ≡ UnitDone passed after) same due in
    let may = unit_may_go fails n passed after due_on in (
      ap (λ l. after_work l here) same_names ∙ ap (after_work fails) same ∙ unit_leads fails n passed after due_on,
      may.0,
      may.1,
    )

-- where there is none to do the status is no working one
pub none_to_do : (fails : List (List ℕ)) (n : NodeState) (status : Status) → SessionIsDue n.status n.session
    → ProcessingIsDue n → answer_to fails n ≡ Nothing status → (status ≡ n.status) × (is_working status ≡ false)
none_to_do fails n status session processing due = grind arith
