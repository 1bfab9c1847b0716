-- A unit of work on the stored state is the definition's, over each areas over which all is ready for it.
use Rattle.node_core.proofs.Names.{Activated, Activating, Bool, Change, CleaningUp, Extent, Holding, Idle, IfSome}
use Rattle.node_core.proofs.Names.{IsReservedWork, IsSound, IsUnitReady, IsWorked, List, NodeState, None, Option}
use Rattle.node_core.proofs.Names.{Prepared, Processing, Ready, RolledBack, RollingBack, SessionOf, Some, StandsFor}
use Rattle.node_core.proofs.Names.{State, Status, UnitAfter, Verifying, Worked, after_work, all_units, answer_to, ap}
use Rattle.node_core.proofs.Names.{contents_of, false, if◌then◌else◌, length, meaning, nat_lt, node_of}
use Rattle.node_core.proofs.Names.{option_and_then, option_map, package_reading, plan_kept, process, process_stored}
use Rattle.node_core.proofs.Names.{refl, stored_of, stored_units, subst, sym, true, under, unit, unit_passes}
use Rattle.node_core.proofs.Names.{unit_stored, unwrap_or, with_entry, with_slots, worked, ℕ, [], ◌+◌, ◌∙◌, ◌≡◌}
use Rattle.node_core.proofs.Handled.{InHand, at_process, busy, changes-ready, in-hand, more-unit, stored-same}
use Rattle.node_core.proofs.Lastly.{last-unit, processed_with}
use Rattle.node_core.proofs.Worked.{IsUnit, activated-unit, at-work, at_work, cleaned-unit, rolled-unit, turned-unit, verified-unit, worked-fit}
use Rattle.node_core.proofs.Executed.{line-stands}
use Rattle.node_core.specs.Units.{answer_of}
pub use Rattle.pm_types.specs.declared.replies.Worked.TheVariants.{Unit as Worked_Unit, Nothing}

-- the answer by the status behind the unit, where there is one
abbrev pub status_answer : Status → Bool → Option Status → Worked
status_answer status passed None = Nothing status
status_answer status passed (Some after) = Worked_Unit passed after

-- the unit that is done, or that there is none
abbrev UnitIs : Holding → Bool → Option State → Type 0
UnitIs v passed None = unit (node_of v) passed ≡ None
UnitIs v passed (Some s) = IsUnit v passed s

-- one of a package
package-unit : (v : Holding) (x : SessionOf Extent) (id : ℕ) (passed : Bool) → IsSound (at_process v x id)
    → IsUnitReady Processing (at_process v x id) (busy x id)
    → IsUnit (at_process v x id) passed (process_stored (under (at_process v x id)) (busy x id) id)
package-unit v x id passed sound ready =
    subst (λ n. IsUnit (at_process v x id) passed (process (with_slots [] []) n plan (at_process v x id).state
    (busy x id) id))
    (sym units) (go (nat_lt (x.units_done + 1) (all_units h.parts)) refl)
  where
    h : InHand v x id
    h = in-hand v x id sound

    plan : List (Change Extent)
    plan = unwrap_or (plan_kept v.prepared) []

    units : stored_units (contents_of (stored_of v.state.transfers x.owner id)) ≡ all_units h.parts
    units = ap (λ o. stored_units (contents_of o)) h.is ∙ ap stored_units h.contents ∙ stored-same h.parts

    go : (more : Bool) → nat_lt (x.units_done + 1) (all_units h.parts) ≡ more
        → IsUnit (at_process v x id) passed
        (if more then record (at_process v x id).state {
          session = Some
              (record (busy x id) { units_done = x.units_done + 1 });
        }
        else processed_with v x id sound h plan)
    go true more = more-unit v x id v.prepared sound h passed ready more
    go false last =
        subst (λ changes. IsUnit (at_process v x id) passed (processed_with v x id sound h changes))
        (sym (ap (λ o. unwrap_or o []) (changes-ready v x id v.prepared sound h ready last)))
        (last-unit v x id sound h passed ready last)

-- one in each status
unit-at : (v : Holding) (status : Status) (x : SessionOf Extent) (passed : Bool) → IsSound (at_work v status x)
    → IsUnitReady status (at_work v status x) x
    → UnitIs (at_work v status x) passed (unit_stored (under (at_work v status x)) passed)
unit-at v Processing x passed sound ready = go x.processing refl
  where
    go : (o : Option ℕ) → x.processing ≡ o → UnitIs (at_work v Processing x) passed
        (option_and_then (λ id. Some (process_stored (under (at_work v Processing x)) x id)) x.processing)
    go None none = subst (λ o. UnitIs (at_work v Processing (record x { processing = o })) passed
        (option_and_then (λ id. Some (process_stored (under (at_work v Processing (record x { processing = o })))
        (record x { processing = o }) id)) o)) (sym none) refl
    go (Some id) some =
        let same : x ≡ busy x id = ap (λ o. record x { processing = o }) some in
        subst (λ (y : SessionOf Extent). UnitIs (at_work v Processing y) passed
        (option_and_then (λ id. Some (process_stored (under (at_work v Processing y)) y id)) y.processing)) (sym same)
        (package-unit v x id passed (subst (λ (y : SessionOf Extent). IsSound (at_work v Processing y)) same sound)
        (subst (λ (y : SessionOf Extent). IsUnitReady Processing (at_work v Processing y) y) same ready))
unit-at v Activating x passed sound ready = activated-unit v x passed sound
unit-at v Verifying x true sound ready =
    verified-unit v x sound (nat_lt (x.verified + 1) (length x.changes)) refl
unit-at v Verifying x false sound ready = turned-unit v x sound
unit-at v RollingBack x passed sound ready = rolled-unit v x passed sound
unit-at v CleaningUp x passed sound ready = cleaned-unit v x passed sound
unit-at v Idle x passed sound ready = refl
unit-at v Ready x passed sound ready = refl
unit-at v Activated x passed sound ready = refl
unit-at v RolledBack x passed sound ready = refl

-- of a node for which all is ready
unit-of : (v : Holding) (passed : Bool) → IsSound v → IsReservedWork v → UnitIs v passed (unit_stored (under v) passed)
unit-of v passed sound ready = go v.state.session refl
  where
    go : (o : Option (SessionOf Extent)) → v.state.session ≡ o → UnitIs v passed (unit_stored (under v) passed)
    go None none =
        subst (λ o. UnitIs (record v { state = record v.state { session = o } }) passed
        (unit_stored (under (record v { state = record v.state { session = o } })) passed)) (sym none) refl
    go (Some x) some =
        let same = at-work v v.state.status x refl some in
        subst (λ u. UnitIs u passed (unit_stored (under u) passed)) (sym same)
        (unit-at v v.state.status x passed (subst IsSound same sound) (subst IsReservedWork same ready))

-- the answer by the status behind the unit
pub foreseen : (v : Holding) (fails : List (List ℕ)) (passed : Bool) → IsSound v → IsReservedWork v
    → passed ≡ unit_passes fails (node_of v) → (o : Option Status)
    → o ≡ option_map (λ (s : State). s.status) (unit_stored (under v) passed)
    → status_answer v.state.status passed o ≡ answer_to fails (node_of v)
foreseen v fails passed sound ready passes o is =
    ap (status_answer v.state.status passed) is ∙ go (unit_stored (under v) passed) (unit-of v passed sound ready)
    ∙ ap (λ b. answer_of v.state.status b (unit (node_of v) b)) passes
  where
    go : (o : Option State) → UnitIs v passed o
        → status_answer v.state.status passed (option_map (λ (s : State). s.status) o)
        ≡ answer_of v.state.status passed (unit (node_of v) passed)
    go None none = sym (ap (answer_of v.state.status passed) none)
    go (Some s) done = sym (ap (answer_of v.state.status passed) done.node)

-- a unit that was done, by the status behind it
pub done-is : (o : Option State) (after : Status) (n : State)
    → Some after ≡ option_map (λ (s : State). s.status) o → IfSome o (λ s. n ≡ s)
    → (o ≡ Some n) × (n.status ≡ after)
done-is None after n e is = absurd (cc)
done-is (Some s) after n e is =
    (ap Some (sym is), ap (λ (k : State). k.status) is ∙ (let same : s.status ≡ after = cc in same))

-- a unit that was done is the definition's work
module _ (v : Holding) (fails : List (List ℕ)) (sound : IsSound v) (ready : IsReservedWork v) (passed : Bool)
    (passes : passed ≡ unit_passes fails (node_of v)) where
  pub worked-unit : (n : State) → unit_stored (under v) passed ≡ Some n → (after : Status) → n.status ≡ after
      → (s : State) → s ≡ with_entry (UnitAfter n.status) n → (p : Prepared)
      → IsWorked v fails (Worked_Unit passed after) (record { areas = v.areas; state = s; prepared = p })
  worked-unit n is after leads s entered p =
      let done = subst (UnitIs v passed) is (unit-of v passed sound ready) in
      let stands = subst (λ z. StandsFor v.areas z (with_entry (UnitAfter n.status)
      (meaning package_reading v.areas n)))
      (sym entered) (line-stands v.areas n (meaning package_reading v.areas n) (UnitAfter n.status)
      (record { node = refl; order = done.order; copied = done.copied })) in
      let made : node_of (record { areas = v.areas; state = s; prepared = p }) ≡ after_work fails (node_of v) =
      stands.node
      ∙ ap (λ o. unwrap_or (option_map (λ (t : NodeState). with_entry (UnitAfter t.status) t) o) (node_of v))
      (sym done.node)
      ∙ ap (λ b. unwrap_or (worked (node_of v) b) (node_of v)) passes in
      record {
        answer = foreseen v fails passed sound ready passes (Some after)
            (ap Some (sym leads) ∙ ap (option_map (λ (k : State). k.status)) (sym is));
        node = made;
        sound = record {
          fit = worked-fit v (record { areas = v.areas; state = s; prepared = p }) fails sound made;
          order = stands.order;
          copied = stands.copied;
        };
      }
