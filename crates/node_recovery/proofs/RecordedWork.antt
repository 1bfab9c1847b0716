-- The record of a unit of work is allowed, and does what the unit does.
use Rattle.std.proofs.Common.{◌≡◌, ℕ, ◌+◌, ◌*◌, ◌<◌, ◌≤◌, Bool, true, false, List, [], ◌∷◌, length, Option, Some, None, refl, sym, ◌∙◌, ap, subst, arith}
use Rattle.std.specs.Prelude.{IfSome, nat_lt, if◌then◌else◌, option_and_then, option_map, unwrap_or}
use Rattle.std.specs.List.{AllByRecursion}
use Rattle.std.specs.Option.{option_map_or}
use Rattle.std.proofs.lemmas.List.{length-map}
use Rattle.std.proofs.lemmas.List.Sums.{sum_by-cons}
use Rattle.ucm_base.specs.Limits.{cluster_limit, entry_limit, package_limit}
use Rattle.ucm_base.specs.declared.parts.Part.{Part}
use Rattle.pm_types.specs.declared.clusters.Change.{Change}
use Rattle.pm_types.specs.declared.clusters.Extent.{Extent}
use Rattle.pm_types.specs.declared.history.Happened.TheVariants.{Unit as UnitAfter}
use Rattle.pm_types.specs.declared.replies.Worked.TheVariants.{Unit as UnitDone}
use Rattle.pm_types.specs.declared.state.StoredTransfer.{StoredTransfer}
use Rattle.pm_types.specs.declared.status.Status.{Status}
use Rattle.pm_types.specs.declared.status.Status.TheVariants.{Idle, Ready, Processing, Activating, Verifying, Activated, RollingBack, RolledBack, CleaningUp}
use Rattle.pm_types.specs.Clusters.{stored_units, units_of}
use Rattle.pm_types.specs.Histories.{unit_passes}
use Rattle.pm_types.specs.NodeState.{SessionOf}
use Rattle.pm_types.specs.Steps.{with_entry}
use Rattle.pm_types.specs.Stored.{State, change_meaning}
use Rattle.pm_types.specs.Work.{end_processing, process, work_on}
use Rattle.transfer_blocks.specs.Table.{stored_of, with_slots}
use Rattle.node_core.specs.Core.{Holding, IsSound, kept_by, node_of, under}
use Rattle.node_core.specs.Places.{extents_in}
use Rattle.node_core.specs.Sessions.{contents_of}
use Rattle.node_core.specs.Units.{IsPackageReady, IsReservedWork, answer_to, changes_to, plan_kept, process_stored, state_worked, unit_stored}
use Rattle.node_core.proofs.Handled.{InHand, at_process, busy, in-hand, stored-same}
use Rattle.node_core.proofs.Lastly.{not-lost, room, short}
use Rattle.node_core.proofs.Sound.{table-is}
use Rattle.node_core.proofs.UnitsDone.{foreseen, status_answer}
use Rattle.node_core.proofs.Worked.{at-work, at_work}
use Rattle.event_codec.specs.declared.records.Record.TheVariants.{Worked}
use Rattle.node_recovery.specs.Allowed.{MayProcess, MayWork}
use Rattle.node_recovery.specs.Deciding.{after_record}
use Rattle.node_recovery.specs.Folds.{processed, unit_of, unit_of_transfer}
use Rattle.node_recovery.proofs.Recorded.{allowed_effect}

-- a package's units can be counted
few_of : (n : ℕ) → n ≤ package_limit → units_of n ≤ 4097
few_of n le = grind (arith, le)

few_units : (parts : List (Part ℕ)) → AllByRecursion (λ (part : Part ℕ). part.payload ≤ package_limit) parts
    → stored_units parts ≤ 4097 * length parts
few_units [] low = omega arith
few_units (part ∷ parts) low =
    omega (
      arith,
      sum_by-cons (λ (p : Part ℕ). units_of p.payload) part parts,
      few_of part.payload low.0,
      few_units
          parts low.1,
    )

-- a unit of the package in hand may be done
may-process : (v : Holding) (x : SessionOf Extent) (id : ℕ) → IsSound (at_process v x id)
    → MayProcess (at_process v x id).state (busy x id) id
may-process v x id sound = (
  omega (
    arith,
    some,
    few_units h.transfer.contents
        (subst (AllByRecursion (λ (part : Part ℕ). part.payload ≤ package_limit)) (sym h.contents)
        (short v x id sound h)),
    ap stored_units h.contents ∙ stored-same h.parts,
    h.unfinished,
  ),
  subst (λ (o : Option StoredTransfer). length x.changes + length (contents_of o) ≤ cluster_limit) (sym h.is) some,
)
  where
    h : InHand v x id
    h = in-hand v x id sound

    some : length x.changes + length h.transfer.contents ≤ cluster_limit
    some = subst (λ (parts : List (Part ℕ)). length x.changes + length parts ≤ cluster_limit) (sym h.contents)
        (room v x id sound h)

-- what holds of each thing that there is
each-some : {A : Type 0} (P : A → Type 0) (o : Option A) → ((a : A) → o ≡ Some a → P a) → IfSome o P
each-some P None is = tt
each-some P (Some a) is = is a refl

same-some : {A : Type 0} (f g : A → State) (o : Option A) → ((a : A) → o ≡ Some a → f a ≡ g a)
    → option_and_then (λ a. Some (f a)) o ≡ option_and_then (λ a. Some (g a)) o
same-some f g None same = refl
same-some f g (Some a) same = ap Some (same a refl)

-- the next unit may be done
may-work : (v : Holding) (status : Status) (x : SessionOf Extent) → IsSound (at_work v status x)
    → MayWork (at_work v status x).state x status
may-work v Processing x sound = each-some (MayProcess (at_work v Processing x).state x) x.processing (λ id is.
    let same : x ≡ busy x id = ap (λ o. record x { processing = o }) is in
    may-process v x id (subst (λ (y : SessionOf Extent). IsSound (at_work v Processing y)) same sound))
may-work v Verifying x sound = subst (λ n. x.verified < n) (length-map x.changes (change_meaning v.areas))
    sound.fit.consistent.verdicts.0
may-work v Activating x sound = tt
may-work v RollingBack x sound = tt
may-work v CleaningUp x sound = tt
may-work v Idle x sound = tt
may-work v Ready x sound = tt
may-work v Activated x sound = tt
may-work v RolledBack x sound = tt

-- one unit more of a package is what its record makes
module _ (v : Holding) (x : SessionOf Extent) (id : ℕ) (is : x.processing ≡ Some id)
    (sound : IsSound (at_work v Processing x)) (ready : IsReservedWork (at_work v Processing x)) where
  abbrev w : Holding
  w = at_work v Processing x

  transfer-same : (t : StoredTransfer) → IsPackageReady w x id t → (more : Bool)
      → nat_lt (x.units_done + 1) (stored_units t.contents) ≡ more
      → (if more then record w.state { session = Some (record x { units_done = x.units_done + 1 }) }
      else end_processing (with_slots v.state.transfers []) w.state x id
      (changes_to id t.contents (extents_in w.state t)))
      ≡ (if more then record w.state { session = Some (record x { units_done = x.units_done + 1 }) }
      else end_processing (kept_by (under w)) w.state x id (unwrap_or (plan_kept v.prepared) []))
  transfer-same t due true more = refl
  transfer-same t due false last =
      ap (λ changes. end_processing (with_slots v.state.transfers []) w.state x id changes)
      (sym (ap (λ (o : Option (List (Change Extent))). unwrap_or o []) (due.changes last)))

  unit-ready : (t : StoredTransfer) → stored_of v.state.transfers x.owner id ≡ Some t → IsPackageReady w x id t
  unit-ready t found = subst (λ (o : Option StoredTransfer). IfSome o (IsPackageReady w x id)) found
      (subst (λ (o : Option ℕ). IfSome o (λ n. IfSome (stored_of v.state.transfers x.owner n) (IsPackageReady w x n)))
      is
      ready)

  found-same : (o : Option StoredTransfer) → stored_of v.state.transfers x.owner id ≡ o
      → option_map_or (unit_of_transfer w.state x id) o w.state
      ≡ process (kept_by (under w)) (stored_units (contents_of o)) (unwrap_or (plan_kept v.prepared) []) w.state x id
  found-same None none = absurd (not-lost refl x id is refl sound ready refl none)
  found-same (Some t) found =
      transfer-same t (unit-ready t found) (nat_lt (x.units_done + 1) (stored_units t.contents)) refl

  processed-same : processed w.state x id ≡ process_stored (under w) x id
  processed-same = found-same (stored_of v.state.transfers x.owner id) refl

unit-same : (v : Holding) (status : Status) (x : SessionOf Extent) (passed : Bool) → IsSound (at_work v status x)
    → IsReservedWork (at_work v status x)
    → unit_of (at_work v status x).state passed ≡ unit_stored (under (at_work v status x)) passed
unit-same v Processing x passed sound ready =
    same-some (processed (at_work v Processing x).state x) (process_stored (under (at_work v Processing x)) x)
    x.processing (λ id is. processed-same v x id is sound ready)
unit-same v Activating x passed sound ready = refl
unit-same v Verifying x passed sound ready = refl
unit-same v RollingBack x passed sound ready = refl
unit-same v CleaningUp x passed sound ready = refl
unit-same v Idle x passed sound ready = refl
unit-same v Ready x passed sound ready = refl
unit-same v Activated x passed sound ready = refl
unit-same v RolledBack x passed sound ready = refl

-- the record of a unit that was done is allowed, and has the unit's effect
abbrev Records : Holding → Bool → Status → Type 0
Records v passed after =
    after_record v.state (Worked passed after) ≡ Some (state_worked (under v) (UnitDone passed after))

recorded-at : (v : Holding) (status : Status) (x : SessionOf Extent) (passed : Bool) (after : Status)
    → v.state.entries < entry_limit → IsSound (at_work v status x) → IsReservedWork (at_work v status x)
    → (n : State) → unit_stored (under (at_work v status x)) passed ≡ Some n → n.status ≡ after
    → Records (at_work v status x) passed after
recorded-at v status x passed after room sound ready n is leads =
    let s = (at_work v status x).state in
    allowed_effect s (Worked passed after) (record {
      table = table-is (at_work v status x) sound;
      entries = room;
      event = may-work v status x sound;
    })
    ∙ ap (option_map (λ (t : State). with_entry (UnitAfter t.status) t)) (unit-same v status x passed sound ready ∙ is)
    ∙ ap (λ (after : Status). Some (with_entry (UnitAfter after) n)) leads
    ∙ sym (ap (λ (o : Option State). Some (option_map_or (with_entry (UnitAfter after)) o s)) is)

-- a unit that was answered
pub record IsDone (o : Option State) (p passed : Bool) (after : Status) : Type 0 where
  pub state : State
  pub is : o ≡ Some state
  pub leads : state.status ≡ after
  pub passes : p ≡ passed

answered : (o : Option State) (p passed : Bool) (status after : Status)
    → status_answer status p (option_map (λ (t : State). t.status) o) ≡ UnitDone passed after
    → IsDone o p passed after
answered None p passed status after e = absurd (cc)
answered (Some n) p passed status after e =
    let leads : n.status ≡ after = cc in let passes : p ≡ passed = cc in
    record { state = n; is = refl; leads = leads; passes = passes }

module _ (v : Holding) (fails : List (List ℕ)) (passed : Bool) (after : Status) (sound : IsSound v)
    (ready : IsReservedWork v) (answer : answer_to fails (node_of v) ≡ UnitDone passed after) where
  abbrev p : Bool
  p = unit_passes fails (node_of v)

  pub work_done : IsDone (unit_stored (under v) passed) p passed after
  work_done =
      let done = answered (unit_stored (under v) p) p passed v.state.status after
      (foreseen v fails p sound ready refl (option_map (λ (t : State). t.status) (unit_stored (under v) p)) refl
      ∙ answer) in record {
        state = done.state;
        is = ap (unit_stored (under v)) (sym done.passes) ∙ done.is;
        leads = done.leads;
        passes = done.passes;
      }

  none-done : v.state.session ≡ None → ⊥
  none-done none =
      let no : None ≡ Some work_done.state = sym (ap (λ (o : Option (SessionOf Extent)). option_and_then (λ x.
      work_on (kept_by (under v)) (process_stored (under v) x) v.state x passed v.state.status) o) none)
      ∙ work_done.is in absurd (cc)

  pub work_recorded : v.state.entries < entry_limit → Records v passed after
  work_recorded room = go v.state.session refl
    where
      go : (o : Option (SessionOf Extent)) → v.state.session ≡ o → Records v passed after
      go None none = absurd (none-done none)
      go (Some x) some =
          let same = at-work v v.state.status x refl some in
          subst (λ u. Records u passed after) (sym same)
          (recorded-at v v.state.status x passed after room (subst IsSound same sound)
          (subst IsReservedWork same ready) work_done.state
          (subst (λ (u : Holding). unit_stored (under u) passed ≡ Some work_done.state) same work_done.is)
          work_done.leads)
