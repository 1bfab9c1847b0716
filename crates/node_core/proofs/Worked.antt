-- What a unit of work leaves of a sound node.
use Rattle.node_core.proofs.Names.{Activated, Activating, AllByRecursion, Areas, BeingProcessed, Bool, CleaningUp}
use Rattle.node_core.proofs.Names.{Cluster, Extent, Holding, IsCopied, IsExtent, IsFit, IsInOrder, IsPlaced, IsSound}
use Rattle.node_core.proofs.Names.{List, NodeState, Option, Processing, RolledBack, RollingBack, SessionOf, Some}
use Rattle.node_core.proofs.Names.{State, Status, StoredTransfer, Transfer, Verifying, activate_unit, after_work, ap}
use Rattle.node_core.proofs.Names.{arith, change_meaning, change_place, cluster_place, each-append, each-filter}
use Rattle.node_core.proofs.Names.{each-first, each-imp, each-unmap, end_session, false, filter-means, has_status}
use Rattle.node_core.proofs.Names.{id_in_processing, if◌then◌else◌, is_in, is_some, keeps-fit, length, length-map}
use Rattle.node_core.proofs.Names.{map, meaning, nat_lt, node_of, package_reading, phase_code, planned, refl}
use Rattle.node_core.proofs.Names.{roll_back_unit, should_run, some_passes, subst, sym, table-filter, table_of}
use Rattle.node_core.proofs.Names.{transfer_meaning, true, unit, unit_passes, with_slots, ℕ, [], ◌++◌, ◌+◌, ◌==◌, ◌∙◌}
use Rattle.node_core.proofs.Names.{◌≡◌}
use Rattle.node_core.proofs.Stored.{copied-when}
use Rattle.node_core.proofs.Lists.{each-second}
use Rattle.node_core.proofs.Arrived.{marked-order}
use Rattle.node_core.proofs.Natural.{planned-means}
use Rattle.node_core.proofs.Sound.{reading-is, table-is}
use Rattle.pm_types.specs.NodeState.{outlasts}
use Rattle.node_core.proofs.Planned.{IsAmong, among-fit, planned-each, planned-places}

-- what a unit of work makes of a sound node
pub record IsUnit (v : Holding) (passed : Bool) (s : State) : Type 0 where
  pub node : unit (node_of v) passed ≡ Some (meaning package_reading v.areas s)
  pub order : IsInOrder package_reading v.areas s
  pub copied : IsCopied package_reading v.areas s

-- a node in this status, with this session
abbrev pub at_work : Holding → Status → SessionOf Extent → Holding
at_work v status x = record v { state = record v.state { status = status; session = Some x } }

pub at-work : (v : Holding) (status : Status) (x : SessionOf Extent) → v.state.status ≡ status
    → v.state.session ≡ Some x → v ≡ at_work v status x
at-work v status x q e = λ i. record v { state = record v.state { status = q i; session = e i } }

-- where no transfer is in processing, nothing need be copied
pub none-copied : (areas : Areas) (s : State) → AllByRecursion (λ t. is_in BeingProcessed t.header ≡ false) s.transfers
    → IsCopied package_reading areas s
none-copied areas s each =
    each-imp _ _ (λ t idle. copied-when areas s t t.header.phase (λ e. let z =
    ap (λ p. phase_code p == 2) (sym e) ∙ idle in absurd (cc))) s.transfers each

-- none is outside Processing
pub none-processed : (v : Holding) → IsSound v → has_status Processing (node_of v) ≡ false
    → AllByRecursion (λ t. is_in BeingProcessed t.header ≡ false) v.state.transfers
none-processed v sound other =
    let due = sound.fit.consistent.processing in
    each-imp _ _ (λ t same. same ∙ of (id_in_processing (node_of v)) t (due.status ∙ other)) v.state.transfers
    (each-unmap (λ (t : Transfer). is_in BeingProcessed t.header
    ≡ some_passes (λ id. id == t.header.id) (id_in_processing (node_of v)))
    (transfer_meaning package_reading v.areas) v.state.transfers due.each)
  where
    of : (o : Option ℕ) (t : StoredTransfer) → is_some o ≡ false → some_passes (λ id. id == t.header.id) o ≡ false
    of o t e = grind arith

module _ (v : Holding) (x : SessionOf Extent) where
  -- the state with another status and session, and other running clusters
  abbrev pub moved : Status → SessionOf Extent → List (Cluster Extent) → State
  moved status y running = record v.state { status = status; session = Some y; running = running }

  abbrev means : State → NodeState
  means s = meaning package_reading v.areas s

  abbrev places : List (List ℕ × ℕ)
  places = map cluster_place x.saved ++ map change_place x.changes

  -- one change more is verified
  pub verified-unit : IsSound (at_work v Verifying x) → (more : Bool) → nat_lt (x.verified + 1) (length x.changes)
      ≡ more
      → IsUnit (at_work v Verifying x) true (moved (if more then Verifying
      else Activated) (record x { verified = x.verified + 1 }) v.state.running)
  verified-unit sound more e = record {
    node = ap (λ n. Some (means (after (nat_lt (x.verified + 1) n)))) (length-map x.changes (change_meaning v.areas))
        ∙ ap (λ b. Some (means (after b))) e;
    order = marked-order v.areas (at_work v Verifying x).state (if more then Verifying
        else Activated) x x.processing x.units_done
        (x.verified + 1) x.outcome sound.order (runs more);
    copied = none-copied v.areas (after more) (none-processed (at_work v Verifying x) sound refl);
  }
    where
      after : Bool → State
      after b = moved (if b then Verifying else Activated) (record x { verified = x.verified + 1 }) v.state.running

      runs : (more : Bool) → v.state.running
          ≡ should_run (record x { verified = x.verified + 1 }) (if more then Verifying else Activated) x.outcome
      runs more = grind (arith, sound.order.running)

  -- a change fails
  pub turned-unit : IsSound (at_work v Verifying x)
      → IsUnit (at_work v Verifying x) false (moved RollingBack x v.state.running)
  turned-unit sound = record {
    node = refl;
    order = marked-order v.areas (at_work v Verifying x).state RollingBack x x.processing x.units_done x.verified
        x.outcome sound.order runs;
    copied = none-copied v.areas (moved RollingBack x v.state.running)
        (none-processed (at_work v Verifying x) sound refl);
  }
    where
      runs : v.state.running ≡ should_run x RollingBack x.outcome
      runs = grind (arith, sound.order.running)

  -- other clusters run, with the places of those that were saved and of the changes
  rerun : (passed : Bool) (status next : Status) (verified : ℕ) (running : List (Cluster Extent))
      → IsSound (at_work v status x)
      → has_status Processing (node_of (at_work v status x)) ≡ false
      → unit (node_of (at_work v status x)) passed
      ≡ Some (means (moved next (record x { verified = verified }) running))
      → AllByRecursion (λ c. IsExtent c.content) running → IsAmong (map cluster_place running) places
      → running ≡ should_run (record x { verified = verified }) next x.outcome
      → IsUnit (at_work v status x) passed (moved next (record x { verified = verified }) running)
  rerun passed status next verified running sound other node extents among runs = record {
    node = node;
    order = record {
      clusters = extents;
      session = sound.order.session;
      transfers = sound.order.transfers;
      slots = sound.order.slots;
      places = among-fit (map cluster_place running ++ places) (map cluster_place v.state.running ++ places)
          (λ P each. let rest = each-second P (map cluster_place v.state.running) places each in
          each-append P (map cluster_place running) places (among P rest) rest) sound.order.places;
      running = runs;
    };
    copied = none-copied v.areas (moved next (record x { verified = verified }) running)
        (none-processed (at_work v status x) sound other);
  }

  -- the planned clusters run
  pub activated-unit : (passed : Bool) → IsSound (at_work v Activating x)
      → IsUnit (at_work v Activating x) passed (activate_unit (at_work v Activating x).state x)
  activated-unit passed sound =
      rerun passed Activating Verifying 0 (planned x.changes x.saved) sound refl
      (ap (λ cs. Some (record (means (moved Verifying (record x { verified = 0 }) v.state.running)) { running = cs }))
      (planned-means v.areas x.changes x.saved))
      (planned-each (λ c. IsExtent c.content) x.changes x.saved sound.order.session.1 sound.order.session.0)
      (planned-places x.changes x.saved) refl

  -- the saved clusters run again
  pub rolled-unit : (passed : Bool) → IsSound (at_work v RollingBack x)
      → IsUnit (at_work v RollingBack x) passed (roll_back_unit (at_work v RollingBack x).state x)
  rolled-unit passed sound =
      rerun passed RollingBack RolledBack x.verified x.saved sound refl refl sound.order.session.0
      (λ P each. each-first P (map cluster_place x.saved) (map change_place x.changes) each) refl

  -- the session is over
  pub cleaned-unit : (passed : Bool) → IsSound (at_work v CleaningUp x)
      → IsUnit (at_work v CleaningUp x) passed (end_session (with_slots [] []) (at_work v CleaningUp x).state x)
  cleaned-unit passed sound = record {
    node = ap (λ us. Some (record (means over_now) { transfers = us }))
        (filter-means package_reading v.areas outlasts v.state.transfers);
    order = record {
      clusters = sound.order.clusters;
      session = tt;
      transfers = each-filter (IsPlaced package_reading v.areas) _ v.state.transfers sound.order.transfers;
      slots =
          (table-filter (λ t. outlasts t.header) (table_of v.state) (table-is (at_work v CleaningUp x) sound)).slots;
      places = among-fit (map cluster_place v.state.running ++ []) (map cluster_place v.state.running ++ places)
          (λ P each. each-append P (map cluster_place v.state.running) []
          (each-first P (map cluster_place v.state.running) places each) tt)
          sound.order.places;
      running = tt;
    };
    copied = none-copied v.areas over_now
        (each-filter (λ t. is_in BeingProcessed t.header ≡ false) _ v.state.transfers
        (none-processed (at_work v CleaningUp x) sound refl));
  }
    where
      over_now : State
      over_now = end_session (with_slots [] []) (at_work v CleaningUp x).state x

-- work leaves a node fit
pub worked-fit : (v new : Holding) (fails : List (List ℕ)) → IsSound v → node_of new ≡ after_work fails (node_of v)
    → IsFit package_reading (node_of new)
worked-fit v new fails sound node =
    subst (IsFit package_reading) (sym node)
    ((keeps-fit package_reading reading-is).unit (node_of v) (unit_passes fails (node_of v)) sound.fit)
