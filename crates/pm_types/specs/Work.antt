-- The work table: what one unit of work does.
use Rattle.std.specs.Prelude.{ℕ, ◌+◌, Bool, nat_lt, if◌then◌else◌, List, [], ◌++◌, length, slice_set, option_and_then, Option, Some, None, Ok}
use Rattle.ucm_base.specs.Parts.{Bytes}
use Rattle.ucm_base.specs.declared.parts.Part.{Part}
use Rattle.pm_types.specs.declared.replies.EndMark.{EndMark}
use Rattle.pm_types.specs.declared.status.Phase.TheVariants.{Processing as BeingProcessed, Processed}
use Rattle.pm_types.specs.declared.status.Status.{Status}
use Rattle.pm_types.specs.declared.status.Status.TheVariants.{Idle, Ready, Processing, Activating, Verifying, Activated, RollingBack, RolledBack, CleaningUp}
use Rattle.pm_types.specs.NodeState.{NodeOf, NodeState, Session, SessionOf}
use Rattle.pm_types.specs.Clusters.{planned, changes_of, all_units}
use Rattle.pm_types.specs.declared.clusters.Change.{Change}
use Rattle.pm_types.specs.Transfers.{Keeping, outlasting, parts_of, transfer_of, with_bytes, with_phase}

-- the parts that are in processing
abbrev pub parts_of_id : NodeState → Session → ℕ → List (Part Bytes)
parts_of_id s x id = parts_of (transfer_of s x.owner id)

-- the last unit of a package adds its changes to the plan
abbrev pub end_processing : {C T : Type 0} → Keeping T → NodeOf C T → SessionOf C → ℕ → List (Change C) → NodeOf C T
end_processing k s x id changes = record (with_phase k id Processed s) {
  status = Ready;
  session = Some (record x { changes = x.changes ++ changes; processing = None; units_done = x.units_done + 1 });
}

-- 4,096 bytes more of so many units, the last of which brings changes
abbrev pub process : {C T : Type 0} → Keeping T → ℕ → List (Change C) → NodeOf C T → SessionOf C → ℕ → NodeOf C T
process k units changes s x id =
    if nat_lt (x.units_done + 1) units
    then record s { session = Some (record x { units_done = x.units_done + 1 }) }
    else end_processing k s x id changes

-- the same of a node with the bytes themselves
abbrev pub processed : NodeState → Session → ℕ → List (Part Bytes) → NodeState
processed s x id parts = end_processing (with_bytes (Ok [])) s x id (changes_of id parts)

abbrev pub process_unit : NodeState → Session → ℕ → NodeState
process_unit s x id =
    let parts = parts_of_id s x id in process (with_bytes (Ok [])) (all_units parts) (changes_of id parts) s x id

-- the planned clusters run, and none is verified
abbrev pub activate_unit : {C T : Type 0} → NodeOf C T → SessionOf C → NodeOf C T
activate_unit s x = record s {
  status = Verifying;
  running = planned x.changes x.saved;
  session = Some (record x { verified = 0 });
}

-- one change more is verified, or the node turns back
abbrev pub verify_unit : {C T : Type 0} → NodeOf C T → SessionOf C → Bool → NodeOf C T
verify_unit s x passed =
    let verified = x.verified + 1 in
    let passed_on = record s {
      status = (if nat_lt verified (length x.changes) then Verifying else Activated);
      session = Some (record x { verified = verified });
    } in
    if passed then passed_on else record s { status = RollingBack }

-- the saved clusters run again
abbrev pub roll_back_unit : {C T : Type 0} → NodeOf C T → SessionOf C → NodeOf C T
roll_back_unit s x = record s { status = RolledBack; running = x.saved }

abbrev pub end_mark : {C : Type 0} → SessionOf C → Option EndMark
end_mark x = elim x.outcome [ None ↦ None | Some outcome ↦ Some (record { tag = x.tag; outcome = outcome }) ]

-- the session is over
abbrev pub end_session : {C T : Type 0} → Keeping T → NodeOf C T → SessionOf C → NodeOf C T
end_session k s x = record s {
  status = Idle;
  transfers = outlasting k s.transfers;
  session = None;
  ended = slice_set s.ended x.owner (end_mark x);
}

abbrev pub clean_up_unit : NodeState → Session → NodeState
clean_up_unit s x = end_session (with_bytes (Ok [])) s x

-- one unit, however the transfers are kept, where one of a package has this effect
abbrev pub work_on : {C T : Type 0} → Keeping T → (ℕ → NodeOf C T) → NodeOf C T → SessionOf C → Bool → Status
    → Option (NodeOf C T)
work_on k processing s x passed Processing = option_and_then (λ id. Some (processing id)) x.processing
work_on k processing s x passed Activating = Some (activate_unit s x)
work_on k processing s x passed Verifying = Some (verify_unit s x passed)
work_on k processing s x passed RollingBack = Some (roll_back_unit s x)
work_on k processing s x passed CleaningUp = Some (end_session k s x)
work_on k processing s x passed _ = None

abbrev pub unit_of : NodeState → Session → Bool → Status → Option NodeState
unit_of s x passed status = work_on (with_bytes (Ok [])) (process_unit s x) s x passed status

-- the state after one unit of work, where there is one to do
abbrev pub unit : NodeState → Bool → Option NodeState
unit s passed = option_and_then (λ x. unit_of s x passed s.status) s.session
