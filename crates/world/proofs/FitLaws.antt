-- The node of the tables over its fit states: the node of the world.
use Rattle.world.proofs.Names.{List, Bool, true, false, Bytes, Part, Cluster, NodeState, is_working, ids_of, parts_read}
use Rattle.world.proofs.Names.{Reading, formatted, id_in_processing, IsFit, Call, Reply, Synced, Refused, CallNo, arith}
use Rattle.world.proofs.Names.{◌≡◌, ◌≢◌, ◌⊎◌, inl, inr, ℕ, [], ◌∷◌, ◌++◌, Some, None, refl, sym, ap, subst, Contains}
use Rattle.world.proofs.Names.{Refusal, New, Old, Idle, Ready, Processing, Activating, Verifying, Activated}
use Rattle.world.proofs.Names.{RollingBack, RolledBack, CleaningUp, TransferStart, TransferData, TransferExit}
use Rattle.world.proofs.Names.{DeleteTransfer, ProcessSwPackage, Activate, Finish, Rollback, Revert, Cancel}
use Rattle.world.proofs.Rules.{NodeRules, NodeLaws, KeepsSession, KeepsTransfers}
use Rattle.world.proofs.Instance.{Outside, last_in, kept_in, mine_in, owner_in, planned_in, outcome_in, ended_in}
use Rattle.world.proofs.Instance.{received_in, judged_in, kept_after, outside_in, unit_in, BringsIn, LeavesIn, Opens}
use Rattle.world.proofs.Instance.{Calls, opened_in, real}
use Rattle.world.proofs.Basics as basics
use Rattle.world.proofs.Sessions as sessions
use Rattle.world.proofs.TransferLaws as transfers
use Rattle.world.proofs.Others as others

-- every step of the tables keeps a state fit
pub record KeepsNode (read : Reading) (clusters : List (Cluster Bytes)) : Type 0 where
  pub formatted : IsFit read (formatted clusters)
  pub judge : (s : NodeState) (c : Call) → IsFit read s → IsFit read (judged_in read s c).0
  pub keep : (s : NodeState) (at : CallNo) (c : Call) (r : Reply) → IsFit read s → IsFit read (kept_after s at c r)
  pub foreign : (s : NodeState) (f : Outside) → IsFit read s → IsFit read (outside_in read s f)
  pub unit : (s : NodeState) (passed : Bool) → IsFit read s → IsFit read (unit_in s passed)

-- a valid state
pub record FitState (read : Reading) : Type 0 where
  pub state : NodeState
  pub fit : IsFit read state

-- a refusal and a Sync leave the state
abbrev pub fit_after : (read : Reading) (clusters : List (Cluster Bytes)) → KeepsNode read clusters → FitState read
    → Call → Reply → FitState read
fit_after read clusters keeps x c (Synced y) = x
fit_after read clusters keeps x c (Refused why) = x
fit_after read clusters keeps x c _ = record { state = (judged_in read x.state c).0; fit = keeps.judge x.state c x.fit }

-- a unit in no working status leaves the state
abbrev pub fit_unit : (read : Reading) (clusters : List (Cluster Bytes)) → KeepsNode read clusters → FitState read
    → Bool → Bool → FitState read
fit_unit read clusters keeps x passed true =
    record { state = unit_in x.state passed; fit = keeps.unit x.state passed x.fit }
fit_unit read clusters keeps x passed false = x

abbrev pub fit : (read : Reading) (clusters : List (Cluster Bytes)) → KeepsNode read clusters → NodeRules
fit read clusters keeps =
    record {
      State = FitState read;
      ForeignCall = Outside;
      Change = Part Bytes;
      formatted = record { state = formatted clusters; fit = keeps.formatted };
      last = λ x. last_in x.state;
      kept = λ x. kept_in x.state;
      status = λ x. x.state.status;
      mine = λ x. mine_in x.state;
      owner = λ x. owner_in x.state;
      planned = λ x. planned_in x.state;
      in_process = λ x. id_in_processing x.state;
      outcome = λ x. outcome_in x.state;
      ended = λ x. ended_in x.state;
      transfers = λ x. ids_of x.state 0;
      received = λ x id. received_in x.state id;
      changes_of = λ bytes. parts_read (read bytes);
      judge = λ x c. (fit_after read clusters keeps x c (judged_in read x.state c).1, (judged_in read x.state c).1);
      keep = λ x at c r. record { state = kept_after x.state at c r; fit = keeps.keep x.state at c r x.fit };
      foreign = λ x f. record { state = outside_in read x.state f; fit = keeps.foreign x.state f x.fit };
      unit = λ x passed. fit_unit read clusters keeps x passed (is_working x.state.status);
      Brings = λ parts x y. BringsIn parts x.state y.state;
      Leaves = λ x y. LeavesIn x.state y.state;
    }

-- The node of the tables meets the world's laws, where every step keeps a state valid;
-- and so the law of campaigns holds of it.
module _ (read : Reading) (clusters : List (Cluster Bytes)) (keeps : KeepsNode read clusters) where
  N : NodeRules
  N = fit read clusters keeps

  -- what the judged state is
  pub state-is : (x : FitState read) (c : Call)
      → (fit_after read clusters keeps x c (judged_in read x.state c).1).state ≡ (judged_in read x.state c).0
  state-is x c = go (judged_in read x.state c).1 refl
    where
      go : (r : Reply) → (judged_in read x.state c).1 ≡ r
          → (fit_after read clusters keeps x c r).state ≡ (judged_in read x.state c).0
      go (Synced y) e =
          subst (λ d. x.state ≡ (judged_in read x.state d).0) (sym (basics.synced_only read clusters x.state c y e))
          refl
      go (Refused why) e = sym (basics.refused read clusters x.state c why e)
      go _ e = refl

  pub unit-is : (x : FitState read) (passed : Bool)
      → (fit_unit read clusters keeps x passed (is_working x.state.status)).state ≡ unit_in x.state passed
  unit-is x passed = grind arith

  session-of : (x y : FitState read) (u : NodeState) → y.state ≡ u → KeepsSession (real read clusters) x.state u
      → KeepsSession (fit read clusters keeps) x y
  session-of x y u e k =
      let h = subst (λ z. KeepsSession (real read clusters) x.state z) (sym e) k in
      record { mine = h.mine; status = h.status; planned = h.planned; in_process = h.in_process; outcome = h.outcome }

  transfers-of : (x y : FitState read) (u : NodeState) → y.state ≡ u → KeepsTransfers (real read clusters) x.state u
      → KeepsTransfers (fit read clusters keeps) x y
  transfers-of x y u e k =
      let h = subst (λ z. KeepsTransfers (real read clusters) x.state z) (sym e) k in
      record { transfers = h.transfers; received = h.received }

  -- a law of the judged state, and of the state after a unit
  judged : (x : FitState read) (c : Call) (P : NodeState → Type 0) → P (judged_in read x.state c).0
      → P (fit_after read clusters keeps x c (judged_in read x.state c).1).state
  judged x c P h = subst P (sym (state-is x c)) h

  worked : (x : FitState read) (passed : Bool) (P : NodeState → Type 0) → P (unit_in x.state passed)
      → P (fit_unit read clusters keeps x passed (is_working x.state.status)).state
  worked x passed P h = subst P (sym (unit-is x passed)) h

  unit_none : (x : FitState read) (p : Bool) → mine_in x.state ≡ None
      → (mine_in (fit_unit read clusters keeps x p (is_working x.state.status)).state ≡ None)
      × (ended_in (fit_unit read clusters keeps x p (is_working x.state.status)).state ≡ ended_in x.state)
      × KeepsTransfers (fit read clusters keeps) x (fit_unit read clusters keeps x p (is_working x.state.status))
  unit_none x p none =
      let h = others.unit_none read clusters x.state p x.fit.consistent none in (
        worked x p (λ t. mine_in t ≡ None) h.0,
        worked x p (λ t. ended_in t ≡ ended_in x.state) h.1,
        transfers-of x (fit_unit read clusters keeps x p (is_working x.state.status)) (unit_in x.state p)
            (unit-is x p) h.2,
      )

  abbrev Processed' : NodeState → NodeState → ℕ → ℕ → Type 0
  Processed' s t tag id =
      (mine_in t ≡ Some tag) × (ended_in t ≡ ended_in s)
      × (((t.status ≡ Processing) × (planned_in t ≡ planned_in s) × (id_in_processing t ≡ Some id))
      ⊎ ((t.status ≡ Ready) × (planned_in t ≡ planned_in s ++ parts_read (read (received_in s id)))))

  unit_processing : (x : FitState read) (p : Bool) (tag id : ℕ) → mine_in x.state ≡ Some tag
      → x.state.status ≡ Processing → id_in_processing x.state ≡ Some id
      → Processed' x.state (fit_unit read clusters keeps x p (is_working x.state.status)).state tag id
  unit_processing x p tag id mine st pr =
      worked x p (λ t. Processed' x.state t tag id)
      (transfers.unit_processing read clusters x.state p tag id x.fit mine st pr)

  -- what happens beside the master's calls
  outside-session : (x : FitState read) (f : Outside) (tag : ℕ) → mine_in x.state ≡ Some tag
      → KeepsSession (real read clusters) x.state (outside_in read x.state f)
  outside-session x (Opens cs ok) tag mine = basics.keeps-of read clusters x.state (opened_in cs x.state) refl refl
  outside-session x (Calls f) tag mine = others.foreign_session read clusters x.state f tag mine

  outside-none : (x : FitState read) (f : Outside) → mine_in x.state ≡ None → mine_in (outside_in read x.state f) ≡ None
  outside-none x (Opens cs ok) none = none
  outside-none x (Calls f) none = others.foreign_none read x.state f none

  outside-transfers : (x : FitState read) (f : Outside)
      → KeepsTransfers (real read clusters) x.state (outside_in read x.state f)
  outside-transfers x (Opens cs ok) = record { transfers = refl; received = λ id. refl }
  outside-transfers x (Calls f) = others.foreign_transfers read clusters x.state f x.fit.consistent

  outside-last : (x : FitState read) (f : Outside)
      → (last_in (outside_in read x.state f) ≡ last_in x.state)
      × (kept_in (outside_in read x.state f) ≡ kept_in x.state)
      × (ended_in (outside_in read x.state f) ≡ ended_in x.state)
  outside-last x (Opens cs ok) = (refl, refl, refl)
  outside-last x (Calls f) = others.foreign_last read x.state f

  cancelled : (x : FitState read) (id : ℕ)
      → ((why : Refusal) × ((judged_in read x.state (Cancel id)).1 ≡ Refused why))
      ⊎ sessions.Stopped read clusters x.state
      (fit_after read clusters keeps x (Cancel id) (judged_in read x.state (Cancel id)).1).state
  cancelled x id =
      elim (sessions.cancel read clusters x.state id x.fit.consistent)
      [ inl r ↦ inl r | inr d ↦ inr (judged x (Cancel id) (λ t. sessions.Stopped read clusters x.state t) d) ]

  pub fit-laws : NodeLaws (fit read clusters keeps)
  fit-laws =
      record {
        formatted_mine = refl;
        formatted_transfers = refl;
        formatted_last = refl;
        keep_last = λ x at c r. basics.keep_last x.state at c r x.fit.consistent;
        keep_kept = λ x at c r. basics.keep_kept x.state at c r x.fit.consistent;
        keep_session =
            λ x at c r. session-of x
            (record { state = kept_after x.state at c r; fit = keeps.keep x.state at c r x.fit })
            (kept_after x.state at c r) refl (basics.keep_session read clusters x.state at c r);
        keep_transfers =
            λ x at c r. transfers-of x
            (record { state = kept_after x.state at c r; fit = keeps.keep x.state at c r x.fit })
            (kept_after x.state at c r) refl (basics.keep_transfers read clusters x.state at c r);
        keep_ended = λ x at c r. refl;
        judge_ended =
            λ x c. judged x c (λ t. ended_in t ≡ ended_in x.state) (basics.judge_ended read clusters x.state c);
        refused = λ x c why e. ap (fit_after read clusters keeps x c) e;
        sync_state = λ x. refl;
        sync_reply = λ x. basics.sync_reply read clusters x.state x.fit.consistent;
        start_session =
            λ x size. session-of x
            (fit_after read clusters keeps x (TransferStart size) (judged_in read x.state (TransferStart size)).1)
            (judged_in read x.state (TransferStart size)).0 (state-is x (TransferStart size))
            (basics.start_session read clusters x.state size);
        data_session =
            λ x id counter bytes. session-of x
            (fit_after read clusters keeps x (TransferData id counter bytes)
            (judged_in read x.state (TransferData id counter bytes)).1)
            (judged_in read x.state (TransferData id counter bytes)).0 (state-is x (TransferData id counter bytes))
            (basics.data_session read clusters x.state id counter bytes);
        exit_session =
            λ x id. session-of x
            (fit_after read clusters keeps x (TransferExit id) (judged_in read x.state (TransferExit id)).1)
            (judged_in read x.state (TransferExit id)).0 (state-is x (TransferExit id))
            (basics.exit_session read clusters x.state id);
        delete_session =
            λ x id. session-of x
            (fit_after read clusters keeps x (DeleteTransfer id) (judged_in read x.state (DeleteTransfer id)).1)
            (judged_in read x.state (DeleteTransfer id)).0 (state-is x (DeleteTransfer id))
            (basics.delete_session read clusters x.state id);
        start_received =
            λ x size id e. judged x (TransferStart size) (λ t. (received_in t id ≡ [])
            × ((other : ℕ) → other ≢ id → received_in t other ≡ received_in x.state other))
            (transfers.start_received read clusters x.state size id x.fit.consistent e);
        data_received =
            λ x id counter bytes e. judged x (TransferData id counter bytes)
            (λ t. (received_in t id ≡ received_in x.state id ++ bytes)
            × ((other : ℕ) → other ≢ id → received_in t other ≡ received_in x.state other))
            (transfers.data_received read clusters x.state id counter bytes e);
        start_replies = λ x size. basics.start_replies read clusters x.state size;
        data_replies = λ x id counter bytes. basics.data_replies read clusters x.state id counter bytes;
        exit_replies = λ x id. basics.exit_replies read clusters x.state id;
        start_transfers =
            λ x size id e. judged x (TransferStart size) (λ t. (Contains (ids_of x.state 0) id → ⊥)
            × (ids_of t 0 ≡ ids_of x.state 0 ++ id ∷ []))
            (transfers.start_transfers read clusters x.state size id x.fit.consistent e);
        data_transfers =
            λ x id counter bytes. judged x (TransferData id counter bytes) (λ t. ids_of t 0 ≡ ids_of x.state 0)
            (transfers.data_transfers read clusters x.state id counter bytes);
        exit_received =
            λ x id. transfers-of x
            (fit_after read clusters keeps x (TransferExit id) (judged_in read x.state (TransferExit id)).1)
            (judged_in read x.state (TransferExit id)).0 (state-is x (TransferExit id))
            (transfers.exit_received read clusters x.state id);
        process_idle =
            λ x id tag none d. judged x (ProcessSwPackage id tag) (λ t. (x.state.status ≡ Idle) × (mine_in t ≡ Some tag)
            × (t.status ≡ Processing) × (planned_in t ≡ []) × (id_in_processing t ≡ Some id))
            (sessions.process_idle read clusters x.state id tag x.fit.consistent none d);
        process_ready =
            λ x id tag old mine d. judged x (ProcessSwPackage id tag) (λ t. (x.state.status ≡ Ready) × (tag ≡ old)
            × (mine_in t ≡ Some old) × (t.status ≡ Processing) × (planned_in t ≡ planned_in x.state)
            × (id_in_processing t ≡ Some id))
            (sessions.process_ready read clusters x.state id tag old x.fit.consistent mine d);
        process_received =
            λ x id tag. transfers-of x
            (fit_after read clusters keeps x (ProcessSwPackage id tag)
            (judged_in read x.state (ProcessSwPackage id tag)).1) (judged_in read x.state (ProcessSwPackage id tag)).0
            (state-is x (ProcessSwPackage id tag)) (transfers.process_received read clusters x.state id tag);
        activate_mine = λ x d. sessions.activate_mine read clusters x.state x.fit.consistent d;
        activate =
            record {
              only = λ x tag mine d st. judged x Activate
                  (λ t. sessions.MovesTo read clusters x.state t tag Activating None)
                  (sessions.activate read clusters x.state tag x.fit.consistent mine d st);
            };
        finish_mine = λ x d. sessions.finish_mine read clusters x.state x.fit.consistent d;
        finish_new =
            record {
              only = λ x tag mine d st. judged x Finish
                  (λ t. sessions.MovesTo read clusters x.state t tag CleaningUp (Some New))
                  (sessions.finish_new read clusters x.state tag mine d st);
            };
        finish_old =
            record {
              only = λ x tag mine d st. judged x Finish
                  (λ t. sessions.MovesTo read clusters x.state t tag CleaningUp (Some Old))
                  (sessions.finish_old read clusters x.state tag mine d st);
            };
        rollback_mine = λ x d. sessions.rollback_mine read clusters x.state x.fit.consistent d;
        rollback_verifying =
            record {
              only = λ x tag mine d st. judged x Rollback
                  (λ t. sessions.MovesTo read clusters x.state t tag RollingBack None)
                  (sessions.rollback_verifying read clusters x.state tag x.fit.consistent mine d st);
            };
        rollback_activated =
            record {
              only = λ x tag mine d st. judged x Rollback
                  (λ t. sessions.MovesTo read clusters x.state t tag RollingBack None)
                  (sessions.rollback_activated read clusters x.state tag x.fit.consistent mine d st);
            };
        revert_mine = λ x d. sessions.revert_mine read clusters x.state x.fit.consistent d;
        revert =
            record {
              only = λ x tag mine d st. judged x Revert
                  (λ t. sessions.MovesTo read clusters x.state t tag CleaningUp (Some Old))
                  (sessions.revert read clusters x.state tag mine d st);
            };
        six_replies = λ x c h. basics.six_replies read clusters x.state c h;
        process_replies = λ x id tag. basics.process_replies read clusters x.state id tag;
        cancel = cancelled;
        foreign_session =
            λ x f tag mine. session-of x
            (record { state = outside_in read x.state f; fit = keeps.foreign x.state f x.fit })
            (outside_in read x.state f) refl (outside-session x f tag mine);
        foreign_none = outside-none;
        foreign_transfers =
            λ x f. transfers-of x (record { state = outside_in read x.state f; fit = keeps.foreign x.state f x.fit })
            (outside_in read x.state f) refl (outside-transfers x f);
        foreign_last = outside-last;
        unit_last =
            λ x p. worked x p (λ t. (last_in t ≡ last_in x.state) × (kept_in t ≡ kept_in x.state))
            (transfers.unit_last x.state p);
        unit_still = λ x passed e. ap (fit_unit read clusters keeps x passed) e;
        unit_none = unit_none;
        unit_processing = unit_processing;
        unit_activating =
            λ x p tag mine st. worked x p (λ t. transfers.GoesTo x.state t tag (λ to. to ≡ Verifying))
            (transfers.unit_activating x.state p tag mine st);
        unit_verifying =
            λ x p tag mine st. worked x p
            (λ t. transfers.GoesTo x.state t tag (λ to. (to ≡ Verifying) ⊎ ((to ≡ Activated) ⊎ (to ≡ RollingBack))))
            (transfers.unit_verifying x.state p tag mine st);
        unit_rolling =
            λ x p tag mine st. worked x p (λ t. transfers.GoesTo x.state t tag (λ to. to ≡ RolledBack))
            (transfers.unit_rolling x.state p tag mine st);
        unit_received =
            λ x p tag mine n. transfers-of x (fit_unit read clusters keeps x p (is_working x.state.status))
            (unit_in x.state p) (unit-is x p) (transfers.unit_received read clusters x.state p n);
        unit_cleaning =
            λ x p tag o mine st out. worked x p (λ t. (mine_in t ≡ None) × (t.status ≡ Idle)
            × (ended_in t ≡ Some (record { tag = tag; outcome = o })))
            (transfers.unit_cleaning x.state p tag o x.fit.consistent mine st out);
        cleaning_new =
            λ x p tag mine st out. worked x p (λ t. BringsIn (planned_in x.state) x.state t)
            (transfers.cleaning_new x.state p tag x.fit.consistent mine st out);
        cleaning_old =
            λ x p tag mine st out. worked x p (λ t. LeavesIn x.state t)
            (transfers.cleaning_old x.state p tag x.fit.consistent mine st out);
        processing_id = λ x tag mine st. transfers.processing_id x.state tag x.fit.consistent st;
        synced_only = λ x c y e. basics.synced_only read clusters x.state c y e;
        session_status = λ x tag mine. sessions.session_status x.state tag x.fit.consistent mine;
        cleaning_outcome = λ x tag mine st. transfers.cleaning_outcome x.state tag x.fit.consistent mine st;
      }
