-- What every event keeps, for one node.
use Rattle.world.proofs.Names.{RollingBack, Done, ◌≡◌, ◌≢◌, ◌⊎◌, ℕ, ◌≤◌, List, [], ◌∷◌, Option, Some, None, true, false}
use Rattle.world.proofs.Names.{Old, RolledBack, CleaningUp, CampaignResult, Successful, Decision, Commit, Abort, Cause}
use Rattle.world.proofs.Names.{Fold, Current, flag_of, end_of, all_below, Shown, Reply, ProcessSwPackage, Finish}
use Rattle.world.proofs.Names.{Synced, IsBelow, Message, Answered, IsIn, is_masters, session_status}
use Rattle.world.proofs.Names.{last_status, arith, inl, inr, Bool, refl, sym, ◌∙◌, ap, CallNo, Status, Processing, Call}
use Rattle.world.proofs.Names.{Sync, Activate, Rollback, Revert, Cancel, no_lt, no_eq, is_working}
use Rattle.world.proofs.Rules.{NodeRules, NodeWorld, state_of, spans, EachEnded, shown_session, NodeLaws}
use Rattle.world.proofs.Rules.{KeepsSession, delivered}

-- a session of client 0 is in RolledBack, or is being cleaned up
abbrev pub IsRolledBack : (N : NodeRules) → N.State → Type 0
IsRolledBack N s = (tag : ℕ) → N.mine s ≡ Some tag → (N.status s ≡ RolledBack) ⊎ (N.status s ≡ CleaningUp)

-- no session of client 0 ends as New
abbrev pub EndsOld : (N : NodeRules) → N.State → Type 0
EndsOld N s = (tag : ℕ) → N.mine s ≡ Some tag → N.status s ≡ CleaningUp → N.outcome s ≡ Some Old

-- what a kept Sync still says: no session of client 0, or RolledBack
pub record KeptHolds (N : NodeRules) (s : N.State) : Type 0 where
  pub none : (x : Shown) → N.kept s ≡ Synced x → is_masters x.session ≡ false → N.mine s ≡ None
  pub rolled : (x : Shown) → N.kept s ≡ Synced x → session_status x.session ≡ RolledBack → IsRolledBack N s

-- a message that the node would still carry out
abbrev pub Executable : (N : NodeRules) → N.State → Message → Type 0
Executable N s m = IsBelow (N.last s) m.at

-- the newest first, each above all that were sent before it
abbrev pub Falling : List Message → Type 0
Falling [] = Unit {0}
Falling (m ∷ ms) = ((older : Message) → IsIn older ms → IsBelow older.at m.at) × Falling ms

-- no message from before the decision is executable
abbrev pub NoneEarly : (N : NodeRules) → N.State → List Message → Type 0
NoneEarly N s sent = (m : Message) → IsIn m sent → m.decided ≡ false → Executable N s m → ⊥

-- the present campaign of the node: it is current, names the node, and the node hasn't ended
abbrev pub InPresent : Fold → ℕ → (Current → Type 0) → Type 0
InPresent f n P = (c : Current) × (f.current ≡ Some c) × (flag_of c.named n ≡ true) × (end_of c n ≡ None) × P c

abbrev pub NotCommit : Option Decision → Type 0
NotCommit d = d ≢ Some Commit

-- a number that no campaign has yet
pub record IsFresh (f : Fold) (k : ℕ) : Type 0 where
  pub above : all_below k f.earlier ≡ true
  pub other : (c : Current) → f.current ≡ Some c → c.campaign ≢ k

-- the half of the invariant on which the law of failed and cancelled campaigns stands, for one node
pub record KeptOld (N : NodeRules) (f : Fold) (n : ℕ) (x : NodeWorld N) : Type 0 where
  -- messages
  pub falling : Falling x.sent
  pub epochs : (m : Message) → IsIn m x.sent → m.at.epoch ≤ f.epoch
  pub tags : (m : Message) → IsIn m x.sent → (id tag : ℕ) → m.call ≡ ProcessSwPackage id tag
      → (tag ≡ m.campaign) × (m.decided ≡ false)
  pub early : (m : Message) → IsIn m x.sent → m.decided ≡ false → m.call ≢ Finish
  pub decided : (m : Message) → IsIn m x.sent → m.decided ≡ true → (c : Current) → f.current ≡ Some c
      → m.campaign ≡ c.campaign → c.decision ≢ None
  pub ordered : (m older : Message) → IsIn m x.sent → IsIn older x.sent → m.campaign ≡ older.campaign → m.decided ≡ true
      → older.decided ≡ false → IsBelow older.at m.at
  pub begun : (m : Message) → IsIn m x.sent → (k : ℕ) → IsFresh f k → m.campaign ≢ k
  pub present : (m : Message) → IsIn m x.sent → Executable N (state_of N x) m
      → InPresent f n (λ c. m.campaign ≡ c.campaign)
  -- what the master was told
  pub told_sent : (m : Message) (r : Reply) → IsIn (Answered m r) x.told
      → IsIn m x.sent × (Executable N (state_of N x) m → ⊥)
  pub told_none : (m : Message) (y : Shown) → IsIn (Answered m (Synced y)) x.told → m.decided ≡ true → (c : Current)
      → f.current ≡ Some c → m.campaign ≡ c.campaign → is_masters y.session ≡ false → N.mine (state_of N x) ≡ None
  pub told_rolled : (c : Current) → f.current ≡ Some c → last_status c.campaign f.epoch x.told ≡ Some RolledBack
      → IsRolledBack N (state_of N x)
  pub kept_holds : KeptHolds N (state_of N x)
  -- an executable Finish after Abort meets nothing but RolledBack
  pub finish : (c : Current) (cause : Cause) → f.current ≡ Some c → c.decision ≡ Some (Abort cause) → (m : Message)
      → IsIn m x.sent → m.call ≡ Finish → Executable N (state_of N x) m
      → NoneEarly N (state_of N x) x.sent × IsRolledBack N (state_of N x)
  pub ends_old : (c : Current) → f.current ≡ Some c → NotCommit c.decision → EndsOld N (state_of N x)
  -- sessions of client 0 are the present campaign's
  pub session : (tag : ℕ) → N.mine (state_of N x) ≡ Some tag → InPresent f n (λ c. tag ≡ c.campaign)
  pub open_span : (k : ℕ) → (spans N k x.moves).is_open ≡ true → N.mine (state_of N x) ≡ Some k
  -- spans that have ended
  pub old_so_far : (c : Current) → f.current ≡ Some c → NotCommit c.decision
      → EachEnded N (λ y. N.Leaves y.before y.left) (spans N c.campaign x.moves).ended
  pub fresh : (k : ℕ) → IsFresh f k → (spans N k x.moves).ended ≡ []
  pub entered : (k : ℕ) (result : CampaignResult) → IsIn (k, result) f.earlier → result ≢ Successful
      → EachEnded N (λ y. N.Leaves y.before y.left) (spans N k x.moves).ended

-- of the master's list alone
pub record KeptFold (f : Fold) : Type 0 where
  pub undecided : (c : Current) → f.current ≡ Some c → c.decision ≡ None → (n : ℕ) → end_of c n ≡ None
  pub above : (c : Current) → f.current ≡ Some c → (k : ℕ) (result : CampaignResult) → IsIn (k, result) f.earlier
      → k ≢ c.campaign

-- What one step of a node keeps, from the laws of a node alone.
module _ (N : NodeRules) (laws : NodeLaws N) where
  -- a step that keeps client 0's session keeps both facts
  pub rolled-keeps : (s t : N.State) → KeepsSession N s t → IsRolledBack N s → IsRolledBack N t
  rolled-keeps s t k rolled tag mine = grind arith

  pub ends_old-keeps : (s t : N.State) → KeepsSession N s t → EndsOld N s → EndsOld N t
  ends_old-keeps s t k old tag mine status = grind arith

  pub ends_old-none : (s : N.State) → N.mine s ≡ None → EndsOld N s
  ends_old-none s none tag mine status = absurd (cc (none, mine))

  -- a foreign call
  pub rolled-foreign : (s : N.State) (call : N.ForeignCall) → IsRolledBack N s → IsRolledBack N (N.foreign s call)
  rolled-foreign s call rolled = grind arith

  pub ends_old-foreign : (s : N.State) (call : N.ForeignCall) → EndsOld N s → EndsOld N (N.foreign s call)
  ends_old-foreign s call old = grind arith

  -- a unit
  pub cleaned : (s : N.State) (passed : Bool) (tag : ℕ) → N.mine s ≡ Some tag → N.status s ≡ CleaningUp
      → N.mine (N.unit s passed) ≡ None
  cleaned s passed tag mine status = grind arith

  pub still : (s : N.State) (passed : Bool) (x : Status) → N.status s ≡ x → is_working x ≡ false → N.unit s passed ≡ s
  still s passed x e f = laws.unit_still s passed (ap is_working e ∙ f)

  pub rolled-unit : (s : N.State) (passed : Bool) → IsRolledBack N s → IsRolledBack N (N.unit s passed)
  rolled-unit s passed rolled = grind (arith, laws.unit_none, still, cleaned)

  -- no unit leads into CleaningUp
  pub ends_old-unit : (s : N.State) (passed : Bool) → EndsOld N s → EndsOld N (N.unit s passed)
  ends_old-unit s passed old = go (N.mine s) refl
    where
      at_status : (tag : ℕ) → N.mine s ≡ Some tag → (x : Status) → N.status s ≡ x → EndsOld N (N.unit s passed)
      at_status tag e Processing i =
          grind (
            arith,
            laws.unit_processing s passed tag (laws.processing_id s tag e i).0 e i (laws.processing_id s tag e i).1,
          )
      at_status tag e x i =
          grind (arith, laws.unit_still, laws.unit_activating, laws.unit_verifying, laws.unit_rolling, cleaned)

      go : (o : Option ℕ) → N.mine s ≡ o → EndsOld N (N.unit s passed)
      go None e = ends_old-none (N.unit s passed) (laws.unit_none s passed e).0
      go (Some tag) e = at_status tag e (N.status s) refl

  -- a call on a session is carried out, or leaves the state
  pub carried : (s : N.State) (call : Call)
      → (call ≡ Activate) ⊎ ((call ≡ Finish) ⊎ ((call ≡ Rollback) ⊎ (call ≡ Revert)))
      → ((N.judge s call).1 ≡ Done) ⊎ ((N.judge s call).0 ≡ s)
  carried s call six = grind (arith, laws.six_replies s call six, laws.refused s call)

  pub begins : (s : N.State) (id tag : ℕ)
      → ((N.judge s (ProcessSwPackage id tag)).1 ≡ Done) ⊎ ((N.judge s (ProcessSwPackage id tag)).0 ≡ s)
  begins s id tag = grind (arith, laws.process_replies s id tag, laws.refused s (ProcessSwPackage id tag))

  -- a rollback leaves the session in RollingBack
  rolls : (s : N.State) (tag : ℕ) → N.mine s ≡ Some tag → (N.judge s Rollback).1 ≡ Done
      → (N.mine (N.judge s Rollback).0 ≡ Some tag) × (N.status (N.judge s Rollback).0 ≡ RollingBack)
  rolls s tag e d = grind (arith, laws.rollback_mine s, laws.rollback_verifying.only s, laws.rollback_activated.only s)

  -- without a session of client 0 only ProcessSwPackage makes one
  pub none-judge : (s : N.State) (call : Call) → ((id tag : ℕ) → call ≢ ProcessSwPackage id tag) → N.mine s ≡ None
      → N.mine (N.judge s call).0 ≡ None
  none-judge s (ProcessSwPackage id tag) not e = absurd (not id tag refl)
  none-judge s Activate not e = grind (arith, carried s Activate (inl refl), laws.activate_mine s)
  none-judge s Finish not e = grind (arith, carried s Finish (inr (inl refl)), laws.finish_mine s)
  none-judge s Rollback not e = grind (arith, carried s Rollback (inr (inr (inl refl))), laws.rollback_mine s)
  none-judge s Revert not e = grind (arith, carried s Revert (inr (inr (inr refl))), laws.revert_mine s)
  none-judge s (Cancel id) not e = grind (arith, laws.refused s (Cancel id), laws.cancel s id)
  none-judge s x not e =
      grind (arith, laws.sync_state, laws.start_session, laws.data_session, laws.exit_session, laws.delete_session)

  -- no call takes client 0's session away or changes its tag
  pub some-judge : (s : N.State) (call : Call) (tag : ℕ) → N.mine s ≡ Some tag → N.mine (N.judge s call).0 ≡ Some tag
  some-judge s (ProcessSwPackage id tag) old e =
      grind (arith, begins s id tag, laws.process_idle s id tag, laws.process_ready s id tag)
  some-judge s Activate tag e = grind (arith, carried s Activate (inl refl), laws.activate_mine s, laws.activate.only s)
  some-judge s Finish tag e =
      grind (
        arith,
        carried s Finish (inr (inl refl)),
        laws.finish_mine s,
        laws.finish_new.only s,
        laws.finish_old.only s,
      )
  some-judge s Rollback tag e = grind (arith, carried s Rollback (inr (inr (inl refl))), laws.rollback_mine s, rolls s)
  some-judge s Revert tag e =
      grind (arith, carried s Revert (inr (inr (inr refl))), laws.revert_mine s, laws.revert.only s)
  some-judge s (Cancel id) tag e = grind (arith, laws.refused s (Cancel id), laws.cancel s id)
  some-judge s x tag e =
      grind (arith, laws.sync_state, laws.start_session, laws.data_session, laws.exit_session, laws.delete_session)

  -- where only ProcessSwPackage could begin a session, a rolled back one stays so
  pub rolled-judge : (s : N.State) (call : Call) → ((id tag : ℕ) → call ≢ ProcessSwPackage id tag) → IsRolledBack N s
      → IsRolledBack N (N.judge s call).0
  rolled-judge s (ProcessSwPackage id tag) not r = absurd (not id tag refl)
  rolled-judge s Activate not r =
      grind (arith, carried s Activate (inl refl), laws.activate_mine s, laws.activate.only s)
  rolled-judge s Finish not r =
      grind (
        arith,
        carried s Finish (inr (inl refl)),
        laws.finish_mine s,
        laws.finish_new.only s,
        laws.finish_old.only s,
      )
  rolled-judge s Rollback not r =
      grind (arith, carried s Rollback (inr (inr (inl refl))), laws.rollback_mine s, rolls s)
  rolled-judge s Revert not r =
      grind (arith, carried s Revert (inr (inr (inr refl))), laws.revert_mine s, laws.revert.only s)
  rolled-judge s (Cancel id) not r = grind (arith, laws.refused s (Cancel id), laws.cancel s id)
  rolled-judge s x not r =
      grind (
        arith,
        rolled-keeps,
        laws.sync_state,
        laws.start_session,
        laws.data_session,
        laws.exit_session,
        laws.delete_session,
      )

  -- a session ends as New only by a Finish that doesn't meet RolledBack
  pub ends_old-judge : (s : N.State) (call : Call) → (call ≡ Finish → IsRolledBack N s) → EndsOld N s
      → EndsOld N (N.judge s call).0
  ends_old-judge s (ProcessSwPackage id tag) fin o =
      grind (arith, begins s id tag, laws.process_idle s id tag, laws.process_ready s id tag)
  ends_old-judge s Activate fin o =
      grind (arith, carried s Activate (inl refl), laws.activate_mine s, laws.activate.only s)
  ends_old-judge s Finish fin o =
      grind (
        arith,
        carried s Finish (inr (inl refl)),
        laws.finish_mine s,
        laws.finish_new.only s,
        laws.finish_old.only s,
      )
  ends_old-judge s Rollback fin o =
      grind (arith, carried s Rollback (inr (inr (inl refl))), laws.rollback_mine s, rolls s)
  ends_old-judge s Revert fin o =
      grind (arith, carried s Revert (inr (inr (inr refl))), laws.revert_mine s, laws.revert.only s)
  ends_old-judge s (Cancel id) fin o = grind (arith, laws.refused s (Cancel id), laws.cancel s id)
  ends_old-judge s x fin o =
      grind (
        arith,
        ends_old-keeps,
        laws.sync_state,
        laws.start_session,
        laws.data_session,
        laws.exit_session,
        laws.delete_session,
      )

  -- a delivery is nothing, or a call that is judged and kept
  pub delivered-cases : (s : N.State) (at : CallNo) (call : Call) (P : N.State → Type 0) → P s
      → (no_lt at (N.last s) ≡ false → no_eq at (N.last s) ≡ false
      → P (N.keep (N.judge s call).0 at call (N.judge s call).1)) → P (delivered N s at call)
  delivered-cases s at call P here there = grind arith

  pub none-delivered : (s : N.State) (at : CallNo) (call : Call) → ((id tag : ℕ) → call ≢ ProcessSwPackage id tag)
      → N.mine s ≡ None → N.mine (delivered N s at call) ≡ None
  none-delivered s at call not e = grind (arith, laws.keep_session, none-judge)

  pub some-delivered : (s : N.State) (at : CallNo) (call : Call) (tag : ℕ) → N.mine s ≡ Some tag
      → N.mine (delivered N s at call) ≡ Some tag
  some-delivered s at call tag e = grind (arith, laws.keep_session, some-judge)

  -- what a Sync shows
  pub sync-shown : (s : N.State) (call : Call) (x : Shown) → call ≡ Sync → (N.judge s call).1 ≡ Synced x
      → (x.session ≡ shown_session N s) × ((N.judge s call).0 ≡ s)
  sync-shown s call x e r = grind arith

  -- what a kept Sync says: of a call just judged, after a foreign call and after a unit
  pub kept-fresh : (s : N.State) (at : CallNo) (call : Call)
      → KeptHolds N (N.keep (N.judge s call).0 at call (N.judge s call).1)
  kept-fresh s at call = record { none = none_of; rolled = rolled_of }
    where
      said : (x : Shown) → N.kept (N.keep (N.judge s call).0 at call (N.judge s call).1) ≡ Synced x
          → (x.session ≡ shown_session N s) × ((N.judge s call).0 ≡ s)
      said x k =
          let r : (N.judge s call).1 ≡ Synced x = sym (laws.keep_kept (N.judge s call).0 at call (N.judge s call).1)
          ∙ k in
          sync-shown s call x (laws.synced_only s call x r) r

      none_of : (x : Shown) → N.kept (N.keep (N.judge s call).0 at call (N.judge s call).1) ≡ Synced x
          → is_masters x.session ≡ false → N.mine (N.keep (N.judge s call).0 at call (N.judge s call).1) ≡ None
      none_of x k f = grind (arith, said, is_masters, laws.keep_session)

      rolled_of : (x : Shown) → N.kept (N.keep (N.judge s call).0 at call (N.judge s call).1) ≡ Synced x
          → session_status x.session ≡ RolledBack
          → IsRolledBack N (N.keep (N.judge s call).0 at call (N.judge s call).1)
      rolled_of x k f tag mine = grind (arith, said, laws.keep_session, session_status)

  pub kept-foreign : (s : N.State) (call : N.ForeignCall) → KeptHolds N s → KeptHolds N (N.foreign s call)
  kept-foreign s call h =
      record {
        none = λ x k f. laws.foreign_none s call (h.none x (sym (laws.foreign_last s call).1 ∙ k) f);
        rolled = λ x k f. rolled-foreign s call (h.rolled x (sym (laws.foreign_last s call).1 ∙ k) f);
      }

  pub kept-unit : (s : N.State) (passed : Bool) → KeptHolds N s → KeptHolds N (N.unit s passed)
  kept-unit s passed h =
      record {
        none = λ x k f. (laws.unit_none s passed (h.none x (sym (laws.unit_last s passed).1 ∙ k) f)).0;
        rolled = λ x k f. rolled-unit s passed (h.rolled x (sym (laws.unit_last s passed).1 ∙ k) f);
      }

  pub kept-delivered : (s : N.State) (at : CallNo) (call : Call) → KeptHolds N s → KeptHolds N (delivered N s at call)
  kept-delivered s at call h = delivered-cases s at call (λ t. KeptHolds N t) h (λ a b. kept-fresh s at call)
