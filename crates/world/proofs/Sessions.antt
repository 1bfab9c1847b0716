-- Laws of the real node: the calls on client 0's session.
use Rattle.world.proofs.Names.{arith, ◌≡◌, ◌≢◌, ◌⊎◌, inl, inr, ℕ, List, [], Option, Some, None, true, false, refl, sym}
use Rattle.world.proofs.Names.{◌∙◌, subst, ◌==◌, not, is_none, Bytes, Call, Outcome, New, Old, Refusal, Cluster, Status}
use Rattle.world.proofs.Names.{Idle, Ready, Processing, Activating, Verifying, Activated, RollingBack, RolledBack}
use Rattle.world.proofs.Names.{CleaningUp, NodeState, Session, some_passes, first_refusal, status_table}
use Rattle.world.proofs.Names.{session_refusals, refusal, Reading, verdict_for, IsConsistent, id_in_processing}
use Rattle.world.proofs.Names.{ProcessSwPackage, Activate, Finish, Rollback, Revert, Done, is_status}
use Rattle.world.proofs.Instance.{tag_if, mine_in, planned_in, outcome_in, judged_in}
use Rattle.world.proofs.Basics.{done-or-refused, done-none}
use Rattle.pm_types.specs.declared.calls.Call.TheVariants as call
use Rattle.pm_types.specs.declared.replies.Reply.TheVariants as reply

-- client 0's session
pub mine-some : (s : NodeState) (tag : ℕ) → mine_in s ≡ Some tag
    → (x : Session) × (s.session ≡ Some x) × ((x.owner == 0) ≡ true) × (x.tag ≡ tag)
mine-some s tag e = grind arith

pub session-there : (s : NodeState) → IsConsistent s → s.status ≢ Idle → (x : Session) × (s.session ≡ Some x)
session-there s v n = grind arith

pub session_status : (s : NodeState) (tag : ℕ) → IsConsistent s → mine_in s ≡ Some tag → s.status ≢ Idle
session_status s tag v e q = grind arith

-- not another's
pub not-busy : (s : NodeState) (x : Session) → s.session ≡ Some x
    → some_passes (λ (y : Session). not (y.owner == 0)) s.session ≡ false → mine_in s ≡ Some x.tag
not-busy s x e f = grind arith

-- what the first two refusals leave
pub let-through : (s : NodeState) (c : Call) → first_refusal (session_refusals s 0 c) ≡ None
    → (some_passes (λ (y : Session). not (y.owner == 0)) s.session ≡ false)
    × (is_none (status_table s.status c) ≡ false)
let-through s c e = grind arith

module _ (read : Reading) (clusters : List (Cluster Bytes)) where
  mine-of : (s : NodeState) → IsConsistent s → s.status ≢ Idle
      → some_passes (λ (y : Session). not (y.owner == 0)) s.session ≡ false → (tag : ℕ) × (mine_in s ≡ Some tag)
  mine-of s v n f = let x = session-there s v n in (x.0.tag, not-busy s x.0 x.1 f)

  not-idle : (s : NodeState) (from : Status) → s.status ≡ from → is_status from Idle ≡ false → s.status ≢ Idle
  not-idle s from e f q =
      let z : is_status Idle Idle ≡ false = subst (λ st. is_status st Idle ≡ false) (sym e ∙ q) f in cc z

  pub activate_mine : (s : NodeState) → IsConsistent s → (judged_in read s Activate).1 ≡ Done
      → (tag : ℕ) × (mine_in s ≡ Some tag) × (s.status ≡ Ready)
  activate_mine s v d = grind (arith, done-none, mine-of, not-idle)

  pub finish_mine : (s : NodeState) → IsConsistent s → (judged_in read s Finish).1 ≡ Done
      → (tag : ℕ) × (mine_in s ≡ Some tag) × ((s.status ≡ Activated) ⊎ (s.status ≡ RolledBack))
  finish_mine s v d = grind (arith, let-through, done-none, mine-of, not-idle)

  pub rollback_mine : (s : NodeState) → IsConsistent s → (judged_in read s Rollback).1 ≡ Done
      → (tag : ℕ) × (mine_in s ≡ Some tag) × ((s.status ≡ Verifying) ⊎ (s.status ≡ Activated))
  rollback_mine s v d = grind (arith, let-through, done-none, mine-of, not-idle)

  pub revert_mine : (s : NodeState) → IsConsistent s → (judged_in read s Revert).1 ≡ Done
      → (tag : ℕ) × (mine_in s ≡ Some tag) × (s.status ≡ Ready)
  revert_mine s v d = grind (arith, let-through, done-none, mine-of, not-idle)

  -- what a call that is done makes of client 0's session
  abbrev pub MovesTo : NodeState → NodeState → ℕ → Status → Option Outcome → Type 0
  MovesTo s t tag to o = (mine_in t ≡ Some tag) × (t.status ≡ to) × (planned_in t ≡ planned_in s) × (outcome_in t ≡ o)

  pub activate : (s : NodeState) (tag : ℕ) → IsConsistent s → mine_in s ≡ Some tag
      → (judged_in read s Activate).1 ≡ Done → s.status ≡ Ready
      → MovesTo s (judged_in read s Activate).0 tag Activating None
  activate s tag v e d st = grind arith

  pub rollback_verifying : (s : NodeState) (tag : ℕ) → IsConsistent s → mine_in s ≡ Some tag
      → (judged_in read s Rollback).1 ≡ Done → s.status ≡ Verifying
      → MovesTo s (judged_in read s Rollback).0 tag RollingBack None
  rollback_verifying s tag v e d st = grind arith

  pub rollback_activated : (s : NodeState) (tag : ℕ) → IsConsistent s → mine_in s ≡ Some tag
      → (judged_in read s Rollback).1 ≡ Done → s.status ≡ Activated
      → MovesTo s (judged_in read s Rollback).0 tag RollingBack None
  rollback_activated s tag v e d st = grind arith

  pub finish_new : (s : NodeState) (tag : ℕ) → mine_in s ≡ Some tag → (judged_in read s Finish).1 ≡ Done
      → s.status ≡ Activated → MovesTo s (judged_in read s Finish).0 tag CleaningUp (Some New)
  finish_new s tag e d st = grind arith

  pub finish_old : (s : NodeState) (tag : ℕ) → mine_in s ≡ Some tag → (judged_in read s Finish).1 ≡ Done
      → s.status ≡ RolledBack → MovesTo s (judged_in read s Finish).0 tag CleaningUp (Some Old)
  finish_old s tag e d st = grind arith

  pub revert : (s : NodeState) (tag : ℕ) → mine_in s ≡ Some tag → (judged_in read s Revert).1 ≡ Done → s.status ≡ Ready
      → MovesTo s (judged_in read s Revert).0 tag CleaningUp (Some Old)
  revert s tag e d st = grind arith

  -- a Cancel is refused, or stops what is in processing
  abbrev pub Stopped : NodeState → NodeState → Type 0
  Stopped s t =
      (tag : ℕ) × (mine_in s ≡ Some tag) × (s.status ≡ Processing) × (mine_in t ≡ Some tag)
      × ((t.status ≡ Ready) ⊎ ((t.status ≡ CleaningUp) × (outcome_in t ≡ Some Old)))

  cancel_mine : (s : NodeState) (id : ℕ) → IsConsistent s → (judged_in read s (call.Cancel id)).1 ≡ Done
      → (tag : ℕ) × (mine_in s ≡ Some tag) × (s.status ≡ Processing)
  cancel_mine s id v d = grind (arith, done-none, mine-of, not-idle)

  cancelled : (s : NodeState) (id tag : ℕ) → mine_in s ≡ Some tag → s.status ≡ Processing
      → (judged_in read s (call.Cancel id)).1 ≡ Done
      → (mine_in (judged_in read s (call.Cancel id)).0 ≡ Some tag)
      × (((judged_in read s (call.Cancel id)).0.status ≡ Ready)
      ⊎ (((judged_in read s (call.Cancel id)).0.status ≡ CleaningUp)
      × (outcome_in (judged_in read s (call.Cancel id)).0 ≡ Some Old)))
  cancelled s id tag mine st d = grind arith

  pub cancel : (s : NodeState) (id : ℕ) → IsConsistent s
      → ((why : Refusal) × ((judged_in read s (call.Cancel id)).1 ≡ reply.Refused why))
      ⊎ Stopped s (judged_in read s (call.Cancel id)).0
  cancel s id v =
      elim (done-or-refused reply.Done (refusal s 0 (call.Cancel id) (verdict_for read s 0 (call.Cancel id))) refl) [
        | inr r ↦ inl r
        | inl d ↦ (let m = cancel_mine s id v d in let t = cancelled s id m.0 m.1 m.2 d in
            inr (m.0, m.1, m.2, t.0, t.1))
      ]

  pub process_idle : (s : NodeState) (id tag : ℕ) → IsConsistent s → mine_in s ≡ None
      → (judged_in read s (ProcessSwPackage id tag)).1 ≡ Done
      → (s.status ≡ Idle) × (mine_in (judged_in read s (ProcessSwPackage id tag)).0 ≡ Some tag)
      × ((judged_in read s (ProcessSwPackage id tag)).0.status ≡ Processing)
      × (planned_in (judged_in read s (ProcessSwPackage id tag)).0 ≡ [])
      × (id_in_processing (judged_in read s (ProcessSwPackage id tag)).0 ≡ Some id)
  process_idle s id tag v none d =
      grind (arith, mine-of, not-idle, judged_in, tag_if)

  pub process_ready : (s : NodeState) (id tag old : ℕ) → IsConsistent s → mine_in s ≡ Some old
      → (judged_in read s (ProcessSwPackage id tag)).1 ≡ Done
      → (s.status ≡ Ready) × (tag ≡ old) × (mine_in (judged_in read s (ProcessSwPackage id tag)).0 ≡ Some old)
      × ((judged_in read s (ProcessSwPackage id tag)).0.status ≡ Processing)
      × (planned_in (judged_in read s (ProcessSwPackage id tag)).0 ≡ planned_in s)
      × (id_in_processing (judged_in read s (ProcessSwPackage id tag)).0 ≡ Some id)
  process_ready s id tag old v mine d = grind arith
