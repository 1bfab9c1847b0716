-- What was pending is settled first, and then a call or a unit of work is done.
use Rattle.std.proofs.Common.{◌≡◌, ◌⊎◌, inl, inr, ⊎_elim, ℕ, Bool, List, refl, sym, ap, subst, Option, None}
use Rattle.turn_gate.specs.Mine.{Settles}
use Rattle.ucm_base.specs.declared.ids.CallNo.{CallNo}
use Rattle.pm_types.specs.declared.calls.Call.{Call}
use Rattle.pm_types.specs.declared.history.Entry.{Entry}
use Rattle.pm_types.specs.declared.history.Entry.TheVariants.{Numbered, Unit as UnitDone}
use Rattle.pm_types.specs.declared.replies.Reached.{Reached}
use Rattle.pm_types.specs.declared.replies.Reached.TheVariants.{Done, Again, Stale}
use Rattle.pm_types.specs.declared.replies.Reply.{Reply}
use Rattle.pm_types.specs.declared.replies.Worked.TheVariants.{Unit as OneUnit, Nothing}
use Rattle.pm_types.specs.declared.status.Status.{Status}
use Rattle.pm_types.specs.NodeState.{NodeState}
use Rattle.node_store.specs.declared.answers.NodeAnswer.{NodeAnswer}
use Rattle.node_store.specs.declared.answers.NodeAnswer.TheVariants.{Reached as Got, NoReply, OutOfMemory}
use Rattle.node_store.specs.declared.answers.WorkAnswer.{WorkAnswer}
use Rattle.node_store.specs.declared.answers.WorkAnswer.TheVariants.{Worked as Did, NoReply as NoWork, OutOfMemory as NoRoom}
use Rattle.node_gate.specs.Calls.{CallsTo, HasSettled, IsEntered, IsPending, IsRepeated, StaysOrSettles, WorksTo}
use Rattle.node_gate.specs.Stands.{Listing, listing}

module _ (n : NodeState) (old : Listing) (mid : List Entry) (settled : Settles old.pending old.entries mid) where
  settles_on : (new : List Entry) → Settles None mid new → Settles old.pending old.entries new
  settles_on new same = subst (Settles old.pending old.entries) (sym same) settled

  has_on : (new : Listing) → HasSettled (listing mid None) new → HasSettled old new
  has_on new a = record { settled = settles_on new.entries a.settled; no_doubt = a.no_doubt }

  either_on : (new : Listing) → StaysOrSettles (listing mid None) new → StaysOrSettles old new
  either_on new t =
      ⊎_elim (λ (u : new ≡ listing mid None). inr (record {
        settled = subst (λ (l : Listing). Settles old.pending old.entries l.entries) (sym u) settled;
        no_doubt = ap (λ (l : Listing). l.pending) u;
      })) (λ (u : HasSettled (listing mid None) new). inr (has_on new u)) t

  entered_on : (e : Entry) (new : Listing) → IsEntered n e (listing mid None) new → IsEntered n e old new
  entered_on e new a =
      record { before = a.before; settled = settles_on a.before a.settled; next = a.next; entered = a.entered }

  pending_on : (e : Entry) (new : Listing) → IsPending n e (listing mid None) new → IsPending n e old new
  pending_on e new a = record { settled = settles_on new.entries a.settled; next = a.next; pending = a.pending }

  repeated_on : (client : ℕ) (at : CallNo) (reached : Reached) (new : Listing)
      → IsRepeated n client at reached (listing mid None) new → IsRepeated n client at reached old new
  repeated_on client at reached new a = record { settled = has_on new a.settled; kept = a.kept }

  -- a call after what was pending was settled
  pub call_on : (client : ℕ) (at : CallNo) (call : Call) (a : NodeAnswer) (new : Listing)
      → CallsTo n client at call a (listing mid None) new → CallsTo n client at call a old new
  call_on client at call (Got (Done reply)) new a = entered_on (Numbered client at call reply) new a
  call_on client at call (Got (Again reply)) new a = repeated_on client at (Again reply) new a
  call_on client at call (Got (Stale last)) new a = repeated_on client at (Stale last) new a
  call_on client at call (NoReply faults) new a = (
    a.0,
    ⊎_elim (λ (t : StaysOrSettles (listing mid None) new). inl (either_on new t))
        (λ (t : (reply : Reply) × IsPending n (Numbered client at call reply) (listing mid None) new).
        inr (t.0, pending_on (Numbered client at call t.0) new t.1)) a.1,
  )
  call_on client at call OutOfMemory new a = either_on new a

  -- and a unit of work
  pub work_on : (a : WorkAnswer) (new : Listing) → WorksTo n a (listing mid None) new → WorksTo n a old new
  work_on (Did (OneUnit passed after)) new a = entered_on (UnitDone passed after) new a
  work_on (Did (Nothing status)) new a =
      record { settled = has_on new a.settled; status_is = a.status_is; rests = a.rests }
  work_on (NoWork faults) new a = (
    a.0,
    ⊎_elim (λ (t : StaysOrSettles (listing mid None) new). inl (either_on new t))
        (λ (t : (passed : Bool) × (after : Status) × IsPending n (UnitDone passed after) (listing mid None) new).
        inr (t.0, t.1, pending_on (UnitDone t.0 t.1) new t.2)) a.1,
  )
  work_on NoRoom new a = either_on new a
