-- What a call, a unit of work or a query makes of the list, as a publish asks for it.
use Rattle.std.proofs.Common.{◌≡◌, ◌⊎◌, inl, inr, ⊎_elim, ℕ, ◌+◌, ◌<◌, ◌≤◌, Bool, List, [], ◌∷◌, ◌++◌, refl, sym, ◌∙◌, ap, Option, Some, None}
use Rattle.std.proofs.lemmas.List.{append-nil}
use Rattle.turn_gate.specs.Mine.{Settles}
use Rattle.turn_gate.specs.Parts.{AtMostOne, IsOurs, MayBecome, StoodOrNot, at_most_last, numbers_of, times}
use Rattle.turn_gate.specs.declared.view.Account.{Account}
use Rattle.turn_gate.specs.declared.view.Part.{Part}
use Rattle.ucm_base.specs.declared.ids.CallNo.{CallNo}
use Rattle.pm_types.specs.declared.calls.Call.{Call}
use Rattle.pm_types.specs.declared.history.Entry.{Entry}
use Rattle.pm_types.specs.declared.history.Entry.TheVariants.{Numbered, Unit as UnitDone}
use Rattle.pm_types.specs.declared.queries.Query.{Query}
use Rattle.pm_types.specs.declared.replies.Reached.TheVariants.{Done, Again, Stale}
use Rattle.pm_types.specs.declared.replies.Reply.{Reply}
use Rattle.pm_types.specs.declared.replies.Worked.TheVariants.{Unit as OneUnit, Nothing}
use Rattle.pm_types.specs.declared.status.Status.{Status}
use Rattle.pm_types.specs.NodeState.{NodeState}
use Rattle.node_store.specs.declared.answers.NodeAnswer.{NodeAnswer}
use Rattle.node_store.specs.declared.answers.NodeAnswer.TheVariants.{Reached as Got, NoReply, OutOfMemory}
use Rattle.node_store.specs.declared.answers.WorkAnswer.{WorkAnswer}
use Rattle.node_store.specs.declared.answers.WorkAnswer.TheVariants.{Worked as Did, NoReply as NoWork, OutOfMemory as NoRoom}
use Rattle.node_gate.specs.declared.answers.AskAnswer.{AskAnswer}
use Rattle.node_gate.specs.declared.answers.AskAnswer.TheVariants.{At, NoReply as NoView, OutOfMemory as NoMemory}
use Rattle.node_gate.specs.Calls.{AsksTo, CallsTo, HasSettled, IsEntered, IsPending, StaysOrSettles, WorksTo}
use Rattle.node_gate.specs.Stands.{Listing, listing, tells}

-- what stood of what was pending
stood_of : (pending : Option Entry) (old mid : List Entry) → Settles pending old mid
    → (stood : List Entry) × (mid ≡ old ++ stood) × StoodOrNot pending stood
stood_of None old mid s = ([], s ∙ sym (append-nil old), inl refl)
stood_of (Some d) old mid s =
    ⊎_elim (λ (t : mid ≡ old). ([], t ∙ sym (append-nil old), inl refl))
    (λ (t : mid ≡ old ++ d ∷ []). (d ∷ [], t, inr (d, refl, refl))) s

module _ (parts : List (Part Entry)) (old new : Account Entry) (rise : ℕ)
    (rose : at_most_last (old.faults + rise) ≤ new.faults) where
  abbrev Becomes : Type 0
  Becomes = MayBecome tells parts old new rise

  abbrev Found : Listing
  Found = listing old.entries old.pending

  abbrev Left : Listing
  Left = listing new.entries new.pending

  becomes : (mid : List Entry) → Settles old.pending old.entries mid → (more : List Entry)
      → AtMostOne tells parts more → new.entries ≡ mid ++ more
      → (new.pending ≡ None) ⊎ ((e : Entry) × (new.pending ≡ Some e) × IsOurs tells parts e) → Becomes
  becomes mid s more one_more is after =
      let t = stood_of old.pending old.entries mid s in
      record {
        stood = t.0;
        more = more;
        list_goes_on = is ∙ ap (λ (l : List Entry). l ++ more) t.1;
        stood_was_pending = t.2;
        at_most_one_more = one_more;
        pending_is =
            ⊎_elim (λ (u : new.pending ≡ None). inl u)
            (λ (u : (e : Entry) × (new.pending ≡ Some e) × IsOurs tells parts e). inr (inr u)) after;
        faults_rose = rose;
      }

  only_settled : Settles old.pending old.entries new.entries
      → (new.pending ≡ None) ⊎ ((e : Entry) × (new.pending ≡ Some e) × IsOurs tells parts e) → Becomes
  only_settled s after = becomes new.entries s [] (inl refl) (sym (append-nil new.entries)) after

  settled : HasSettled Found Left → Becomes
  settled a = only_settled a.settled (inl a.no_doubt)

  stays : Left ≡ Found → Becomes
  stays same = record {
    stood = [];
    more = [];
    list_goes_on =
        ap (λ (l : Listing). l.entries) same
        ∙ sym (append-nil old.entries) ∙ sym (append-nil (old.entries ++ []));
    stood_was_pending = inl refl;
    at_most_one_more = inl refl;
    pending_is = inr (inl (refl, ap (λ (l : Listing). l.pending) same));
    faults_rose = rose;
  }

  either : StaysOrSettles Found Left → Becomes
  either t = ⊎_elim (λ (u : Left ≡ Found). stays u) (λ (u : HasSettled Found Left). settled u) t

  module _ (n : NodeState) where
    entered : (e : Entry) → IsOurs tells parts e → IsEntered n e Found Left → Becomes
    entered e ours a =
        becomes a.before a.settled (e ∷ []) (inr (e, refl, ours)) (ap (λ (l : Listing). l.entries) a.entered)
        (inl (ap (λ (l : Listing). l.pending) a.entered))

    pends : (e : Entry) → IsOurs tells parts e → IsPending n e Found Left → Becomes
    pends e ours a = only_settled a.settled (inr (e, a.pending, ours))

    module _ (client : ℕ) (part : 0 < times client (numbers_of parts)) (at : CallNo) (call : Call) where
      ours : (reply : Reply) → IsOurs tells parts (Numbered client at call reply)
      ours reply = inr (client, refl, part)

      pub by_call : (a : NodeAnswer) → CallsTo n client at call a Found Left → Becomes
      by_call (Got (Done reply)) a = entered (Numbered client at call reply) (ours reply) a
      by_call (Got (Again reply)) a = settled a.settled
      by_call (Got (Stale last)) a = settled a.settled
      by_call (NoReply faults) a =
          ⊎_elim (λ (t : StaysOrSettles Found Left). either t)
          (λ (t : (reply : Reply) × IsPending n (Numbered client at call reply) Found Left).
          pends (Numbered client at call t.0) (ours t.0) t.1) a.1
      by_call OutOfMemory a = either a

    pub by_work : (a : WorkAnswer) → WorksTo n a Found Left → Becomes
    by_work (Did (OneUnit passed after)) a = entered (UnitDone passed after) (inl refl) a
    by_work (Did (Nothing status)) a = settled a.settled
    by_work (NoWork faults) a =
        ⊎_elim (λ (t : StaysOrSettles Found Left). either t)
        (λ (t : (passed : Bool) × (after : Status) × IsPending n (UnitDone passed after) Found Left).
        pends (UnitDone t.0 t.1) (inl refl) t.2) a.1
    by_work NoRoom a = either a

    pub by_ask : (client : ℕ) (query : Query) (a : AskAnswer) → AsksTo n client query a Found Left → Becomes
    by_ask client query (At place answer) a = settled a.settled
    by_ask client query (NoView faults) a = stays a.1
    by_ask client query NoMemory a = either a
