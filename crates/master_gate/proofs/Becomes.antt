-- What an add and a look make of the list, as a publish asks for it.
use Rattle.std.proofs.Common.{◌≡◌, ◌⊎◌, inl, inr, ⊎_elim, ℕ, ◌+◌, ◌<◌, ◌≤◌, List, [], ◌∷◌, ◌++◌, refl, sym, ◌∙◌, ap, subst, arith, Option, Some, None}
use Rattle.std.proofs.lemmas.List.{append-nil}
use Rattle.turn_gate.specs.Mine.{Settles}
use Rattle.turn_gate.specs.Parts.{AtMostOne, IsOurs, MayBecome, StoodOrNot, at_most_last, numbers_of, times}
use Rattle.turn_gate.specs.declared.view.Account.{Account}
use Rattle.turn_gate.specs.declared.view.Part.{Part}
use Rattle.campaign_core.specs.declared.events.MasterEvent.{MasterEvent}
use Rattle.campaign_core.specs.declared.fold.Fold.{Fold}
use Rattle.decision_log.specs.declared.answers.AddAnswer.{AddAnswer}
use Rattle.decision_log.specs.declared.answers.AddAnswer.TheVariants.{Added, Refused, NoReply, OutOfMemory}
use Rattle.master_gate.specs.declared.answers.LookAnswer.{LookAnswer}
use Rattle.master_gate.specs.declared.answers.LookAnswer.TheVariants.{At, NoReply as NoLook, OutOfMemory as NoMemory}
use Rattle.master_gate.specs.Adds.{AddsTo, IsDoubted, Listing, listing, LooksAt, StaysInDoubt}
use Rattle.master_gate.specs.Stands.{tells}

-- what stood of what was pending
stood_of : (pending : Option MasterEvent) (old mid : List MasterEvent) → Settles pending old mid
    → (stood : List MasterEvent) × (mid ≡ old ++ stood) × StoodOrNot pending stood
stood_of None old mid s = ([], s ∙ sym (append-nil old), inl refl)
stood_of (Some d) old mid s =
    ⊎_elim (λ (t : mid ≡ old). ([], t ∙ sym (append-nil old), inl refl))
    (λ (t : mid ≡ old ++ d ∷ []). (d ∷ [], t, inr (d, refl, refl))) s

module _ (parts : List (Part MasterEvent)) (one : numbers_of parts ≡ 0 ∷ []) (old new : Account MasterEvent) (rise : ℕ)
    (rose : at_most_last (old.faults + rise) ≤ new.faults) where
  abbrev Becomes : Type 0
  Becomes = MayBecome tells parts old new rise

  ours : (e : MasterEvent) → IsOurs tells parts e
  ours e = inr (0, refl, subst (λ (ns : List ℕ). 0 < times 0 ns) (sym one) (omega arith))

  becomes : (mid : List MasterEvent) → Settles old.pending old.entries mid → (more : List MasterEvent)
      → AtMostOne tells parts more → new.entries ≡ mid ++ more
      → (new.pending ≡ None) ⊎ ((e : MasterEvent) × (new.pending ≡ Some e)) → Becomes
  becomes mid s more one_more is after =
      let t = stood_of old.pending old.entries mid s in
      record {
        stood = t.0;
        more = more;
        list_goes_on = is ∙ ap (λ (l : List MasterEvent). l ++ more) t.1;
        stood_was_pending = t.2;
        at_most_one_more = one_more;
        pending_is =
            ⊎_elim (λ (u : new.pending ≡ None). inl u)
            (λ (u : (e : MasterEvent) × (new.pending ≡ Some e)). inr (inr (u.0, u.1, ours u.0))) after;
        faults_rose = rose;
      }

  settled : Settles old.pending old.entries new.entries
      → (new.pending ≡ None) ⊎ ((e : MasterEvent) × (new.pending ≡ Some e)) → Becomes
  settled s after = becomes new.entries s [] (inl refl) (sym (append-nil new.entries)) after

  stays : listing new.entries new.pending ≡ listing old.entries old.pending → Becomes
  stays same = record {
    stood = [];
    more = [];
    list_goes_on =
        ap (λ (l : Listing). l.events) same
        ∙ sym (append-nil old.entries) ∙ sym (append-nil (old.entries ++ []));
    stood_was_pending = inl refl;
    at_most_one_more = inl refl;
    pending_is = inr (inl (refl, ap (λ (l : Listing). l.doubt) same));
    faults_rose = rose;
  }

  pub by_add : (o : Fold) (e : MasterEvent) (a : AddAnswer)
      → AddsTo o e a (listing old.entries old.pending) (listing new.entries new.pending) → Becomes
  by_add o e Added a =
      becomes a.before a.settled (e ∷ []) (inr (e, refl, ours e)) (ap (λ (l : Listing). l.events) a.added)
      (inl (ap (λ (l : Listing). l.doubt) a.added))
  by_add o e (Refused r) a = settled a.settled (inl a.no_doubt)
  by_add o e (NoReply faults) a =
      ⊎_elim (λ (t : StaysInDoubt (listing old.entries old.pending) (listing new.entries new.pending)). stays t.1)
      (λ (t : IsDoubted o e (listing old.entries old.pending) (listing new.entries new.pending)).
      settled t.settled (inr (e, t.in_doubt))) a.1
  by_add o e OutOfMemory a =
      ⊎_elim (λ (t : listing new.entries new.pending ≡ listing old.entries old.pending). stays t)
      (λ (t : Settles old.pending old.entries new.entries × (new.pending ≡ None)). settled t.0 (inl t.1)) a

  pub by_look : (o : Fold) (a : LookAnswer)
      → LooksAt o a (listing old.entries old.pending) (listing new.entries new.pending) → Becomes
  by_look o (At place view) a = settled a.settled (inl a.no_doubt)
  by_look o (NoLook faults) a = stays a.1.1
  by_look o NoMemory a = stays a.1
