-- An add and a look after what was in doubt was settled, and what they do to what a seat knows.
use Rattle.std.proofs.Common.{◌≡◌, inl, inr, ⊎_elim, true, false, List, refl, sym, ap, ◌∙◌, subst, Option, Some, None}
use Rattle.std.specs.Prelude.{IsSome, is_some}
use Rattle.turn_gate.specs.Mine.{Settles}
use Rattle.campaign_core.specs.declared.events.MasterEvent.{MasterEvent}
use Rattle.campaign_core.specs.declared.fold.Fold.{Fold}
use Rattle.decision_log.specs.declared.answers.AddAnswer.{AddAnswer}
use Rattle.decision_log.specs.declared.answers.AddAnswer.TheVariants.{Added, Refused, NoReply, OutOfMemory}
use Rattle.master_gate.specs.declared.answers.LookAnswer.{LookAnswer}
use Rattle.master_gate.specs.declared.answers.LookAnswer.TheVariants.{At, NoReply as NoLook, OutOfMemory as NoMemory}
use Rattle.master_gate.specs.Adds.{AddsTo, IsDoubted, Listing, listing, LooksAt, StaysInDoubt}
use Rattle.master_gate.specs.Stands.{MayLeave}

pub settles_same : (doubt : Option MasterEvent) (old : List MasterEvent) → Settles doubt old old
settles_same None old = refl
settles_same (Some d) old = inl refl

pub none_is_not_some : {A : Type 0} (o : Option A) → o ≡ None → IsSome o → ⊥
none_is_not_some o none some = let z : false ≡ true = ap is_some (sym none) ∙ some in cc

-- nothing stays in doubt where nothing was
not_in_doubt : (mid : List MasterEvent) (new : Listing) → StaysInDoubt (listing mid None) new → ⊥
not_in_doubt mid new stays = none_is_not_some {A = MasterEvent} None refl stays.0

module _ (old : Listing) (mid : List MasterEvent) (settled : Settles old.doubt old.events mid) where
  settles_on : (new : List MasterEvent) → Settles None mid new → Settles old.doubt old.events new
  settles_on new same = subst (Settles old.doubt old.events) (sym same) settled

  -- an add to the list after what was in doubt was settled
  pub after_settled : (o : Fold) (e : MasterEvent) (a : AddAnswer) (new : Listing)
      → AddsTo o e a (listing mid None) new → AddsTo o e a old new
  after_settled o e Added new a = record {
    before = a.before;
    settled = settles_on a.before a.settled;
    allowed = a.allowed;
    added = a.added;
  }
  after_settled o e (Refused r) new a =
      record { settled = settles_on new.events a.settled; refused = a.refused; no_doubt = a.no_doubt }
  after_settled o e (NoReply faults) new a = (
    a.0,
    ⊎_elim (λ (t : StaysInDoubt (listing mid None) new). absurd (not_in_doubt mid new t))
        (λ (t : IsDoubted o e (listing mid None) new). inr (record {
          settled = settles_on new.events t.settled;
          allowed = t.allowed;
          in_doubt = t.in_doubt;
        })) a.1,
  )
  after_settled o e OutOfMemory new a =
      ⊎_elim (λ (t : new ≡ listing mid None). inr (
        settles_on new.events (ap (λ (l : Listing). l.events) t),
        ap (λ (l : Listing). l.doubt) t,
      ))
      (λ (t : Settles None mid new.events × (new.doubt ≡ None)). inr (settles_on new.events t.0, t.1)) a

  pub look_after_settled : (o : Fold) (a : LookAnswer) (new : Listing)
      → LooksAt o a (listing mid None) new → LooksAt o a old new
  look_after_settled o (At place view) new a = record {
    settled = settles_on new.events a.settled;
    no_doubt = a.no_doubt;
    place_is = a.place_is;
    view_is = a.view_is;
  }
  look_after_settled o (NoLook faults) new a = absurd (not_in_doubt mid new a.1)
  look_after_settled o NoMemory new a = absurd (not_in_doubt mid new a)

-- what was pending was in doubt, or nothing was pending
module _ (events : List MasterEvent) (pending doubt : Option MasterEvent) (known : MayLeave doubt pending)
    (new : Listing) where
  pub adds_on : (o : Fold) (e : MasterEvent) (a : AddAnswer) → AddsTo o e a (listing events pending) new
      → AddsTo o e a (listing events doubt) new
  adds_on o e a adds =
      ⊎_elim (λ (t : pending ≡ None). after_settled (listing events doubt) events (settles_same doubt events) o e a new
      (subst (λ (p : Option MasterEvent). AddsTo o e a (listing events p) new) t adds))
      (λ (t : pending ≡ doubt). subst (λ (p : Option MasterEvent). AddsTo o e a (listing events p) new) t adds) known

  pub looks_on : (o : Fold) (a : LookAnswer) → LooksAt o a (listing events pending) new
      → LooksAt o a (listing events doubt) new
  looks_on o a looks =
      ⊎_elim (λ (t : pending ≡ None). look_after_settled (listing events doubt) events (settles_same doubt events) o a
      new (subst (λ (p : Option MasterEvent). LooksAt o a (listing events p) new) t looks))
      (λ (t : pending ≡ doubt). subst (λ (p : Option MasterEvent). LooksAt o a (listing events p) new) t looks) known
