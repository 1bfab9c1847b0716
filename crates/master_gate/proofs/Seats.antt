-- The adding seat before and after one turn.
use Rattle.std.proofs.Common.{◌≡◌, inl, inr, ℕ, cond, eqb, true, List, [], ◌∷◌, refl, sym, ◌∙◌, ap, subst, Option, Some, None}
use Rattle.std.specs.Prelude.{IfSome, IsSome}
use Rattle.atomic_table.specs.Seated.{TableId}
use Rattle.turn_gate.specs.Known.{Known}
use Rattle.turn_gate.specs.Mine.{doubt_in}
use Rattle.turn_gate.specs.Parts.{PartsFit, doubt_of, numbers_of, parts_of, times}
use Rattle.turn_gate.specs.Steps.{HasAll}
use Rattle.turn_gate.specs.Views.{at_rest, published, with_turn}
use Rattle.turn_gate.specs.declared.view.Account.{Account}
use Rattle.turn_gate.specs.declared.view.Fixed.{Fixed}
use Rattle.turn_gate.specs.declared.view.Part.{Part}
use Rattle.turn_gate.specs.declared.view.View.{View}
use Rattle.campaign_core.specs.declared.events.MasterEvent.{MasterEvent}
use Rattle.campaign_core.specs.declared.fold.Fold.{Fold}
use Rattle.decision_log.specs.declared.answers.AddAnswer.{AddAnswer}
use Rattle.master_gate.specs.declared.answers.LookAnswer.{LookAnswer}
use Rattle.master_gate.specs.declared.opening.Opening.{Opening}
use Rattle.master_gate.specs.Adds.{AddsTo, Listing, listing, LooksAt}
use Rattle.master_gate.specs.Seats.{IsMasterSeat, fold_in, listing_of}
use Rattle.master_gate.specs.Stands.{MayLeave, tells}
use Rattle.master_gate.proofs.Settles.{adds_on, looks_on, none_is_not_some}

-- what is pending is the part's doubt
doubt_all : (pending : Option MasterEvent) → doubt_of tells pending 0 ≡ pending
doubt_all None = refl
doubt_all (Some e) = refl

-- what is pending was the doubt of the seat's one part
known_of : (found : Account MasterEvent) (parts : List (Part MasterEvent)) → numbers_of parts ≡ 0 ∷ []
    → PartsFit tells found parts → MayLeave (doubt_in 0 parts) found.pending
known_of found [] one fits = absurd (cc one)
known_of found (p ∷ ps) one fits = by found.pending refl
  where
    zero_is : p.number ≡ 0
    zero_is = cc one

    by : (pending : Option MasterEvent) → found.pending ≡ pending → MayLeave (doubt_in 0 (p ∷ ps)) found.pending
    by None is = inl is
    by (Some e) is =
        let told : eqb 0 p.number ≡ true = ap (eqb 0) zero_is in
        inr (is ∙ sym (fits.0.pending_is e is told).0
        ∙ sym (ap (λ (n : ℕ). cond (eqb n 0) p.doubt (doubt_in 0 ps)) zero_is))

module _ {O : Type 0} where
  -- the view after a turn that found one account and published another
  abbrev pub after_turn : View MasterEvent O → Account MasterEvent → Account MasterEvent → ℕ → View MasterEvent O
  after_turn v found now rise = at_rest (published tells now rise (with_turn tells found v))

  -- what the machine stood for from the opening of the making it stands for still
  pub kept : (P Q : O → Type 0) (n m : List ℕ) (o : Option (Fixed O)) → m ≡ n → ((x : O) → P x → Q x)
      → IfSome o (λ f. (n ≡ f.numbers) × P f.opening) → IfSome o (λ f. (m ≡ f.numbers) × Q f.opening)
  kept P Q n m None same on p = p
  kept P Q n m (Some f) same on p = (same ∙ p.0, on f.opening p.1)

  pub weakened : (P Q : Fixed O → Type 0) (o : Option (Fixed O)) → ((f : Fixed O) → P f → Q f) → IfSome o P → IfSome o Q
  weakened P Q None on p = p
  weakened P Q (Some f) on p = on f p

  module _ (gate : TableId) (old : Known MasterEvent O) (seat : IsMasterSeat gate old) where
    pub has_all : HasAll old.view
    has_all =
        weakened (λ f. f.all ≡ 0 ∷ []) (λ f. (n : ℕ) → times n (numbers_of old.view.parts) ≡ times n f.all)
        old.view.fixed (λ f all n. ap (times n) (seat.part ∙ sym all)) seat.all

    pub one_part : (found : Account MasterEvent)
        → numbers_of (parts_of tells found (numbers_of old.view.parts)) ≡ 0 ∷ []
    one_part found = ap (λ (ns : List ℕ). numbers_of (parts_of tells found ns)) seat.part

    pub may_leave : (found : Account MasterEvent) → PartsFit tells found old.view.parts
        → MayLeave (doubt_in 0 old.view.parts) found.pending
    may_leave found fits = known_of found old.view.parts seat.part fits

    module _ (new : Known MasterEvent O) (found now : Account MasterEvent) (rise : ℕ) (same : new.gate ≡ old.gate)
        (is : new.view ≡ after_turn old.view found now rise) where
      fixed_is : new.view.fixed ≡ old.view.fixed
      fixed_is = ap (λ (v : View MasterEvent O). v.fixed) is

      pub seat_after : IsMasterSeat gate new
      seat_after = record {
        seat = record {
          ours = same ∙ seat.seat.ours;
          rests = ap (λ (v : View MasterEvent O). v.held) is;
          made = subst (λ (o : Option (Fixed O)). IsSome o) (sym fixed_is) seat.seat.made;
        };
        all = subst (λ (o : Option (Fixed O)). IfSome o (λ f. f.all ≡ 0 ∷ [])) (sym fixed_is) seat.all;
        part =
            ap (λ (v : View MasterEvent O). numbers_of v.parts) is
            ∙ ap (λ (ns : List ℕ). numbers_of (parts_of tells now ns)) (one_part found);
      }

      listing_is : listing_of new.view ≡ listing now.entries now.pending
      listing_is =
          ap (λ (v : View MasterEvent O). listing_of v) is
          ∙ ap (λ (ns : List ℕ). listing now.entries (doubt_in 0 (parts_of tells now ns))) (one_part found)
          ∙ ap (listing now.entries) (doubt_all now.pending)

      module _ (came : found.entries ≡ old.view.seen) (fits : PartsFit tells found old.view.parts) where
        pub adds_so : (o : Fold) (e : MasterEvent) (a : AddAnswer)
            → AddsTo o e a (listing found.entries found.pending) (listing now.entries now.pending)
            → AddsTo o e a (listing_of old.view) (listing_of new.view)
        adds_so o e a adds =
            let doubt = doubt_in 0 old.view.parts in
            let on = adds_on found.entries found.pending doubt (may_leave found fits) (listing now.entries now.pending)
            o e a adds in
            subst (λ (l : List MasterEvent). AddsTo o e a (listing l doubt) (listing_of new.view)) came
            (subst (λ (l : Listing). AddsTo o e a (listing found.entries doubt) l) (sym listing_is) on)

        pub looks_so : (o : Fold) (a : LookAnswer)
            → LooksAt o a (listing found.entries found.pending) (listing now.entries now.pending)
            → LooksAt o a (listing_of old.view) (listing_of new.view)
        looks_so o a looks =
            let doubt = doubt_in 0 old.view.parts in
            let on = looks_on found.entries found.pending doubt (may_leave found fits) (listing now.entries now.pending)
            o a looks in
            subst (λ (l : List MasterEvent). LooksAt o a (listing l doubt) (listing_of new.view)) came
            (subst (λ (l : Listing). LooksAt o a (listing found.entries doubt) l) (sym listing_is) on)

-- what holds from the opening's fold holds from the seat's
pub at_opening : {D : Type 0} (P : Opening D → Type 0) (A : Fold → Type 0) (n : List ℕ) (o : Option (Fixed (Opening D)))
    → IsSome o → IfSome o (λ f. (n ≡ f.numbers) × P f.opening) → ((x : Opening D) → P x → A x.fold) → A (fold_in o)
at_opening {D = D} P A n None made p on = absurd (none_is_not_some {A = Fixed (Opening D)} None refl made)
at_opening P A n (Some f) made p on = on f.opening p.1
