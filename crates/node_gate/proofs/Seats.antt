-- A seat before and after one turn.
use Rattle.std.proofs.Common.{◌≡◌, ℕ, ◌+◌, ◌<◌, Bool, true, false, cond, eqb, List, [], ◌∷◌, length, refl, sym, ◌∙◌, ap, subst, arith, Option, Some, None}
use Rattle.std.proofs.lemmas.Bool.{eqb-true}
use Rattle.std.specs.Prelude.{IfSome, IsSome}
use mathlib.Core.List.{IsPrefix}
use Rattle.atomic_table.specs.Seated.{TableId}
use Rattle.turn_gate.specs.Known.{Known}
use Rattle.turn_gate.specs.Mine.{doubt_in, mine_of}
use Rattle.turn_gate.specs.Parts.{PartsFit, doubt_of, is_of, numbers_of, own, parts_of, times}
use Rattle.turn_gate.specs.Steps.{HasAll}
use Rattle.turn_gate.specs.Views.{account, at_rest, published, with_turn}
use Rattle.turn_gate.specs.declared.view.Account.{Account}
use Rattle.turn_gate.specs.declared.view.Fixed.{Fixed}
use Rattle.turn_gate.specs.declared.view.Part.{Part}
use Rattle.turn_gate.specs.declared.view.View.{View}
use Rattle.disk_core.specs.declared.plan.FaultPlan.{FaultPlan}
use Rattle.node_store.specs.declared.node.Node.{Node}
use Rattle.plan_numbers.specs.Plans.{fixed_numbers}
use Rattle.turn_gate.proofs.Mine.{fits-settles, turn-tells}
use Rattle.turn_gate.proofs.Prefixes.{prefix_trans}
use Rattle.turn_gate.proofs.Sums.{numbers_of-parts_of}
use Rattle.pm_types.specs.declared.history.Entry.{Entry}
use Rattle.node_gate.specs.declared.opening.Opening.{Opening}
use Rattle.node_gate.specs.Seats.{IsClientSeat, IsHandedBack, IsLeft, IsPartFound, IsPartLeft, IsSeat, IsWorkSeat, Turned}
use Rattle.node_gate.specs.Stands.{Listing, StandsFor, listing, tells}

-- where parts fit, what is pending of one of them is its doubt, and isn't among its entries
module _ (a : Account Entry) (n : ℕ) where
  abbrev WasDoubt : List (Part Entry) → Entry → Type 0
  WasDoubt ps e = (doubt_in n ps ≡ Some e) × (own tells n a.entries ≡ mine_of n ps)

  was_doubt : (ps : List (Part Entry)) → 0 < times n (numbers_of ps) → PartsFit tells a ps → (e : Entry)
      → a.pending ≡ Some e → is_of (tells e) n ≡ true → WasDoubt ps e
  was_doubt [] some fit e pends told = absurd (omega (arith, some))
  was_doubt (p ∷ ps) some fit e pends told =
      go (eqb p.number n) refl some (λ more. was_doubt ps more fit.1 e pends told)
    where
      go : (b : Bool) → eqb p.number n ≡ b → 0 < cond b 1 0 + times n (numbers_of ps)
          → (0 < times n (numbers_of ps) → WasDoubt ps e)
          → (cond b p.doubt (doubt_in n ps) ≡ Some e) × (own tells n a.entries ≡ cond b p.mine (mine_of n ps))
      go true is some rest =
          let same = eqb-true p.number n is in
          subst (λ k. (p.doubt ≡ Some e) × (own tells k a.entries ≡ p.mine)) same
          (fit.0.pending_is e pends (subst (λ k. is_of (tells e) k ≡ true) (sym same) told))
      go false is some rest = rest (omega (arith, some))

  pending_was : (ps : List (Part Entry)) → 0 < times n (numbers_of ps) → PartsFit tells a ps → (o : Option Entry)
      → a.pending ≡ o → IfSome (doubt_of tells o n) (WasDoubt ps)
  pending_was ps some fit None none = tt
  pending_was ps some fit (Some e) pends = by (is_of (tells e) n) refl
    where
      by : (b : Bool) → is_of (tells e) n ≡ b → IfSome (cond b (Some e) None) (WasDoubt ps)
      by true told = was_doubt ps some fit e pends told
      by false told = tt

module _ {O : Type 0} where
  -- the view after a turn that found one account and published another
  abbrev pub after_turn : View Entry O → Account Entry → Account Entry → ℕ → View Entry O
  after_turn v found now rise = at_rest (published tells now rise (with_turn tells found v))

  -- what the machine stood for from the opening of the making it stands for still
  pub kept : (P Q : O → Type 0) (n m : List ℕ) (o : Option (Fixed O)) → m ≡ n → ((x : O) → P x → Q x)
      → IfSome o (λ f. (n ≡ f.numbers) × P f.opening) → IfSome o (λ f. (m ≡ f.numbers) × Q f.opening)
  kept P Q n m None same on p = p
  kept P Q n m (Some f) same on p = (same ∙ p.0, on f.opening p.1)

  -- the seat has its parts while it has the turn
  pub parts_in : (old : View Entry O) (found : Account Entry)
      → numbers_of (with_turn tells found old).parts ≡ numbers_of old.parts
  parts_in old found = numbers_of-parts_of tells found (numbers_of old.parts)

  -- what a turn found of one of them
  pub part_found : (old : View Entry O) (found : Account Entry) (n : ℕ) → 0 < times n (numbers_of old.parts)
      → PartsFit tells found old.parts → IsPartFound n old (listing found.entries found.pending)
  part_found old found n part fits = record {
    own_is = fits-settles tells found n old.parts part fits;
    pending_was = pending_was found n old.parts part fits found.pending refl;
  }

  module _ (old new : Known Entry O) (found now : Account Entry) (rise : ℕ) (same : new.gate ≡ old.gate)
      (is : new.view ≡ after_turn old.view found now rise) where
    -- and afterwards
    parts_after : numbers_of new.view.parts ≡ numbers_of old.view.parts
    parts_after =
        ap (λ (v : View Entry O). numbers_of v.parts) is
        ∙ numbers_of-parts_of tells now (numbers_of (with_turn tells found old.view).parts)
        ∙ parts_in old.view found

    seen_is : new.view.seen ≡ now.entries
    seen_is = ap (λ (v : View Entry O). v.seen) is

    -- what it left of one of them
    pub part_left : (n : ℕ) → 0 < times n (numbers_of old.view.parts)
        → IsPartLeft n new.view (listing now.entries now.pending)
    part_left n part =
        let ns = numbers_of (with_turn tells found old.view).parts in
        let has = subst (λ (ms : List ℕ). 0 < times n ms) (sym (parts_in old.view found)) part in
        let told = turn-tells tells now n ns has in
        let at = ap (λ (v : View Entry O). v.parts) is in
        record { mine = ap (mine_of n) at ∙ told.0; doubt = ap (doubt_in n) at ∙ told.1 }

    is_left : IsLeft new.view (listing now.entries now.pending)
    is_left = record {
      seen = seen_is;
      each = λ n part. part_left n (subst (λ (ms : List ℕ). 0 < times n ms) parts_after part);
    }

    -- one turn
    pub turned : (Did : Listing → Listing → Type 0) → IsPrefix old.view.seen found.entries
        → IsPrefix found.entries now.entries → PartsFit tells found old.view.parts
        → (HasAll old.view → found.entries ≡ old.view.seen)
        → Did (listing found.entries found.pending) (listing now.entries now.pending) → Turned Did old new
    turned Did came more fits alone did = record {
      same_gate = same;
      rests = ap (λ (v : View Entry O). v.held) is;
      fixed = ap (λ (v : View Entry O). v.fixed) is;
      parts = parts_after;
      notes = ap (λ (v : View Entry O). v.notes) is;
      goes_on = subst (λ (l : List Entry). IsPrefix old.view.seen l) (sym seen_is)
          (prefix_trans old.view.seen found.entries now.entries came more);
      found = listing found.entries found.pending;
      left = listing now.entries now.pending;
      is_found = record {
        goes_on = came;
        each = λ n part. part_found old.view found n part fits;
        alone = alone;
      };
      is_left = is_left;
      did = did;
    }

  -- the seat stays one of its gate, with its parts
  module _ (Did : Listing → Listing → Type 0) (gate : TableId) (old new : Known Entry O)
      (turn : Turned Did old new) where
    still_seat : IsSeat gate old → IsSeat gate new
    still_seat seat = record {
      ours = turn.same_gate ∙ seat.ours;
      rests = turn.rests;
      made = subst (λ (o : Option (Fixed O)). IsSome o) (sym turn.fixed) seat.made;
    }

    pub still_clients : (client : ℕ) → IsClientSeat client gate old → IsClientSeat client gate new
    still_clients client ours = record {
      seat = still_seat ours.seat;
      part = subst (λ (ns : List ℕ). 0 < times client ns) (sym turn.parts) ours.part;
    }

    pub still_works : IsWorkSeat gate old → IsWorkSeat gate new
    still_works ours = record {
      seat = still_seat ours.seat;
      part = subst (λ (ns : List ℕ). 0 < length ns) (sym turn.parts) ours.part;
    }

-- what `close` hands back
pub handed_back : {D : Type 0} (moment : D → ℕ) (left_since : D → ℕ → List ℕ → Type 0) (seen : D → List ℕ)
    (images : D → List ℕ → Type 0) (armed : D → FaultPlan) (fault_count : D → ℕ) (names : List (List ℕ))
    (node : Node D) (entries : List Entry) (pending : Option Entry) (parts : List (Part Entry))
    (o : Option (Fixed (Opening D)))
    → IfSome o (λ f. (fixed_numbers names (armed node.extents.disk) ≡ f.numbers)
    × StandsFor moment left_since seen images names f.opening node entries pending)
    → PartsFit tells (account entries pending (fault_count node.extents.disk)) parts
    → IfSome o (λ f. IsHandedBack moment left_since seen images armed fault_count f node entries parts)
handed_back moment left_since seen images armed fault_count names node entries pending parts None is fits = is
handed_back moment left_since seen images armed fault_count names node entries pending parts (Some f) is fits =
    record {
      names = names;
      pending = pending;
      fixed_is = is.0;
      stands = is.1;
      own_is = fits;
    }
