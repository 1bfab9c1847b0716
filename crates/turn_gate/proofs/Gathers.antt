-- Seats that are dealt out of one, and gathered into one.
use Rattle.std.proofs.Common.{Bool, true, false, cond, eqb, ◌≡◌, inl, inr, ℕ, zero, suc, ◌+◌, ◌<◌, ◌≤◌, ltb, List, [], ◌∷◌, ◌++◌, length, drop, get_or, refl, sym, ◌∙◌, ap, subst, arith, append_assoc, Option, Some, None, IfSome, eq-eqb}
use Rattle.std.proofs.lemmas.Bool.{cond-true, cond_both}
use Rattle.std.proofs.lemmas.List.{append-nil}
use mathlib.Core.List.{IsPrefix}
use Rattle.atomic_table.specs.Seated.{TableId}
use Rattle.turn_gate.specs.declared.view.Account.{Account}
use Rattle.turn_gate.specs.declared.view.Fixed.{Fixed}
use Rattle.turn_gate.specs.declared.view.Part.{Part}
use Rattle.turn_gate.specs.declared.view.View.{View}
use Rattle.turn_gate.specs.Known.{Known, known}
use Rattle.turn_gate.specs.Parts.{own, doubt_of, times, numbers_of, parts_of, but, just, without, only, AllDiffer}
use Rattle.turn_gate.specs.Views.{first_view, left_with, split_off, joined}
use Rattle.turn_gate.specs.Seats.{one_each, parts_in, notes_in, rises_in, fixed_in, HaveAll, AllSawBeginnings, OneSaw}
use Rattle.turn_gate.specs.Steps.{HasAll}
use Rattle.turn_gate.proofs.Prefixes.{prefix_trans}

module _ {E : Type 0} (tells : E → Option ℕ) (a : Account E) where
  abbrev part_of : ℕ → Part E
  part_of n = record { number = n; mine = own tells n a.entries; doubt = doubt_of tells a.pending n }

  others : (n : ℕ) (ns : List ℕ) → times n ns ≡ 0
      → (but n (parts_of tells a ns) ≡ parts_of tells a ns) × (just n (parts_of tells a ns) ≡ [])
  others n [] none = (refl, refl)
  others n (m ∷ ms) none = go (eqb m n) refl (others n ms (omega (arith, none)))
    where
      go : (b : Bool) → eqb m n ≡ b
          → (but n (parts_of tells a ms) ≡ parts_of tells a ms) × (just n (parts_of tells a ms) ≡ [])
          → (but n (parts_of tells a (m ∷ ms)) ≡ parts_of tells a (m ∷ ms)) × (just n (parts_of tells a (m ∷ ms)) ≡ [])
      go true is rest = absurd (omega (arith, none, ap (λ (b : Bool). cond {A = ℕ} b 1 0) is))
      go false is rest = (
        ap (λ (b : Bool). cond b (but n (parts_of tells a ms)) (part_of m ∷ but n (parts_of tells a ms))) is
            ∙ ap (λ (ps : List (Part E)). part_of m ∷ ps) rest.0,
        ap (λ (b : Bool). cond b (part_of m ∷ just n (parts_of tells a ms)) (just n (parts_of tells a ms))) is ∙ rest.1,
      )

  -- the first part is split off
  pub first_off : (n : ℕ) (ns : List ℕ) → times n ns ≡ 0
      → (without (Some n) (parts_of tells a (n ∷ ns)) ≡ parts_of tells a ns)
      × (only (Some n) (parts_of tells a (n ∷ ns)) ≡ parts_of tells a (n ∷ []))
  first_off n ns none =
      let yes : eqb n n ≡ true = eq-eqb n n refl in
      let rest = others n ns none in (
        cond-true {A = List (Part E)} (eqb n n) _ _ yes ∙ rest.0,
        cond-true {A = List (Part E)} (eqb n n) _ _ yes ∙ ap (λ (ps : List (Part E)). part_of n ∷ ps) rest.1,
      )

module _ {E O : Type 0} (tells : E → Option ℕ) (a : Account E) (f : Fixed O) (gate : TableId) where
  -- one more of the seats that are dealt
  pub deals_one : (items : List (Known E O)) (v : View E O) (r : Known E O) (n : ℕ) (ns all : List ℕ) → times n ns ≡ 0
      → v ≡ first_view f a (parts_of tells a (n ∷ ns))
      → r.gate ≡ gate → r.view ≡ split_off (Some n) v
      → items ++ one_each gate (first_view f a) (parts_of tells a (n ∷ ns))
      ≡ one_each gate (first_view f a) (parts_of tells a all)
      → (left_with (Some n) v ≡ first_view f a (parts_of tells a ns))
      × ((items ++ r ∷ []) ++ one_each gate (first_view f a) (parts_of tells a ns)
      ≡ one_each gate (first_view f a) (parts_of tells a all))
  deals_one items v r n ns all none is same_gate moved dealt =
      let off = first_off tells a n ns none in
      let base : List (Part E) → View E O = first_view f a in
      let view : r.view ≡ base (parts_of tells a (n ∷ [])) = moved ∙ ap (split_off (Some n)) is ∙ ap base off.1 in
      let seat : r ≡ known gate (base (parts_of tells a (n ∷ []))) = λ i. known (same_gate i) (view i) in (
        ap (left_with (Some n)) is ∙ ap base off.0,
        append_assoc items (r ∷ []) (one_each gate base (parts_of tells a ns))
            ∙ ap (λ (x : Known E O). items ++ x ∷ one_each gate base (parts_of tells a ns)) seat ∙ dealt,
      )

pub at_drop : (ns : List ℕ) (i : ℕ) → i < length ns → drop i ns ≡ get_or ns i 0 ∷ drop (suc i) ns
at_drop [] i lt = absurd (omega arith)
at_drop (n ∷ ns) zero lt = refl
at_drop (n ∷ ns) (suc i) lt = at_drop ns i (omega arith)

times-drop : (k : ℕ) (ns : List ℕ) (i : ℕ) → times k (drop i ns) ≤ times k ns
times-drop k [] zero = omega arith
times-drop k [] (suc i) = omega arith
times-drop k (n ∷ ns) zero = omega arith
times-drop k (n ∷ ns) (suc i) = omega (arith, times-drop k ns i)

-- the next part isn't among those after it
pub no_more : (ns : List ℕ) (i : ℕ) → AllDiffer ns → i < length ns → times (get_or ns i 0) (drop (suc i) ns) ≡ 0
no_more ns i differ lt =
    let n = get_or ns i 0 in
    let few : times n (n ∷ drop (suc i) ns) ≤ 1 = subst (λ (l : List ℕ). times n l ≤ 1) (at_drop ns i lt)
    (omega (arith, times-drop n ns i, differ n)) in
    omega (arith, few, cond-true {A = ℕ} (eqb n n) 1 0 (eq-eqb n n refl))

module _ {E O : Type 0} where
  parts_more : (xs : List (Known E O)) (w : Known E O) → parts_in (xs ++ w ∷ []) ≡ parts_in xs ++ w.view.parts
  parts_more [] w = append-nil w.view.parts
  parts_more (x ∷ xs) w =
      ap (λ (l : List (Part E)). x.view.parts ++ l) (parts_more xs w)
      ∙ sym (append_assoc x.view.parts (parts_in xs) w.view.parts)

  notes_more : (xs : List (Known E O)) (w : Known E O) → notes_in (xs ++ w ∷ []) ≡ notes_in xs ++ w.view.notes
  notes_more [] w = append-nil w.view.notes
  notes_more (x ∷ xs) w =
      ap (λ (l : List (ℕ × ℕ)). x.view.notes ++ l) (notes_more xs w)
      ∙ sym (append_assoc x.view.notes (notes_in xs) w.view.notes)

  rises_more : (xs : List (Known E O)) (w : Known E O) → rises_in (xs ++ w ∷ []) ≡ rises_in xs + w.view.rises
  rises_more [] w = omega arith
  rises_more (x ∷ xs) w = omega (arith, rises_more xs w)

  fixed_more : (xs : List (Known E O)) (w : Known E O) (g : List E) → OneSaw g xs
      → fixed_in (xs ++ w ∷ []) ≡ fixed_in xs
  fixed_more [] w g none = absurd none
  fixed_more (x ∷ xs) w g one = refl

  saw_more : (xs : List (Known E O)) (w : Known E O) (g next : List E) → IsPrefix g next → IsPrefix w.view.seen next
      → AllSawBeginnings g xs → AllSawBeginnings next (xs ++ w ∷ [])
  saw_more [] w g next p q all = (q, tt)
  saw_more (x ∷ xs) w g next p q all = (prefix_trans x.view.seen g next all.0 p, saw_more xs w g next p q all.1)

  one_before : (xs : List (Known E O)) (w : Known E O) (g : List E) → OneSaw g xs → OneSaw g (xs ++ w ∷ [])
  one_before [] w g none = absurd none
  one_before (x ∷ xs) w g (inl is) = inl is
  one_before (x ∷ xs) w g (inr one) = inr (one_before xs w g one)

  one_last : (xs : List (Known E O)) (w : Known E O) (g : List E) → w.view.seen ≡ g → OneSaw g (xs ++ w ∷ [])
  one_last [] w g is = inl is
  one_last (x ∷ xs) w g is = inr (one_last xs w g is)

  -- one seat has all that these had
  pub record Gathers (done : List (Known E O)) (v : View E O) : Type 0 where
    pub parts : v.parts ≡ parts_in done
    pub notes : v.notes ≡ notes_in done
    pub rises : v.rises ≡ rises_in done
    pub rests : v.held ≡ None
    pub fixed : v.fixed ≡ fixed_in done
    pub all_saw : AllSawBeginnings v.seen done
    pub one_saw : OneSaw v.seen done

  pub gathers_more : (done : List (Known E O)) (v : View E O) (w : Known E O) (new : View E O) → new ≡ joined v w.view
      → IsPrefix v.seen new.seen → IsPrefix w.view.seen new.seen → Gathers done v → Gathers (done ++ w ∷ []) new
  gathers_more done v w new is p q so = record {
    parts =
        ap (λ (x : View E O). x.parts) is ∙ ap (λ (l : List (Part E)). l ++ w.view.parts) so.parts
        ∙ sym (parts_more done w);
    notes =
        ap (λ (x : View E O). x.notes) is ∙ ap (λ (l : List (ℕ × ℕ)). l ++ w.view.notes) so.notes
        ∙ sym (notes_more done w);
    rises = (let sum = ap (λ (x : View E O). x.rises) is in omega (arith, sum, so.rises, rises_more done w));
    rests = ap (λ (x : View E O). x.held) is ∙ so.rests;
    fixed = ap (λ (x : View E O). x.fixed) is ∙ so.fixed ∙ sym (fixed_more done w v.seen so.one_saw);
    all_saw = saw_more done w v.seen new.seen p q so.all_saw;
    one_saw =
        subst (λ (l : List E). OneSaw l (done ++ w ∷ [])) (sym (ap (λ (x : View E O). x.seen) is))
        (cond_both (ltb (length v.seen) (length w.view.seen)) w.view.seen v.seen
        (λ (l : List E). OneSaw l (done ++ w ∷ [])) (λ e. one_last done w w.view.seen refl)
        (λ e. one_before done w v.seen so.one_saw));
  }

  pub has_all : (seats : List (Known E O)) (v : View E O) → HaveAll seats → v.fixed ≡ fixed_in seats
      → v.parts ≡ parts_in seats → HasAll v
  has_all [] v none fixed parts = absurd none
  has_all (s ∷ ss) v all fixed parts =
      subst (λ (o : Option (Fixed O)). IfSome o (λ f. (n : ℕ) → times n (numbers_of v.parts) ≡ times n f.all))
      (sym fixed)
      (subst (λ (ps : List (Part E)). IfSome s.view.fixed (λ f. (n : ℕ) → times n (numbers_of ps) ≡ times n f.all))
      (sym parts) all)
