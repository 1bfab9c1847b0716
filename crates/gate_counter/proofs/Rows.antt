-- Rows of seats, one for each part.
use Rattle.std.proofs.Common.{◌≡◌, ℕ, ◌<◌, List, [], ◌∷◌, ◌++◌, length, refl, sym, ◌∙◌, ap, subst, arith, Option, Some, IfSome}
use Rattle.atomic_table.specs.Seated.{TableId}
use Rattle.turn_gate.specs.declared.view.Account.{Account}
use Rattle.turn_gate.specs.declared.view.Fixed.{Fixed}
use Rattle.turn_gate.specs.declared.view.Part.{Part}
use Rattle.turn_gate.specs.Known.{Known}
use Rattle.turn_gate.specs.Parts.{times, numbers_of, parts_of}
use Rattle.turn_gate.specs.Seats.{one_each, AllRest, HaveAll, parts_in, fixed_in}
use Rattle.turn_gate.specs.Views.{first_view}
use Rattle.gate_counter.specs.declared.tick.Tick.{Tick}
use Rattle.gate_counter.specs.Seats.{IsSeatOf, AreSeatsOf}

module _ (gate : TableId) where
  -- the last seat is that of the last part
  pub last : (ns : List ℕ) (n : ℕ) (ss : List (Known Tick ℕ)) (s : Known Tick ℕ)
      → AreSeatsOf gate (ns ++ n ∷ []) (ss ++ s ∷ []) → AreSeatsOf gate ns ss × IsSeatOf gate n s
  last [] n [] s are = (tt, are.0)
  last [] n (x ∷ []) s are = absurd are.1
  last [] n (x ∷ y ∷ ss) s are = absurd are.1
  last (m ∷ []) n [] s are = absurd are.1
  last (m ∷ k ∷ ns) n [] s are = absurd are.1
  last (m ∷ ns) n (x ∷ ss) s are = let rest = last ns n ss s are.1 in ((are.0, rest.0), rest.1)

  pub last_of : (all ns : List ℕ) (n : ℕ) (items ss : List (Known Tick ℕ)) (s : Known Tick ℕ) → all ≡ ns ++ n ∷ []
      → items ≡ ss ++ s ∷ [] → AreSeatsOf gate all items → AreSeatsOf gate ns ss × IsSeatOf gate n s
  last_of all ns n items ss s parts is are =
      last ns n ss s
      (subst (λ (l : List ℕ). AreSeatsOf gate l (ss ++ s ∷ [])) parts (subst (AreSeatsOf gate all) is are))

  pub with_last : (ns : List ℕ) (n : ℕ) (ss : List (Known Tick ℕ)) (s : Known Tick ℕ) → AreSeatsOf gate ns ss
      → IsSeatOf gate n s → AreSeatsOf gate (ns ++ n ∷ []) (ss ++ s ∷ [])
  with_last [] n [] s are one = (one, tt)
  with_last [] n (x ∷ ss) s are one = absurd are
  with_last (m ∷ ns) n [] s are one = absurd are
  with_last (m ∷ ns) n (x ∷ ss) s are one = (are.0, with_last ns n ss s are.1 one)

  pub fixed_last : (ns : List ℕ) (ss ts : List (Known Tick ℕ)) (s t : Known Tick ℕ) → AreSeatsOf gate ns ss
      → AreSeatsOf gate ns ts → fixed_in ss ≡ fixed_in ts → s.view.fixed ≡ t.view.fixed
      → fixed_in (ss ++ s ∷ []) ≡ fixed_in (ts ++ t ∷ [])
  fixed_last [] [] [] s t p q rest one = one
  fixed_last [] (x ∷ ss) ts s t p q rest one = absurd p
  fixed_last [] [] (y ∷ ts) s t p q rest one = absurd q
  fixed_last (n ∷ ns) [] ts s t p q rest one = absurd p
  fixed_last (n ∷ ns) (x ∷ ss) [] s t p q rest one = absurd q
  fixed_last (n ∷ ns) (x ∷ ss) (y ∷ ts) s t p q rest one = rest

  pub none_left : (ss : List (Known Tick ℕ)) → AreSeatsOf gate [] ss → ss ≡ []
  none_left [] are = refl
  none_left (s ∷ ss) are = absurd are

  pub at_first : (f : Fixed ℕ) (tells : Tick → Option ℕ) (a : Account Tick) (ns : List ℕ)
      → AreSeatsOf gate ns (one_each gate (first_view f a) (parts_of tells a ns))
  at_first f tells a [] = tt
  at_first f tells a (n ∷ ns) = (record { ours = refl; rests = refl; part = refl }, at_first f tells a ns)

  pub fixed_first : (f : Fixed ℕ) (tells : Tick → Option ℕ) (a : Account Tick) (ns : List ℕ) → 0 < length ns
      → fixed_in (one_each gate (first_view f a) (parts_of tells a ns)) ≡ Some f
  fixed_first f tells a [] some_part = absurd (omega arith)
  fixed_first f tells a (n ∷ ns) some_part = refl

  pub all_rest : (ns : List ℕ) (ss : List (Known Tick ℕ)) → AreSeatsOf gate ns ss → AllRest gate ss
  all_rest [] [] are = tt
  all_rest [] (s ∷ ss) are = absurd are
  all_rest (n ∷ ns) [] are = absurd are
  all_rest (n ∷ ns) (s ∷ ss) are = ((are.0.ours, are.0.rests), all_rest ns ss are.1)

  numbers_more : (ps qs : List (Part Tick)) → numbers_of (ps ++ qs) ≡ numbers_of ps ++ numbers_of qs
  numbers_more [] qs = refl
  numbers_more (p ∷ ps) qs = ap (λ (l : List ℕ). p.number ∷ l) (numbers_more ps qs)

  all_numbers : (ns : List ℕ) (ss : List (Known Tick ℕ)) → AreSeatsOf gate ns ss → numbers_of (parts_in ss) ≡ ns
  all_numbers [] [] are = refl
  all_numbers [] (s ∷ ss) are = absurd are
  all_numbers (n ∷ ns) [] are = absurd are
  all_numbers (n ∷ ns) (s ∷ ss) are =
      numbers_more s.view.parts (parts_in ss) ∙ ap (λ (l : List ℕ). l ++ numbers_of (parts_in ss)) are.0.part
      ∙ ap (λ (l : List ℕ). n ∷ l) (all_numbers ns ss are.1)

  -- seats of all parts of the making together have all
  pub have_all : (ns : List ℕ) (ss : List (Known Tick ℕ)) (f : Fixed ℕ) → 0 < length ns → f.all ≡ ns
      → fixed_in ss ≡ Some f → AreSeatsOf gate ns ss → HaveAll ss
  have_all [] ss f some_part all fixed are = absurd (omega arith)
  have_all (n ∷ ns) [] f some_part all fixed are = absurd are
  have_all (n ∷ ns) (s ∷ ss) f some_part all fixed are =
      subst (λ (o : Option (Fixed ℕ)). IfSome o (λ x. (k : ℕ)
      → times k (numbers_of (parts_in (s ∷ ss))) ≡ times k x.all)) (sym fixed)
      (λ k. ap (λ (l : List ℕ). times k l) (all_numbers (n ∷ ns) (s ∷ ss) are ∙ sym all))
