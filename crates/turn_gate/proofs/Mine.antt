-- What a seat has of one part is kept by splits and joins, settled by a turn, and is that of the list after one.
use Rattle.std.proofs.Common.{◌≡◌, ◌≢◌, inl, inr, ⊎_elim, ℕ, ◌+◌, ◌<◌, Bool, true, false, cond, eqb, List, []}
use Rattle.std.proofs.Common.{◌∷◌, ◌++◌, refl, sym, ◌∙◌, ap, subst, arith, Option, Some, None}
use Rattle.std.proofs.lemmas.Bool.{eqb-true}
use Rattle.turn_gate.specs.declared.view.Account.{Account}
use Rattle.turn_gate.specs.declared.view.Part.{Part}
use Rattle.turn_gate.specs.Parts.{own, times, numbers_of, doubt_of, parts_of, just, but, without, only, PartFits}
use Rattle.turn_gate.specs.Parts.{PartsFit}
use Rattle.turn_gate.specs.Mine.{mine_of, doubt_in, HasSame, Settles}

module _ {E : Type 0} where
  -- a split moves the named part whole
  pub split-moves : (n : ℕ) (ps : List (Part E)) → HasSame n ps (only (Some n) ps)
  split-moves n [] = (refl, refl)
  split-moves n (p ∷ ps) = go (eqb p.number n) refl (split-moves n ps)
    where
      go : (b : Bool) → eqb p.number n ≡ b → HasSame n ps (just n ps)
          → (mine_of n (cond b (p ∷ just n ps) (just n ps)) ≡ cond b p.mine (mine_of n ps))
          × (doubt_in n (cond b (p ∷ just n ps) (just n ps)) ≡ cond b p.doubt (doubt_in n ps))
      go true e rest =
          (ap (λ b. cond b p.mine (mine_of n (just n ps))) e, ap (λ b. cond b p.doubt (doubt_in n (just n ps))) e)
      go false e rest = rest

  -- and leaves each other
  pub split-leaves : (n k : ℕ) (ps : List (Part E)) → k ≢ n → HasSame n ps (without (Some k) ps)
  split-leaves n k [] apart = (refl, refl)
  split-leaves n k (p ∷ ps) apart = go (eqb p.number k) refl (split-leaves n k ps apart)
    where
      other : eqb p.number k ≡ true → eqb p.number n ≡ false
      other e = by (eqb p.number n) refl
        where
          by : (b : Bool) → eqb p.number n ≡ b → eqb p.number n ≡ false
          by true q = absurd (apart (sym (eqb-true p.number k e) ∙ eqb-true p.number n q))
          by false q = q

      go : (b : Bool) → eqb p.number k ≡ b → HasSame n ps (but k ps)
          → HasSame n (p ∷ ps) (cond b (but k ps) (p ∷ but k ps))
      go true e rest = (
        rest.0 ∙ sym (ap (λ b. cond b p.mine (mine_of n ps)) (other e)),
        rest.1 ∙ sym (ap (λ b. cond b p.doubt (doubt_in n ps)) (other e)),
      )
      go false e rest =
          (ap (λ l. cond (eqb p.number n) p.mine l) rest.0, ap (λ o. cond (eqb p.number n) p.doubt o) rest.1)

  -- a join has what the first has, and of other numbers what the second has
  pub join-first : (n : ℕ) (ps qs : List (Part E)) → 0 < times n (numbers_of ps) → HasSame n ps (ps ++ qs)
  join-first n [] qs some = absurd (omega (arith, some))
  join-first n (p ∷ ps) qs some = go (eqb p.number n) some (join-first n ps qs)
    where
      go : (b : Bool) → 0 < cond b 1 0 + times n (numbers_of ps)
          → (0 < times n (numbers_of ps) → HasSame n ps (ps ++ qs))
          → (cond b p.mine (mine_of n (ps ++ qs)) ≡ cond b p.mine (mine_of n ps))
          × (cond b p.doubt (doubt_in n (ps ++ qs)) ≡ cond b p.doubt (doubt_in n ps))
      go true some rest = (refl, refl)
      go false some rest = rest (omega (arith, some))

  pub join-second : (n : ℕ) (ps qs : List (Part E)) → times n (numbers_of ps) ≡ 0 → HasSame n qs (ps ++ qs)
  join-second n [] qs none = (refl, refl)
  join-second n (p ∷ ps) qs none = go (eqb p.number n) none (join-second n ps qs)
    where
      go : (b : Bool) → cond b 1 0 + times n (numbers_of ps) ≡ 0
          → (times n (numbers_of ps) ≡ 0 → HasSame n qs (ps ++ qs))
          → (cond b p.mine (mine_of n (ps ++ qs)) ≡ mine_of n qs)
          × (cond b p.doubt (doubt_in n (ps ++ qs)) ≡ doubt_in n qs)
      go true none rest = absurd (omega (arith, none))
      go false none rest = rest (omega (arith, none))

  module _ (tells : E → Option ℕ) (a : Account E) where
    -- after a turn each part has the entries of the list that tell it, and what is pending of it
    pub turn-tells : (n : ℕ) (ns : List ℕ) → 0 < times n ns
        → (mine_of n (parts_of tells a ns) ≡ own tells n a.entries)
        × (doubt_in n (parts_of tells a ns) ≡ doubt_of tells a.pending n)
    turn-tells n [] some = absurd (omega (arith, some))
    turn-tells n (m ∷ ns) some = go (eqb m n) refl some (turn-tells n ns)
      where
        go : (b : Bool) → eqb m n ≡ b → 0 < cond b 1 0 + times n ns
            → (0 < times n ns
            → (mine_of n (parts_of tells a ns) ≡ own tells n a.entries)
            × (doubt_in n (parts_of tells a ns) ≡ doubt_of tells a.pending n))
            → (cond b (own tells m a.entries) (mine_of n (parts_of tells a ns)) ≡ own tells n a.entries)
            × (cond b (doubt_of tells a.pending m) (doubt_in n (parts_of tells a ns)) ≡ doubt_of tells a.pending n)
        go true e some rest =
            let same = eqb-true m n e in
            (ap (λ k. own tells k a.entries) same, ap (λ k. doubt_of tells a.pending k) same)
        go false e some rest = rest (omega (arith, some))

    settles : (p : Part E) → PartFits tells a p → Settles p.doubt p.mine (own tells p.number a.entries)
    settles p fits = go p.doubt refl
      where
        go : (o : Option E) → p.doubt ≡ o → Settles o p.mine (own tells p.number a.entries)
        go None e = ⊎_elim (λ (t : own tells p.number a.entries ≡ p.mine). t)
            (λ (t : (d : E) × (p.doubt ≡ Some d) × (own tells p.number a.entries ≡ p.mine ++ d ∷ [])). absurd
            (let q : None ≡ Some t.0 = sym e ∙ t.1 in cc q))
            fits.own_is
        go (Some d) e = ⊎_elim (λ (t : own tells p.number a.entries ≡ p.mine). inl t)
            (λ (t : (d' : E) × (p.doubt ≡ Some d') × (own tells p.number a.entries ≡ p.mine ++ d' ∷ [])).
            let same : t.0 ≡ d = let q : Some t.0 ≡ Some d = sym t.1 ∙ e in cc q in
            inr (t.2 ∙ ap (λ x. p.mine ++ x ∷ []) same)) fits.own_is

    -- where the parts fit the list, its entries that tell one of them settle this one's doubt
    pub fits-settles : (n : ℕ) (ps : List (Part E)) → 0 < times n (numbers_of ps) → PartsFit tells a ps
        → Settles (doubt_in n ps) (mine_of n ps) (own tells n a.entries)
    fits-settles n [] some fit = absurd (omega (arith, some))
    fits-settles n (p ∷ ps) some fit = go (eqb p.number n) refl some (λ more. fits-settles n ps more fit.1)
      where
        go : (b : Bool) → eqb p.number n ≡ b → 0 < cond b 1 0 + times n (numbers_of ps)
            → (0 < times n (numbers_of ps) → Settles (doubt_in n ps) (mine_of n ps) (own tells n a.entries))
            → Settles (cond b p.doubt (doubt_in n ps)) (cond b p.mine (mine_of n ps)) (own tells n a.entries)
        go true e some rest =
            subst (λ k. Settles p.doubt p.mine (own tells k a.entries)) (eqb-true p.number n e) (settles p fit.0)
        go false e some rest = rest (omega (arith, some))
