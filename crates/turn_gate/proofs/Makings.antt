-- The steps of a making keep the rule: the empty slot is taken, and the machine put in and told.
use Rattle.std.proofs.Common.{◌≡◌, inl, inr, ⊎_elim, ℕ, ◌+◌, ◌*◌, ◌<◌, List, [], ◌∷◌, length, set, refl, sym, ◌∙◌, ap, subst, arith, Option, Some, None}
use mathlib.Core.Option.{some, none}
use lib.ListN.{get_elem?}
use Rattle.atomic_table.specs.Table.{State, Me, Allows}
use Rattle.atomic_table.specs.Table.Act.{keeps, takes}
use Rattle.turn_gate.specs.declared.view.Account.{Account}
use Rattle.turn_gate.specs.declared.view.Fixed.{Fixed}
use Rattle.turn_gate.specs.declared.view.View.{View}
use Rattle.turn_gate.specs.Parts.{times, AllDiffer, TellsOnly, total}
use Rattle.turn_gate.specs.Views.{account, fixed_to, fresh, making, spent}
use Rattle.turn_gate.specs.Rule.{Meaning, Unmade}
use Rattle.turn_gate.specs.Steps.{takes_slot, made, makes}
use Rattle.turn_gate.proofs.Sums.{numbers_of-parts_of, length-parts_of, parts_of_fit}
use Rattle.turn_gate.proofs.Prefixes.{prefix_same, some_none, same_some, only_one}
use Rattle.turn_gate.proofs.Rules.{Rule, Each, count_of, rises_of}

module _ {M E O : Type 0} (law : Meaning M E O) where
  first_or : List (ℕ × Option M) → Option M
  first_or [] = None
  first_or (x ∷ xs) = x.1

  same_machine : (a b : M) (c : List (ℕ × Option M)) → c ≡ (0, Some a) ∷ [] → c ≡ (0, Some b) ∷ [] → a ≡ b
  unfolding first_or
  same_machine a b c p q = same_some (first_or c) a b (ap first_or p) (ap first_or q)

  -- the one seat before the making
  unmade : (s : State (Option M) (View E O)) (id : ℕ) (v : View E O) → v.fixed ≡ None → (v ≡ spent → ⊥)
      → get_elem? s.views id ≡ some v → Rule law s → Unmade law s
  unmade s id v not_yet holds at (inl u) = u
  unmade s id v not_yet holds at (inr r) =
      absurd (⊎_elim (λ fit. some_none v.fixed r.fixed_at fit.fixed_is_that_of_the_making not_yet) holds
      (r.each_fits_or_is_spent id v at))

  -- take the empty slot
  pub opens : (slots id : ℕ) (m : Me (Option M) (View E O)) → m ≡ (fresh, [])
      → Allows (Rule law) slots id m 1 (λ _. 1) (takes_slot law m)
  opens slots id m m_is s kept len at bound =
      let view : m.0 ≡ fresh = ap (λ (x : Me (Option M) (View E O)). x.0) m_is in
      let u = unmade s id m.0 (ap (λ (x : View E O). x.fixed) view) (λ e. let z : 1
      ≡ 0 = ap (λ (x : View E O). length x.notes) (sym view ∙ e) in omega (arith, z)) at kept in (
        making,
        takes 0 None,
        ap (λ hs. get_elem? hs 0) (stage u view).1,
        inl (record {
          words = ap (λ (ws : List ℕ). set ws 1 1) u.words;
          stage = inr (
            (λ i. set ((stage u view).0 i) id making)
                ∙ ap (λ (k : ℕ). set (fresh ∷ []) k making) (only_one s.views fresh id m.0 (stage u view).0 at).0,
            ap (λ hs. set hs 0 none) (stage u view).1,
          );
        }),
        ap (λ c. (making, (0, None) ∷ c)) (ap (λ (x : Me (Option M) (View E O)). x.1) m_is),
      )
    where
      stage : (u : Unmade law s) → m.0 ≡ fresh → (s.views ≡ fresh ∷ []) × (s.homes ≡ some None ∷ [])
      stage u view =
          ⊎_elim (λ t. t)
          (λ t. absurd
          (some_none (making {E = E} {O = O}).held (account [] None 0) refl
          (ap (λ (x : View E O). x.held) (sym (only_one s.views making id m.0 t.0 at).1 ∙ view)))) u.stage

  -- tell of the machine in the slot
  pub begins : (slots id : ℕ) (m : Me (Option M) (View E O)) (it : M) (opening : M → O) (all : List ℕ) (n : ℕ)
      → m ≡ (making, (0, Some it) ∷ [])
      → n ≡ 16 * length (law.account_of it).entries + law.code (opening it) (law.account_of it).entries
      → 0 < length all → AllDiffer all → TellsOnly law.tells all (law.account_of it)
      → Allows (Rule law) slots id m 0 (λ _. n) (λ _. makes law opening all m n)
  begins slots id m it opening all n m_is n_is some_part distinct outside s kept len at bound =
      let view : m.0 ≡ making = ap (λ (x : Me (Option M) (View E O)). x.0) m_is in
      let held : m.0.held ≡ Some (account [] None 0) = ap (λ (x : View E O). x.held) view in
      let u = unmade s id m.0 (ap (λ (x : View E O). x.fixed) view)
      (λ e. some_none m.0.held (account [] None 0) held (ap (λ (x : View E O). x.held) e)) at kept in
      let so = stage u held in
      let a : Account E = law.account_of it in
      let w : View E O = made law opening all it in
      let f : Fixed O = fixed_to (opening it) (law.fixed it) a.faults all in
      let views : set s.views id w ≡ w ∷ [] = (λ i. set (so.0 i) id w)
      ∙ ap (λ (k : ℕ). set (making ∷ []) k w) (only_one s.views making id m.0 so.0 at).0 in
      let there : get_elem? (set s.views id w) 0 ≡ some w = ap (λ (vs : List (View E O)). get_elem? vs 0) views in
      let has : 0 < length w.parts = omega (arith, length-parts_of law.tells a all, some_part) in (
        w,
        keeps,
        tt,
        inr (record {
          fixed_at = f;
          now = a;
          turn = 1;
          word_is_length_and_code = ap (λ (ws : List ℕ). set ws 0 n) u.words ∙ ap (λ (k : ℕ). k ∷ 1 ∷ []) n_is;
          home_or_one_holds = inr (
            refl,
            record {
              not_home = so.1;
              holder = 0;
              view = w;
              is_there = there;
              holds = refl;
              has_part = has;
              no_other = λ i v here other. absurd (other (only_one (set s.views id w) w i v views here).0);
            },
          );
          each_fits_or_is_spent =
              λ i v here. subst (λ (y : View E O). Each law f a y)
              (sym (only_one (set s.views id w) w i v views here).1)
              (inl (record {
                fixed_is_that_of_the_making = refl;
                seen_begins_the_list = prefix_same a.entries a.entries refl;
                parts_have_their_entries = parts_of_fit law.tells a all;
                notes_are_true = tt;
                earlier_begin_the_list = tt;
              }));
          each_part_once =
              λ k. ap (λ (vs : List (View E O)). total (count_of law k) vs) views
              ∙ omega (arith, ap (λ (l : List ℕ). times k l) (numbers_of-parts_of law.tells a all));
          parts_differ = distinct;
          tells_only_parts = outside;
          one_has_seen_all = record { place = 0; view = w; is_there = there; has_part = has; all_seen = refl };
          faults_cover_rises =
              (let z = ap (λ (vs : List (View E O)). total (rises_of law) vs) views in omega (arith, z));
        }),
        (λ that slot. ap (λ (x : M). (made law opening all x, m.1))
            (same_machine it that m.1 (ap (λ (x : Me (Option M) (View E O)). x.1) m_is) slot)),
      )
    where
      stage : (u : Unmade law s) → m.0.held ≡ Some (account [] None 0) → (s.views ≡ making ∷ []) × (s.homes ≡ none ∷ [])
      stage u held =
          ⊎_elim (λ t. absurd
          (some_none m.0.held (account [] None 0) held
          (ap (λ (x : View E O). x.held) (only_one s.views fresh id m.0 t.0 at).1))) (λ t. t) u.stage
