-- A split, a join and the end of a gate.
use Rattle.std.proofs.Common.{◌≡◌, ◌≢◌, ◌⊎◌, inl, inr, ⊎_elim, ℕ, ◌+◌, ◌<◌, ◌≤◌, List, [], ◌∷◌, ◌++◌, length, set, ltb, length-append, refl, sym, ◌∙◌, ap, subst, arith, Option, Some, None, IfSome}
use mathlib.Core.Option.{some, some-injective}
use mathlib.Core.List.{IsPrefix}
use lib.ListN.{get_elem?}
use Rattle.atomic_table.specs.Table.{State, Splits, Joins, Final, Seen}
use Rattle.atomic_table.proofs.Lists.{set_else, at_longer, at_last}
use Rattle.turn_gate.specs.declared.view.Account.{Account}
use Rattle.turn_gate.specs.declared.view.Fixed.{Fixed}
use Rattle.turn_gate.specs.declared.view.View.{View}
use Rattle.std.proofs.lemmas.Bool.{cases_eq, cases_lt, lt-ltb, le-ltb, cond-true, cond-false, cond_both}
use Rattle.turn_gate.specs.Parts.{PartsFit, TellsOnly, at_most_last}
use Rattle.turn_gate.specs.Views.{left_with, split_off, merged, spent, longer}
use Rattle.turn_gate.specs.Rule.{Meaning, NotesFit, Home, Away, Newest}
use Rattle.turn_gate.specs.Steps.{HasAll, IsTrueTo, TellsParts, NotesAreOf}
use Rattle.turn_gate.proofs.Sums.{total_set, total_at, total_snoc, times-append, fit-append, times-split, fit-without, fit-only, length-split}
use Rattle.turn_gate.proofs.Prefixes.{prefix_same, prefix_length, prefix_whole, prefix_of_longer, is_some, some_none, set_there, each_set, at_same, found_in_set, found_in_snoc}
use Rattle.turn_gate.proofs.Rules.{notes_append, begin_append, Runs, Rule, Each, count_of, rises_of, runs, fits_at, alone, whole_seen}

module _ {E : Type 0} where
  longer_begins : (a b g : List E) → IsPrefix a g → IsPrefix b g → IsPrefix (longer a b) g
  longer_begins a b g p q = cond_both (ltb (length a) (length b)) b a (λ (l : List E). IsPrefix l g) (λ e. q) (λ e. p)

  longer_first : (a b g : List E) → IsPrefix b g → a ≡ g → longer a b ≡ g
  longer_first a b g q is =
      cond-false (ltb (length a) (length b)) b a
      (le-ltb (length a) (length b) (let l = prefix_length b g q in omega (arith, l, ap length is))) ∙ is

  longer_second : (a b g : List E) → IsPrefix a g → b ≡ g → longer a b ≡ g
  longer_second a b g p is = elim (cases_lt (length a) (length b)) [
    | inl lt ↦ cond-true (ltb (length a) (length b)) b a (lt-ltb (length a) (length b) lt) ∙ is
    | inr ge ↦ cond-false (ltb (length a) (length b)) b a (le-ltb (length a) (length b) ge)
        ∙ prefix_whole a g p (omega (arith, ge, ap length is))
  ]

  -- of two beginnings of one list, each begins the longer
  pub both_begin : (a b g : List E) → IsPrefix a g → IsPrefix b g → IsPrefix a (longer a b) × IsPrefix b (longer a b)
  both_begin a b g p q = elim (cases_lt (length a) (length b)) [
    | inl lt ↦
        let is : longer a b ≡ b = cond-true (ltb (length a) (length b)) b a (lt-ltb (length a) (length b) lt) in (
          subst (IsPrefix a) (sym is) (prefix_of_longer a b g p q (omega (arith, lt))),
          subst (IsPrefix b) (sym is) (prefix_same b b refl),
        )
    | inr ge ↦
        let is : longer a b ≡ a = cond-false (ltb (length a) (length b)) b a (le-ltb (length a) (length b) ge) in (
          subst (IsPrefix a) (sym is) (prefix_same a a refl),
          subst (IsPrefix b) (sym is) (prefix_of_longer b a g q p ge),
        )
  ]

module _ {M E O : Type 0} (law : Meaning M E O) where
  -- a seat is cut in two
  pub splits : (id : ℕ) (v : View E O) (f : Fixed O) (k : Option ℕ) → v.fixed ≡ Some f → v.held ≡ None
      → Splits (Rule law) id v (left_with k v) (split_off k v)
  splits id v f k made rests s kept at =
      let r = runs law s id v f made at kept in
      let fit = fits_at law s id v f r made at in
      let a : View E O = left_with k v in
      let b : View E O = split_off k v in inr (record {
        fixed_at = r.fixed_at;
        now = r.now;
        turn = r.turn;
        word_is_length_and_code = r.word_is_length_and_code;
        home_or_one_holds =
            ⊎_elim (λ t. inl (t.0, home r t.1)) (λ t. inr (t.0, away r t.1 (cases_eq id t.1.holder)))
            r.home_or_one_holds;
        each_fits_or_is_spent =
            found_in_snoc (set s.views id a) b (λ i u. Each law r.fixed_at r.now u)
            (each_set (Each law r.fixed_at r.now) s.views id a r.each_fits_or_is_spent
            (inl (record {
              fixed_is_that_of_the_making = fit.fixed_is_that_of_the_making;
              seen_begins_the_list =
                  fit.seen_begins_the_list;
              parts_have_their_entries = fit-without law.tells r.now k v.parts
                  fit.parts_have_their_entries;
              notes_are_true = fit.notes_are_true;
              earlier_begin_the_list =
                  fit.earlier_begin_the_list;
            })))
            (λ i. inl (record {
              fixed_is_that_of_the_making = fit.fixed_is_that_of_the_making;
              seen_begins_the_list =
                  fit.seen_begins_the_list;
              parts_have_their_entries = fit-only law.tells r.now k v.parts
                  fit.parts_have_their_entries;
              notes_are_true = fit.notes_are_true;
              earlier_begin_the_list =
                  fit.earlier_begin_the_list;
            }));
        each_part_once =
            λ n. omega (
              arith,
              total_snoc (count_of law n) (set s.views id a) b,
              total_set (count_of law n) s.views id v a at,
              times-split law.tells k n v.parts,
              r.each_part_once n,
            );
        parts_differ = r.parts_differ;
        tells_only_parts = r.tells_only_parts;
        one_has_seen_all = newest r (cases_eq id r.one_has_seen_all.place);
        faults_cover_rises =
            subst (λ (k : ℕ). at_most_last (r.fixed_at.faults + k) ≤ r.now.faults)
            (omega (arith, total_snoc (rises_of law) (set s.views id a) b, total_set (rises_of law) s.views id v a at))
            r.faults_cover_rises;
      })
    where
      longer_at : (a : View E O) (i : ℕ) (u : View E O) → get_elem? s.views i ≡ some u → (id ≡ i → ⊥)
          → get_elem? (set s.views id a ++ split_off k v ∷ []) i ≡ some u
      longer_at a i u there other =
          at_longer (set s.views id a) (split_off k v ∷ []) i u (set_else s.views id i a (λ e. other (sym e)) ∙ there)

      newest : (r : Runs law s) → (id ≡ r.one_has_seen_all.place) ⊎ (id ≡ r.one_has_seen_all.place → ⊥)
          → Newest law r.now.entries (set s.views id (left_with k v) ++ split_off k v ∷ [])
      newest r (inr other) =
          let new = r.one_has_seen_all in
          record {
            place = new.place;
            view = new.view;
            is_there = longer_at (left_with k v)
                new.place new.view new.is_there other;
            has_part = new.has_part;
            all_seen = new.all_seen;
          }
      newest r (inl here) =
          let new = r.one_has_seen_all in
          let is : new.view
          ≡ v = at_same s.views id new.view v (ap (λ (i : ℕ). get_elem? s.views i) here ∙ new.is_there) at in
          let has : 0 < length v.parts = subst (λ (x : View E O). 0 < length x.parts) is new.has_part in
          let seen : v.seen ≡ r.now.entries = subst (λ (x : View E O). x.seen ≡ r.now.entries) is new.all_seen in
          elim (cases_lt 0 (length (left_with k v).parts)) [
            | inl some_left ↦ record {
              place = id;
              view = left_with k v;
              is_there = at_longer
                  (set s.views id (left_with k v)) (split_off k v ∷ []) id (left_with k v)
                  (set_there s.views id v (left_with k v) at);
              has_part = some_left;
              all_seen = seen;
            }
            | inr none_left ↦
                record {
                  place = length (set s.views id (left_with k v));
                  view = split_off k v;
                  is_there =
                      at_last (set s.views id (left_with k v)) (split_off k v) (length (set s.views id (left_with k v)))
                      refl;
                  has_part = omega (arith, length-split law.tells k v.parts, has, none_left);
                  all_seen = seen;
                }
          ]

      home : (r : Runs law s) → Home law r.fixed_at r.now s.homes s.views
          → Home law r.fixed_at r.now s.homes (set s.views id (left_with k v) ++ split_off k v ∷ [])
      home r h = record {
        machine = h.machine;
        at_home = h.at_home;
        account_is = h.account_is;
        fixed_is = h.fixed_is;
        stands_for = h.stands_for;
        none_holds =
            found_in_snoc (set s.views id (left_with k v)) (split_off k v) (λ i u. u.held ≡ None)
            (found_in_set s.views id (left_with k v) (λ i u. u.held ≡ None) (λ i u there other. h.none_holds i u there)
            rests) (λ i. refl);
      }

      away : (r : Runs law s) (a : Away law r.now s.homes s.views) → (id ≡ a.holder) ⊎ (id ≡ a.holder → ⊥)
          → Away law r.now s.homes (set s.views id (left_with k v) ++ split_off k v ∷ [])
      away r a (inl here) =
          absurd (some_none v.held r.now
          (ap (λ (x : View E O). x.held)
          (at_same s.views id v a.view at (ap (λ (i : ℕ). get_elem? s.views i) here ∙ a.is_there)) ∙ a.holds) rests)
      away r a (inr other) = record {
        not_home = a.not_home;
        holder = a.holder;
        view = a.view;
        is_there = longer_at (left_with k v) a.holder a.view a.is_there other;
        holds = a.holds;
        has_part = a.has_part;
        no_other =
            found_in_snoc (set s.views id (left_with k v)) (split_off k v) (λ i u. i ≢ a.holder
            → u.held ≡ None)
            (found_in_set s.views id (left_with k v) (λ i u. i ≢ a.holder
            → u.held ≡ None) (λ i u there away else. a.no_other i u there else) (λ z. rests)) (λ i z. refl);
      }

  -- two seats are made one
  pub joins : (id : ℕ) (v : View E O) (f : Fixed O) (other : ℕ) (w : View E O) (h : Fixed O) → v.fixed ≡ Some f
      → w.fixed ≡ Some h → v.held ≡ None → w.held ≡ None
      → Joins (Rule law) id v other w (merged v w) spent
  joins id v f other w h made made_w rests rests_w s kept at apart at_w' =
      let r = runs law s id v f made at kept in
      let at_w : get_elem? s.views other ≡ some w = sym (set_else s.views id other (merged v w) apart) ∙ at_w' in
      let fit = fits_at law s id v f r made at in
      let fit_w = fits_at law s other w h r made_w at_w in
      let both : View E O = merged v w in
      let V : List (View E O) = set s.views id both in inr (record {
        fixed_at = r.fixed_at;
        now = r.now;
        turn = r.turn;
        word_is_length_and_code = r.word_is_length_and_code;
        home_or_one_holds =
            ⊎_elim (λ t. inl (t.0, home r t.1))
            (λ t. inr (t.0, away r t.1 at_w (cases_eq id t.1.holder) (cases_eq other t.1.holder))) r.home_or_one_holds;
        each_fits_or_is_spent =
            each_set (Each law r.fixed_at r.now) V other spent
            (each_set (Each law r.fixed_at r.now) s.views id both r.each_fits_or_is_spent (inl (record {
              fixed_is_that_of_the_making = fit.fixed_is_that_of_the_making;
              seen_begins_the_list =
                  longer_begins v.seen w.seen r.now.entries fit.seen_begins_the_list fit_w.seen_begins_the_list;
              parts_have_their_entries =
                  fit-append law.tells r.now v.parts w.parts fit.parts_have_their_entries
                  fit_w.parts_have_their_entries;
              notes_are_true =
                  notes_append law.code r.fixed_at.opening r.now.entries v.notes w.notes fit.notes_are_true
                  fit_w.notes_are_true;
              earlier_begin_the_list = (
                fit.seen_begins_the_list,
                (
                  fit_w.seen_begins_the_list,
                  begin_append r.now.entries v.earlier w.earlier fit.earlier_begin_the_list
                      fit_w.earlier_begin_the_list,
                ),
              );
            }))) (inr refl);
        each_part_once =
            λ n. omega (
              arith,
              total_set (count_of law n) s.views id v both at,
              total_set (count_of law n) V other w spent at_w',
              times-append law.tells n v.parts w.parts,
              r.each_part_once n,
            );
        parts_differ = r.parts_differ;
        tells_only_parts = r.tells_only_parts;
        one_has_seen_all =
            newest r fit.seen_begins_the_list fit_w.seen_begins_the_list at_w (cases_eq id r.one_has_seen_all.place)
            (cases_eq other r.one_has_seen_all.place);
        faults_cover_rises =
            subst (λ (k : ℕ). at_most_last (r.fixed_at.faults + k) ≤ r.now.faults)
            (omega (
              arith,
              total_set (rises_of law) s.views id v both at,
              total_set (rises_of law) V other w spent at_w',
            )) r.faults_cover_rises;
      })
    where
      after : List (View E O)
      after = set (set s.views id (merged v w)) other spent

      kept_there : (i : ℕ) (u : View E O) → get_elem? s.views i ≡ some u → (id ≡ i → ⊥) → (other ≡ i → ⊥)
          → get_elem? after i ≡ some u
      kept_there i u there n m =
          set_else (set s.views id (merged v w)) other i spent (λ e. m (sym e))
          ∙ set_else s.views id i (merged v w) (λ e. n (sym e)) ∙ there

      both_there : get_elem? after id ≡ some (merged v w)
      both_there =
          set_else (set s.views id (merged v w)) other id spent (λ e. apart (sym e))
          ∙ set_there s.views id v (merged v w) at

      newest : (r : Runs law s) → IsPrefix v.seen r.now.entries → IsPrefix w.seen r.now.entries
          → get_elem? s.views other ≡ some w → (id ≡ r.one_has_seen_all.place) ⊎ (id ≡ r.one_has_seen_all.place → ⊥)
          → (other ≡ r.one_has_seen_all.place) ⊎ (other ≡ r.one_has_seen_all.place → ⊥)
          → Newest law r.now.entries after
      newest r p q at_w (inl here) there =
          let new = r.one_has_seen_all in
          let is : new.view
          ≡ v = at_same s.views id new.view v (ap (λ (i : ℕ). get_elem? s.views i) here ∙ new.is_there) at in
          let has : 0 < length v.parts = subst (λ (x : View E O). 0 < length x.parts) is new.has_part in
          record {
            place = id;
            view = merged v w;
            is_there = both_there;
            has_part = omega
                (arith, length-append v.parts w.parts, has);
            all_seen = longer_first v.seen w.seen r.now.entries q
                (subst (λ (x : View E O). x.seen ≡ r.now.entries) is new.all_seen);
          }
      newest r p q at_w (inr n) (inl here) =
          let new = r.one_has_seen_all in
          let is : new.view
          ≡ w = at_same s.views other new.view w (ap (λ (i : ℕ). get_elem? s.views i) here ∙ new.is_there) at_w in
          let has : 0 < length w.parts = subst (λ (x : View E O). 0 < length x.parts) is new.has_part in
          record {
            place = id;
            view = merged v w;
            is_there = both_there;
            has_part = omega
                (arith, length-append v.parts w.parts, has);
            all_seen = longer_second v.seen w.seen r.now.entries p
                (subst (λ (x : View E O). x.seen ≡ r.now.entries) is new.all_seen);
          }
      newest r p q at_w (inr n) (inr m) =
          let new = r.one_has_seen_all in
          record {
            place = new.place;
            view = new.view;
            is_there = kept_there new.place new.view new.is_there n m;
            has_part = new.has_part;
            all_seen = new.all_seen;
          }

      home : (r : Runs law s) → Home law r.fixed_at r.now s.homes s.views → Home law r.fixed_at r.now s.homes after
      home r h = record {
        machine = h.machine;
        at_home = h.at_home;
        account_is = h.account_is;
        fixed_is = h.fixed_is;
        stands_for = h.stands_for;
        none_holds =
            found_in_set (set s.views id (merged v w)) other spent (λ i u. u.held ≡ None)
            (λ i u there away. found_in_set s.views id (merged v w) (λ j x. x.held ≡ None)
            (λ j x here away. h.none_holds j x here) rests i u there) refl;
      }

      away : (r : Runs law s) (a : Away law r.now s.homes s.views) → get_elem? s.views other ≡ some w
          → (id ≡ a.holder) ⊎ (id ≡ a.holder → ⊥) → (other ≡ a.holder) ⊎ (other ≡ a.holder → ⊥)
          → Away law r.now s.homes after
      away r a at_w (inl here) there =
          absurd (some_none v.held r.now
          (ap (λ (x : View E O). x.held)
          (at_same s.views id v a.view at (ap (λ (i : ℕ). get_elem? s.views i) here ∙ a.is_there)) ∙ a.holds) rests)
      away r a at_w (inr n) (inl here) =
          absurd (some_none w.held r.now
          (ap (λ (x : View E O). x.held)
          (at_same s.views other w a.view at_w (ap (λ (i : ℕ). get_elem? s.views i) here ∙ a.is_there)) ∙ a.holds)
          rests_w)
      away r a at_w (inr n) (inr m) = record {
        not_home = a.not_home;
        holder = a.holder;
        view = a.view;
        is_there = kept_there a.holder a.view a.is_there n m;
        holds = a.holds;
        has_part = a.has_part;
        no_other =
            found_in_set (set s.views id (merged v w)) other spent (λ i u. i ≢ a.holder
            → u.held ≡ None)
            (λ i u there away. found_in_set s.views id (merged v w) (λ j x. j ≢ a.holder
            → x.held ≡ None) (λ j x here away else. a.no_other j x here else) (λ z. rests) i u there) (λ z. refl);
      }

  -- what a seat with all parts knows of the machine at the end
  pub record Ended (v : View E O) (it : M) : Type 0 where
    pub list_is : (law.account_of it).entries ≡ v.seen
    pub own_is : PartsFit law.tells (law.account_of it) v.parts
    pub tells_parts : TellsParts law.tells v (law.account_of it)
    pub notes_are : NotesAreOf law.code v (law.account_of it).entries
    pub faults_are : IfSome v.fixed (λ f. at_most_last (f.faults + v.rises) ≤ (law.account_of it).faults)
    pub is_true : IsTrueTo law.fixed law.stands v it

  -- the machine is at home, since nobody else could hold
  is_home : (s : State (Option M) (View E O)) (id : ℕ) (v : View E O) (r : Runs law s) → v.fixed ≡ Some r.fixed_at
      → v.held ≡ None → HasAll v → get_elem? s.views id ≡ some v → Home law r.fixed_at r.now s.homes s.views
  is_home s id v r made rests whole at = ⊎_elim (λ t. t.1)
      (λ t. let a = t.1 in absurd (elim (cases_eq a.holder id) [
        | inl here ↦ some_none v.held r.now
            (ap (λ (x : View E O). x.held)
            (at_same s.views id v a.view at (ap (λ (i : ℕ). get_elem? s.views i) (sym here) ∙ a.is_there)) ∙ a.holds)
            rests
        | inr other ↦ alone law s id v r made at whole a.holder a.view a.is_there a.has_part other
      ]))
      r.home_or_one_holds

  pub ends : (id : ℕ) (v w : View E O) (ws : List ℕ) (xs : List (Option M)) (slot : Option M) → v ≡ w
      → (w.fixed ≡ None → ⊥) → w.held ≡ None → HasAll w → Final (Seen (Rule law) id v) ws xs
      → get_elem? xs 0 ≡ some slot
      → (it : M) × (slot ≡ Some it) × Ended w it
  ends id v w ws xs slot same made rests whole fin there =
      let s = fin.0 in
      let at : get_elem? s.views id ≡ some w = fin.1.1 ∙ ap (λ (x : View E O). some x) same in
      let f = is_some w.fixed made in
      let r = runs law s id w f.0 f.1 at fin.1.0 in
      let fit = fits_at law s id w f.0 r f.1 at in
      let fixed_is = fit.fixed_is_that_of_the_making in
      let seen : w.seen ≡ r.now.entries = whole_seen law s id w r fixed_is at whole in
      let h = is_home s id w r fixed_is rests whole at in
      let few = total_at (rises_of law) s.views id w at in (
        h.machine,
        some-injective slot (Some h.machine) (sym there
            ∙ fin.4 0 (Some h.machine) (ap (λ hs. get_elem? hs 0) h.at_home)),
        record {
          list_is = ap (λ (x : Account E). x.entries) h.account_is ∙ sym seen;
          own_is =
              subst (λ (x : Account E). PartsFit law.tells x w.parts) (sym h.account_is) fit.parts_have_their_entries;
          tells_parts =
              subst (λ (o : Option (Fixed O)). IfSome o (λ x. TellsOnly law.tells x.all (law.account_of h.machine)))
              (sym fixed_is)
              (subst (λ (x : Account E). TellsOnly law.tells r.fixed_at.all x) (sym h.account_is) r.tells_only_parts);
          notes_are =
              subst (λ (o : Option (Fixed O)). IfSome o
              (λ x. NotesFit law.code x.opening (law.account_of h.machine).entries w.notes)) (sym fixed_is)
              (subst (λ (x : Account E). NotesFit law.code r.fixed_at.opening x.entries w.notes) (sym h.account_is)
              fit.notes_are_true);
          faults_are =
              subst (λ (o : Option (Fixed O)). IfSome o
              (λ x. at_most_last (x.faults + w.rises) ≤ (law.account_of h.machine).faults)) (sym fixed_is)
              (let is = ap (λ (x : Account E). x.faults) h.account_is in omega (arith, few, r.faults_cover_rises, is));
          is_true =
              subst (λ (o : Option (Fixed O)). IfSome o (λ x. (law.fixed h.machine ≡ x.numbers)
              × law.stands h.machine x.opening)) (sym fixed_is) (h.fixed_is, h.stands_for);
        },
      )
