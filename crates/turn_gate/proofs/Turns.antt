-- The steps of a turn keep the rule: it is asked for, the machine is published, and the turn is given back.
use Rattle.std.proofs.Common.{◌≡◌, ◌≢◌, inl, inr, ⊎_elim, ℕ, ◌+◌, ◌*◌, ◌<◌, List, [], ◌∷◌, length, set, get_or, refl, sym, ◌∙◌, ap, subst, arith, Option, Some, None, IfSome}
use mathlib.Core.Option.{some, none}
use mathlib.Core.List.{IsPrefix}
use lib.ListN.{get_elem?}
use Rattle.atomic_table.specs.Table.{State, Me, Allows, put_back, rest}
use Rattle.atomic_table.specs.Table.Act.{keeps, takes, gives}
use Rattle.atomic_table.proofs.Lists.{set_again}
use Rattle.turn_gate.specs.declared.view.Account.{Account}
use Rattle.turn_gate.specs.declared.view.Fixed.{Fixed}
use Rattle.turn_gate.specs.declared.view.View.{View}
use Rattle.turn_gate.specs.Parts.{times, numbers_of, parts_of, PartsFit, IsUntold, MayBecome, StaysOrStood}
use Rattle.turn_gate.specs.Views.{with_turn, published, at_rest}
use Rattle.turn_gate.specs.Rule.{Meaning, NotesFit, AllBegin, Fits, Home}
use Rattle.turn_gate.specs.Steps.{asked, publishes, gave}
use Rattle.turn_gate.proofs.Becomes.{others_stay, goes_on_by}
use Rattle.turn_gate.proofs.Sums.{total_set, total_at, total_two, numbers_of-parts_of, length-parts_of, length-numbers_of, parts_of_fit, parts_stay}
use Rattle.turn_gate.proofs.Prefixes.{prefix_same, prefix_trans, set_there, each_set, found_in_set}
use Rattle.turn_gate.proofs.Rules.{notes_grow, begin_grow, Runs, Rule, Each, Goes, count_of, rises_of, runs, fits_at, same_fixed, once_stays, rises_stay, newest_here, newest_stays, holder_is, whole_seen}

module _ {M E O : Type 0} (law : Meaning M E O) where
  abbrev Table : Type 0
  Table = State (Option M) (View E O)

  same_numbers : (a : Account E) (v : View E O) (n : ℕ)
      → times n (numbers_of (parts_of law.tells a (numbers_of v.parts))) ≡ times n (numbers_of v.parts)
  same_numbers a v n = ap (λ (l : List ℕ). times n l) (numbers_of-parts_of law.tells a (numbers_of v.parts))

  still_has : (a : Account E) (v : View E O) → 0 < length v.parts
      → 0 < length (parts_of law.tells a (numbers_of v.parts))
  still_has a v has =
      omega (arith, length-parts_of law.tells a (numbers_of v.parts), length-numbers_of law.tells v.parts, has)

  -- the turn was free
  finds : (s : Table) (id : ℕ) (m : Me (Option M) (View E O)) (f : Fixed O) → m.0.fixed ≡ Some f → m.1 ≡ []
      → 0 < length m.0.parts → get_elem? s.views id ≡ some m.0
      → (r : Runs law s) → r.turn ≡ 0 → Home law r.fixed_at r.now s.homes s.views
      → Goes law s 1 1 id m (asked law m)
  finds s id m f made empty has at r is_free h =
      let found : get_or s.words 1 0 ≡ 0 = ap (λ (ws : List ℕ). get_or ws 1 0) r.word_is_length_and_code ∙ is_free in
      let a : Account E = law.account_of h.machine in
      let w : View E O = with_turn law.tells a m.0 in
      let fit = fits_at law s id m.0 f r made at in
      let f_is = fit.fixed_is_that_of_the_making in
      let w_fits : Fits law.tells law.code r.fixed_at a w = record {
        fixed_is_that_of_the_making = f_is;
        seen_begins_the_list = prefix_same a.entries a.entries refl;
        parts_have_their_entries = parts_of_fit law.tells a (numbers_of m.0.parts);
        notes_are_true =
            subst (λ (y : Account E). NotesFit law.code r.fixed_at.opening y.entries m.0.notes) (sym h.account_is)
            fit.notes_are_true;
        earlier_begin_the_list =
            subst (λ (y : Account E). AllBegin y.entries m.0.earlier) (sym h.account_is) fit.earlier_begin_the_list;
      } in (
        w,
        takes 0 (Some h.machine),
        ap (λ hs. get_elem? hs 0) h.at_home,
        inr (record {
          fixed_at = r.fixed_at;
          now = r.now;
          turn = 1;
          word_is_length_and_code = ap (λ (ws : List ℕ). set ws 1 1) r.word_is_length_and_code;
          home_or_one_holds = inr (
            refl,
            record {
              not_home = ap (λ hs. set hs 0 none) h.at_home;
              holder = id;
              view = w;
              is_there = set_there s.views id m.0 w at;
              holds = ap (λ (y : Account E). Some y) h.account_is;
              has_part = still_has a m.0 has;
              no_other =
                  found_in_set s.views id w (λ i v. i ≢ id
                  → v.held ≡ None) (λ i v there away other. h.none_holds i v there) (λ same. absurd (same refl));
            },
          );
          each_fits_or_is_spent =
              each_set (Each law r.fixed_at r.now) s.views id w r.each_fits_or_is_spent
              (inl (subst (λ (y : Account E). Fits law.tells law.code r.fixed_at y w) h.account_is w_fits));
          each_part_once = once_stays law s r id m.0 w at (same_numbers a m.0);
          parts_differ = r.parts_differ;
          tells_only_parts = r.tells_only_parts;
          one_has_seen_all =
              newest_here law s.views id m.0 w r.now.entries at (still_has a m.0 has)
              (ap (λ (y : Account E). y.entries) h.account_is);
          faults_cover_rises = rises_stay law s r id m.0 w at refl;
        }),
        subst (λ (n : ℕ). asked law m n (w, (0, Some h.machine) ∷ m.1)) (sym found) (record {
          machine = h.machine;
          slot = ap (λ c. (0, Some h.machine) ∷ c) empty;
          view = refl;
          goes_on = subst (λ (y : Account E). IsPrefix m.0.seen y.entries) (sym h.account_is) fit.seen_begins_the_list;
          is_true =
              subst (λ (o : Option (Fixed O)). IfSome o (λ z. (law.fixed h.machine ≡ z.numbers)
              × law.stands h.machine z.opening)) (sym f_is) (h.fixed_is, h.stands_for);
          own_is =
              subst (λ (y : Account E). PartsFit law.tells y m.0.parts) (sym h.account_is) fit.parts_have_their_entries;
          notes_are =
              subst (λ (o : Option (Fixed O)). IfSome o (λ z. NotesFit law.code z.opening a.entries m.0.notes))
              (sym f_is) w_fits.notes_are_true;
          nothing_came =
              λ all. ap (λ (y : Account E). y.entries) h.account_is ∙ sym (whole_seen law s id m.0 r f_is at all);
        }),
      )

  -- ask for the turn
  pub turns : (slots id : ℕ) (m : Me (Option M) (View E O)) (f : Fixed O) → m.0.fixed ≡ Some f → m.1 ≡ []
      → 0 < length m.0.parts
      → Allows (Rule law) slots id m 1 (λ _. 1) (asked law m)
  turns slots id m f made empty has s kept len at bound = go (runs law s id m.0 f made at kept)
    where
      away : (r : Runs law s) → r.turn ≡ 1 → Goes law s 1 1 id m (asked law m)
      away r is_taken =
          let found : get_or s.words 1 0 ≡ 1 = ap (λ (ws : List ℕ). get_or ws 1 0) r.word_is_length_and_code
          ∙ is_taken in
          let same : s.words ≡ set s.words 1 1 = r.word_is_length_and_code
          ∙ ap (λ (k : ℕ). (16 * length r.now.entries + law.code r.fixed_at.opening r.now.entries) ∷ k ∷ [])
          is_taken ∙ sym (ap (λ (ws : List ℕ). set ws 1 1) r.word_is_length_and_code) in (
            m.0,
            keeps,
            tt,
            subst (λ (vs : List (View E O)). Rule law (record { words = set s.words 1 1; homes = s.homes; views = vs }))
                (sym (set_again s.views id m.0 at))
                (subst (λ (ws : List ℕ). Rule law (record { words = ws; homes = s.homes; views = s.views })) same kept),
            subst (λ (n : ℕ). asked law m n m) (sym found) refl,
          )

      go : Runs law s → Goes law s 1 1 id m (asked law m)
      go r = ⊎_elim (λ t. finds s id m f made empty has at r t.0 t.1) (λ t. away r t.0) r.home_or_one_holds

  -- publish the machine, and a rise of its faults
  pub tells_all : (slots id : ℕ) (m : Me (Option M) (View E O)) (f : Fixed O) (told : Option M) (it : M) (a : Account E)
      (rise n : ℕ) → m.0.fixed ≡ Some f → m.0.held ≡ Some a → MayBecome law.tells m.0.parts a (law.account_of it) rise
      → told ≡ Some it → n ≡ 16 * length (law.account_of it).entries + law.code f.opening (law.account_of it).entries
      → Allows (Rule law) slots id m 0 (λ _. n) (λ _. publishes law told rise m n)
  tells_all slots id m f told it a rise n made holds may told_is n_is s kept len at bound =
      let r = runs law s id m.0 f made at kept in
      let p = holder_is law s id m.0 a r holds at in
      let fit = fits_at law s id m.0 f r made at in
      let x : Account E = law.account_of it in
      let w : View E O = published law.tells x rise m.0 in
      let f_is : f ≡ r.fixed_at = same_fixed law s id m.0 f r made at in
      let now_may : MayBecome law.tells m.0.parts r.now x rise = subst
      (λ (y : Account E). MayBecome law.tells m.0.parts y x rise) p.is may in
      let grows : IsPrefix r.now.entries x.entries = goes_on_by law.tells m.0.parts r.now x rise now_may in
      let stays : (k : ℕ) → times k (numbers_of m.0.parts) ≡ 0
      → StaysOrStood law.tells r.now x k = others_stay law.tells m.0.parts r.now x rise now_may in
      let rose = now_may.faults_rose in (
        w,
        keeps,
        tt,
        inr (record {
          fixed_at = r.fixed_at;
          now = x;
          turn = r.turn;
          word_is_length_and_code =
              ap (λ (ws : List ℕ). set ws 0 n) r.word_is_length_and_code
              ∙ ap (λ (k : ℕ). k ∷ r.turn ∷ []) (n_is
              ∙ ap (λ (y : Fixed O). 16 * length x.entries + law.code y.opening x.entries) f_is);
          home_or_one_holds = inr (
            p.taken,
            record {
              not_home = p.out;
              holder = id;
              view = w;
              is_there = set_there s.views id m.0 w at;
              holds = refl;
              has_part = still_has x m.0 p.has;
              no_other =
                  found_in_set s.views id w (λ i v. i ≢ id
                  → v.held ≡ None) (λ i v there away other. p.others i v there other) (λ same. absurd (same refl));
            },
          );
          each_fits_or_is_spent =
              found_in_set s.views id w (λ i v. Each law r.fixed_at x v)
              (λ i v there other. grow r grows stays i v there other (r.each_fits_or_is_spent i v there)) (inl (record {
                fixed_is_that_of_the_making = fit.fixed_is_that_of_the_making;
                seen_begins_the_list = prefix_same x.entries x.entries refl;
                parts_have_their_entries = parts_of_fit law.tells x (numbers_of m.0.parts);
                notes_are_true =
                    notes_grow law.code r.fixed_at.opening r.now.entries x.entries m.0.notes grows fit.notes_are_true;
                earlier_begin_the_list =
                    begin_grow r.now.entries x.entries m.0.earlier grows fit.earlier_begin_the_list;
              }));
          each_part_once = once_stays law s r id m.0 w at (same_numbers x m.0);
          parts_differ = r.parts_differ;
          tells_only_parts =
              λ k zero_all. out r k (r.tells_only_parts k zero_all)
              (stays k (let few = total_at (count_of law k) s.views id m.0 at in
              omega (arith, few, r.each_part_once k, zero_all)));
          one_has_seen_all = newest_here law s.views id m.0 w x.entries at (still_has x m.0 p.has) refl;
          faults_cover_rises =
              (let grown = total_set (rises_of law) s.views id m.0 w at in
              omega (arith, r.faults_cover_rises, rose, grown));
        }),
        subst (λ (o : Option M). publishes law o rise m n (w, m.1)) (sym told_is) refl,
      )
    where
      out : (r : Runs law s) (k : ℕ) → IsUntold law.tells r.now k → StaysOrStood law.tells r.now (law.account_of it) k
          → IsUntold law.tells (law.account_of it) k
      out r k was (inl same) = (same.0 ∙ was.0, (λ e is yes_it. was.1 e (same.1 e is yes_it) yes_it))
      out r k was (inr stood) = absurd (was.1 stood.0 stood.1 stood.2)

      grow : (r : Runs law s) → IsPrefix r.now.entries (law.account_of it).entries
          → ((k : ℕ) → times k (numbers_of m.0.parts) ≡ 0 → StaysOrStood law.tells r.now (law.account_of it) k)
          → (i : ℕ) (v : View E O) → get_elem? s.views i ≡ some v → i ≢ id → Each law r.fixed_at r.now v
          → Each law r.fixed_at (law.account_of it) v
      grow r grows stays i v there other (inr e) = inr e
      grow r grows stays i v there other (inl fit) = inl (record {
        fixed_is_that_of_the_making = fit.fixed_is_that_of_the_making;
        seen_begins_the_list =
            prefix_trans v.seen r.now.entries (law.account_of it).entries fit.seen_begins_the_list grows;
        parts_have_their_entries = parts_stay law.tells r.now (law.account_of it) v.parts (λ k some_there. stays k (
            let two = total_two (count_of law k) s.views i id v m.0 there at other in let one = r.parts_differ k in
            omega (arith, two, r.each_part_once k, one, some_there)
            )) fit.parts_have_their_entries;
        notes_are_true =
            notes_grow law.code r.fixed_at.opening r.now.entries
            (law.account_of it).entries v.notes grows fit.notes_are_true;
        earlier_begin_the_list =
            begin_grow r.now.entries (law.account_of it).entries v.earlier grows fit.earlier_begin_the_list;
      })

  -- give the turn back, with the machine in the slot
  pub returns_it : (slots id : ℕ) (m : Me (Option M) (View E O)) (f : Fixed O) (it : M) → m.0.fixed ≡ Some f
      → m.0.held ≡ Some (law.account_of it) → m.1 ≡ (0, Some it) ∷ []
      → law.fixed it ≡ f.numbers → law.stands it f.opening
      → Allows (Rule law) slots id m 1 (λ _. 0) (λ _. gave law m 0)
  returns_it slots id m f it made holds slot fixed_is stands_for s kept len at bound =
      let r = runs law s id m.0 f made at kept in
      let p = holder_is law s id m.0 (law.account_of it) r holds at in
      let fit = fits_at law s id m.0 f r made at in
      let w : View E O = at_rest m.0 in
      let f_is : f ≡ r.fixed_at = same_fixed law s id m.0 f r made at in (
        w,
        gives,
        tt,
        inr (record {
          fixed_at = r.fixed_at;
          now = r.now;
          turn = 0;
          word_is_length_and_code = ap (λ (ws : List ℕ). set ws 1 0) r.word_is_length_and_code;
          home_or_one_holds = inl (
            refl,
            record {
              machine = it;
              at_home = ap (λ c. put_back s.homes c) slot ∙ ap (λ hs. set hs 0 (some (Some it))) p.out;
              account_is = p.is;
              fixed_is = fixed_is ∙ ap (λ (x : Fixed O). x.numbers) f_is;
              stands_for = subst (λ (x : Fixed O). law.stands it x.opening) f_is stands_for;
              none_holds =
                  found_in_set s.views id w (λ i v. v.held ≡ None) (λ i v there other. p.others i v there other) refl;
            },
          );
          each_fits_or_is_spent =
              each_set (Each law r.fixed_at r.now) s.views id w r.each_fits_or_is_spent (inl (record {
                fixed_is_that_of_the_making = fit.fixed_is_that_of_the_making;
                seen_begins_the_list = fit.seen_begins_the_list;
                parts_have_their_entries = fit.parts_have_their_entries;
                notes_are_true = fit.notes_are_true;
                earlier_begin_the_list = fit.earlier_begin_the_list;
              }));
          each_part_once = once_stays law s r id m.0 w at (λ n. refl);
          parts_differ = r.parts_differ;
          tells_only_parts = r.tells_only_parts;
          one_has_seen_all = newest_stays law s r id m.0 w at refl refl;
          faults_cover_rises = rises_stay law s r id m.0 w at refl;
        }),
        ap (λ c. (w, rest c)) slot,
      )
