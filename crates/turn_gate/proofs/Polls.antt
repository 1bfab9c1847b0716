-- A load of the count word keeps the rule, whether a place and a code are noted or what two seats had seen is compared.
use Rattle.std.proofs.Common.{◌≡◌, inr, ℕ, ◌+◌, ◌*◌, ◌<◌, List, length, take, set, get_or, refl, sym, ◌∙◌, ap, subst, arith, Option, Some, IfSome}
use mathlib.Core.Option.{some}
use mathlib.Core.List.{IsPrefix}
use lib.ListN.{get_elem?}
use Rattle.atomic_table.specs.Table.{State, Me, Allows}
use Rattle.atomic_table.specs.Table.Act.{keeps}
use Rattle.turn_gate.specs.declared.view.Fixed.{Fixed}
use Rattle.turn_gate.specs.declared.view.View.{View}
use Rattle.std.proofs.lemmas.List.{take_all}
use Rattle.turn_gate.specs.Views.{noted, compared}
use Rattle.turn_gate.specs.Rule.{Meaning, Fits}
use Rattle.turn_gate.specs.Steps.{polls, compares}
use Rattle.turn_gate.proofs.Prefixes.{prefix_length}
use Rattle.turn_gate.proofs.Rules.{none_above, Runs, Rule, runs, fits_at, replaced}

module _ {M E O : Type 0} (law : Meaning M E O) where
  -- the word stays, and a view is replaced
  reads : (s : State (Option M) (View E O)) (r : Runs law s) (id : ℕ) (v w : View E O) → get_elem? s.views id ≡ some v
      → Fits law.tells law.code r.fixed_at r.now w → w.parts ≡ v.parts → w.seen ≡ v.seen → w.rises ≡ v.rises
      → w.held ≡ v.held
      → Rule law (record { words = set s.words 0 (get_or s.words 0 0); homes = s.homes; views = set s.views id w })
  reads s r id v w at fit parts seen rises held =
      let same : s.words ≡ set s.words 0 (get_or s.words 0 0) = r.word_is_length_and_code
      ∙ sym (ap (λ (ws : List ℕ). set ws 0 (get_or ws 0 0)) r.word_is_length_and_code) in
      subst (λ (ws : List ℕ). Rule law (record { words = ws; homes = s.homes; views = set s.views id w })) same
      (inr (replaced law s r id v w at fit parts seen rises held))

  -- poll
  pub looks : (slots id : ℕ) (m : Me (Option M) (View E O)) (f : Fixed O) → m.0.fixed ≡ Some f
      → ((o : O) (l : List E) → law.code o l < 16)
      → Allows (Rule law) slots id m 0 (λ n. n) (polls law m)
  looks slots id m f made below s kept len at bound =
      let r = runs law s id m.0 f made at kept in
      let fit = fits_at law s id m.0 f r made at in
      let g : List E = r.now.entries in
      let p : ℕ = length g in
      let c : ℕ = law.code r.fixed_at.opening g in
      let w : View E O = noted p c m.0 in
      let found : get_or s.words 0 0 ≡ 16 * p + c = ap (λ (ws : List ℕ). get_or ws 0 0) r.word_is_length_and_code in
      let all : law.code r.fixed_at.opening (take p g)
      ≡ c = ap (λ (l : List E). law.code r.fixed_at.opening l) (take_all p g (omega arith)) in
      let w_fits : Fits law.tells law.code r.fixed_at r.now w = record {
        fixed_is_that_of_the_making = fit.fixed_is_that_of_the_making;
        seen_begins_the_list = fit.seen_begins_the_list;
        parts_have_their_entries = fit.parts_have_their_entries;
        notes_are_true = (omega arith, sym all, fit.notes_are_true);
        earlier_begin_the_list = fit.earlier_begin_the_list;
      } in (
        w,
        keeps,
        tt,
        reads s r id m.0 w at w_fits refl refl refl refl,
        record {
          place = p;
          status = c;
          below = below r.fixed_at.opening g;
          word = found;
          view = refl;
          not_before = prefix_length m.0.seen g fit.seen_begins_the_list;
          not_before_notes = none_above law.code r.fixed_at.opening g m.0.notes fit.notes_are_true;
          is_code =
              subst (λ (o : Option (Fixed O)). IfSome o (λ x. (l : List E) × IsPrefix m.0.seen l × (length l ≡ p)
              × (c ≡ law.code x.opening l))) (sym fit.fixed_is_that_of_the_making)
              (g, fit.seen_begins_the_list, refl, refl);
        },
      )

  -- compare what two seats had seen
  pub compares_them : (slots id : ℕ) (m : Me (Option M) (View E O)) (f : Fixed O) → m.0.fixed ≡ Some f
      → Allows (Rule law) slots id m 0 (λ n. n) (compares law m)
  compares_them slots id m f made s kept len at bound =
      let r = runs law s id m.0 f made at kept in
      let fit = fits_at law s id m.0 f r made at in
      let w_fits : Fits law.tells law.code r.fixed_at r.now (compared m.0) = record {
        fixed_is_that_of_the_making = fit.fixed_is_that_of_the_making;
        seen_begins_the_list = fit.seen_begins_the_list;
        parts_have_their_entries = fit.parts_have_their_entries;
        notes_are_true = fit.notes_are_true;
        earlier_begin_the_list = tt;
      } in (
        compared m.0,
        keeps,
        tt,
        reads s r id m.0 (compared m.0) at w_fits refl refl refl refl,
        (refl, (r.now.entries, fit.seen_begins_the_list, fit.earlier_begin_the_list)),
      )
