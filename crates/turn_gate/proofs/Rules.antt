-- What the rule says of one seat, and what a change of one view leaves.
use Rattle.std.proofs.Common.{◌≡◌, ◌≢◌, ◌⊎◌, inl, inr, ⊎_elim, ℕ, ◌+◌, ◌<◌, ◌≤◌, List, [], ◌∷◌, ◌++◌, length, set, get_or, refl, sym, ◌∙◌, ap, subst, arith, Option, Some, None, IfSome}
use Rattle.std.proofs.lemmas.Bool.{cases_eq}
use mathlib.Core.Option.{some, none}
use mathlib.Core.List.{IsPrefix}
use lib.ListN.{get_elem?}
use Rattle.atomic_table.specs.Table.{State, Me, Act, Valid, stepped, carried_after}
use Rattle.atomic_table.proofs.Lists.{set_else}
use Rattle.turn_gate.specs.declared.view.Account.{Account}
use Rattle.turn_gate.specs.declared.view.Fixed.{Fixed}
use Rattle.turn_gate.specs.declared.view.View.{View}
use Rattle.turn_gate.specs.Parts.{times, numbers_of, at_most_last, total}
use Rattle.turn_gate.specs.Views.{fresh, making, spent}
use Rattle.turn_gate.specs.Rule.{Meaning, NotesFit, NotAbove, AllBegin, Fits, Home, Away, Newest, Running, Kept}
use Rattle.turn_gate.specs.Steps.{HasAll}
use Rattle.turn_gate.proofs.Sums.{total_set, total_two, some_part}
use Rattle.turn_gate.proofs.Prefixes.{prefix_trans, prefix_length, prefix_take, some_none, same_some, only_one, set_there, each_set, at_same, found_in_set}

module _ {E O : Type 0} (code : O → List E → ℕ) where
  pub notes_grow : (o : O) (g next : List E) (ns : List (ℕ × ℕ)) → IsPrefix g next → NotesFit code o g ns
      → NotesFit code o next ns
  notes_grow o g next [] p fit = tt
  notes_grow o g next (n ∷ ns) p fit = (
    (let long = prefix_length g next p in omega (arith, long, fit.0)),
    fit.1 ∙ ap (λ (l : List E). code o l) (sym (prefix_take g next n.0 p fit.0)),
    notes_grow o g next ns p fit.2,
  )

  pub notes_append : (o : O) (g : List E) (ns ms : List (ℕ × ℕ)) → NotesFit code o g ns → NotesFit code o g ms
      → NotesFit code o g (ns ++ ms)
  notes_append o g [] ms a b = b
  notes_append o g (n ∷ ns) ms a b = (a.0, a.1, notes_append o g ns ms a.2 b)

  pub none_above : (o : O) (g : List E) (ns : List (ℕ × ℕ)) → NotesFit code o g ns → NotAbove (length g) ns
  none_above o g [] fit = tt
  none_above o g (n ∷ ns) fit = (fit.0, none_above o g ns fit.2)

module _ {E : Type 0} where
  pub begin_grow : (g next : List E) (xs : List (List E)) → IsPrefix g next → AllBegin g xs → AllBegin next xs
  begin_grow g next [] p all = tt
  begin_grow g next (x ∷ xs) p all = (prefix_trans x g next all.0 p, begin_grow g next xs p all.1)

  pub begin_append : (g : List E) (xs ys : List (List E)) → AllBegin g xs → AllBegin g ys → AllBegin g (xs ++ ys)
  begin_append g [] ys a b = b
  begin_append g (x ∷ xs) ys a b = (a.0, begin_append g xs ys a.1 b)

module _ {M E O : Type 0} (law : Meaning M E O) where
  abbrev pub Table : Type 0
  Table = State (Option M) (View E O)

  abbrev pub Sat : Type 0
  Sat = Me (Option M) (View E O)

  abbrev pub Runs : Table → Type 0
  Runs s = Running law s

  abbrev pub Rule : Table → Type 0
  Rule s = Kept law s

  abbrev pub Each : Fixed O → Account E → View E O → Type 0
  Each f a v = Fits law.tells law.code f a v ⊎ (v ≡ spent)

  abbrev pub count_of : ℕ → View E O → ℕ
  count_of n v = times n (numbers_of v.parts)

  abbrev pub rises_of : View E O → ℕ
  rises_of v = v.rises

  -- what a step owes at one state
  abbrev pub Goes : Table → ℕ → ℕ → ℕ → Sat → (ℕ → Sat → Type 0) → Type 0
  Goes s i n id m then =
      (w : View E O) × (a : Act (Option M)) × Valid s.homes m.1 a × Rule (stepped s i n id m.1 w a)
      × then (get_or s.words i 0) (w, carried_after m.1 a)

  -- a seat that was made isn't at a gate before its making
  pub runs : (s : Table) (id : ℕ) (v : View E O) (f : Fixed O) → v.fixed ≡ Some f → get_elem? s.views id ≡ some v
      → Rule s → Runs s
  runs s id v f made at (inr r) = r
  runs s id v f made at (inl u) =
      absurd (⊎_elim
      (λ t. some_none v.fixed f made (ap (λ (x : View E O). x.fixed) (only_one s.views fresh id v t.0 at).1))
      (λ t. some_none v.fixed f made (ap (λ (x : View E O). x.fixed) (only_one s.views making id v t.0 at).1)) u.stage)

  -- and it fits
  pub fits_at : (s : Table) (id : ℕ) (v : View E O) (f : Fixed O) (r : Runs s) → v.fixed ≡ Some f
      → get_elem? s.views id ≡ some v → Fits law.tells law.code r.fixed_at r.now v
  fits_at s id v f r made at =
      ⊎_elim (λ fit. fit) (λ e. absurd (some_none v.fixed f made (ap (λ (x : View E O). x.fixed) e)))
      (r.each_fits_or_is_spent id v at)

  pub same_fixed : (s : Table) (id : ℕ) (v : View E O) (f : Fixed O) (r : Runs s) → v.fixed ≡ Some f
      → get_elem? s.views id ≡ some v → f ≡ r.fixed_at
  same_fixed s id v f r made at =
      same_some v.fixed f r.fixed_at made (fits_at s id v f r made at).fixed_is_that_of_the_making

  -- a view is replaced by one with the same numbers of parts
  pub once_stays : (s : Table) (r : Runs s) (id : ℕ) (v w : View E O) → get_elem? s.views id ≡ some v
      → ((n : ℕ) → count_of n w ≡ count_of n v)
      → (n : ℕ) → total (count_of n) (set s.views id w) ≡ times n r.fixed_at.all
  once_stays s r id v w at same n = omega (arith, total_set (count_of n) s.views id v w at, same n, r.each_part_once n)

  pub rises_stay : (s : Table) (r : Runs s) (id : ℕ) (v w : View E O) → get_elem? s.views id ≡ some v
      → w.rises ≡ v.rises → at_most_last (r.fixed_at.faults + total rises_of (set s.views id w)) ≤ r.now.faults
  rises_stay s r id v w at same =
      subst (λ (k : ℕ). at_most_last (r.fixed_at.faults + k) ≤ r.now.faults)
      (omega (arith, total_set rises_of s.views id v w at, same)) r.faults_cover_rises

  pub newest_here : (views : List (View E O)) (id : ℕ) (v w : View E O) (g : List E) → get_elem? views id ≡ some v
      → 0 < length w.parts → w.seen ≡ g → Newest law g (set views id w)
  newest_here views id v w g at has seen =
      record { place = id; view = w; is_there = set_there views id v w at; has_part = has; all_seen = seen }

  -- the view that has seen all stays, or is this one
  pub newest_stays : (s : Table) (r : Runs s) (id : ℕ) (v w : View E O) → get_elem? s.views id ≡ some v
      → w.parts ≡ v.parts → w.seen ≡ v.seen → Newest law r.now.entries (set s.views id w)
  newest_stays s r id v w at parts seen = let new = r.one_has_seen_all in elim (cases_eq id new.place) [
    | inl here ↦
        let is : new.view
        ≡ v = at_same s.views id new.view v (ap (λ (i : ℕ). get_elem? s.views i) here ∙ new.is_there) at in
        newest_here s.views id v w r.now.entries at
        (subst (λ ps. 0 < length ps) (sym parts) (subst (λ (x : View E O). 0 < length x.parts) is new.has_part))
        (seen ∙ subst (λ (x : View E O). x.seen ≡ r.now.entries) is new.all_seen)
    | inr other ↦
        record {
          place = new.place;
          view = new.view;
          is_there = set_else s.views id new.place w (λ e. other (sym e))
              ∙ new.is_there;
          has_part = new.has_part;
          all_seen = new.all_seen;
        }
  ]

  home_stays : (s : Table) (r : Runs s) (id : ℕ) (v w : View E O) → get_elem? s.views id ≡ some v → w.held ≡ v.held
      → Home law r.fixed_at r.now s.homes s.views
      → Home law r.fixed_at r.now s.homes (set s.views id w)
  home_stays s r id v w at same h = record {
    machine = h.machine;
    at_home = h.at_home;
    account_is = h.account_is;
    fixed_is = h.fixed_is;
    stands_for = h.stands_for;
    none_holds =
        found_in_set s.views id w (λ i u. u.held ≡ None) (λ i u there other. h.none_holds i u there) (same
        ∙ h.none_holds id v at);
  }

  away_stays : (s : Table) (r : Runs s) (id : ℕ) (v w : View E O) → get_elem? s.views id ≡ some v → w.held ≡ v.held
      → w.parts ≡ v.parts → Away law r.now s.homes s.views
      → Away law r.now s.homes (set s.views id w)
  away_stays s r id v w at same parts a = elim (cases_eq id a.holder) [
    | inl here ↦
        let view : v
        ≡ a.view = at_same s.views id v a.view at (ap (λ (i : ℕ). get_elem? s.views i) here ∙ a.is_there) in
        record {
          not_home = a.not_home;
          holder = id;
          view = w;
          is_there = set_there s.views id v w at;
          holds = same ∙ ap (λ (x : View E O). x.held) view ∙ a.holds;
          has_part =
              subst (λ ps. 0 < length ps) (sym parts)
              (subst (λ (x : View E O). 0 < length x.parts) (sym view) a.has_part);
          no_other =
              found_in_set s.views id w (λ i u. i ≢ id
              → u.held ≡ None) (λ i u there away other. a.no_other i u there (λ z. other (z ∙ sym here)))
              (λ z. absurd (z refl));
        }
    | inr other ↦
        record {
          not_home = a.not_home;
          holder = a.holder;
          view = a.view;
          is_there = set_else s.views id a.holder w (λ e. other (sym e)) ∙ a.is_there;
          holds = a.holds;
          has_part = a.has_part;
          no_other =
              found_in_set s.views id w (λ i u. i ≢ a.holder
              → u.held ≡ None) (λ i u there away else. a.no_other i u there else) (λ z. same
              ∙ a.no_other id v at other);
        }
  ]

  -- a view is replaced by one that fits, with the same parts, rises and turn
  pub replaced : (s : Table) (r : Runs s) (id : ℕ) (v w : View E O) → get_elem? s.views id ≡ some v
      → Fits law.tells law.code r.fixed_at r.now w → w.parts ≡ v.parts → w.seen ≡ v.seen → w.rises ≡ v.rises
      → w.held ≡ v.held
      → Runs (record { words = s.words; homes = s.homes; views = set s.views id w })
  replaced s r id v w at fit parts seen rises held = record {
    fixed_at = r.fixed_at;
    now = r.now;
    turn = r.turn;
    word_is_length_and_code = r.word_is_length_and_code;
    home_or_one_holds =
        ⊎_elim (λ t. inl (t.0, home_stays s r id v w at held t.1))
        (λ t. inr (t.0, away_stays s r id v w at held parts t.1)) r.home_or_one_holds;
    each_fits_or_is_spent = each_set (Each r.fixed_at r.now) s.views id w r.each_fits_or_is_spent (inl fit);
    each_part_once = once_stays s r id v w at (λ n. ap (λ ps. times n (numbers_of ps)) parts);
    parts_differ = r.parts_differ;
    tells_only_parts = r.tells_only_parts;
    one_has_seen_all = newest_stays s r id v w at parts seen;
    faults_cover_rises = rises_stay s r id v w at rises;
  }

  -- the seat that holds is the holder, with the list
  pub record Holder (s : Table) (r : Runs s) (id : ℕ) (v : View E O) (a : Account E) : Type 0 where
    pub taken : r.turn ≡ 1
    pub out : s.homes ≡ none ∷ []
    pub is : a ≡ r.now
    pub has : 0 < length v.parts
    pub others : (i : ℕ) (u : View E O) → get_elem? s.views i ≡ some u → i ≢ id → u.held ≡ None

  pub holder_is : (s : Table) (id : ℕ) (v : View E O) (a : Account E) (r : Runs s) → v.held ≡ Some a
      → get_elem? s.views id ≡ some v → Holder s r id v a
  holder_is s id v a r holds at =
      ⊎_elim (λ t. absurd (some_none v.held a holds (t.1.none_holds id v at))) (λ t. away t.0 t.1) r.home_or_one_holds
    where
      away : r.turn ≡ 1 → Away law r.now s.homes s.views → Holder s r id v a
      away is_taken w = elim (cases_eq id w.holder) [
        | inl same ↦
            let view : v
            ≡ w.view = at_same s.views id v w.view at (ap (λ (i : ℕ). get_elem? s.views i) same ∙ w.is_there) in
            record {
              taken = is_taken;
              out = w.not_home;
              is = same_some v.held a r.now holds (ap (λ (x : View E O). x.held) view ∙ w.holds);
              has = subst (λ (x : View E O). 0 < length x.parts) (sym view) w.has_part;
              others = λ i u there other. w.no_other i u there (λ e. other (e ∙ sym same));
            }
        | inr other ↦ absurd (some_none v.held a holds (w.no_other id v at other))
      ]

  -- where a seat has all parts, no other view has one
  pub alone : (s : Table) (id : ℕ) (v : View E O) (r : Runs s) → v.fixed ≡ Some r.fixed_at
      → get_elem? s.views id ≡ some v → HasAll v → (i : ℕ) (u : View E O) → get_elem? s.views i ≡ some u
      → 0 < length u.parts → i ≢ id → ⊥
  alone s id v r made at whole i u there has other =
      let n = some_part law.tells u.parts has in
      let two = total_two (count_of n.0) s.views i id u v there at other in
      let all = subst (λ (o : Option (Fixed O)). IfSome o (λ f. (n : ℕ) → times n (numbers_of v.parts) ≡ times n f.all))
      made whole in
      absurd (omega (arith, two, n.1, r.each_part_once n.0, all n.0))

  -- and it has seen all
  pub whole_seen : (s : Table) (id : ℕ) (v : View E O) (r : Runs s) → v.fixed ≡ Some r.fixed_at
      → get_elem? s.views id ≡ some v → HasAll v → v.seen ≡ r.now.entries
  whole_seen s id v r made at whole = let new = r.one_has_seen_all in elim (cases_eq new.place id) [
    | inl here ↦ subst (λ (x : View E O). x.seen ≡ r.now.entries)
        (at_same s.views id new.view v (ap (λ (i : ℕ). get_elem? s.views i) (sym here) ∙ new.is_there) at) new.all_seen
    | inr other ↦ absurd (alone s id v r made at whole new.place new.view new.is_there new.has_part other)
  ]
