-- The rule of a gate: what holds between any two steps of all seats, for every machine.
use Rattle.std.specs.Prelude.{◌≡◌, ◌⊎◌, ◌≢◌, ℕ, ◌+◌, ◌*◌, ◌<◌, ◌≤◌, List, [], ◌∷◌, length, take, Option, Some, None}
use mathlib.Core.Option.{Option as Slot, some, none}
use mathlib.Core.List.{IsPrefix}
use lib.ListN.{get_elem?}
use Rattle.atomic_table.specs.Table.{State as Table}
use Rattle.turn_gate.specs.Parts.{times, numbers_of, AllDiffer, PartsFit, TellsOnly, at_most_last, total}
use Rattle.turn_gate.specs.Views.{fresh, making, spent}
use Rattle.turn_gate.specs.declared.view.Account.{Account}
use Rattle.turn_gate.specs.declared.view.Fixed.{Fixed}
use Rattle.turn_gate.specs.declared.view.View.{View}

-- what a machine means: its account, its fixed list, the part that an entry tells,
-- that it stands for its account from an opening, and the status code after a list
pub record Meaning (M E O : Type 0) : Type 1 where
  pub account_of : M → Account E
  pub fixed : M → List ℕ
  pub tells : E → Option ℕ
  pub stands : M → O → Type 0
  pub code : O → List E → ℕ

abbrev pub meaning : {M E O : Type 0} → (M → Account E) → (M → List ℕ) → (E → Option ℕ)
    → (M → O → Type 0) → (O → List E → ℕ) → Meaning M E O
meaning account_of fixed tells stands code =
    record { account_of = account_of; fixed = fixed; tells = tells; stands = stands; code = code }

-- no note is above the place
abbrev pub NotAbove : ℕ → List (ℕ × ℕ) → Type 0
NotAbove p [] = Unit {0}
NotAbove p (n ∷ ns) = (n.0 ≤ p) × NotAbove p ns

-- each of these lists is a beginning of the list
abbrev pub AllBegin : {E : Type 0} → List E → List (List E) → Type 0
AllBegin g [] = Unit {0}
AllBegin g (x ∷ xs) = IsPrefix x g × AllBegin g xs

module _ {E O : Type 0} where
  -- each note has a place in the list, and the code of the entries before it
  abbrev pub NotesFit : (O → List E → ℕ) → O → List E → List (ℕ × ℕ) → Type 0
  NotesFit code o g [] = Unit {0}
  NotesFit code o g (n ∷ ns) = (n.0 ≤ length g) × (n.1 ≡ code o (take n.0 g)) × NotesFit code o g ns

  -- what the view of a seat that was made has to do with the list
  pub record Fits (tells : E → Option ℕ) (code : O → List E → ℕ) (f : Fixed O) (a : Account E)
      (v : View E O) : Type 0 where
    pub fixed_is_that_of_the_making : v.fixed ≡ Some f
    pub seen_begins_the_list : IsPrefix v.seen a.entries
    pub parts_have_their_entries : PartsFit tells a v.parts
    pub notes_are_true : NotesFit code f.opening a.entries v.notes
    pub earlier_begin_the_list : AllBegin a.entries v.earlier

module _ {M E O : Type 0} (law : Meaning M E O) where
  -- the machine is at home, and no view holds
  pub record Home (f : Fixed O) (now : Account E) (homes : List (Slot (Option M)))
      (views : List (View E O)) : Type 0 where
    pub machine : M
    pub at_home : homes ≡ some (Some machine) ∷ []
    pub account_is : law.account_of machine ≡ now
    pub fixed_is : law.fixed machine ≡ f.numbers
    pub stands_for : law.stands machine f.opening
    pub none_holds : (i : ℕ) (v : View E O) → get_elem? views i ≡ some v → v.held ≡ None

  -- exactly one view holds, which has a part, and the slot isn't at home
  pub record Away (now : Account E) (homes : List (Slot (Option M))) (views : List (View E O)) : Type 0 where
    pub not_home : homes ≡ none ∷ []
    pub holder : ℕ
    pub view : View E O
    pub is_there : get_elem? views holder ≡ some view
    pub holds : view.held ≡ Some now
    pub has_part : 0 < length view.parts
    pub no_other : (i : ℕ) (v : View E O) → get_elem? views i ≡ some v → i ≢ holder → v.held ≡ None

  -- some view that has a part has seen the whole list
  pub record Newest (g : List E) (views : List (View E O)) : Type 0 where
    pub place : ℕ
    pub view : View E O
    pub is_there : get_elem? views place ≡ some view
    pub has_part : 0 < length view.parts
    pub all_seen : view.seen ≡ g

  -- once the gate was made: what the making fixed, and the account of the view that holds, or of the
  -- machine at home
  pub record Running (s : Table (Option M) (View E O)) : Type 0 where
    pub fixed_at : Fixed O
    pub now : Account E
    pub turn : ℕ
    pub word_is_length_and_code :
        s.words ≡ (16 * length now.entries + law.code fixed_at.opening now.entries) ∷ turn ∷ []
    pub home_or_one_holds :
        ((turn ≡ 0) × Home fixed_at now s.homes s.views) ⊎ ((turn ≡ 1) × Away now s.homes s.views)
    pub each_fits_or_is_spent : (i : ℕ) (v : View E O) → get_elem? s.views i ≡ some v
        → Fits law.tells law.code fixed_at now v ⊎ (v ≡ spent)
    pub each_part_once : (n : ℕ)
        → total (λ (v : View E O). times n (numbers_of v.parts)) s.views ≡ times n fixed_at.all
    pub parts_differ : AllDiffer fixed_at.all
    pub tells_only_parts : TellsOnly law.tells fixed_at.all now
    pub one_has_seen_all : Newest now.entries s.views
    pub faults_cover_rises :
        at_most_last (fixed_at.faults + total (λ (v : View E O). v.rises) s.views) ≤ now.faults

  -- before that: one seat, which finds the empty slot at home or has it in hand
  pub record Unmade (s : Table (Option M) (View E O)) : Type 0 where
    pub words : s.words ≡ 0 ∷ 1 ∷ []
    pub stage : ((s.views ≡ fresh ∷ []) × (s.homes ≡ some None ∷ []))
        ⊎ ((s.views ≡ making ∷ []) × (s.homes ≡ none ∷ []))

  abbrev pub Kept : Table (Option M) (View E O) → Type 0
  Kept s = Unmade s ⊎ Running s
