-- What each step of a seat tells it: of the seat before, the number found or stored, and the seat after.
use Rattle.std.specs.Prelude.{◌≡◌, ℕ, ◌+◌, ◌*◌, ◌<◌, ◌≤◌, ◌==◌, true, List, [], ◌∷◌, length, Option, Some, None, IfSome}
use Rattle.std.specs.Bool.{MatchBool}
use mathlib.Core.List.{IsPrefix}
use Rattle.atomic_table.specs.Table.{Me}
use Rattle.turn_gate.specs.Parts.{numbers_of, times, parts_of, at_most_last, MayBecome, PartsFit, TellsOnly}
use Rattle.turn_gate.specs.Views.{fixed_to, with_turn, published, at_rest, noted, compared, making}
use Rattle.turn_gate.specs.Rule.{Meaning, NotAbove, NotesFit, AllBegin}
use Rattle.turn_gate.specs.declared.view.Account.{Account}
use Rattle.turn_gate.specs.declared.view.View.{View}

module _ {E O : Type 0} where
  abbrev pub HasTurn : View E O → Type 0
  HasTurn v = v.held ≡ None → ⊥

  -- what this seat holds may become this account, with this rise of its faults
  abbrev pub MayPublish : (E → Option ℕ) → View E O → Account E → ℕ → Type 0
  MayPublish tells v new rise = IfSome v.held (λ found. MayBecome tells v.parts found new rise)

  -- the count of faults is at least that of the making and this seat's rises
  abbrev pub CoversRises : View E O → ℕ → Type 0
  CoversRises v faults = IfSome v.fixed (λ f. at_most_last (f.faults + v.rises) ≤ faults)

  -- each number that an entry tells, or the pending one, is a part of the making
  abbrev pub TellsParts : (E → Option ℕ) → View E O → Account E → Type 0
  TellsParts tells v a = IfSome v.fixed (λ f. TellsOnly tells f.all a)

  -- the view has each part of the making
  abbrev pub HasAll : View E O → Type 0
  HasAll v = IfSome v.fixed (λ f. (n : ℕ) → times n (numbers_of v.parts) ≡ times n f.all)

  -- the machine has the fixed list of the making, and stands for its list and its pending entry from
  -- the opening of the making
  abbrev pub IsTrueTo : {M : Type 0} → (M → List ℕ) → (M → O → Type 0) → View E O → M → Type 0
  IsTrueTo fixed stands v it = IfSome v.fixed (λ f. (fixed it ≡ f.numbers) × stands it f.opening)

  -- each place that was polled is in the list, and its code is that of the entries before it
  abbrev pub NotesAreOf : (O → List E → ℕ) → View E O → List E → Type 0
  NotesAreOf code v g = IfSome v.fixed (λ f. NotesFit code f.opening g v.notes)

  -- some list that begins with all that was seen has this length, and this code after it
  abbrev pub IsCodeAt : (O → List E → ℕ) → View E O → ℕ → ℕ → Type 0
  IsCodeAt code v place status =
      IfSome v.fixed (λ f. (g : List E) × IsPrefix v.seen g × (length g ≡ place) × (status ≡ code f.opening g))

module _ {M E O : Type 0} (law : Meaning M E O) where
  abbrev Sat : Type 0
  Sat = Me (Option M) (View E O)

  -- the turn is this seat's, and the machine is in its slot
  pub record HasMachine (v : View E O) (after : Sat) : Type 0 where
    pub machine : M
    pub slot : after.1 ≡ (0, Some machine) ∷ []
    pub view : after.0 ≡ with_turn law.tells (law.account_of machine) v
    pub goes_on : IsPrefix v.seen (law.account_of machine).entries
    pub is_true : IsTrueTo law.fixed law.stands v machine
    pub own_is : PartsFit law.tells (law.account_of machine) v.parts
    pub notes_are : NotesAreOf law.code v (law.account_of machine).entries
    pub nothing_came : HasAll v → (law.account_of machine).entries ≡ v.seen

  abbrev pub asked : Sat → ℕ → Sat → Type 0
  asked m n after = MatchBool (n == 0) (HasMachine m.0 after) (after ≡ m)

  abbrev pub publishes : Option M → ℕ → Sat → ℕ → Sat → Type 0
  publishes told rise m n after =
      IfSome told (λ it. after ≡ (published law.tells (law.account_of it) rise m.0, m.1))

  abbrev pub gave : Sat → ℕ → Sat → Type 0
  gave m n after = after ≡ (at_rest m.0, [])

  pub record Polled (v : View E O) (n : ℕ) (after : Sat) (slots : List (ℕ × Option M)) : Type 0 where
    pub place : ℕ
    pub status : ℕ
    pub below : status < 16
    pub word : n ≡ 16 * place + status
    pub view : after ≡ (noted place status v, slots)
    pub not_before : length v.seen ≤ place
    pub not_before_notes : NotAbove place v.notes
    pub is_code : IsCodeAt law.code v place status

  abbrev pub polls : Sat → ℕ → Sat → Type 0
  polls m n after = Polled m.0 n after m.1

  -- what this seat and those that it was made of have seen are beginnings of one list
  abbrev pub compares : Sat → ℕ → Sat → Type 0
  compares m n after =
      (after ≡ (compared m.0, m.1)) × ((g : List E) × IsPrefix m.0.seen g × AllBegin g m.0.earlier)

  -- the steps of the making
  abbrev pub takes_slot : Sat → ℕ → Sat → Type 0
  takes_slot m n after = after ≡ (making, (0, None) ∷ [])

  abbrev pub made : (M → O) → List ℕ → M → View E O
  made opening all it =
      let a = law.account_of it in
      record {
        fixed = Some (fixed_to (opening it) (law.fixed it) a.faults all);
        seen = a.entries;
        parts = parts_of law.tells a all;
        rises = 0;
        held = Some a;
        published = true;
        notes = [];
        earlier = [];
      }

  abbrev pub makes : (M → O) → List ℕ → Sat → ℕ → Sat → Type 0
  makes opening all m n after = (it : M) → m.1 ≡ (0, Some it) ∷ [] → after ≡ (made opening all it, m.1)
