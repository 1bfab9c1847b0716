-- What a seat knows, and what each step makes of it.
use Rattle.std.specs.Prelude.{ℕ, ◌+◌, true, false, cond, ltb, List, [], ◌∷◌, ◌++◌, length, Option, Some, None}
use Rattle.turn_gate.specs.Parts.{parts_of, numbers_of, without, only}
use Rattle.turn_gate.specs.declared.view.Account.{Account}
use Rattle.turn_gate.specs.declared.view.Fixed.{Fixed}
use Rattle.turn_gate.specs.declared.view.Part.{Part}
use Rattle.turn_gate.specs.declared.view.View.{View}

-- a machine's list, its pending entry, and how often its device has failed
abbrev pub account : {E : Type 0} → List E → Option E → ℕ → Account E
account entries pending faults = record { entries = entries; pending = pending; faults = faults }

abbrev pub fixed_to : {O : Type 0} → O → List ℕ → ℕ → List ℕ → Fixed O
fixed_to opening numbers faults all = record { opening = opening; numbers = numbers; faults = faults; all = all }

-- what a making with this machine fixes
abbrev pub fixed_by : {M E O : Type 0} → (M → O) → (M → List ℕ) → (M → Account E) → M → List ℕ → Fixed O
fixed_by opening numbers account_of it all = fixed_to (opening it) (numbers it) (account_of it).faults all

abbrev pub longer : {E : Type 0} → List E → List E → List E
longer a b = cond (ltb (length a) (length b)) b a

module _ {E O : Type 0} where
  -- what was made of this account, with these parts, none of which has the turn
  abbrev pub first_view : Fixed O → Account E → List (Part E) → View E O
  first_view f a parts = record {
    fixed = Some f;
    seen = a.entries;
    parts = parts;
    rises = 0;
    held = None;
    published = false;
    notes = [];
    earlier = [];
  }

  -- the turn was got: the machine is in hand, all is seen, and the doubts are those of now
  abbrev pub with_turn : (E → Option ℕ) → Account E → View E O → View E O
  with_turn tells a v = record {
    fixed = v.fixed;
    seen = a.entries;
    parts = parts_of tells a (numbers_of v.parts);
    rises = v.rises;
    held = Some a;
    published = false;
    notes = v.notes;
    earlier = v.earlier;
  }

  -- the machine was published, as it is now
  abbrev pub published : (E → Option ℕ) → Account E → ℕ → View E O → View E O
  published tells a rise v = record {
    fixed = v.fixed;
    seen = a.entries;
    parts = parts_of tells a (numbers_of v.parts);
    rises = v.rises + rise;
    held = Some a;
    published = true;
    notes = v.notes;
    earlier = v.earlier;
  }

  -- the turn was given back
  abbrev pub at_rest : View E O → View E O
  at_rest v = record {
    fixed = v.fixed;
    seen = v.seen;
    parts = v.parts;
    rises = v.rises;
    held = None;
    published = false;
    notes = v.notes;
    earlier = v.earlier;
  }

  -- a place and a code were polled
  abbrev pub noted : ℕ → ℕ → View E O → View E O
  noted place code v = record {
    fixed = v.fixed;
    seen = v.seen;
    parts = v.parts;
    rises = v.rises;
    held = v.held;
    published = v.published;
    notes = (place, code) ∷ v.notes;
    earlier = v.earlier;
  }

  -- the named part was moved to another seat, and to this one
  abbrev pub left_with : Option ℕ → View E O → View E O
  left_with k v = record {
    fixed = v.fixed;
    seen = v.seen;
    parts = without k v.parts;
    rises = v.rises;
    held = v.held;
    published = v.published;
    notes = v.notes;
    earlier = v.earlier;
  }

  abbrev pub split_off : Option ℕ → View E O → View E O
  split_off k v = record {
    fixed = v.fixed;
    seen = v.seen;
    parts = only k v.parts;
    rises = 0;
    held = None;
    published = false;
    notes = v.notes;
    earlier = v.earlier;
  }

  -- two views are one; it remembers what both had seen, until that was compared
  abbrev pub merged : View E O → View E O → View E O
  merged v w = record {
    fixed = v.fixed;
    seen = longer v.seen w.seen;
    parts = v.parts ++ w.parts;
    rises = v.rises + w.rises;
    held = v.held;
    published = v.published;
    notes = v.notes ++ w.notes;
    earlier = v.seen ∷ w.seen ∷ (v.earlier ++ w.earlier);
  }

  abbrev pub compared : View E O → View E O
  compared v = record {
    fixed = v.fixed;
    seen = v.seen;
    parts = v.parts;
    rises = v.rises;
    held = v.held;
    published = v.published;
    notes = v.notes;
    earlier = [];
  }

  abbrev pub joined : View E O → View E O → View E O
  joined v w = compared (merged v w)

  -- before the making. Its note tells it from a view that is spent
  abbrev pub fresh : View E O
  fresh = record {
    fixed = None;
    seen = [];
    parts = [];
    rises = 0;
    held = None;
    published = false;
    notes = (0, 0) ∷ [];
    earlier = [];
  }

  -- in the making, with the empty slot in hand
  abbrev pub making : View E O
  making = record {
    fixed = None;
    seen = [];
    parts = [];
    rises = 0;
    held = Some (account [] None 0);
    published = false;
    notes = [];
    earlier = [];
  }

  -- a seat that was joined to another has nothing
  abbrev pub spent : View E O
  spent = record {
    fixed = None;
    seen = [];
    parts = [];
    rises = 0;
    held = None;
    published = false;
    notes = [];
    earlier = [];
  }
