-- Parts of a gate, and the entries that tell them.
use Rattle.std.specs.Prelude.{◌≡◌, ℕ, ◌+◌, ◌<◌, ◌≤◌, Bool, true, false, cond, eqb, min, ◌⊎◌, List, [], ◌∷◌, ◌++◌, Option, Some, None}
use Rattle.turn_gate.specs.declared.view.Part.{Part}
use Rattle.turn_gate.specs.declared.view.Account.{Account}

abbrev pub is_of : Option ℕ → ℕ → Bool
is_of None n = false
is_of (Some m) n = eqb m n

-- the entries that tell this number
abbrev pub own : {E : Type 0} → (E → Option ℕ) → ℕ → List E → List E
own tells n [] = []
own tells n (e ∷ es) = cond (is_of (tells e) n) (e ∷ own tells n es) (own tells n es)

-- how often the number is among these
abbrev pub times : ℕ → List ℕ → ℕ
times n [] = 0
times n (m ∷ ms) = cond (eqb m n) 1 0 + times n ms

abbrev pub AllDiffer : List ℕ → Type 0
AllDiffer ns = (n : ℕ) → times n ns ≤ 1

abbrev pub numbers_of : {E : Type 0} → List (Part E) → List ℕ
numbers_of [] = []
numbers_of (p ∷ ps) = p.number ∷ numbers_of ps

-- the pending entry, where it tells this number
abbrev pub doubt_of : {E : Type 0} → (E → Option ℕ) → Option E → ℕ → Option E
doubt_of tells None n = None
doubt_of tells (Some e) n = cond (is_of (tells e) n) (Some e) None

-- the parts with these numbers, each with its entries and the doubt of now
abbrev pub parts_of : {E : Type 0} → (E → Option ℕ) → Account E → List ℕ → List (Part E)
parts_of tells a [] = []
parts_of tells a (n ∷ ns) =
    record { number = n; mine = own tells n a.entries; doubt = doubt_of tells a.pending n } ∷ parts_of tells a ns

-- the parts but the one of this number, and that one alone
abbrev pub but : {E : Type 0} → ℕ → List (Part E) → List (Part E)
but n [] = []
but n (p ∷ ps) = cond (eqb p.number n) (but n ps) (p ∷ but n ps)

abbrev pub just : {E : Type 0} → ℕ → List (Part E) → List (Part E)
just n [] = []
just n (p ∷ ps) = cond (eqb p.number n) (p ∷ just n ps) (just n ps)

-- what a split leaves, and what it moves: nothing, or the named part
abbrev pub without : {E : Type 0} → Option ℕ → List (Part E) → List (Part E)
without None ps = ps
without (Some n) ps = but n ps

abbrev pub only : {E : Type 0} → Option ℕ → List (Part E) → List (Part E)
only None ps = []
only (Some n) ps = just n ps

-- no part is named, or one of these
abbrev pub IsAmong : Option ℕ → List ℕ → Type 0
IsAmong None ns = Unit {0}
IsAmong (Some n) ns = 0 < times n ns

-- a part has just the entries that tell it, or these and its doubt;
-- and a pending entry that tells it is its doubt, and isn't among them
pub record PartFits {E : Type 0} (tells : E → Option ℕ) (a : Account E) (p : Part E) : Type 0 where
  pub own_is : (own tells p.number a.entries ≡ p.mine)
      ⊎ ((d : E) × (p.doubt ≡ Some d) × (own tells p.number a.entries ≡ p.mine ++ d ∷ []))
  pub pending_is : (e : E) → a.pending ≡ Some e → is_of (tells e) p.number ≡ true
      → (p.doubt ≡ Some e) × (own tells p.number a.entries ≡ p.mine)

abbrev pub PartsFit : {E : Type 0} → (E → Option ℕ) → Account E → List (Part E) → Type 0
PartsFit tells a [] = Unit {0}
PartsFit tells a (p ∷ ps) = PartFits tells a p × PartsFit tells a ps

-- what is pending doesn't tell this number
abbrev pub NonePending : {E : Type 0} → (E → Option ℕ) → Account E → ℕ → Type 0
NonePending tells a n = (e : _) → a.pending ≡ Some e → is_of (tells e) n ≡ true → ⊥

-- no entry tells this number, and the pending one doesn't
abbrev pub IsUntold : {E : Type 0} → (E → Option ℕ) → Account E → ℕ → Type 0
IsUntold tells a n = (own tells n a.entries ≡ []) × NonePending tells a n

-- each number that an entry tells is one of these
abbrev pub TellsOnly : {E : Type 0} → (E → Option ℕ) → List ℕ → Account E → Type 0
TellsOnly tells ns a = (n : ℕ) → times n ns ≡ 0 → IsUntold tells a n

-- a count of a u64 stays at its last value
abbrev pub at_most_last : ℕ → ℕ
at_most_last n = min n 18446744073709551615

-- the entry tells none, or a number of one of the parts
abbrev pub IsOurs : {E : Type 0} → (E → Option ℕ) → List (Part E) → E → Type 0
IsOurs tells parts e = (tells e ≡ None) ⊎ ((n : ℕ) × (tells e ≡ Some n) × (0 < times n (numbers_of parts)))

-- nothing, or the entry that was found pending
abbrev pub StoodOrNot : {E : Type 0} → Option E → List E → Type 0
StoodOrNot pending stood = (stood ≡ []) ⊎ ((e : _) × (pending ≡ Some e) × (stood ≡ e ∷ []))

-- nothing, or one entry that is ours
abbrev pub AtMostOne : {E : Type 0} → (E → Option ℕ) → List (Part E) → List E → Type 0
AtMostOne tells parts more = (more ≡ []) ⊎ ((e : _) × (more ≡ e ∷ []) × IsOurs tells parts e)

-- none, or the one found pending where it wasn't added, or a new one that is ours
abbrev pub IsPendingAfter : {E : Type 0}
    → (E → Option ℕ) → List (Part E) → Option E → List E → Option E → Type 0
IsPendingAfter tells parts found stood later =
    (later ≡ None) ⊎ ((stood ≡ []) × (later ≡ found)) ⊎ ((e : _) × (later ≡ Some e) × IsOurs tells parts e)

-- what a turn may make of what it found
pub record MayBecome {E : Type 0} (tells : E → Option ℕ) (parts : List (Part E))
    (found new : Account E) (rise : ℕ) : Type 0 where
  pub stood : List E
  pub more : List E
  pub list_goes_on : new.entries ≡ found.entries ++ stood ++ more
  pub stood_was_pending : StoodOrNot found.pending stood
  pub at_most_one_more : AtMostOne tells parts more
  pub pending_is : IsPendingAfter tells parts found.pending stood new.pending
  pub faults_rose : at_most_last (found.faults + rise) ≤ new.faults

-- the entries of this number stay, and nothing new that tells it is pending
abbrev pub Stays : {E : Type 0} → (E → Option ℕ) → Account E → Account E → ℕ → Type 0
Stays tells old new n =
    (own tells n new.entries ≡ own tells n old.entries)
    × ((e : _) → new.pending ≡ Some e → is_of (tells e) n ≡ true → old.pending ≡ Some e)

-- the entry of this number that was pending stood
abbrev pub Stood : {E : Type 0} → (E → Option ℕ) → Account E → Account E → ℕ → Type 0
Stood tells old new n =
    (e : _) × (old.pending ≡ Some e) × (is_of (tells e) n ≡ true)
    × (own tells n new.entries ≡ own tells n old.entries ++ e ∷ []) × NonePending tells new n

-- what a turn does to the entries of a number that isn't its own
abbrev pub StaysOrStood : {E : Type 0} → (E → Option ℕ) → Account E → Account E → ℕ → Type 0
StaysOrStood tells old new n = Stays tells old new n ⊎ Stood tells old new n

abbrev pub total : {A : Type 0} → (A → ℕ) → List A → ℕ
total f [] = 0
total f (x ∷ xs) = f x + total f xs
