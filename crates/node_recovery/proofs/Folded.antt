-- Records that lead to a state, one after another.
use Rattle.std.proofs.Common.{◌≡◌, inl, inr, true, false, ℕ, ◌+◌, ◌<◌, List, [], ◌∷◌, length, drop, get_or, Option, Some, None, refl, sym, ◌∙◌, ap, subst}
use Rattle.std.specs.Prelude.{IsSome, option_and_then}
use Rattle.std.proofs.lemmas.List.{drop_more}
use Rattle.event_log.specs.Meaning.{after_all}
use Rattle.pm_types.specs.Stored.{State}
use Rattle.event_codec.specs.declared.records.Record.{Record}
use Rattle.event_codec.specs.DecidingRecords.{record_told}
use Rattle.event_codec.specs.Deciding.{Tested}
use Rattle.node_recovery.specs.Allowed.{IsAllowed}
use Rattle.node_recovery.specs.Deciding.{after_record, test_allowed, where_allowed}
use Rattle.node_recovery.specs.Folds.{effect}
use Rattle.node_recovery.specs.Images.{after_bytes}

allowed_told : (P : Type 0) (t : Tested P) (after : Option State) → IsSome (where_allowed t after)
    → P × (where_allowed t after ≡ after)
allowed_told P (inl may) after some = (may, refl)
allowed_told P (inr none) after some = absurd (cc)

-- a record that leads to a state is allowed, and has its effect
pub record_allowed : (s : State) (r : Record) → IsSome (after_record s r)
    → IsAllowed s r × (after_record s r ≡ effect s r)
unfolding after_record
record_allowed s r some = allowed_told (IsAllowed s r) (test_allowed s r) (effect s r) some

nothing_follows : (records : List (List ℕ)) → IsSome (after_all after_bytes None records) → ⊥
nothing_follows [] some = absurd (cc)
nothing_follows (r ∷ records) some = nothing_follows records some

step_some : (o : Option State) (records : List (List ℕ)) → IsSome (after_all after_bytes o records) → IsSome o
step_some None records some = absurd (nothing_follows records some)
step_some (Some s) records some = refl

-- the next record, at its place
pub next_record : (s : State) (records : List (List ℕ)) (i : ℕ) (item bytes : List ℕ) → i < length records
    → item ≡ get_or records i item → bytes ≡ item
    → after_all after_bytes (Some s) (drop i records)
    ≡ after_all after_bytes (after_bytes s bytes) (drop (i + 1) records)
next_record s records i item bytes lt is same =
    ap (λ (rs : List (List ℕ)). after_all after_bytes (Some s) rs) (drop_more records i item lt)
    ∙ ap (λ (b : List ℕ). after_all after_bytes (after_bytes s b) (drop (i + 1) records)) (sym is ∙ sym same)

pub next_some : (s : State) (records : List (List ℕ)) (i : ℕ) (item bytes : List ℕ) (end : Option State)
    → i < length records → item ≡ get_or records i item → bytes ≡ item
    → after_all after_bytes (Some s) (drop i records) ≡ end → IsSome end → IsSome (after_bytes s bytes)
next_some s records i item bytes end lt is same leads some =
    step_some (after_bytes s bytes) (drop (i + 1) records)
    (subst IsSome (sym leads ∙ next_record s records i item bytes lt is same) some)

-- bytes that lead to a state spell a record
pub spells_one : (s : State) (bytes : List ℕ) → record_told bytes ≡ None → IsSome (after_bytes s bytes) → ⊥
spells_one s bytes none some =
    let no : false ≡ true = subst (λ o. IsSome (option_and_then (after_record s) o)) none some in absurd (cc)

pub spelled_as : (s : State) (bytes : List ℕ) (r : Record) → record_told bytes ≡ Some r
    → after_bytes s bytes ≡ after_record s r
spelled_as s bytes r is = ap (λ o. option_and_then (after_record s) o) is

-- a text that leads to a state tells one
pub tells_one : (o : Option State) (records : List (List ℕ)) → o ≡ None
    → IsSome (after_all after_bytes o records) → ⊥
tells_one o records none some =
    nothing_follows records (subst (λ o. IsSome (after_all after_bytes o records)) none some)

-- a record that is told and leads to a state is allowed, and has its effect
pub told_allowed : (s : State) (bytes : List ℕ) (r : Record) → record_told bytes ≡ Some r → IsSome (after_bytes s bytes)
    → IsAllowed s r × (after_bytes s bytes ≡ effect s r)
told_allowed s bytes r told some =
    let known = record_allowed s r (subst IsSome (spelled_as s bytes r told) some) in
    (known.0, spelled_as s bytes r told ∙ known.1)
