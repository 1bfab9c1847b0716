-- What the queries require holds of every consistent state.
use Rattle.std.proofs.Common.{◌≡◌, ℕ, ◌<◌, ◌-◌, ◌==◌, nat_lt, Bool, true, false, cond, List, [], ◌∷◌, length, map, find, option_map, option_and_then, Option, Some, None, IsTrue, IfSome, refl, sym, ap, subst, ◌∙◌, arith}
use Rattle.std.specs.Prelude.{IsSomeAnd}
use Rattle.std.specs.List.{AllByRecursion}
use Rattle.std.proofs.lemmas.Bool.{and_parts, ltb-true}
use Rattle.std.proofs.lemmas.Bool.Decides.{nat_tests}
use Rattle.pm_types.specs.declared.clusters.Extent.{Extent}
use Rattle.pm_types.specs.declared.state.StoredTransfer.{StoredTransfer}
use Rattle.pm_types.specs.declared.status.Phase.TheVariants.{Processing}
use Rattle.pm_types.specs.Clusters.{all_units, stored_units}
use Rattle.pm_types.specs.Histories.{Reading}
use Rattle.pm_types.specs.NodeState.{SessionOf, Transfer, is_in, some_passes}
use Rattle.pm_types.specs.Stored.{State, Areas, session_meaning, transfer_meaning, meaning, IsPlaced}
use Rattle.pm_types.specs.Transfers.{is_of, transfer_of}
use Rattle.pm_types.specs.Validity.{IsConsistent, numbers_rise}
use Rattle.history_query.specs.Shown.{are_consecutive, IsUnfinished, EachIsUnfinished}
use Rattle.history_query.proofs.Answered.{units-same}
use Rattle.history_query.proofs.Found.{found-has}
use Rattle.history_query.proofs.Places.{consecutive-from}

each-imp : {X : Type 0} (P Q : X → Type 0) → ((x : X) → P x → Q x) → (xs : List X) → AllByRecursion P xs
    → AllByRecursion Q xs
each-imp P Q f [] h = tt
each-imp P Q f (x ∷ xs) h = (f x h.0, each-imp P Q f xs h.1)

each-both : {X : Type 0} (P Q R : X → Type 0) → ((x : X) → P x → Q x → R x) → (xs : List X) → AllByRecursion P xs
    → AllByRecursion Q xs → AllByRecursion R xs
each-both P Q R f [] h k = tt
each-both P Q R f (x ∷ xs) h k = (f x h.0 k.0, each-both P Q R f xs h.1 k.1)

module _ {X : Type 0} (f : X → ℕ) where
  rise-tail : (a : ℕ) (xs : List X) → numbers_rise (a ∷ map f xs) ≡ true → numbers_rise (map f xs) ≡ true
  rise-tail a [] r = refl
  rise-tail a (y ∷ ys) r = (and_parts (nat_lt a (f y)) (numbers_rise (f y ∷ map f ys)) r).1

  above : (a : ℕ) (xs : List X) → numbers_rise (a ∷ map f xs) ≡ true → AllByRecursion (λ y. a < f y) xs
  above a [] r = tt
  above a (y ∷ ys) r =
      let parts = and_parts (nat_lt a (f y)) (numbers_rise (f y ∷ map f ys)) r in
      let first = ltb-true a (f y) parts.0 in
      (first, each-imp (λ z. f y < f z) (λ z. a < f z) (λ z h. omega (arith, first, h)) ys (above (f y) ys parts.1))

  -- where numbers rise, what a search for a number finds is the only one that has it
  only-found : (p : X → Bool) (P : X → Type 0) (n : ℕ) → ((x : X) → p x ≡ true → f x ≡ n) → (xs : List X) (u : X)
      → numbers_rise (map f xs) ≡ true → find p xs ≡ Some u → P u → AllByRecursion (λ x. f x ≡ n → P x) xs
  only-found p P n has [] u r e h = tt
  only-found p P n has (x ∷ xs) u r e h = go (p x) refl e (only-found p P n has xs u (rise-tail (f x) xs r))
    where
      go : (b : Bool) → p x ≡ b → cond b (Some x) (find p xs) ≡ Some u
          → (find p xs ≡ Some u → P u → AllByRecursion (λ y. f y ≡ n → P y) xs)
          → AllByRecursion (λ y. f y ≡ n → P y) (x ∷ xs)
      go true q k rec =
          let same : u ≡ x = cc k in
          let here : f x ≡ n = has x q in (
            λ _. subst P same h,
            each-imp (λ y. f x < f y) (λ y. f y ≡ n
                → P y) (λ y less is. absurd (omega (arith, less, is, here))) xs (above (f x) xs r),
          )
      go false q k rec =
          let later = found-has p (λ y. f x < f y) xs u (above (f x) xs r) k in
          (λ is. absurd (omega (arith, is, later.1, has u later.0)), rec k h)

module _ (read : Reading) (areas : Areas) (s : State) (consistent : IsConsistent (meaning read areas s))
    (placed : AllByRecursion (IsPlaced read areas) s.transfers) where
  pub lines-consecutive : IsTrue (are_consecutive s.lines)
  lines-consecutive = consecutive-from (s.entries - length s.lines) s.lines consistent.limits.places

  -- a transfer in processing has more units than are done
  abbrev IsDue : ℕ → Transfer → Type 0
  IsDue done t = is_in Processing t.header ≡ true → done < all_units t.parts

  stored : (done : ℕ) (ts : List StoredTransfer) → AllByRecursion (IsDue done) (map (transfer_meaning read areas) ts)
      → AllByRecursion (IsPlaced read areas) ts → AllByRecursion (IsUnfinished done) ts
  stored done [] h placed = tt
  stored done (t ∷ ts) h placed = (
    λ e. subst (λ all. done < all) (sym (ap stored_units placed.0.contents
        ∙ units-same 0 (transfer_meaning read areas t).parts)) (h.0 e),
    stored done ts h.1 placed.1,
  )

  pub each-unfinished : EachIsUnfinished s.session s.transfers
  each-unfinished = by-session s.session consistent.processing.each consistent.processing.unfinished
    where
      by-found : (x : SessionOf Extent) (id : ℕ) (o : Option Transfer)
          → transfer_of (meaning read areas s) x.owner id ≡ o → IsSomeAnd o (λ t. x.units_done < all_units t.parts)
          → AllByRecursion (λ t. is_in Processing t.header ≡ (id == t.header.id))
          (map (transfer_meaning read areas) s.transfers)
          → AllByRecursion (IsDue x.units_done) (map (transfer_meaning read areas) s.transfers)
      by-found x id None e h due = absurd h
      by-found x id (Some u) e h due =
          each-both _ (λ t. t.header.id ≡ id → x.units_done < all_units t.parts) (IsDue x.units_done)
          (λ t d is in_it. is (grind (arith, nat_tests, sym d ∙ in_it)))
          (map (transfer_meaning read areas) s.transfers) due
          (only-found (λ t. t.header.id) (λ t. is_of x.owner id t.header) (λ t. x.units_done < all_units t.parts) id
          (λ t q. grind (arith, nat_tests, (and_parts (t.header.id == id) (t.header.client == x.owner) q).0))
          (map (transfer_meaning read areas) s.transfers) u consistent.transfers.rise e h)

      by-id : (x : SessionOf Extent) (processing : Option ℕ)
          → AllByRecursion (λ t. is_in Processing t.header ≡ some_passes (λ id. id == t.header.id) processing)
          (map (transfer_meaning read areas) s.transfers)
          → IfSome processing (λ id.
          IsSomeAnd (transfer_of (meaning read areas s) x.owner id) (λ t. x.units_done < all_units t.parts))
          → AllByRecursion (IsUnfinished x.units_done) s.transfers
      by-id x None due h =
          stored x.units_done s.transfers
          (each-imp _ (IsDue x.units_done) (λ t d in_it. absurd (let no : true ≡ false = sym in_it ∙ d in cc))
          (map (transfer_meaning read areas) s.transfers) due) placed
      by-id x (Some id) due h =
          stored x.units_done s.transfers (by-found x id (transfer_of (meaning read areas s) x.owner id) refl h due)
          placed

      by-session : (session : Option (SessionOf Extent))
          → AllByRecursion (λ t. is_in Processing t.header
          ≡ some_passes (λ id. id == t.header.id)
          (option_and_then (λ x. x.processing) (option_map (session_meaning areas) session)))
          (map (transfer_meaning read areas) s.transfers)
          → IfSome (option_map (session_meaning areas) session) (λ x.
          IfSome x.processing (λ id.
          IsSomeAnd (transfer_of (meaning read areas s) x.owner id) (λ t. x.units_done < all_units t.parts)))
          → EachIsUnfinished session s.transfers
      by-session None due h =
          stored 0 s.transfers (each-imp _ (IsDue 0) (λ t d in_it.
          absurd (let no : true ≡ false = sym in_it ∙ d in cc)) (map (transfer_meaning read areas) s.transfers) due)
          placed
      by-session (Some x) due h = by-id x x.processing due h
