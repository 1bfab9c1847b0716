-- What a run promises of the master's entries and of its list makes every named node of a successful campaign new.
use Rattle.std.specs.Prelude.{◌≡◌, ℕ, zero, suc, ◌+◌, ◌≤◌, Bool, true, false, not, ◌&&◌, ◌||◌, if◌then◌else◌, nat_eq, List, [], ◌∷◌, ◌++◌, length, drop, slice_index_or}
use Rattle.std.specs.List.{list_all, list_any}
use Rattle.std.proofs.Common.{refl, sym, ap, ◌∙◌, subst, arith, length-append}
use Rattle.std.proofs.lemmas.Bool.{and_parts}
use Rattle.pm_types.specs.declared.history.Entry.{Entry}
use Rattle.pm_types.specs.declared.history.Entry.TheVariants.{Numbered, Unit as UnitDone}
use Rattle.pm_types.specs.NodeState.{NodeState}
use Rattle.pm_types.specs.Histories.{Reading, state_after, after_entry}
use Rattle.world.specs.RoundCalls.{round_calls, all_transfers, all_processed, blocks_from}
use Rattle.ucm_base.specs.Limits.{block_limit}
use Rattle.world.specs.Spans.{Spans, spans_from, span_step}
use Rattle.run_claim.specs.Masters.{made_by, goes_back}
use Rattle.sub_core.specs.Made.{Made, is_end_call}
use Rattle.run_claim.proofs.Committed.{is_calm_call}

-- the spans of a history that is cut in two, and the calls
pub spans-split : (read : Reading) (k : ℕ) (s : NodeState) (es fs : List Entry) (x : Spans)
    → spans_from read k s (es ++ fs) x ≡ spans_from read k (state_after read s es) fs (spans_from read k s es x)
spans-split read k s [] fs x = refl
spans-split read k s (e ∷ es) fs x =
    spans-split read k (after_entry read s e) es fs (span_step k s (after_entry read s e) e x)

pub made-split : (es fs : List Entry) → made_by 0 (es ++ fs) ≡ made_by 0 es ++ made_by 0 fs
made-split [] fs = refl
made-split (UnitDone passed after ∷ es) fs = made-split es fs
made-split (Numbered c at call r ∷ es) fs = go (nat_eq c 0) (made-split es fs)
  where
    go : (b : Bool) → made_by 0 (es ++ fs) ≡ made_by 0 es ++ made_by 0 fs
        → (if b then record { at = at; call = call; reply = r } ∷ made_by 0 (es ++ fs) else made_by 0 (es ++ fs))
        ≡ (if b then record { at = at; call = call; reply = r } ∷ made_by 0 es else made_by 0 es) ++ made_by 0 fs
    go true e = ap (λ (ms : List Made). record { at = at; call = call; reply = r } ∷ ms) e
    go false e = e

-- how many calls the rounds have doesn't depend on the ids
blocks-many : (left a b counter : ℕ) (bytes : List ℕ)
    → length (blocks_from left a counter bytes) ≡ length (blocks_from left b counter bytes)
blocks-many zero a b counter bytes = refl
blocks-many (suc left) a b counter [] = refl
blocks-many (suc left) a b counter (x ∷ xs) = ap suc (blocks-many left a b (counter + 1) (drop block_limit (x ∷ xs)))

transfers-many : (xs ys : List ℕ) (ps : List (List ℕ)) → length (all_transfers xs ps) ≡ length (all_transfers ys ps)
transfers-many xs ys [] = refl
transfers-many xs ys (p ∷ ps) =
    let b = blocks-many (length p) (slice_index_or xs 0 0) (slice_index_or ys 0 0) 1 p in
    let t = transfers-many (drop 1 xs) (drop 1 ys) ps in
    simp length-append (omega (arith, b, t))

processed-many : (k : ℕ) (xs ys : List ℕ) (ps : List (List ℕ))
    → length (all_processed k xs ps) ≡ length (all_processed k ys ps)
processed-many k xs ys [] = refl
processed-many k xs ys (p ∷ ps) = ap suc (processed-many k (drop 1 xs) (drop 1 ys) ps)

pub rounds-many : (k : ℕ) (xs ys : List ℕ) (ps : List (List ℕ))
    → length (round_calls k xs ps) ≡ length (round_calls k ys ps)
rounds-many k xs ys ps =
    let t = transfers-many xs ys ps in
    let p = processed-many k xs ys ps in
    simp length-append (omega (arith, t, p))

all-suffix : (test : Made → Bool) (a b : List Made) → list_all test (a ++ b) ≡ true → list_all test b ≡ true
all-suffix test [] b h = h
all-suffix test (m ∷ a) b h = all-suffix test a b (and_parts (test m) _ h).1

-- the later part of a list is within the later part of one that is cut earlier
pub within-later : (test : Made → Bool) (a b r e : List Made) → a ++ b ≡ r ++ e → length r ≤ length a
    → list_all test e ≡ true → list_all test b ≡ true
within-later test a b [] e p low all =
    all-suffix test a b (subst (λ (ms : List Made). list_all test ms ≡ true) (sym p) all)
within-later test [] b (x ∷ r) e p low all = absurd (omega (arith, low))
within-later test (y ∷ a) b (x ∷ r) e p low all =
    within-later test a b r e (let q : a ++ b ≡ r ++ e = cc p in q) (omega (arith, low)) all

pub none-any : (test : Made → Bool) (a b : List Made) → not (list_any test (a ++ b)) ≡ true
    → list_all (λ m. not (test m)) b ≡ true
none-any test [] [] h = refl
none-any test [] (m ∷ b) h = go (test m) refl h (none-any test [] b)
  where
    go : (c : Bool) → test m ≡ c → not (c || list_any test b) ≡ true
        → (not (list_any test b) ≡ true → list_all (λ m. not (test m)) b ≡ true)
        → (not (test m) && list_all (λ m. not (test m)) b) ≡ true
    go true e q rec = absurd (cc q)
    go false e q rec = ap (λ (c : Bool). not c && list_all (λ m. not (test m)) b) e ∙ rec q
none-any test (m ∷ a) b h = none-any test a b (go (test m) h)
  where
    go : (c : Bool) → not (c || list_any test (a ++ b)) ≡ true → not (list_any test (a ++ b)) ≡ true
    go true q = absurd (cc q)
    go false q = q

pub both-hold : (b : List Made) → list_all (λ m. is_end_call m.call) b ≡ true
    → list_all (λ m. not (goes_back m.call)) b ≡ true → list_all (λ m. is_calm_call m.call) b ≡ true
both-hold [] p q = refl
both-hold (m ∷ b) p q =
    let x = and_parts (is_end_call m.call) _ p in
    let y = and_parts (not (goes_back m.call)) _ q in
    and-both _ _ (and-both _ _ x.0 y.0) (both-hold b x.1 y.1)
  where
    and-both : (a b : Bool) → a ≡ true → b ≡ true → (a && b) ≡ true
    and-both true true p q = refl
    and-both true false p q = absurd (cc q)
    and-both false b p q = absurd (cc p)
