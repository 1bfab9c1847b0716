-- The history that calls and units make is legal, true to the names that fail, and leads to the same state.
use Rattle.node_laws.proofs.Names.{◌≡◌, ◌++◌, ◌∙◌, [], ◌∷◌, Option, Some, None, refl, ap, Ordering, Greater, Reached}
use Rattle.node_laws.proofs.Names.{Kept, NodeState, of_client, by_last, by_order, call_no_cmp, executed, Reading}
use Rattle.node_laws.proofs.Names.{IsLegal, verdict_for, sym, subst, option_map, unwrap_or, Bool, true, false, not}
use Rattle.node_laws.proofs.Names.{◌||◌, List, ℕ, UnitLine, with_entry, has_status, AllByRecursion, Entry, CallNo, Call}
use Rattle.node_laws.proofs.Names.{MakesLegal, entries_of, call_entry, Verifying, arith, Reply, step, Answered, reply_to}
use Rattle.std.specs.Prelude.{IsTrue}
use Rattle.pm_types.specs.Histories.{IsTrueTo, state_after, unit_passes}
use Rattle.pm_types.specs.Work.{unit}
use Rattle.node_laws.specs.Runs.{IsOfClient, Asked, Calls, Works, led_to, unit_entry}

-- outside Verifying a unit passes
passes-outside : (v q : Bool) → IsTrue ((not v || q) || v)
passes-outside true true = refl
passes-outside true false = refl
passes-outside false q = refl

module _ (fails : List (List ℕ)) (read : Reading) where
  abbrev Made : NodeState → List Entry → NodeState → Type 0
  Made s entries last = IsLegal read s entries × IsTrueTo fails read s entries × (state_after read s entries ≡ last)

  abbrev MadeOf : NodeState → List Asked → Type 0
  MadeOf s asked = Made s (entries_of fails read s asked) (led_to fails read s asked)

  -- what follows is so after any state
  abbrev Rest : List Asked → Type 0
  Rest asked = (t : NodeState) → MadeOf t asked

  work-legal : (s : NodeState) (asked : List Asked) → Rest asked → MadeOf s (Works ∷ asked)
  work-legal s asked rest = go (unit s p) refl
    where
      p : Bool
      p = unit_passes fails s

      f : NodeState → NodeState
      f t = with_entry (UnitLine t.status) t

      go : (u : Option NodeState) → unit s p ≡ u
          → Made s (unit_entry p u ++ entries_of fails read (unwrap_or (option_map f u) s) asked)
          (led_to fails read (unwrap_or (option_map f u) s) asked)
      go None e = rest s
      go (Some t) e =
          let after = subst (λ o. Made (unwrap_or (option_map f o) s) (entries_of fails read (f t) asked)
          (led_to fails read (f t) asked)) (sym e) (rest (f t)) in (
            ((ap (option_map (λ t. t.status)) e, passes-outside (has_status Verifying s) _), after.0),
            (refl, after.1),
            after.2,
          )

  call-legal : (s : NodeState) (client : ℕ) (at : CallNo) (call : Call) (asked : List Asked)
      → IsOfClient (Calls client at call) → Rest asked → MadeOf s (Calls client at call ∷ asked)
  call-legal s client at call asked low rest = by_kept (of_client s.last client) refl
    where
      done : NodeState × Reached
      done = executed s client at call (verdict_for read s client call)

      -- what the call left and gave, and the entries of what follows
      After : NodeState × Reached → Type 0
      After now = Made s (call_entry client at call now.1 ++ entries_of fails read now.0 asked)
          (led_to fails read now.0 asked)

      by_kept : (kept : Option Kept) → of_client s.last client ≡ kept → After (by_last s done at kept)
      by_kept None e =
          let after = rest done.0 in (((low, ap (λ k. (by_last s done at k).1) e), after.0), after.1, after.2)
      by_kept (Some kept) e = by_order_of (call_no_cmp at kept.no) refl
        where
          by_order_of : (o : Ordering) → call_no_cmp at kept.no ≡ o → After (by_order s done kept o)
          by_order_of Greater f =
              let is = ap (λ k. (by_last s done at k).1) e ∙ ap (λ o. (by_order s done kept o).1) f in
              let after = rest done.0 in (((low, is), after.0), after.1, after.2)
          by_order_of _ f = rest s

  all-made : (s : NodeState) (asked : List Asked) → AllByRecursion IsOfClient asked → MadeOf s asked
  all-made s [] clients = (tt, tt, refl)
  all-made s (Works ∷ asked) clients = work-legal s asked (λ t. all-made t asked clients.1)
  all-made s (Calls client at call ∷ asked) clients =
      call-legal s client at call asked clients.0 (λ t. all-made t asked clients.1)

-- the reply of an entry that is next is the judgment's
pub answered : (read : Reading) (s : NodeState) (client : ℕ) (at : CallNo) (c : Call) (r : Reply)
    → (step s client at c (verdict_for read s client c)).1 ≡ Answered r
    → r ≡ reply_to s client c (verdict_for read s client c)
answered read s client at c r e =
    grind (arith, of_client, by_order, executed, verdict_for, reply_to, by_last, call_no_cmp)

pub makes-legal : (read : Reading) → MakesLegal read
makes-legal read fails s asked clients = all-made fails read s asked clients
