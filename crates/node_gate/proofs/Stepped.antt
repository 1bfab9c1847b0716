-- What one numbered call comes to: its entry, or what is kept.
use Rattle.std.proofs.Common.{◌≡◌, ◌∙◌, ℕ, ◌<◌, List, [], ◌∷◌, length, sym, ap, subst, Option, Some, None}
use Rattle.std.specs.declared.cmp.Ordering.{Ordering}
use Rattle.std.specs.declared.cmp.Ordering.TheVariants.{Less, Equal, Greater}
use Rattle.ucm_base.specs.declared.ids.CallNo.{CallNo}
use Rattle.ucm_base.specs.Limits.{client_limit}
use Rattle.pm_types.specs.declared.calls.Call.{Call}
use Rattle.pm_types.specs.declared.history.Entry.{Entry}
use Rattle.pm_types.specs.declared.history.Entry.TheVariants.{Numbered}
use Rattle.pm_types.specs.declared.replies.Reached.{Reached}
use Rattle.pm_types.specs.declared.replies.Reached.TheVariants.{Done as Answered}
use Rattle.pm_types.specs.declared.replies.Reply.{Reply}
use Rattle.pm_types.specs.declared.state.Kept.{Kept}
use Rattle.pm_types.specs.Histories.{IsLegal, IsTrueTo, after_entry, state_after, verdict_for}
use Rattle.pm_types.specs.NodeState.{NodeState, of_client}
use Rattle.pm_types.specs.Steps.{after_call, by_last, by_order, call_no_cmp, repeat_by, repeat_of, reply_to}
use Rattle.node_laws.specs.Fit.{IsFit}
use Rattle.node_laws.specs.NewestKept.{newest_kept}
use Rattle.node_laws.proofs.NewestKept.{keeps-newest}
use Rattle.node_core.specs.Packages.{package_reading}
use Rattle.node_store.specs.Serving.{stepped}

module _ (n m : NodeState) (given : Reply) where
  -- what isn't executed is what is kept
  kept-order : (kept : Kept) (order : Ordering) (reached : Reached) → ((reply : Reply) → reached ≡ Answered reply →
      ⊥)
      → (by_order n (m, Answered given) kept order).1 ≡ reached → repeat_by kept order ≡ Some reached
  kept-order kept Less reached other e = ap Some e
  kept-order kept Equal reached other e = ap Some e
  kept-order kept Greater reached other e = absurd (other given (sym e))

  kept-last : (at : CallNo) (o : Option Kept) (reached : Reached) → ((reply : Reply) → reached ≡ Answered reply → ⊥)
      → (by_last n (m, Answered given) at o).1 ≡ reached → repeat_of at o ≡ Some reached
  kept-last at None reached other e = absurd (other given (sym e))
  kept-last at (Some kept) reached other e = kept-order kept (call_no_cmp at kept.no) reached other e

module _ (n : NodeState) (after : Reply → NodeState) (given reply : Reply) where
  -- what is answered anew was executed
  done-order : (kept : Kept) (order : Ordering)
      → (by_order n (after given, Answered given) kept order).1 ≡ Answered reply
      → (by_order n (after given, Answered given) kept order).0 ≡ after reply
  done-order kept Less e = absurd (cc e)
  done-order kept Equal e = absurd (cc e)
  done-order kept Greater e = let same : given ≡ reply = cc e in ap after same

  done-last : (at : CallNo) (o : Option Kept) → (by_last n (after given, Answered given) at o).1 ≡ Answered reply
      → (by_last n (after given, Answered given) at o).0 ≡ after reply
  done-last at None e = let same : given ≡ reply = cc e in ap after same
  done-last at (Some kept) e = done-order kept (call_no_cmp at kept.no) e

module _ (n : NodeState) (client : ℕ) (at : CallNo) (call : Call) where
  pub is_kept : (reached : Reached) → ((reply : Reply) → reached ≡ Answered reply → ⊥)
      → reached ≡ (stepped n client at call).1 → repeat_of at (of_client n.last client) ≡ Some reached
  is_kept reached other e =
      let verdict = verdict_for package_reading n client call in
      let reply = reply_to n client call verdict in
      kept-last n (after_call n client at call verdict reply) reply at (of_client n.last client) reached other (sym
      e)

  pub is_done : (reply : Reply) → Answered reply ≡ (stepped n client at call).1
      → (stepped n client at call).0 ≡ after_entry package_reading n (Numbered client at call reply)
  is_done reply e =
      let verdict = verdict_for package_reading n client call in
      done-last n (after_call n client at call verdict) (reply_to n client call verdict) reply at
      (of_client n.last client) (sym e)

  -- its entry may stand
  pub may_go : (fails : List (List ℕ)) (reply : Reply) → client < client_limit
      → Answered reply ≡ (stepped n client at call).1
      → IsLegal package_reading n (Numbered client at call reply ∷ [])
      × IsTrueTo fails package_reading n (Numbered client at call reply ∷ [])
  may_go fails reply low e = (((low, sym e), tt), tt)

-- a call that is executed, on a node that is this one: it leads to the node after its entry, which may stand
pub call_goes : (here n : NodeState) → here ≡ n → (client : ℕ) (at : CallNo) (call : Call) (reply : Reply)
    (fails : List (List ℕ)) → client < client_limit → Answered reply ≡ (stepped here client at call).1
    → ((stepped here client at call).0 ≡ after_entry package_reading n (Numbered client at call reply))
    × IsLegal package_reading n (Numbered client at call reply ∷ [])
    × IsTrueTo fails package_reading n (Numbered client at call reply ∷ [])
call_goes here n same client at call reply fails low due =
    let due_on = subst (λ (m : NodeState). Answered reply ≡ (stepped m client at call).1) same due in
    let may = may_go n client at call fails reply low due_on in (
      ap (λ (m : NodeState). (stepped m client at call).0) same ∙ is_done n client at call reply due_on,
      may.0,
      may.1,
    )

-- a call that isn't executed, on a node that is this one after entries: the client's newest entry, or else what was
-- kept of it before them, answers
pub repeats : (first here : NodeState) (es : List Entry) → IsFit package_reading first
    → here ≡ state_after package_reading first es → (client : ℕ) (at : CallNo) (call : Call) → client < client_limit
    → (reached : Reached) → ((reply : Reply) → reached ≡ Answered reply → ⊥)
    → reached ≡ (stepped here client at call).1
    → repeat_of at (newest_kept client (of_client first.last client) es) ≡ Some reached
repeats first here es fit same client at call low reached other is =
    let last = same_last first es client fit.consistent.limits.clients.0 low in
    ap (repeat_of at) (sym last ∙ ap (λ (m : NodeState). of_client m.last client) (sym same))
    ∙ is_kept here client at call reached other is
  where
    same_last : (s : NodeState) (entries : List Entry) (by : ℕ) → length s.last ≡ client_limit → by < client_limit
        → of_client (state_after package_reading s entries).last by ≡ newest_kept by (of_client s.last by) entries
    same_last s entries by long few = (keeps-newest package_reading).kept s entries by long few
