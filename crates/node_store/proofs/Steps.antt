-- The steps of a call, one after another.
use Rattle.std.proofs.Common.{◌≡◌, inl, ℕ, List, Option, Some, None, sym, subst}
use Rattle.std.specs.declared.cmp.Ordering.{Ordering}
use Rattle.std.specs.declared.cmp.Ordering.TheVariants.{Less, Equal, Greater}
use Rattle.disk_core.specs.Moments.{LeavesOnly}
use Rattle.disk_core.proofs.Moments.{joined, weaker}
use Rattle.ucm_base.specs.declared.ids.CallNo.{CallNo}
use Rattle.pm_types.specs.declared.calls.Call.{Call}
use Rattle.pm_types.specs.declared.replies.Reached.{Reached}
use Rattle.pm_types.specs.declared.replies.Reached.TheVariants.{Done as Answered}
use Rattle.pm_types.specs.declared.replies.Reply.{Reply}
use Rattle.pm_types.specs.declared.state.Kept.{Kept}
use Rattle.pm_types.specs.Histories.{verdict_for}
use Rattle.pm_types.specs.NodeState.{NodeState, of_client}
use Rattle.pm_types.specs.Steps.{after_call, by_last, by_order, call_no_cmp, reply_to}
use Rattle.node_core.specs.Packages.{package_reading}
use Rattle.node_store.specs.Serving.{Serves, ServesEither, stepped}

-- a node that is staged for its event, and then makes it
pub then_either : {D : Type 0} (moment : D → ℕ) (left_since : D → ℕ → List ℕ → Type 0) (old mid new : D)
    (f : NodeState → NodeState) (n m : NodeState) → m ≡ n → LeavesOnly moment left_since old mid (Serves n)
    → LeavesOnly moment left_since mid new (ServesEither m (f m))
    → LeavesOnly moment left_since old new (ServesEither n (f n))
then_either moment left_since old mid new f n m same staged more =
    joined moment left_since old mid new (ServesEither n (f n)) (ServesEither m (f m))
    (weaker moment left_since old mid (Serves n) (ServesEither n (f n)) (λ c serves. inl serves) staged) more
    (λ c either. subst (λ k. ServesEither k (f k) c) same either)

-- what isn't executed changes nothing
module _ (n after : NodeState) (reply : Reply) (reached : Reached)
    (other : (reply : Reply) → reached ≡ Answered reply → ⊥) where
  in-order : (kept : Kept) (order : Ordering) → (by_order n (after, Answered reply) kept order).1 ≡ reached
      → (n, reached) ≡ by_order n (after, Answered reply) kept order
  in-order kept Less e = λ i. (n, sym e i)
  in-order kept Equal e = λ i. (n, sym e i)
  in-order kept Greater e = absurd (other reply (sym e))

  by-kept : (call_no : CallNo) (o : Option Kept) → (by_last n (after, Answered reply) call_no o).1 ≡ reached
      → (n, reached) ≡ by_last n (after, Answered reply) call_no o
  by-kept call_no None e = absurd (other reply (sym e))
  by-kept call_no (Some kept) e = in-order kept (call_no_cmp call_no kept.no) e

pub repeated : (n : NodeState) (client : ℕ) (call_no : CallNo) (call : Call) (reached : Reached)
    → (stepped n client call_no call).1 ≡ reached → ((reply : Reply) → reached ≡ Answered reply → ⊥)
    → (n, reached) ≡ stepped n client call_no call
repeated n client call_no call reached e other =
    let verdict = verdict_for package_reading n client call in
    let reply = reply_to n client call verdict in
    by-kept n (after_call n client call_no call verdict reply) reply reached other call_no (of_client n.last client) e
