-- What is seen of a node in memory that is the same.
use Rattle.node_core.proofs.Names.{Call, CallNo, Holding, IsReserved, IsReservedWork, Owning, ap, subst, sym, ℕ, ◌≡◌}

module _ {S : Type 0} {a b : Owning S} (e : a ≡ b) where
  pub held-is : a.held ≡ b.held
  held-is = ap (λ v. v.held) e

  -- what is ready for it
  pub reserved-is : (client : ℕ) (at : CallNo) (call : Call) → IsReserved b.held client at call
      → IsReserved a.held client at call
  reserved-is client at call = subst (λ (h : Holding). IsReserved h client at call) (sym held-is)

  pub work-reserved-is : IsReservedWork b.held → IsReservedWork a.held
  work-reserved-is = subst IsReservedWork (sym held-is)
