-- One list of entries after another.
use Rattle.std.specs.Prelude.{◌≡◌, ◌↔◌, ℕ, List, ◌++◌}
use Rattle.pm_types.specs.declared.history.Entry.{Entry}
use Rattle.pm_types.specs.NodeState.{NodeState}
use Rattle.pm_types.specs.Histories.{Reading, IsLegal, IsTrueTo, state_after}

-- a history goes on where the one before it ended
pub record GoesOn (read : Reading) : Type 0 where
  pub state : (s : NodeState) (es gs : List Entry)
      → state_after read s (es ++ gs) ≡ state_after read (state_after read s es) gs
  pub legal : (s : NodeState) (es gs : List Entry)
      → IsLegal read s (es ++ gs) ↔ (IsLegal read s es × IsLegal read (state_after read s es) gs)
  pub true_to : (fails : List (List ℕ)) (s : NodeState) (es gs : List Entry)
      → IsTrueTo fails read s (es ++ gs) ↔ (IsTrueTo fails read s es × IsTrueTo fails read (state_after read s es) gs)
