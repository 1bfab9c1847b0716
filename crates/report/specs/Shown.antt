-- The lists of a run, each in its order.
use Rattle.std.specs.Prelude.{◌≡◌, ℕ, ◌<◌, ◌≤◌, Bool, ◌&&◌, ◌||◌, ◌==◌, nat_lt, List, length, slice_index_or, true}
use Rattle.std.specs.List.{AllAdjacentBelow, All}
use Rattle.ucm_base.specs.Names.{name_lt}
use Rattle.report.specs.declared.shown.LineReply.{LineReply}
use Rattle.report.specs.declared.shown.NodeHistory.{NodeHistory}
use Rattle.report.specs.declared.shown.Opening.{Opening}
use Rattle.report.specs.declared.shown.Shown.{Shown}
use Rattle.report.specs.declared.shown.Unreached.{Unreached}
use Rattle.report.specs.declared.shown.Whose.{Whose}
use Rattle.report.specs.declared.shown.Whose.TheVariants.{Master, Node}

-- each stands before the next
abbrev pub Rises : {A : Type 0} → (A → A → Bool) → List A → Type 0
Rises before list = AllAdjacentBelow (λ a b. before a b ≡ true) list (length list)

-- the places are 0, 1, ..
abbrev pub ArePlaced : {A : Type 0} → List (ℕ × A) → Type 0
ArePlaced {A} list = (k : ℕ) (e : ℕ × A) → k < length list → (slice_index_or list k e).0 ≡ k

-- clusters by node, and then by name
abbrev pub opens_before : Opening → Opening → Bool
opens_before a b = nat_lt a.node b.node || ((a.node == b.node) && name_lt a.cluster.name b.cluster.name)

-- histories by node
abbrev pub is_lower : NodeHistory → NodeHistory → Bool
is_lower a b = nat_lt a.node b.node

-- the master before the nodes
abbrev pub rank : Whose → ℕ
rank Master = 0
rank (Node node) = node

abbrev pub ranks_before : Unreached → Unreached → Bool
ranks_before a b = nat_lt (rank a.whose) (rank b.whose)

-- the master has no link, and so no losses
abbrev pub HasItsLosses : Unreached → Type 0
HasItsLosses u = u.whose ≡ Master → u.losses ≡ 0

-- replies by line
abbrev pub is_above : LineReply → LineReply → Bool
is_above a b = nat_lt a.line b.line

-- what a run shows: each list in its order, the events and each node's entries at places 0, 1, .., and lines from 1
pub record IsShown (s : Shown) : Type 0 where
  pub opening : Rises opens_before s.opening
  pub master : ArePlaced s.master
  pub nodes : Rises is_lower s.nodes
  pub entries : All (λ h. ArePlaced h.entries) s.nodes
  pub unreached : Rises ranks_before s.unreached
  pub losses : All HasItsLosses s.unreached
  pub replies : Rises is_above s.replies
  pub lines : All (λ r. 1 ≤ r.line) s.replies
