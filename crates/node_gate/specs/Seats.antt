-- Seats of a node's gate, and what a call shows a seat.
use Rattle.std.specs.Prelude.{◌≡◌, ℕ, ◌<◌, List, [], length, Option, Some, None, IfSome, IsSome}
use mathlib.Core.List.{IsPrefix}
use Rattle.atomic_table.specs.Seated.{TableId}
use Rattle.turn_gate.specs.Known.{Known}
use Rattle.turn_gate.specs.Mine.{Settles, doubt_in, mine_of}
use Rattle.turn_gate.specs.Parts.{PartsFit, doubt_of, numbers_of, own, times}
use Rattle.turn_gate.specs.Steps.{HasAll}
use Rattle.turn_gate.specs.declared.view.Fixed.{Fixed}
use Rattle.turn_gate.specs.declared.view.Part.{Part}
use Rattle.turn_gate.specs.declared.view.View.{View}
use Rattle.turn_gate.specs.Views.{account}
use Rattle.disk_core.specs.declared.plan.FaultPlan.{FaultPlan}
use Rattle.pm_types.specs.declared.history.Entry.{Entry}
use Rattle.pm_types.specs.declared.status.Status.{Status}
use Rattle.pm_types.specs.Histories.{formatted}
use Rattle.pm_types.specs.NodeState.{NodeState}
use Rattle.node_store.specs.declared.node.Node.{Node}
use Rattle.plan_numbers.specs.Plans.{fixed_numbers}
use Rattle.node_gate.specs.Stands.{Listing, StandsFor, node_after, node_at, tells}
use Rattle.node_gate.specs.declared.opening.Opening.{Opening}

module _ {O : Type 0} where
  -- the seat is of this gate, which was made, and doesn't have the turn
  pub record IsSeat (gate : TableId) (s : Known Entry O) : Type 0 where
    pub ours : s.gate ≡ gate
    pub rests : s.view.held ≡ None
    pub made : IsSome s.view.fixed

  -- the seat has a part, and may work
  pub record IsWorkSeat (gate : TableId) (s : Known Entry O) : Type 0 where
    pub seat : IsSeat gate s
    pub part : 0 < length (numbers_of s.view.parts)

  -- the seat has the client's part
  pub record IsClientSeat (client : ℕ) (gate : TableId) (s : Known Entry O) : Type 0 where
    pub seat : IsSeat gate s
    pub part : 0 < times client (numbers_of s.view.parts)

  -- what a turn found of one part of the seat: its entries settle its doubt, and what is pending of it was its doubt,
  -- which isn't among them
  pub record IsPartFound (n : ℕ) (v : View Entry O) (found : Listing) : Type 0 where
    pub own_is : Settles (doubt_in n v.parts) (mine_of n v.parts) (own tells n found.entries)
    pub pending_was : IfSome (doubt_of tells found.pending n)
        (λ e. (doubt_in n v.parts ≡ Some e) × (own tells n found.entries ≡ mine_of n v.parts))

  -- what a turn found: the list goes on from what was seen, and where the seat has all parts nothing came
  pub record IsFound (v : View Entry O) (found : Listing) : Type 0 where
    pub goes_on : IsPrefix v.seen found.entries
    pub each : (n : ℕ) → 0 < times n (numbers_of v.parts) → IsPartFound n v found
    pub alone : HasAll v → found.entries ≡ v.seen

  -- what a turn left of one part: its own entries, and what is pending of it is its doubt
  pub record IsPartLeft (n : ℕ) (v : View Entry O) (left : Listing) : Type 0 where
    pub mine : mine_of n v.parts ≡ own tells n left.entries
    pub doubt : doubt_in n v.parts ≡ doubt_of tells left.pending n

  -- what a turn left: the list was seen
  pub record IsLeft (v : View Entry O) (left : Listing) : Type 0 where
    pub seen : v.seen ≡ left.entries
    pub each : (n : ℕ) → 0 < times n (numbers_of v.parts) → IsPartLeft n v left

  -- one turn of the seat, which did this to what it found: it is of the same gate with the same parts and polls, and
  -- what it has seen goes on
  pub record Turned (Did : Listing → Listing → Type 0) (old new : Known Entry O) : Type 0 where
    pub same_gate : new.gate ≡ old.gate
    pub rests : new.view.held ≡ None
    pub fixed : new.view.fixed ≡ old.view.fixed
    pub parts : numbers_of new.view.parts ≡ numbers_of old.view.parts
    pub notes : new.view.notes ≡ old.view.notes
    pub goes_on : IsPrefix old.view.seen new.view.seen
    pub found : Listing
    pub left : Listing
    pub is_found : IsFound old.view found
    pub is_left : IsLeft new.view left
    pub did : Did found left

abbrev pub node_in : {D : Type 0} → (D → List ℕ) → Option (Fixed (Opening D)) → NodeState
node_in seen None = formatted []
node_in seen (Some f) = node_at seen f.opening

-- the node of the opening; a seat's view always has one
abbrev pub opened_as : {D : Type 0} → (D → List ℕ) → View Entry (Opening D) → NodeState
opened_as seen v = node_in seen v.fixed

-- some list that begins with all that was seen has this length, and leads to this status
abbrev pub ShowsAt : {D : Type 0} → (D → List ℕ) → View Entry (Opening D) → ℕ → Status → Type 0
ShowsAt seen v place status =
    IfSome v.fixed (λ f. (entries : List Entry)
    × IsPrefix v.seen entries × (length entries ≡ place) × (status ≡ (node_after seen f.opening entries).status))

-- what `close` hands back: the names that fail and the disk's plan are those of the making; the node stands for the
-- entries and one that may be pending, from the opening; and each part has its entries
pub record IsHandedBack {D : Type 0} (moment : D → ℕ) (left_since : D → ℕ → List ℕ → Type 0) (seen : D → List ℕ)
    (images : D → List ℕ → Type 0) (armed : D → FaultPlan) (fault_count : D → ℕ) (f : Fixed (Opening D))
    (node : Node D) (entries : List Entry) (parts : List (Part Entry)) : Type 0 where
  pub names : List (List ℕ)
  pub pending : Option Entry
  pub fixed_is : fixed_numbers names (armed node.extents.disk) ≡ f.numbers
  pub stands : StandsFor moment left_since seen images names f.opening node entries pending
  pub own_is : PartsFit tells (account entries pending (fault_count node.extents.disk)) parts
