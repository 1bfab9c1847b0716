-- What the entries in memory have to do with the node, its disk, and the making of the gate.
use Rattle.std.specs.Prelude.{◌≡◌, ◌⊎◌, ℕ, true, false, List, [], ◌∷◌, Option, Some, None}
use mathlib.Core.List.{IsPrefix}
use Rattle.turn_gate.specs.Views.{account}
use Rattle.turn_gate.specs.declared.view.Account.{Account}
use Rattle.disk_core.specs.Images.{EachImage}
use Rattle.disk_core.specs.Moments.{LeavesOnly}
use Rattle.disk_core.specs.declared.disk.Disk.{Ghosts}
use Rattle.pm_types.specs.declared.history.Entry.{Entry}
use Rattle.pm_types.specs.declared.history.Entry.TheVariants.{Numbered, Unit as UnitDone}
use Rattle.pm_types.specs.Histories.{IsLegal, IsTrueTo, after_entry, state_after}
use Rattle.pm_types.specs.NodeState.{NodeState, status_code}
use Rattle.node_laws.specs.Fit.{IsFit}
use Rattle.node_core.specs.Packages.{package_reading}
use Rattle.node_store.specs.Open.{IsOpen}
use Rattle.node_store.specs.Serving.{Serves, ServesEither, ServesSome, node_on}
use Rattle.node_store.specs.declared.node.Node.{Node}
use Rattle.node_gate.specs.declared.opening.Opening.{Opening}
use Rattle.node_gate.specs.declared.shared.SharedNode.{SharedNode}

-- a call's entry tells its client, and a unit's none
abbrev pub tells : Entry → Option ℕ
tells (Numbered client call_no call reply) = Some client
tells (UnitDone passed after) = None

-- the entries, and the one that may stand behind them or not
pub record Listing : Type 0 where
  pub entries : List Entry
  pub pending : Option Entry

abbrev pub listing : List Entry → Option Entry → Listing
listing entries pending = record { entries = entries; pending = pending }

abbrev pub listing_in : {D : Type 0} {d : Ghosts D} → SharedNode D d → Listing
listing_in s = listing s.entries.items s.pending

abbrev pub account_of : {D : Type 0} {d : Ghosts D} → (D → ℕ) → SharedNode D d → Account Entry
account_of fault_count s = account s.entries.items s.pending (fault_count s.node.extents.disk)

abbrev pub opening : {D : Type 0} → Node D → Opening D
opening node = record { state = node.ready.state; disk = node.extents.disk }

-- the node as the gate was made
abbrev pub node_at : {D : Type 0} → (D → List ℕ) → Opening D → NodeState
node_at seen o = node_on o.state (seen o.disk)

-- the node after entries
abbrev pub node_after : {D : Type 0} → (D → List ℕ) → Opening D → List Entry → NodeState
node_after seen o entries = state_after package_reading (node_at seen o) entries

abbrev pub status_code_after : {D : Type 0} → (D → List ℕ) → Opening D → List Entry → ℕ
status_code_after seen o entries = status_code (node_after seen o entries).status

-- the entries with the pending one
abbrev pub with_pending : NodeState → Option Entry → NodeState
with_pending n None = n
with_pending n (Some e) = after_entry package_reading n e

-- the pending entry by itself
abbrev pub pending_list : Option Entry → List Entry
pending_list None = []
pending_list (Some e) = e ∷ []

-- the image serves for the node after a beginning of the entries, or after one more that was pending behind it
pub record WasLeft (n : NodeState) (entries : List Entry) (image : List ℕ) : Type 0 where
  pub beginning : List Entry
  pub begins : IsPrefix beginning entries
  pub pending : Option Entry
  pub serves : ServesEither (state_after package_reading n beginning)
      (with_pending (state_after package_reading n beginning) pending) image

-- what is known of the node between two calls
pub record Knows {D : Type 0} (seen : D → List ℕ) (images : D → List ℕ → Type 0) (node : Node D) : Type 0 where
  pub open_is : node.is_closed ≡ false
      → IsOpen node.log node.ready (seen node.extents.disk) (images node.extents.disk)
  pub closed_is : node.is_closed ≡ true → EachImage (images node.extents.disk) ServesSome

module _ {D : Type 0} (moment : D → ℕ) (left_since : D → ℕ → List ℕ → Type 0) (seen : D → List ℕ)
    (images : D → List ℕ → Type 0) where
  -- the node, or where it is closed each image of it, is that after a legal list of entries, true to the names, which
  -- goes on from the opening, a consistent node; what is pending may go on it; and so was each image since the making
  pub record StandsFor (fails : List (List ℕ)) (o : Opening D) (node : Node D) (entries : List Entry)
      (pending : Option Entry) : Type 0 where
    pub known : Knows seen images node
    pub fit : IsFit package_reading (node_at seen o)
    pub legal : IsLegal package_reading (node_at seen o) entries
    pub true_to : IsTrueTo fails package_reading (node_at seen o) entries
    pub may_pend : IsLegal package_reading (node_after seen o entries) (pending_list pending)
        × IsTrueTo fails package_reading (node_after seen o entries) (pending_list pending)
    pub count : node.ready.state.entries ≡ (node_after seen o entries).entries
    pub status : node.ready.state.status ≡ (node_after seen o entries).status
    pub is_open : node.is_closed ≡ false
        → (node_on node.ready.state (seen node.extents.disk) ≡ node_after seen o entries) × (pending ≡ None)
    pub images_serve : EachImage (images node.extents.disk) (ServesEither (node_after seen o entries)
        (with_pending (node_after seen o entries) pending))
    pub moments : LeavesOnly moment left_since o.disk node.extents.disk (WasLeft (node_at seen o) entries)
