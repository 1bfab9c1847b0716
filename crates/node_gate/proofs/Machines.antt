-- What a turn finds the machine to stand for, from the opening in the seat's view.
use Rattle.std.proofs.Common.{◌≡◌, ℕ, List, Option, Some, None}
use Rattle.std.specs.Prelude.{IfSome, IsSome}
use Rattle.turn_gate.specs.declared.view.Fixed.{Fixed}
use Rattle.turn_gate.specs.declared.view.View.{View}
use Rattle.disk_core.specs.declared.disk.Disk.{Ghosts}
use Rattle.pm_types.specs.declared.history.Entry.{Entry}
use Rattle.pm_types.specs.NodeState.{NodeState}
use Rattle.node_gate.specs.declared.opening.Opening.{Opening}
use Rattle.node_gate.specs.declared.shared.SharedNode.{SharedNode}
use Rattle.plan_numbers.specs.Plans.{fixed_numbers}
use Rattle.node_gate.specs.Seats.{node_in}
use Rattle.node_gate.specs.Stands.{Knows, StandsFor, node_at}

module _ {D : Type 0} (d : Ghosts D) (it : SharedNode D d) where
  abbrev Stands : Opening D → Type 0
  Stands o = StandsFor d.moment d.left_since d.seen d.images it.fails.items o it.node it.entries.items it.pending

  -- it has the fixed list of the making, and stands for its entries from the opening of the making
  abbrev pub IsOfMaking : Option (Fixed (Opening D)) → Type 0
  IsOfMaking o =
      IfSome o (λ f. (fixed_numbers it.fails.items (d.armed it.node.extents.disk) ≡ f.numbers) × Stands f.opening)

  -- what follows from any opening holds of the seat's
  pub from_opening : (A : NodeState → Type 0) (o : Option (Fixed (Opening D))) → IsSome o → IsOfMaking o
      → ((x : Opening D) → Stands x → A (node_at d.seen x)) → A (node_in d.seen o)
  from_opening A None made is on = absurd (cc made)
  from_opening A (Some f) made is on = on f.opening is.1

  pub known_in : (o : Option (Fixed (Opening D))) → IsSome o → IsOfMaking o → Knows d.seen d.images it.node
  known_in o made is = from_opening (λ n. Knows d.seen d.images it.node) o made is (λ x stands. stands.known)
