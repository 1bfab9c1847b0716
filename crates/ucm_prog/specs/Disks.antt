-- The disks that a command is given.
use Rattle.std.specs.Prelude.{◌≡◌, ◌≤◌, ℕ, List, [], ◌∷◌, length, replicate, take}
use Rattle.std.specs.List.{AllByRecursion}
use Rattle.disk_core.specs.declared.plan.FaultPlan.{FaultPlan}
use Rattle.disk_core.specs.Images.{Only}
use Rattle.disk_core.specs.Plans.{no_faults}
use Rattle.slot_store.specs.Extents.{node_end}
use Rattle.ucm_base.specs.Limits.{node_limit}

-- the bytes of the master's disk: both halves of its pair
abbrev pub master_end : ℕ
master_end = 4194304

-- a disk of at least so many bytes that nobody has used: zeros, nothing pending, and no plan
pub record IsUnused (size : ℕ) (seen : List ℕ) (images : List ℕ → Type 0) (armed : FaultPlan) : Type 0 where
  pub large : size ≤ length seen
  pub zeros : seen ≡ replicate (length seen) 0
  pub durable : Only seen images
  pub unarmed : armed ≡ no_faults

-- a disk for the master, and behind it one for each node
abbrev pub AreDisks : {A : Type 0} → (ℕ → A → Type 0) → List A → Type 0
AreDisks Is [] = ⊥
AreDisks Is (master ∷ nodes) =
    Is master_end master × (node_limit ≤ length nodes) × AllByRecursion (Is node_end) (take node_limit nodes)

-- the disk of node 1 became another one by this step, and the others are as they were
abbrev pub Node1Goes : {A : Type 0} → (A → A → Type 0) → List A → List A → Type 0
Node1Goes step (master ∷ disk ∷ others) after = (disk' : _) × step disk disk' × (after ≡ master ∷ disk' ∷ others)
Node1Goes step disks after = ⊥
