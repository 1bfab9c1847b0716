use Rattle.std.proofs.Common.{◌≡◌, ◌≤◌, List, ◌∷◌, length}
use Rattle.std.specs.List.{AllByRecursion}
use Rattle.disk_mem.specs.declared.mem.MemDisk.{MemDisk}
use Rattle.slot_store.specs.Extents.{node_end}
use Rattle.ucm_base.specs.Limits.{node_limit}
use Rattle.ucm_prog.specs.Disks.{master_end}
use Rattle.ucm_prog.proofs.MemDisks.{Is}
use Rattle.ucm_prog.proofs.new_disks.Given as goal

-- the master's disk and so many of nodes
abbrev pub invariant-nodes : goal.invariant-nodes
invariant-nodes l = record {
  master : MemDisk;
  others : List MemDisk;
  are : l.disks.items ≡ master ∷ others;
  unused : Is master_end master;
  each : AllByRecursion (Is node_end) others;
  count : length others ≡ l.node;
  few : l.node ≤ node_limit;
}
