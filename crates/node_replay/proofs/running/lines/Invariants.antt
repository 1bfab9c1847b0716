use Rattle.std.proofs.Common.{◌≡◌, ◌≤◌, ℕ, take, string_bytes}
use Rattle.node_replay.proofs.Doing.{SoFar}
use Rattle.node_replay.proofs.running.lines.Given as goal

-- the events so far were done and printed so
abbrev pub invariant-events : goal.invariant-events
invariant-events g l = record {
  so_far : (before : ℕ) → before ≤ g.D.Disk.fault_count l.fn.node.extents.disk → SoFar l.script l.attached before
      (take l.event-index l.script.events) (string_bytes l.text) (g.D.Disk.fault_count l.node.extents.disk)
      l.node.is_closed l.node.log l.node.ready (g.D.Disk.seen l.node.extents.disk)
      (g.D.Disk.images l.node.extents.disk);
  faults : g.D.Disk.fault_count l.fn.node.extents.disk ≤ g.D.Disk.fault_count l.node.extents.disk;
  plan : g.D.Disk.armed l.node.extents.disk ≡ g.D.Disk.armed l.fn.node.extents.disk;
}
