use Rattle.std.proofs.Common.{◌≡◌, ◌≤◌}
use Rattle.disk_core.specs.Images.{EachImage}
use Rattle.ucm_base.specs.Limits.{attempt_limit}
use Rattle.node_store.specs.Open.{IsBlank}
use Rattle.slot_store.specs.Extents.{HasExtents, node_places}
use Rattle.node_replay.specs.Done.{RoseIn}
use Rattle.node_replay.proofs.forming.form.Given as goal

-- so many attempts failed, and the disk can still be formatted
abbrev pub invariant-attempts : goal.invariant-attempts
invariant-attempts g l = record {
  extents : HasExtents node_places (g.D.Disk.seen l.disk);
  blank : EachImage (g.D.Disk.images l.disk) IsBlank;
  plan : g.D.Disk.armed l.disk ≡ g.D.Disk.armed l.fn.disk;
  fewer : g.D.Disk.fault_count l.fn.disk ≤ g.D.Disk.fault_count l.disk;
  few : l.attempt ≤ attempt_limit;
  rose : RoseIn l.attempt (g.D.Disk.fault_count l.fn.disk) (g.D.Disk.fault_count l.disk);
}
