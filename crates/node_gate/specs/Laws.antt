-- Laws of a node as a machine.
use Rattle.std.specs.Prelude.{◌<◌, ◌^◌, length}
use Rattle.std.proofs.Common.{arith}
use Rattle.disk_core.specs.declared.disk.Disk.{Ghosts}
use Rattle.pm_types.specs.declared.status.Status.{Status}
use Rattle.pm_types.specs.NodeState.{status_code}
use Rattle.node_gate.specs.declared.shared.SharedNode.{SharedNode}

pub code_fits : (s : Status) → status_code s < 16
code_fits Status.Idle = omega arith
code_fits Status.Ready = omega arith
code_fits Status.Processing = omega arith
code_fits Status.Activating = omega arith
code_fits Status.Verifying = omega arith
code_fits Status.Activated = omega arith
code_fits Status.RollingBack = omega arith
code_fits Status.RolledBack = omega arith
code_fits Status.CleaningUp = omega arith

pub list_fits : {D : Type 0} {d : Ghosts D} (s : SharedNode D d) → length s.entries.items < 2 ^ 59
list_fits s = omega (arith, s.short)
