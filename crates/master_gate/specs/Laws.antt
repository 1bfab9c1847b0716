-- Laws of the list as a machine.
use Rattle.std.specs.Prelude.{◌<◌, ◌^◌, length}
use Rattle.std.proofs.Common.{arith}
use Rattle.disk_core.specs.declared.disk.Disk.{Ghosts}
use Rattle.campaign_core.specs.declared.views.CampaignState.{CampaignState}
use Rattle.campaign_core.specs.Views.{state_code}
use Rattle.master_gate.specs.declared.shared.SharedLog.{SharedLog}

pub code_fits : (s : CampaignState) → state_code s < 16
code_fits CampaignState.Idle = omega arith
code_fits CampaignState.Syncing = omega arith
code_fits CampaignState.SoftwarePackageTransferring = omega arith
code_fits CampaignState.Processing = omega arith
code_fits CampaignState.Activating = omega arith
code_fits CampaignState.VehicleChecking = omega arith
code_fits CampaignState.Cancelling = omega arith

pub list_fits : {D : Type 0} {d : Ghosts D} (s : SharedLog D d) → length s.events.items < 2 ^ 59
list_fits s = omega (arith, s.short)
