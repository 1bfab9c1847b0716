use Rattle.node_core.proofs.Opened.{held}
use Rattle.node_core.proofs.Queried.{clusters-shown, changes-shown, packages-shown}
use Rattle.node_core.proofs.ready.Ready.query.Goals as goal

pub returns-in_ok-cluster_info-in-GetSwClusterInfo : goal.returns-in_ok-cluster_info-in-GetSwClusterInfo
returns-in_ok-cluster_info-in-GetSwClusterInfo c = λ areas sound.
    clusters-shown (held c.state.view_is c.self.view_is areas) c.args.client c.in-GetSwClusterInfo.is
    c.in_ok-cluster_info-in-GetSwClusterInfo.field-0 c.in_ok-cluster_info-in-GetSwClusterInfo.ensures

pub returns-in_ok-change_info-in-GetSwClusterChangeInfo : goal.returns-in_ok-change_info-in-GetSwClusterChangeInfo
returns-in_ok-change_info-in-GetSwClusterChangeInfo c = λ areas sound.
    changes-shown (held c.state.view_is c.self.view_is areas) c.args.client c.in-GetSwClusterChangeInfo.is
    c.in_ok-change_info-in-GetSwClusterChangeInfo.field-0 _ c.in_ok-change_info-in-GetSwClusterChangeInfo.ensures
    c.as_ref.ensures.value

pub returns-in_ok-packages-in-GetSwPackages : goal.returns-in_ok-packages-in-GetSwPackages
returns-in_ok-packages-in-GetSwPackages c = λ areas sound.
    packages-shown (held c.state.view_is c.self.view_is areas) c.args.client c.in-GetSwPackages.is
    c.in_ok-packages-in-GetSwPackages.field-0
    c.as_slice-transfers.result.now c.in_ok-packages-in-GetSwPackages.ensures c.as_slice-transfers.ensures.transfers
