-- The answers to queries: filters over a node's lists.
use Rattle.std.specs.Prelude.{ℕ, ◌*◌, ◌/◌, ◌&&◌, ◌==◌, nat_lt, nat_le, map, filter, Some, None}
use Rattle.std.specs.Option.{option_map_or}
use Rattle.pm_types.specs.declared.queries.Answer.{Answer}
use Rattle.pm_types.specs.declared.queries.Answer.TheVariants.{Status as StatusIs, Clusters, Changes, Packages, Progress, Refused, History}
use Rattle.pm_types.specs.declared.status.Phase.TheVariants.{Transferring, Transferred, Processing as BeingProcessed, Processed}
use Rattle.pm_types.specs.declared.queries.Query.{Query}
use Rattle.pm_types.specs.declared.queries.Query.TheVariants.{CurrentStatus, GetSwClusterInfo, GetSwClusterChangeInfo, GetSwPackages, GetSwProcessProgress, GetHistory}
use Rattle.pm_types.specs.declared.replies.Refusal.TheVariants.{InvalidTransferId}
use Rattle.pm_types.specs.NodeState.{NodeState, Transfer}
use Rattle.pm_types.specs.Clusters.{all_units}
use Rattle.pm_types.specs.Sessions.{changes_in}
use Rattle.pm_types.specs.Transfers.{transfer_of}

-- how much of a transfer is processed, in percent
abbrev pub progress_of : NodeState → Transfer → ℕ
progress_of s t = elim t.header.phase [
  | Transferring ↦ 0
  | Transferred ↦ 0
  | BeingProcessed ↦ (100 * option_map_or (λ x. x.units_done) s.session 0) / all_units t.parts
  | Processed ↦ 100
]

abbrev pub answer : NodeState → ℕ → Query → Answer
answer s client CurrentStatus = StatusIs s.status
answer s client GetSwClusterInfo = Clusters (map (λ c. record { name = c.name; version = c.version }) s.running)
answer s client GetSwClusterChangeInfo =
    Changes (map (λ change. record {
      name = change.part.manifest.name;
      action = change.part.manifest.action;
      version =
          change.part.manifest.version;
    }) (changes_in s))
answer s client GetSwPackages =
    Packages (map (λ t. record {
      id = t.header.id;
      phase = t.header.phase;
      received = t.header.received;
      size =
          t.header.size;
    }) (filter (λ t. t.header.client == client) s.transfers))
answer s client (GetSwProcessProgress id) =
    elim (transfer_of s client id) [ None ↦ Refused InvalidTransferId | Some t ↦ Progress (progress_of s t) ]
answer s client (GetHistory ge lt) = History (filter (λ line. nat_le ge line.place && nat_lt line.place lt) s.lines)
