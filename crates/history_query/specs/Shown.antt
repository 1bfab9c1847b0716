-- What queries show of the lists of a node's state, wherever the bytes lie.
use Rattle.std.specs.Prelude.{ℕ, ◌*◌, ◌/◌, ◌<◌, ◌&&◌, Bool, true, nat_le, nat_lt, IsTrue, List, [], ◌∷◌, Option, Some, None, Result, Ok, Err}
use Rattle.std.specs.List.{AllByRecursion}
use Rattle.std.specs.Option.{option_map_or}
use Rattle.pm_types.specs.declared.clusters.Change.{Change}
use Rattle.pm_types.specs.declared.clusters.Cluster.{Cluster}
use Rattle.pm_types.specs.declared.history.Line.{Line}
use Rattle.pm_types.specs.declared.queries.Answer.{Answer}
use Rattle.pm_types.specs.declared.queries.Answer.TheVariants.{Progress, Refused}
use Rattle.pm_types.specs.declared.queries.ChangeInfo.{ChangeInfo}
use Rattle.pm_types.specs.declared.queries.ClusterInfo.{ClusterInfo}
use Rattle.pm_types.specs.declared.queries.PackageInfo.{PackageInfo}
use Rattle.pm_types.specs.declared.replies.Refusal.{Refusal}
use Rattle.pm_types.specs.declared.replies.Refusal.TheVariants.{InvalidTransferId}
use Rattle.pm_types.specs.declared.state.StoredTransfer.{StoredTransfer}
use Rattle.pm_types.specs.declared.status.Phase.{Phase}
use Rattle.pm_types.specs.declared.status.Phase.TheVariants.{Transferring, Transferred, Processing, Processed}
use Rattle.pm_types.specs.declared.transfers.Header.{Header}
use Rattle.pm_types.specs.NodeState.{SessionOf, is_in}
use Rattle.pm_types.specs.Clusters.{stored_units}
use Rattle.pm_types.specs.Validity.{places_from}

-- a running cluster, as a query shows it
abbrev pub shown_cluster : {C : Type 0} → Cluster C → ClusterInfo
shown_cluster c = record { name = c.name; version = c.version }

-- a planned change
abbrev pub shown_change : {C : Type 0} → Change C → ChangeInfo
shown_change change = record {
  name = change.part.manifest.name;
  action = change.part.manifest.action;
  version = change.part.manifest.version;
}

-- a transfer
abbrev pub shown_transfer : Header → PackageInfo
shown_transfer h = record { id = h.id; phase = h.phase; received = h.received; size = h.size }

-- the planned changes of a session, where there is one
abbrev pub changes_planned : {C : Type 0} → Option (SessionOf C) → List (Change C)
changes_planned session = option_map_or (λ x. x.changes) session []

-- whether a line's place is at least `ge` and below `lt`
abbrev pub is_between : ℕ → ℕ → Line → Bool
is_between ge lt line = nat_le ge line.place && nat_lt line.place lt

-- whether the places count up by one
abbrev pub are_consecutive : List Line → Bool
are_consecutive [] = true
are_consecutive (line ∷ lines) = places_from line.place (line ∷ lines)

-- the units that are done in a session, where there is one
abbrev pub units_done_in : {C : Type 0} → Option (SessionOf C) → ℕ
units_done_in session = option_map_or (λ x. x.units_done) session 0

-- how much is processed of a transfer in this phase, in percent
abbrev pub percent_in : Phase → ℕ → ℕ → ℕ
percent_in Transferring done all = 0
percent_in Transferred done all = 0
percent_in Processing done all = (100 * done) / all
percent_in Processed done all = 100

-- how much of a stored transfer is processed, in percent
abbrev pub stored_progress : ℕ → StoredTransfer → ℕ
stored_progress done t = percent_in t.header.phase done (stored_units t.contents)

-- the progress of the transfer that was found
abbrev pub progress_at : {C : Type 0} → Option (SessionOf C) → Option StoredTransfer → Result ℕ Refusal
progress_at session None = Err InvalidTransferId
progress_at session (Some t) = Ok (stored_progress (units_done_in session) t)

-- a progress, or its refusal, as an answer
abbrev pub progress_answer : Result ℕ Refusal → Answer
progress_answer (Ok percent) = Progress percent
progress_answer (Err refusal) = Refused refusal

-- a transfer in processing has more units than are done
abbrev pub IsUnfinished : ℕ → StoredTransfer → Type 0
IsUnfinished done t = IsTrue (is_in Processing t.header) → done < stored_units t.contents

abbrev pub EachIsUnfinished : {C : Type 0} → Option (SessionOf C) → List StoredTransfer → Type 0
EachIsUnfinished session transfers = AllByRecursion (IsUnfinished (units_done_in session)) transfers
