-- A node's state as it is stored: where the bytes lie in place of the bytes.
use Rattle.std.specs.Prelude.{◌≡◌, ℕ, length, if◌then◌else◌, ◌<◌, ◌≤◌, Bool, true, not, ◌&&◌, ◌==◌, IsTrue, IfSome, List, [], ◌∷◌, ◌++◌, take, map, option_map, slice_index_or, replicate, Option, None}
use Rattle.std.specs.Bool.{beq}
use Rattle.std.specs.List.{list_all, AllByRecursion}
use Rattle.std.specs.Option.{option_map_or}
use Rattle.std.specs.Str.{bytes_eq}
use Rattle.ucm_base.specs.declared.parts.Action.{Action}
use Rattle.ucm_base.specs.declared.parts.Action.TheVariants.{Install, Update, Remove}
use Rattle.ucm_base.specs.Limits.{client_limit, transfer_limit, cluster_limit, package_limit}
use Rattle.ucm_base.specs.Parts.{Bytes}
use Rattle.pm_types.specs.declared.clusters.Change.{Change}
use Rattle.pm_types.specs.declared.clusters.Cluster.{Cluster}
use Rattle.pm_types.specs.declared.clusters.Extent.{Extent}
use Rattle.pm_types.specs.declared.state.StoredTransfer.{StoredTransfer}
use Rattle.pm_types.specs.declared.status.Phase.TheVariants.{Transferring}
use Rattle.pm_types.specs.declared.status.Status.TheVariants.{Idle}
use Rattle.pm_types.specs.NodeState.{NodeOf, SessionOf, NodeState, Session, Transfer, is_in}
use Rattle.pm_types.specs.Clusters.{cluster_at, cluster_of}
use Rattle.pm_types.specs.Histories.{Reading}
use Rattle.pm_types.specs.Transfers.{parts_read}
use Rattle.pm_types.specs.Validity.{IsValid, RunsWhatItShould}

abbrev pub State : Type 0
State = NodeOf Extent StoredTransfer

-- a node on which these clusters run, and nothing has happened
abbrev pub fresh_state : List (Cluster Extent) → State
fresh_state clusters = record {
  status = Idle;
  next_id = 1;
  running = clusters;
  transfers = [];
  session = None;
  last = replicate client_limit None;
  ended = replicate client_limit None;
  entries = 0;
  lines = [];
}

-- what lies in the transfer slots, and on the two sides of each place
pub record Areas : Type 0 where
  pub slots : List Bytes
  pub sides : List (Bytes × Bytes)

-- the first bytes of a side
abbrev pub on_side : Areas → Extent → Bytes
on_side areas e =
    let pair = slice_index_or areas.sides e.place ([], []) in
    take e.length (if e.side == 0 then pair.0 else pair.1)

abbrev pub cluster_meaning : Areas → Cluster Extent → Cluster Bytes
cluster_meaning areas c = record {
  name = c.name;
  version = c.version;
  needs = c.needs;
  content =
      on_side areas c.content;
}

abbrev pub change_meaning : Areas → Change Extent → Change Bytes
change_meaning areas c = record {
  transfer = c.transfer;
  part =
      record { manifest = c.part.manifest; payload = on_side areas c.part.payload };
}

abbrev pub session_meaning : Areas → SessionOf Extent → Session
session_meaning areas x = record {
  owner = x.owner;
  tag = x.tag;
  saved = map (cluster_meaning areas) x.saved;
  changes = map (change_meaning areas) x.changes;
  processing = x.processing;
  units_done = x.units_done;
  verified = x.verified;
  outcome = x.outcome;
}

-- a transfer's parts are read from its bytes, once they are whole
abbrev pub transfer_meaning : Reading → Areas → StoredTransfer → Transfer
transfer_meaning read areas t =
    let bytes = take t.header.received (slice_index_or areas.slots t.slot []) in
    record {
      header = t.header;
      bytes = bytes;
      parts = if is_in Transferring t.header then []
          else parts_read (read bytes);
    }

-- the state that a stored one stands for, with its areas
abbrev pub meaning : Reading → Areas → State → NodeState
meaning read areas s = record {
  status = s.status;
  next_id = s.next_id;
  running = map (cluster_meaning areas) s.running;
  transfers = map (transfer_meaning read areas) s.transfers;
  session = option_map (session_meaning areas) s.session;
  last = s.last;
  ended = s.ended;
  entries = s.entries;
  lines = s.lines;
}

abbrev pub IsExtent : Extent → Type 0
IsExtent e = (e.place < cluster_limit) × (e.side < 2) × (e.length ≤ package_limit)

-- a stored transfer's slot, and its contents: those of the package that its bytes are, from phase Transferred on
pub record IsPlaced (read : Reading) (areas : Areas) (t : StoredTransfer) : Type 0 where
  pub slot : t.slot < transfer_limit
  pub contents : t.contents ≡ map (λ part. record { manifest = part.manifest; payload = length part.payload })
      (transfer_meaning read areas t).parts

-- names with their places
abbrev pub cluster_place : Cluster Extent → List ℕ × ℕ
cluster_place c = (c.name, c.content.place)

abbrev pub change_place : Change Extent → List ℕ × ℕ
change_place c = (cluster_of c.part, c.part.payload.place)

abbrev pub places_in : State → List (List ℕ × ℕ)
places_in s =
    map cluster_place s.running
    ++ option_map_or (λ x. map cluster_place x.saved ++ map change_place x.changes) s.session []

-- one name has one place, and different names different ones
abbrev pub names_fit_places : List (List ℕ × ℕ) → Bool
names_fit_places pairs = list_all (λ a. list_all (λ b. beq (bytes_eq a.0 b.0) (a.1 == b.1)) pairs) pairs

-- an Update is on the other side than what was saved, a Remove on the same
abbrev pub takes_side : Action → ℕ → Option (Cluster Extent) → Bool
takes_side Install side saved = true
takes_side Update side saved = option_map_or (λ c. not (c.content.side == side)) saved true
takes_side Remove side saved = option_map_or (λ c. c.content.side == side) saved true

abbrev pub slots_differ : List ℕ → Bool
slots_differ [] = true
slots_differ (slot ∷ slots) = list_all (λ other. not (other == slot)) slots && slots_differ slots

-- a stored state that is in order
pub record IsInOrder (read : Reading) (areas : Areas) (s : State) : Type 0 where
  pub clusters : AllByRecursion (λ c. IsExtent c.content) s.running
  pub session : IfSome s.session (λ x.
      AllByRecursion (λ c. IsExtent c.content) x.saved × AllByRecursion (λ c. IsExtent c.part.payload) x.changes
      × IsTrue (list_all (λ c. takes_side c.part.manifest.action c.part.payload.side
      (cluster_at x.saved (cluster_of c.part))) x.changes))
  pub transfers : AllByRecursion (IsPlaced read areas) s.transfers
  pub slots : IsTrue (slots_differ (map (λ t. t.slot) s.transfers))
  pub places : IsTrue (names_fit_places (places_in s))
  pub running : RunsWhatItShould s

-- a stored state is valid where what it stands for is, and it is in order
abbrev pub IsValidStored : Reading → Areas → State → Type 0
IsValidStored read areas s = IsValid (meaning read areas s) × IsInOrder read areas s
