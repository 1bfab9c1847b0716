-- Transfers as they are stored, and what each call makes of them.
use Rattle.std.specs.Prelude.{◌≡◌, ℕ, ◌+◌, ◌<◌, ◌≤◌, Bool, not, ◌==◌, IsTrue, if◌then◌else◌, List, [], ◌∷◌, ◌++◌, length, map, filter, find, Option, Some, None, option_map, slice_index_or, unwrap_or}
use Rattle.std.specs.List.{list_all, range_with_len, AllByRecursion}
use Rattle.ucm_base.specs.Limits.{transfer_limit, package_limit}
use Rattle.ucm_base.specs.declared.parts.Part.{Part}
use Rattle.pm_types.specs.declared.replies.Refusal.{Refusal}
use Rattle.pm_types.specs.declared.replies.Reply.{Reply}
use Rattle.pm_types.specs.declared.replies.Reply.TheVariants.{Refused}
use Rattle.pm_types.specs.declared.state.StoredTransfer.{StoredTransfer}
use Rattle.pm_types.specs.declared.state.Transfers.{Transfers as Table}
use Rattle.pm_types.specs.declared.status.Phase.{Phase}
use Rattle.pm_types.specs.declared.status.Phase.TheVariants.{Transferred}
use Rattle.pm_types.specs.declared.transfers.ExitVerdict.{ExitVerdict}
use Rattle.pm_types.specs.declared.transfers.ExitVerdict.TheVariants.{Good, Bad}
use Rattle.pm_types.specs.declared.transfers.Header.{Header}
use Rattle.pm_types.specs.NodeState.{outlasts}
use Rattle.pm_types.specs.Stored.{slots_differ}
use Rattle.pm_types.specs.Transfers.{Keeping, is_of, fresh, grown, in_phase}
use Rattle.transfer_blocks.specs.declared.found.Found.{Found}
use Rattle.transfer_blocks.specs.declared.lookup.Placed.{Placed}

-- the client's transfer of this id
abbrev pub stored_of : List StoredTransfer → ℕ → ℕ → Option StoredTransfer
stored_of transfers client id = find (λ t. is_of client id t.header) transfers

abbrev pub stored_header : List StoredTransfer → ℕ → ℕ → Option Header
stored_header transfers client id = option_map (λ t. t.header) (stored_of transfers client id)

-- its header, and its slot
abbrev pub found_of : List StoredTransfer → ℕ → ℕ → Option Found
found_of transfers client id =
    option_map (λ t. record { header = t.header; slot = t.slot }) (stored_of transfers client id)

-- the first transfer whose header passes, at its place
pub record IsAt (transfers : List StoredTransfer) (test : Header → Bool) (at : Placed) : Type 0 where
  pub transfer : StoredTransfer
  pub found : find (λ t. test t.header) transfers ≡ Some transfer
  pub here : transfer ≡ slice_index_or transfers at.place transfer
  pub lies : at.place < length transfers
  pub header : transfer.header ≡ at.header
  pub passes : IsTrue (test at.header)

-- the ids of the client's transfers
abbrev pub stored_ids : List StoredTransfer → ℕ → List ℕ
stored_ids transfers client = map (λ t. t.header.id) (filter (λ t. t.header.client == client) transfers)

abbrev pub slots_of : List StoredTransfer → List ℕ
slots_of transfers = map (λ t. t.slot) transfers

-- whether none of the slots is this one
abbrev pub is_free : List ℕ → ℕ → Bool
is_free slots slot = list_all (λ other. not (other == slot)) slots

-- the lowest of so many slots that is free
abbrev pub lowest_free : ℕ → List ℕ → ℕ
lowest_free limit slots = unwrap_or (find (is_free slots) (range_with_len 0 limit)) 0

-- transfers without their bytes: one that begins has the lowest free slot, and one that is whole brings these parts
abbrev pub with_slots : List StoredTransfer → List (Part ℕ) → Keeping StoredTransfer
with_slots transfers parts = record {
  header = λ t. t.header;
  headed = λ h t. record t { header = h };
  begun = λ h. record { header = h; slot = lowest_free transfer_limit (slots_of transfers); contents = [] };
  longer = λ bytes t. record t { header = grown (length bytes) t.header };
  whole = λ t. record t { header = in_phase Transferred t.header; contents = parts };
}

-- the refusal of what isn't a package, and the parts of what is one
abbrev pub bad_refusal : ExitVerdict → Option Refusal
bad_refusal (Good contents) = None
bad_refusal (Bad refusal) = Some refusal

abbrev pub good_parts : ExitVerdict → List (Part ℕ)
good_parts (Good contents) = contents
good_parts (Bad refusal) = []

-- one transfer more, in the lowest free slot
abbrev pub with_fresh : ℕ → ℕ → Table → Table
with_fresh client size s = record {
  next_id = s.next_id + 1;
  list = s.list ++ record {
    header = fresh s.next_id client size;
    slot = lowest_free transfer_limit (slots_of s.list);
    contents = [];
  } ∷ [];
}

-- the transfer of this id changed
abbrev pub with_stored : ℕ → (StoredTransfer → StoredTransfer) → Table → Table
with_stored id change s = record s { list = map (λ t. if t.header.id == id then change t else t) s.list }

-- after a block of this length, and after an exit
abbrev pub received : ℕ → StoredTransfer → StoredTransfer
received size t = record t { header = grown size t.header }

abbrev pub whole : List (Part ℕ) → StoredTransfer → StoredTransfer
whole parts t = record t { header = in_phase Transferred t.header; contents = parts }

-- in another phase
abbrev pub moved : Phase → StoredTransfer → StoredTransfer
moved phase t = record t { header = in_phase phase t.header }

-- the transfer of this id gone
abbrev pub without : ℕ → Table → Table
without id s = record s { list = filter (λ t. not (t.header.id == id)) s.list }

-- the transfers that a session leaves
abbrev pub cleaned : Table → Table
cleaned s = record s { list = filter (λ t. outlasts t.header) s.list }

-- a refusal leaves the table
abbrev pub unless_refused : Reply → Table → Table → Table
unless_refused (Refused refusal) old new = old
unless_refused _ old new = new

-- a transfer's counts and its slot lie in their bounds
pub record IsBounded (next_id : ℕ) (t : StoredTransfer) : Type 0 where
  pub id : t.header.id < next_id
  pub received : t.header.received ≤ t.header.size
  pub size : t.header.size ≤ package_limit
  pub counter : t.header.next_counter ≤ t.header.received + 1
  pub slot : t.slot < transfer_limit

-- at most eight transfers, with different ids and different slots
pub record IsTable (s : Table) : Type 0 where
  pub few : length s.list ≤ transfer_limit
  pub each : AllByRecursion (IsBounded s.next_id) s.list
  pub ids : IsTrue (slots_differ (map (λ t. t.header.id) s.list))
  pub slots : IsTrue (slots_differ (slots_of s.list))
