-- What making ready for a call or a unit does to a staging.
use Rattle.std.specs.Prelude.{◌≡◌, ◌≢◌, ℕ, ◌+◌, ◌<◌, ◌≤◌, ⊤, List, [], ◌∷◌, length, slice_range, IsSomeAnd, None, Ok, Err}
use Rattle.std.specs.List.{AllByRecursion}
use Rattle.ucm_base.specs.Limits.{package_limit}
use Rattle.ucm_base.specs.Parts.{Bytes}
use Rattle.pm_types.specs.declared.calls.Call.{Call}
use Rattle.pm_types.specs.declared.calls.Call.TheVariants.{TransferData}
use Rattle.pm_types.specs.declared.status.Status.TheVariants.{Processing}
use Rattle.ucm_base.specs.declared.ids.CallNo.{CallNo}
use Rattle.pm_types.specs.declared.clusters.Extent.{Extent}
use Rattle.pm_types.specs.declared.state.StoredTransfer.{StoredTransfer}
use Rattle.pm_types.specs.NodeState.{NodeState, SessionOf, of_client}
use Rattle.pm_types.specs.Refusals.{first_refusal}
use Rattle.pm_types.specs.Steps.{repeat_of}
use Rattle.pm_types.specs.Transfers.{data_refusals}
use Rattle.package_reader.specs.Layout.{parts_place}
use Rattle.transfer_blocks.specs.declared.fault.StagingError.TheVariants.{Failed}
use Rattle.pm_types.specs.Stored.{Areas, State, meaning}
use Rattle.transfer_blocks.specs.declared.area.Area.{Area}
use Rattle.transfer_blocks.specs.declared.area.Area.TheVariants.{Transfer}
use Rattle.transfer_blocks.specs.Areas.{AreasFit, IsArea, LeavesOutside, content_of}
use Rattle.transfer_blocks.specs.Steps.{Step, puts, gets, End, Ran, IsDone, HasNoFault, with_bytes, wrote}
use Rattle.transfer_blocks.specs.Table.{found_of, stored_header, stored_of}
use Rattle.node_core.specs.Core.{StandsFor}
use Rattle.node_core.specs.Packages.{package_reading}
use Rattle.node_core.specs.Places.{extents_in}
use Rattle.node_core.specs.Units.{piece_of, side_of}

-- the call puts bytes where the state names none: whatever comes to lie in its range, areas that stood for this node do
abbrev pub Spares : State → NodeState → Step → Type 0
Spares s node (puts area at bytes end) =
    IsArea area × (at + length bytes ≤ package_limit)
    × ((held torn : Areas) → AreasFit held → StandsFor held s node → LeavesOutside area at (length bytes) held torn
    → StandsFor torn s node)
Spares s node (gets end) = ⊤

-- what a newer call brings: a block that the table accepts goes behind the bytes that came for its transfer, and
-- nothing else goes anywhere
abbrev pub BringsNew : State → ℕ → Call → Step → Type 0
BringsNew s client call (gets end) = ⊤
BringsNew s client (TransferData id counter block) (puts area at bytes end) =
    (first_refusal (data_refusals (stored_header s.transfers client id) counter (length block)) ≡ None)
    × IsSomeAnd (found_of s.transfers client id) (λ f.
    (area ≡ Transfer f.slot) × (at ≡ f.header.received) × (bytes ≡ block))
BringsNew s client call (puts area at bytes end) = ⊥

-- a call that isn't newer than the client's last one puts nothing
abbrev pub Brings : State → ℕ → CallNo → Call → Step → Type 0
Brings s client call_no call (gets end) = ⊤
Brings s client call_no call (puts area at bytes end) =
    (repeat_of call_no (of_client s.last client) ≡ None) × BringsNew s client call (puts area at bytes end)

-- the bytes are the next piece of a package behind the units done, of some bytes, and go where that does
abbrev pub IsNextPiece : Areas → State → SessionOf Extent → StoredTransfer → Area → ℕ → Bytes → Type 0
IsNextPiece areas s x t area at bytes =
    let content = content_of (Transfer t.slot) areas in
    let extents = extents_in s t in
    IsSomeAnd (piece_of content (parts_place (length extents)) x.units_done extents) (λ p. (area ≡ side_of p.to)
    × (at ≡ p.at) × (bytes ≡ slice_range content p.from (p.from + p.len)) × (0 < p.len))

-- what a unit brings: where it processes a package the next piece of it, and nothing else goes anywhere
abbrev pub Copies : Areas → State → Step → Type 0
Copies areas s (gets end) = ⊤
Copies areas s (puts area at bytes end) = (s.status ≡ Processing) × IsSomeAnd s.session (λ x.
    IsSomeAnd x.processing (λ id.
    IsSomeAnd (stored_of s.transfers x.owner id) (λ t. IsNextPiece areas s x t area at bytes)))

-- the calls that put
abbrev pub puts_of : List Step → List Step
puts_of [] = []
puts_of (puts area at bytes end ∷ steps) = puts area at bytes end ∷ puts_of steps
puts_of (gets end ∷ steps) = puts_of steps

-- Calls of the staging were made, each as the staging says of it, at most one of which puts. They bring what they
-- should and spare what the state names, so that the areas stand for the node as before. Where this ended with no fault
-- no call met one. At Ok each call succeeded, and areas that went through them have all that the event needs, whatever
-- they held beside what the state names: so this holds of each image of a device.
pub record Reserves {S : Type 0} (obeys : S → Step → S → Type 0) (areas : S → Areas) (s : State)
    (Bring : Step → Type 0) (IsReadied : Areas → Type 0) (end : End) (old new : S) : Type 0 where
  pub steps : List Step
  pub ran : Ran obeys steps old new
  pub once : length (puts_of steps) ≤ 1
  pub brings : AllByRecursion Bring steps
  pub spares : AllByRecursion (Spares s (meaning package_reading (areas old) s)) steps
  pub stands : StandsFor (areas new) s (meaning package_reading (areas old) s)
  pub done : end ≡ Ok tt → AllByRecursion IsDone steps
  pub faultless : end ≢ Err Failed → AllByRecursion HasNoFault steps
  pub moved : end ≡ Ok tt → areas new ≡ wrote steps (areas old)
  pub holds : end ≡ Ok tt → (held : Areas) → AreasFit held → StandsFor held s (meaning package_reading (areas old) s)
      → StandsFor (wrote steps held) s (meaning package_reading (areas old) s) × IsReadied (wrote steps held)

-- the call reads
abbrev pub IsRead : Step → Type 0
IsRead (puts area at bytes end) = ⊥
IsRead (gets end) = ⊤

-- the call reads, or puts these bytes at this place
abbrev pub IsPut : Area → ℕ → Bytes → Step → Type 0
IsPut area at bytes (puts other place other_bytes end) = (other ≡ area) × (place ≡ at) × (other_bytes ≡ bytes)
IsPut area at bytes (gets end) = ⊤

-- calls of the staging were made that only read; each ended as this did, or succeeded
pub record Reads {S : Type 0} (obeys : S → Step → S → Type 0) (end : End) (old new : S) : Type 0 where
  pub steps : List Step
  pub ran : Ran obeys steps old new
  pub reads : AllByRecursion IsRead steps
  pub done : end ≡ Ok tt → AllByRecursion IsDone steps
  pub faultless : end ≢ Err Failed → AllByRecursion HasNoFault steps

-- and beside them at most one that puts these bytes here; where all went well it did
pub record Writes {S : Type 0} (obeys : S → Step → S → Type 0) (area : Area) (at : ℕ) (bytes : Bytes) (end : End)
    (old new : S) : Type 0 where
  pub steps : List Step
  pub ran : Ran obeys steps old new
  pub once : length (puts_of steps) ≤ 1
  pub only : AllByRecursion (IsPut area at bytes) steps
  pub done : end ≡ Ok tt → AllByRecursion IsDone steps
  pub faultless : end ≢ Err Failed → AllByRecursion HasNoFault steps
  pub put : end ≡ Ok tt → (held : Areas) → wrote steps held ≡ with_bytes area at bytes held
