-- What a node whose other clients are calm is at each stage of the rounds, beyond what the rounds alone say.
use Rattle.std.specs.List.{AllByRecursion}
use Rattle.world.proofs.Names.{◌≡◌, ◌⊎◌, ℕ, suc, ◌+◌, ◌<◌, Bool, true, false, List, [], ◌∷◌, length, option_map_or}
use Rattle.world.proofs.Names.{◌==◌, arith}
use Rattle.world.proofs.Names.{Bytes, Cluster, Header, Transferring, Transferred, Activating, Verifying, Activated}
use Rattle.world.proofs.Names.{NodeState, Stage, AtSync, AtStart, AtData, AtProcess, Over}
use Rattle.run_claim.proofs.Idle.{AllMine, NoOther, Leaves}

-- ids that count up from a number
abbrev pub CountsFrom : ℕ → List ℕ → Type 0
CountsFrom n [] = Unit {0}
CountsFrom n (id ∷ ids) = (id ≡ n) × CountsFrom (suc n) ids

-- the clusters that the session saved, or without a session those that run
abbrev pub saved_or_running : NodeState → List (Cluster Bytes)
saved_or_running s = option_map_or (λ x. x.saved) s.session s.running

-- a transfer that has its next block under this counter, and so many bytes to come
pub record IsSent (next left : ℕ) (h : Header) : Type 0 where
  pub phase : h.phase ≡ Transferring
  pub counter : h.next_counter ≡ next
  pub size : h.size ≡ h.received + left

-- the transfer that is being sent, or one that is whole
abbrev pub SentOrWhole : Bool → ℕ → ℕ → Header → Type 0
SentOrWhole true counter left h = IsSent counter left h
SentOrWhole false counter left h = h.phase ≡ Transferred

-- these transfers are there, all whole
pub record AllWhole (s : NodeState) (ids : List ℕ) : Type 0 where
  pub counts : CountsFrom 1 ids
  pub next : s.next_id ≡ suc (length ids)
  pub many : length s.transfers ≡ length ids
  pub each : AllByRecursion (λ t. t.header.phase ≡ Transferred) s.transfers

-- these are there, and the next is being sent
pub record OneComes (s : NodeState) (ids : List ℕ) (id counter left : ℕ) : Type 0 where
  pub counts : CountsFrom 1 ids
  pub newest : id ≡ suc (length ids)
  pub next : s.next_id ≡ suc id
  pub many : length s.transfers ≡ suc (length ids)
  pub each : AllByRecursion (λ t. SentOrWhole (t.header.id == id) counter left t.header) s.transfers

-- so many were taken into processing, and all after them are whole
pub record RestIsWhole (s : NodeState) (ids : List ℕ) (taken : ℕ) : Type 0 where
  pub counts : CountsFrom (suc taken) ids
  pub each : AllByRecursion (λ t. taken < t.header.id → t.header.phase ≡ Transferred) s.transfers

-- what holds at each stage
abbrev pub IsCalmBy : NodeState → Stage → Type 0
IsCalmBy s AtSync = AllWhole s []
IsCalmBy s (AtStart ids left) = AllWhole s ids
IsCalmBy s (AtData ids id counter bytes left) = OneComes s ids id counter (length bytes)
IsCalmBy s (AtProcess ids taken) = RestIsWhole s ids taken
IsCalmBy s Over = (s.status ≡ Activating) ⊎ ((s.status ≡ Verifying) ⊎ (s.status ≡ Activated))
IsCalmBy s _ = Unit {0}

-- and always: the transfers and the session are client 0's, and the session began with these clusters
pub record IsCalm (clusters : List (Cluster Bytes)) (s : NodeState) (stage : Stage) : Type 0 where
  pub mine : AllMine s.transfers
  pub own : NoOther s.session
  pub saved : saved_or_running s ≡ clusters
  pub by : IsCalmBy s stage

-- what leaves all this leaves the node calm
by-leaves : (s t : NodeState) (stage : Stage) → Leaves s t → IsCalmBy s stage → IsCalmBy t stage
by-leaves s t stage l h = grind arith

pub calm-leaves : (clusters : List (Cluster Bytes)) (s t : NodeState) (stage : Stage)
    → Leaves s t → IsCalm clusters s stage → IsCalm clusters t stage
calm-leaves clusters s t stage l h = grind (arith, by-leaves)
