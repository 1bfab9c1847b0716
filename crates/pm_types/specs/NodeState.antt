-- What a node is, apart from where its bytes lie.
use Rattle.std.specs.Prelude.{ℕ, Bool, true, false, not, ◌||◌, ◌==◌, List, [], ◌∷◌, Option, Some, None, slice_index_or}
use Rattle.ucm_base.specs.Parts.{Bytes}
use Rattle.pm_types.specs.declared.clusters.Cluster.{Cluster}
use Rattle.ucm_base.specs.declared.parts.Part.{Part}
use Rattle.pm_types.specs.declared.clusters.Change.{Change}
use Rattle.pm_types.specs.declared.status.Status.{Status}
use Rattle.pm_types.specs.declared.status.Status.TheVariants.{Idle, Ready, Processing, Activating, Verifying, Activated, RollingBack, RolledBack, CleaningUp}
use Rattle.pm_types.specs.declared.status.Phase.{Phase}
use Rattle.pm_types.specs.declared.status.Phase.TheVariants.{Transferring, Transferred, Processing as BeingProcessed, Processed}
use Rattle.pm_types.specs.declared.status.Outcome.{Outcome}
use Rattle.pm_types.specs.declared.replies.EndMark.{EndMark}
use Rattle.pm_types.specs.declared.transfers.Header.{Header}
use Rattle.pm_types.specs.declared.state.Kept.{Kept}
use Rattle.pm_types.specs.declared.history.Line.{Line}

-- a transfer; `parts` is what its bytes are a package of, from phase Transferred on, and [] before
pub record Transfer : Type 0 where
  pub header : Header
  pub bytes : Bytes
  pub parts : List (Part Bytes)

-- a node's session; `saved` are the clusters that ran at its beginning
pub record SessionOf (C : Type 0) : Type 0 where
  pub owner : ℕ
  pub tag : ℕ
  pub saved : List (Cluster C)
  pub changes : List (Change C)
  pub processing : Option ℕ
  pub units_done : ℕ
  pub verified : ℕ
  pub outcome : Option Outcome

abbrev pub Session : Type 0
Session = SessionOf Bytes

-- a node whose clusters' contents and whose transfers are kept in some way;
-- `last` and `ended` have a place for each client, `lines` are the newest of the history
pub record NodeOf (C T : Type 0) : Type 0 where
  pub status : Status
  pub next_id : ℕ
  pub running : List (Cluster C)
  pub transfers : List T
  pub session : Option (SessionOf C)
  pub last : List (Option Kept)
  pub ended : List (Option EndMark)
  pub entries : ℕ
  pub lines : List Line

-- a node with the bytes themselves
abbrev pub NodeState : Type 0
NodeState = NodeOf Bytes Transfer

-- what a list has for a client
abbrev pub of_client : {X : Type 0} → List (Option X) → ℕ → Option X
of_client xs client = slice_index_or xs client None

-- whether the value is there and passes
abbrev pub some_passes : {X : Type 0} → (X → Bool) → Option X → Bool
some_passes test None = false
some_passes test (Some x) = test x

abbrev pub phase_code : Phase → ℕ
phase_code Transferring = 0
phase_code Transferred = 1
phase_code BeingProcessed = 2
phase_code Processed = 3

abbrev pub is_in : Phase → Header → Bool
is_in phase h = phase_code h.phase == phase_code phase

-- whether a transfer stays where a session ends: it wasn't processed, and isn't in processing
abbrev pub outlasts : Header → Bool
outlasts h = not (is_in BeingProcessed h || is_in Processed h)

abbrev pub status_code : Status → ℕ
status_code Idle = 0
status_code Ready = 1
status_code Processing = 2
status_code Activating = 3
status_code Verifying = 4
status_code Activated = 5
status_code RollingBack = 6
status_code RolledBack = 7
status_code CleaningUp = 8

-- the statuses in the order of their codes
abbrev pub statuses_by_code : List Status
statuses_by_code =
    Idle ∷ Ready ∷ Processing ∷ Activating ∷ Verifying ∷ Activated ∷ RollingBack ∷ RolledBack ∷ CleaningUp ∷ []

-- the status of a code; Idle where no status has it
abbrev pub status_at : ℕ → Status
status_at code = slice_index_or statuses_by_code code Idle

abbrev pub has_status : Status → NodeState → Bool
has_status status s = status_code s.status == status_code status

-- in a working status there is a unit of work to do
abbrev pub is_working : Status → Bool
is_working Processing = true
is_working Activating = true
is_working Verifying = true
is_working RollingBack = true
is_working CleaningUp = true
is_working _ = false
