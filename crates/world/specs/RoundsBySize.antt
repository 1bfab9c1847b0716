-- The rounds over lengths: what a driver goes by, which has no bytes.
use Rattle.std.specs.Prelude.{◌≡◌, ℕ, zero, suc, ◌+◌, ◌-◌, ◌*◌, List, [], ◌∷◌, ◌++◌, length, map, take, drop, option_map, slice_index_or, Option, Some, None}
use Rattle.ucm_base.specs.Limits.{block_limit}
use Rattle.pm_types.specs.declared.calls.Call.{Call}
use Rattle.pm_types.specs.declared.calls.Call.TheVariants.{Sync, TransferStart, TransferData, TransferExit, ProcessSwPackage, Activate}
use Rattle.pm_types.specs.declared.replies.Reply.{Reply}
use Rattle.pm_types.specs.declared.replies.Reply.TheVariants.{Done, Started, Synced, Refused}
use Rattle.world.specs.Rounds.{Stage, StageOf, AtSync, AtStart, AtData, AtProcess, AtActivate, Over, RefusedOnce}
use Rattle.world.specs.Rounds.{call_at, next_package, next_processed, stage_of}

-- a stage with lengths in place of bytes
abbrev pub sized : Stage → StageOf ℕ
sized AtSync = AtSync
sized (AtStart ids left) = AtStart ids (map length left)
sized (AtData ids id counter bytes left) = AtData ids id counter (length bytes) (map length left)
sized (AtProcess ids taken) = AtProcess ids taken
sized AtActivate = AtActivate
sized Over = Over
sized RefusedOnce = RefusedOnce

-- the stage after the reply to its call, over lengths
abbrev pub onward_by_size : List ℕ → StageOf ℕ → Reply → StageOf ℕ
onward_by_size sizes stage (Refused why) = RefusedOnce
onward_by_size sizes AtSync (Synced x) = next_package [] sizes
onward_by_size sizes (AtStart ids (size ∷ left)) (Started id) = AtData ids id 1 size left
onward_by_size sizes (AtData ids id counter zero left) Done = next_package (ids ++ id ∷ []) left
onward_by_size sizes (AtData ids id counter (suc n) left) Done = AtData ids id (counter + 1) (suc n - block_limit) left
onward_by_size sizes (AtProcess (id ∷ ids) taken) Done = next_processed ids (suc taken)
onward_by_size sizes AtActivate Done = Over
onward_by_size sizes stage _ = stage

abbrev pub stage_by_size : List ℕ → StageOf ℕ → List Reply → StageOf ℕ
stage_by_size sizes stage [] = stage
stage_by_size sizes stage (r ∷ rs) = stage_by_size sizes (onward_by_size sizes stage r) rs

-- a call of the rounds, with a package's place and a block's counter in place of bytes
pub data RoundStep : Type 0 where
  ToSync : RoundStep
  ToStart : (place : ℕ) → RoundStep
  ToSend : (place id counter : ℕ) → RoundStep
  ToExit : (id : ℕ) → RoundStep
  ToProcess : (id : ℕ) → RoundStep
  ToActivate : RoundStep

-- the package that comes next has as its place the number of transfers that are there
abbrev pub step_at : StageOf ℕ → Option RoundStep
step_at AtSync = Some ToSync
step_at (AtStart ids (size ∷ left)) = Some (ToStart (length ids))
step_at (AtData ids id counter zero left) = Some (ToExit id)
step_at (AtData ids id counter (suc n) left) = Some (ToSend (length ids) id counter)
step_at (AtProcess (id ∷ ids) taken) = Some (ToProcess id)
step_at AtActivate = Some ToActivate
step_at _ = None

-- the block of this counter, from 1 on
abbrev pub block_of : ℕ → List ℕ → List ℕ
block_of counter bytes = take block_limit (drop (block_limit * (counter - 1)) bytes)

-- the call of a step, for the packages of campaign k
abbrev pub call_of : ℕ → List (List ℕ) → RoundStep → Call
call_of k packages ToSync = Sync
call_of k packages (ToStart place) = TransferStart (length (slice_index_or packages place []))
call_of k packages (ToSend place id counter) =
    TransferData id counter (block_of counter (slice_index_or packages place []))
call_of k packages (ToExit id) = TransferExit id
call_of k packages (ToProcess id) = ProcessSwPackage id k
call_of k packages ToActivate = Activate

-- over lengths the stages go on as over bytes, and ask for the same calls
pub record GoesBySize : Type 0 where
  pub stages : (packages : List (List ℕ)) (replies : List Reply)
      → sized (stage_of packages AtSync replies) ≡ stage_by_size (map length packages) AtSync replies
  pub calls : (k : ℕ) (packages : List (List ℕ)) (replies : List Reply)
      → call_at k (stage_of packages AtSync replies)
      ≡ option_map (call_of k packages) (step_at (stage_by_size (map length packages) AtSync replies))
