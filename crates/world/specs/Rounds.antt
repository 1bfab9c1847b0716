-- The rounds as a machine: which call comes next.
use Rattle.ucm_base.specs.Limits.{block_limit}
use Rattle.std.specs.Prelude.{ℕ, suc, ◌+◌, List, [], ◌∷◌, ◌++◌, length, take, drop, Option, Some, None}
use Rattle.pm_types.specs.declared.calls.Call.{Call}
use Rattle.pm_types.specs.declared.replies.Reply.{Reply}
use Rattle.pm_types.specs.declared.calls.Call.TheVariants.{Sync, TransferStart, TransferData, TransferExit, ProcessSwPackage, Activate}
use Rattle.pm_types.specs.declared.replies.Reply.TheVariants.{Done, Started, Synced, Refused}

-- what comes next, over packages as bytes or as lengths. `left` are the packages not yet begun,
-- `ids` the transfers that were given for those that are there
pub data StageOf (B : Type 0) : Type 0 where
  AtSync : StageOf B
  AtStart : (ids : List ℕ) (left : List B) → StageOf B
  AtData : (ids : List ℕ) (id counter : ℕ) (bytes : B) (left : List B) → StageOf B
  AtProcess : (ids : List ℕ) (taken : ℕ) → StageOf B
  AtActivate : StageOf B
  Over : StageOf B
  RefusedOnce : StageOf B

abbrev pub Stage : Type 0
Stage = StageOf (List ℕ)

-- Sync; for each step TransferStart, the blocks of 4,096 bytes and the rest, TransferExit;
-- for each step ProcessSwPackage with the campaign's number; Activate
abbrev pub call_at : ℕ → Stage → Option Call
call_at k AtSync = Some Sync
call_at k (AtStart ids (p ∷ ps)) = Some (TransferStart (length p))
call_at k (AtData ids id counter [] left) = Some (TransferExit id)
call_at k (AtData ids id counter (b ∷ bs) left) = Some (TransferData id counter (take block_limit (b ∷ bs)))
call_at k (AtProcess (id ∷ ids) taken) = Some (ProcessSwPackage id k)
call_at k AtActivate = Some Activate
call_at k _ = None

-- all packages are there, or the next begins
abbrev pub next_package : {B : Type 0} → List ℕ → List B → StageOf B
next_package ids [] = AtProcess ids 0
next_package ids (p ∷ ps) = AtStart ids (p ∷ ps)

abbrev pub next_processed : {B : Type 0} → List ℕ → ℕ → StageOf B
next_processed [] taken = AtActivate
next_processed (id ∷ ids) taken = AtProcess (id ∷ ids) taken

-- the stage after the reply to its call
abbrev pub onward : List (List ℕ) → Stage → Reply → Stage
onward ps stage (Refused why) = RefusedOnce
onward ps AtSync (Synced x) = next_package [] ps
onward ps (AtStart ids (p ∷ left)) (Started id) = AtData ids id 1 p left
onward ps (AtData ids id counter [] left) Done = next_package (ids ++ id ∷ []) left
onward ps (AtData ids id counter (b ∷ bs) left) Done = AtData ids id (counter + 1) (drop block_limit (b ∷ bs)) left
onward ps (AtProcess (id ∷ ids) taken) Done = next_processed ids (suc taken)
onward ps AtActivate Done = Over
onward ps stage _ = stage

-- the stage after some replies, the oldest first
abbrev pub stage_of : List (List ℕ) → Stage → List Reply → Stage
stage_of ps stage [] = stage
stage_of ps stage (r ∷ rs) = stage_of ps (onward ps stage r) rs
