-- The calls of all rounds as one list.
use Rattle.campaign_core.specs.declared.events.Phase.{Phase}
use Rattle.ucm_base.specs.Limits.{block_limit}
use Rattle.pm_types.specs.declared.calls.Call.TheVariants.{Sync, TransferStart, TransferData, TransferExit, ProcessSwPackage, Activate}
use Rattle.pm_types.specs.declared.calls.Call.{Call}
use Rattle.pm_types.specs.declared.replies.Reply.TheVariants.{Done, Started, Synced, Refused}
use Rattle.pm_types.specs.declared.replies.Reply.{Reply}
use Rattle.std.specs.Prelude.{◌≡◌, ◌≢◌, ℕ, zero, suc, ◌+◌, List, [], ◌∷◌, ◌++◌, length, take, drop, Option, Some, None, slice_get, slice_index_or, Bool, true, false, nat_le}
use Rattle.world.specs.Rounds.{Stage, AtSync, AtStart, AtData, AtProcess, AtActivate, onward, call_at, stage_of, StageOf, Over, RefusedOnce}

-- the blocks of 4,096 bytes and the rest, from this counter on; the first argument bounds their number
abbrev pub blocks_from : ℕ → ℕ → ℕ → List ℕ → List Call
blocks_from zero id counter bytes = []
blocks_from (suc left) id counter [] = []
blocks_from (suc left) id counter (b ∷ bs) =
    TransferData id counter (take block_limit (b ∷ bs)) ∷ blocks_from left id (counter + 1) (drop block_limit (b ∷ bs))

abbrev pub transfer_calls : ℕ → List ℕ → List Call
transfer_calls id bytes = TransferStart (length bytes) ∷ blocks_from (length bytes) id 1 bytes ++ TransferExit id ∷ []

-- all transfers, then all packages processed, with the ids in order
abbrev pub all_transfers : List ℕ → List (List ℕ) → List Call
all_transfers ids [] = []
all_transfers ids (p ∷ ps) = transfer_calls (slice_index_or ids 0 0) p ++ all_transfers (drop 1 ids) ps

abbrev pub all_processed : ℕ → List ℕ → List (List ℕ) → List Call
all_processed k ids [] = []
all_processed k ids (p ∷ ps) = ProcessSwPackage (slice_index_or ids 0 0) k ∷ all_processed k (drop 1 ids) ps

-- the calls of the round of a phase, and of the round before the first, for the packages of campaign k, where the
-- replies gave these ids
abbrev pub calls_of_round : Option Phase → ℕ → List ℕ → List (List ℕ) → List Call
calls_of_round None k ids ps = Sync ∷ []
calls_of_round (Some Phase.Transferring) k ids ps = all_transfers ids ps
calls_of_round (Some Phase.Processing) k ids ps = all_processed k ids ps
calls_of_round (Some Phase.Activating) k ids ps = Activate ∷ []

-- the calls of all rounds
abbrev pub round_calls : ℕ → List ℕ → List (List ℕ) → List Call
round_calls k ids ps =
    calls_of_round None k ids ps
    ++ calls_of_round (Some Phase.Transferring) k ids ps
    ++ calls_of_round (Some Phase.Processing) k ids ps
    ++ calls_of_round (Some Phase.Activating) k ids ps

abbrev pub ids_of : List Reply → List ℕ
ids_of [] = []
ids_of (Done ∷ rs) = ids_of rs
ids_of (Started id ∷ rs) = id ∷ ids_of rs
ids_of (Synced _ ∷ rs) = ids_of rs
ids_of (Refused _ ∷ rs) = ids_of rs

-- the reply is of the kind that an accepted call of this stage has
abbrev pub Fits : Stage → Reply → Type 0
Fits AtSync (Synced x) = Unit {0}
Fits (AtStart ids (p ∷ left)) (Started id) = Unit {0}
Fits (AtData ids id counter bytes left) Done = Unit {0}
Fits (AtProcess (id ∷ ids) taken) Done = Unit {0}
Fits AtActivate Done = Unit {0}
Fits _ _ = ⊥

abbrev pub AllFit : List (List ℕ) → Stage → List Reply → Type 0
AllFit ps stage [] = Unit {0}
AllFit ps stage (r ∷ rs) = Fits stage r × AllFit ps (onward ps stage r) rs

-- one by one, the stages ask for the calls of that list
abbrev pub RoundsInOrder : Type 0
RoundsInOrder =
    (k : ℕ) (packages : List (List ℕ)) → packages ≢ []
    → (replies : List Reply) → AllFit packages AtSync replies
    → call_at k (stage_of packages AtSync replies)
    ≡ slice_get (round_calls k (ids_of replies) packages) (length replies)

-- the calls of the rounds up to that of this phase
abbrev pub calls_until : Option Phase → ℕ → List ℕ → List (List ℕ) → List Call
calls_until None k ids ps = calls_of_round None k ids ps
calls_until (Some Phase.Transferring) k ids ps =
    calls_of_round None k ids ps ++ calls_of_round (Some Phase.Transferring) k ids ps
calls_until (Some Phase.Processing) k ids ps =
    calls_of_round None k ids ps
    ++ calls_of_round (Some Phase.Transferring) k ids ps
    ++ calls_of_round (Some Phase.Processing) k ids ps
calls_until (Some Phase.Activating) k ids ps = round_calls k ids ps

-- whether the stage comes after the round of this phase
abbrev pub is_past : {B : Type 0} → Option Phase → StageOf B → Bool
is_past round Over = true
is_past round RefusedOnce = false
is_past round AtSync = false
is_past None stage = true
is_past (Some Phase.Transferring) (AtProcess ids taken) = true
is_past (Some Phase.Transferring) AtActivate = true
is_past (Some Phase.Processing) AtActivate = true
is_past round stage = false

-- a stage comes after a round exactly where each call of this round and those before it is answered
abbrev pub RoundsEnd : Type 0
RoundsEnd =
    (k : ℕ) (packages : List (List ℕ)) → packages ≢ []
    → (replies : List Reply) → AllFit packages AtSync replies
    → (round : Option Phase)
    → is_past round (stage_of packages AtSync replies)
    ≡ nat_le (length (calls_until round k (ids_of replies) packages)) (length replies)
