-- What the law needs of a node: its observations, its three kinds of step, and the laws of them.
use Rattle.world.proofs.Names.{IsIn}
use Rattle.world.proofs.Names.{is_working, Sync, TransferStart, TransferData, TransferExit, DeleteTransfer}
use Rattle.world.proofs.Names.{ProcessSwPackage, Activate, Finish, Rollback, Revert, Cancel, Call, EndMark, Stale}
use Rattle.world.proofs.Names.{Again, Fresh, Reached, Refusal, Done, Started, Synced, Refused, Reply, SessionMark}
use Rattle.world.proofs.Names.{Shown, New, Old, Outcome, Idle, Ready, Activated, RolledBack, Processing, Activating}
use Rattle.world.proofs.Names.{Verifying, RollingBack, CleaningUp, Status, ◌≡◌, ◌≢◌, ◌⊎◌, ℕ, List, [], ◌∷◌, ◌++◌}
use Rattle.world.proofs.Names.{Option, Some, None, Bool, false, if◌then◌else◌, CallNo, no_lt, no_eq, is_status}
use Rattle.world.proofs.Names.{after_event, refusal_of, nothing_yet, Start, Begin, VoteOf, EndedAt, MasterEvent, Fold}
use Rattle.world.proofs.Names.{◌+◌, ◌<◌, length, nat_eq, Message, Told, slice_get, answer_of, Showed, Packages}
use Rattle.world.proofs.Names.{next_number, MaySend, campaign_of, decided_of, empties, VoteEvidence, EndEvidence}
use Rattle.world.proofs.Names.{NamesOf, InCurrent, ◌≤◌, ◌&&◌, ◌||◌, CampaignResult, Successful, has_tag, is_done}
use Rattle.std.specs.Prelude.{Contains, flat_map}

-- a node, by what the master's side of it can be seen to be
pub record NodeRules : Type 1 where
  pub State : Type 0
  pub ForeignCall : Type 0
  pub Change : Type 0
  pub formatted : State
  pub last : State → CallNo
  pub kept : State → Reply
  pub status : State → Status
  pub mine : State → Option ℕ
  pub owner : State → ℕ
  pub planned : State → List Change
  pub in_process : State → Option ℕ
  pub outcome : State → Option Outcome
  pub ended : State → Option EndMark
  pub transfers : State → List ℕ
  pub received : State → ℕ → List ℕ
  -- the changes that a package of these bytes makes
  pub changes_of : List ℕ → List Change
  pub judge : State → Call → State × Reply
  pub keep : State → CallNo → Call → Reply → State
  pub foreign : State → ForeignCall → State
  pub unit : State → Bool → State
  pub Brings : List Change → State → State → Type 0
  pub Leaves : State → State → Type 0

-- one numbered call of client 0: Stale, Again, or judged and kept
abbrev pub reached : (N : NodeRules) → N.State → CallNo → Call → Reached
reached N s at call =
    if no_lt at (N.last s) then Stale (N.last s) else
    (if no_eq at (N.last s) then Again (N.kept s) else Fresh (N.judge s call).1)

abbrev pub delivered : (N : NodeRules) → N.State → CallNo → Call → N.State
delivered N s at call =
    if no_lt at (N.last s) then s else
    (if no_eq at (N.last s) then s else N.keep (N.judge s call).0 at call (N.judge s call).1)

-- what stays with client 0's session
pub record KeepsSession (N : NodeRules) (s t : N.State) : Type 0 where
  pub mine : N.mine t ≡ N.mine s
  pub status : N.status t ≡ N.status s
  pub planned : N.planned t ≡ N.planned s
  pub in_process : N.in_process t ≡ N.in_process s
  pub outcome : N.outcome t ≡ N.outcome s

-- what stays of client 0's transfers
pub record KeepsTransfers (N : NodeRules) (s t : N.State) : Type 0 where
  pub transfers : N.transfers t ≡ N.transfers s
  pub received : (id : ℕ) → N.received t id ≡ N.received s id

abbrev pub shown_of : ℕ → Status → Option ℕ → Option SessionMark
shown_of owner status None =
    if is_status status Idle then None else Some (record { owner = owner; tag = 0; status = status })
shown_of owner status (Some tag) = Some (record { owner = 0; tag = tag; status = status })

abbrev pub shown_session : (N : NodeRules) → N.State → Option SessionMark
shown_session N s = shown_of (N.owner s) (N.status s) (N.mine s)

-- where client 0 may be accepted with a call that changes a session, and the status after it
pub record Moves (N : NodeRules) (call : Call) (from to : Status) (outcome : Option Outcome) : Type 0 where
  pub only : (s : N.State) (tag : ℕ) → N.mine s ≡ Some tag → (N.judge s call).1 ≡ Done → N.status s ≡ from
      → (N.mine (N.judge s call).0 ≡ Some tag) × (N.status (N.judge s call).0 ≡ to)
      × (N.planned (N.judge s call).0 ≡ N.planned s) × (N.outcome (N.judge s call).0 ≡ outcome)

-- one unit in client 0's session goes from this status to this status,
-- with the planned changes and the tag as they were
abbrev pub UnitGoes : (N : NodeRules) → Status → (Status → Type 0) → Type 0
UnitGoes N from To =
    (s : N.State) (passed : Bool) (tag : ℕ) → N.mine s ≡ Some tag → N.status s ≡ from
    → (N.mine (N.unit s passed) ≡ Some tag) × To (N.status (N.unit s passed))
    × (N.planned (N.unit s passed) ≡ N.planned s) × (N.ended (N.unit s passed) ≡ N.ended s)

-- the laws. Each stands for a sentence of the node's tables
pub record NodeLaws (N : NodeRules) : Type 0 where
  -- a formatted node: nothing was called and there is no session
  pub formatted_mine : N.mine N.formatted ≡ None
  pub formatted_transfers : N.transfers N.formatted ≡ []
  pub formatted_last : N.last N.formatted ≡ record { epoch = 0; number = 0 }
  -- keeping changes the last number and the kept reply, and nothing else
  pub keep_last : (s : N.State) (at : CallNo) (call : Call) (r : Reply) → N.last (N.keep s at call r) ≡ at
  pub keep_kept : (s : N.State) (at : CallNo) (call : Call) (r : Reply) → N.kept (N.keep s at call r) ≡ r
  pub keep_session : (s : N.State) (at : CallNo) (call : Call) (r : Reply) → KeepsSession N s (N.keep s at call r)
  pub keep_transfers : (s : N.State) (at : CallNo) (call : Call) (r : Reply) → KeepsTransfers N s (N.keep s at call r)
  pub keep_ended : (s : N.State) (at : CallNo) (call : Call) (r : Reply) → N.ended (N.keep s at call r) ≡ N.ended s
  -- no call of client 0 ends a session, so none changes its last ended session
  pub judge_ended : (s : N.State) (call : Call) → N.ended (N.judge s call).0 ≡ N.ended s
  -- a refusal leaves the state
  pub refused : (s : N.State) (call : Call) (why : Refusal) → (N.judge s call).1 ≡ Refused why → (N.judge s call).0 ≡ s
  -- a Sync shows the session, how client 0's last one ended and its transfers, and leaves the state
  pub sync_state : (s : N.State) → (N.judge s Sync).0 ≡ s
  pub sync_reply : (s : N.State)
      → (N.judge s Sync).1
      ≡ Synced (record { session = shown_session N s; ended = N.ended s; transfers = N.transfers s })
  -- the four calls on transfers leave the session
  pub start_session : (s : N.State) (size : ℕ) → KeepsSession N s (N.judge s (TransferStart size)).0
  pub data_session : (s : N.State) (id counter : ℕ) (bytes : List ℕ)
      → KeepsSession N s (N.judge s (TransferData id counter bytes)).0
  pub exit_session : (s : N.State) (id : ℕ) → KeepsSession N s (N.judge s (TransferExit id)).0
  pub delete_session : (s : N.State) (id : ℕ) → KeepsSession N s (N.judge s (DeleteTransfer id)).0
  -- a transfer begins empty, a block goes behind what came, and the other transfers stay
  pub start_received : (s : N.State) (size id : ℕ) → (N.judge s (TransferStart size)).1 ≡ Started id
      → (N.received (N.judge s (TransferStart size)).0 id ≡ [])
      × ((other : ℕ) → other ≢ id → N.received (N.judge s (TransferStart size)).0 other ≡ N.received s other)
  pub data_received : (s : N.State) (id counter : ℕ) (bytes : List ℕ)
      → (N.judge s (TransferData id counter bytes)).1 ≡ Done
      → (N.received (N.judge s (TransferData id counter bytes)).0 id ≡ N.received s id ++ bytes)
      × ((other : ℕ) → other ≢ id → N.received (N.judge s (TransferData id counter bytes)).0 other ≡ N.received s other)
  -- each is refused or accepted
  pub start_replies : (s : N.State) (size : ℕ)
      → ((id : ℕ) × ((N.judge s (TransferStart size)).1 ≡ Started id))
      ⊎ ((why : Refusal) × ((N.judge s (TransferStart size)).1 ≡ Refused why))
  pub data_replies : (s : N.State) (id counter : ℕ) (bytes : List ℕ)
      → ((N.judge s (TransferData id counter bytes)).1 ≡ Done)
      ⊎ ((why : Refusal) × ((N.judge s (TransferData id counter bytes)).1 ≡ Refused why))
  pub exit_replies : (s : N.State) (id : ℕ)
      → ((N.judge s (TransferExit id)).1 ≡ Done) ⊎ ((why : Refusal) × ((N.judge s (TransferExit id)).1 ≡ Refused why))
  -- a started id is not among the transfers and joins them
  pub start_transfers : (s : N.State) (size id : ℕ) → (N.judge s (TransferStart size)).1 ≡ Started id
      → (Contains (N.transfers s) id → ⊥) × (N.transfers (N.judge s (TransferStart size)).0 ≡ N.transfers s ++ id ∷ [])
  -- a block changes its own transfer alone, and no transfer comes or goes
  pub data_transfers : (s : N.State) (id counter : ℕ) (bytes : List ℕ)
      → N.transfers (N.judge s (TransferData id counter bytes)).0 ≡ N.transfers s
  pub exit_received : (s : N.State) (id : ℕ) → KeepsTransfers N s (N.judge s (TransferExit id)).0
  -- an accepted ProcessSwPackage begins a session in Idle, or goes on with client 0's own of this tag in Ready
  pub process_idle : (s : N.State) (id tag : ℕ) → N.mine s ≡ None → (N.judge s (ProcessSwPackage id tag)).1 ≡ Done
      → (N.status s ≡ Idle) × (N.mine (N.judge s (ProcessSwPackage id tag)).0 ≡ Some tag)
      × (N.status (N.judge s (ProcessSwPackage id tag)).0 ≡ Processing)
      × (N.planned (N.judge s (ProcessSwPackage id tag)).0 ≡ [])
      × (N.in_process (N.judge s (ProcessSwPackage id tag)).0 ≡ Some id)
  pub process_ready : (s : N.State) (id tag old : ℕ) → N.mine s ≡ Some old
      → (N.judge s (ProcessSwPackage id tag)).1 ≡ Done
      → (N.status s ≡ Ready) × (tag ≡ old) × (N.mine (N.judge s (ProcessSwPackage id tag)).0 ≡ Some old)
      × (N.status (N.judge s (ProcessSwPackage id tag)).0 ≡ Processing)
      × (N.planned (N.judge s (ProcessSwPackage id tag)).0 ≡ N.planned s)
      × (N.in_process (N.judge s (ProcessSwPackage id tag)).0 ≡ Some id)
  pub process_received : (s : N.State) (id tag : ℕ) → KeepsTransfers N s (N.judge s (ProcessSwPackage id tag)).0
  -- a call of the status table is accepted only in client 0's own session, and where the table leads on
  pub activate_mine : (s : N.State) → (N.judge s Activate).1 ≡ Done
      → (tag : ℕ) × (N.mine s ≡ Some tag) × (N.status s ≡ Ready)
  pub activate : Moves N Activate Ready Activating None
  pub finish_mine : (s : N.State) → (N.judge s Finish).1 ≡ Done
      → (tag : ℕ) × (N.mine s ≡ Some tag) × ((N.status s ≡ Activated) ⊎ (N.status s ≡ RolledBack))
  pub finish_new : Moves N Finish Activated CleaningUp (Some New)
  pub finish_old : Moves N Finish RolledBack CleaningUp (Some Old)
  pub rollback_mine : (s : N.State) → (N.judge s Rollback).1 ≡ Done
      → (tag : ℕ) × (N.mine s ≡ Some tag) × ((N.status s ≡ Verifying) ⊎ (N.status s ≡ Activated))
  pub rollback_verifying : Moves N Rollback Verifying RollingBack None
  pub rollback_activated : Moves N Rollback Activated RollingBack None
  pub revert_mine : (s : N.State) → (N.judge s Revert).1 ≡ Done
      → (tag : ℕ) × (N.mine s ≡ Some tag) × (N.status s ≡ Ready)
  pub revert : Moves N Revert Ready CleaningUp (Some Old)
  -- each of these calls is Done or Refused
  pub six_replies : (s : N.State) (call : Call)
      → (call ≡ Activate) ⊎ ((call ≡ Finish) ⊎ ((call ≡ Rollback) ⊎ (call ≡ Revert)))
      → ((N.judge s call).1 ≡ Done) ⊎ ((why : Refusal) × ((N.judge s call).1 ≡ Refused why))
  pub process_replies : (s : N.State) (id tag : ℕ)
      → ((N.judge s (ProcessSwPackage id tag)).1 ≡ Done)
      ⊎ ((why : Refusal) × ((N.judge s (ProcessSwPackage id tag)).1 ≡ Refused why))
  -- a foreign call leaves client 0's session, transfers and number, and makes no session of client 0
  pub foreign_session : (s : N.State) (call : N.ForeignCall) (tag : ℕ) → N.mine s ≡ Some tag
      → KeepsSession N s (N.foreign s call)
  pub foreign_none : (s : N.State) (call : N.ForeignCall) → N.mine s ≡ None → N.mine (N.foreign s call) ≡ None
  pub foreign_transfers : (s : N.State) (call : N.ForeignCall) → KeepsTransfers N s (N.foreign s call)
  pub foreign_last : (s : N.State) (call : N.ForeignCall)
      → (N.last (N.foreign s call) ≡ N.last s) × (N.kept (N.foreign s call) ≡ N.kept s)
      × (N.ended (N.foreign s call) ≡ N.ended s)
  -- a Cancel stops a package in processing: the session goes back to Ready, or is cleaned up as Old
  pub cancel : (s : N.State) (id : ℕ)
      → ((why : Refusal) × ((N.judge s (Cancel id)).1 ≡ Refused why))
      ⊎ ((tag : ℕ) × (N.mine s ≡ Some tag) × (N.status s ≡ Processing) × (N.mine (N.judge s (Cancel id)).0 ≡ Some tag)
      × ((N.status (N.judge s (Cancel id)).0 ≡ Ready)
      ⊎ ((N.status (N.judge s (Cancel id)).0 ≡ CleaningUp) × (N.outcome (N.judge s (Cancel id)).0 ≡ Some Old))))
  -- the table of work units
  pub unit_last : (s : N.State) (passed : Bool)
      → (N.last (N.unit s passed) ≡ N.last s) × (N.kept (N.unit s passed) ≡ N.kept s)
  pub unit_still : (s : N.State) (passed : Bool) → is_working (N.status s) ≡ false → N.unit s passed ≡ s
  pub unit_none : (s : N.State) (passed : Bool) → N.mine s ≡ None
      → (N.mine (N.unit s passed) ≡ None) × (N.ended (N.unit s passed) ≡ N.ended s)
      × KeepsTransfers N s (N.unit s passed)
  pub unit_processing : (s : N.State) (passed : Bool) (tag id : ℕ) → N.mine s ≡ Some tag → N.status s ≡ Processing
      → N.in_process s ≡ Some id
      → (N.mine (N.unit s passed) ≡ Some tag) × (N.ended (N.unit s passed) ≡ N.ended s)
      × (((N.status (N.unit s passed) ≡ Processing) × (N.planned (N.unit s passed) ≡ N.planned s)
      × (N.in_process (N.unit s passed) ≡ Some id))
      ⊎ ((N.status (N.unit s passed) ≡ Ready)
      × (N.planned (N.unit s passed) ≡ N.planned s ++ N.changes_of (N.received s id))))
  pub unit_activating : UnitGoes N Activating (λ to. to ≡ Verifying)
  pub unit_verifying : UnitGoes N Verifying (λ to. (to ≡ Verifying) ⊎ ((to ≡ Activated) ⊎ (to ≡ RollingBack)))
  pub unit_rolling : UnitGoes N RollingBack (λ to. to ≡ RolledBack)
  pub unit_received : (s : N.State) (passed : Bool) (tag : ℕ) → N.mine s ≡ Some tag → N.status s ≢ CleaningUp
      → KeepsTransfers N s (N.unit s passed)
  -- the unit in CleaningUp ends the session with its tag and outcome
  pub unit_cleaning : (s : N.State) (passed : Bool) (tag : ℕ) (outcome : Outcome) → N.mine s ≡ Some tag
      → N.status s ≡ CleaningUp → N.outcome s ≡ Some outcome
      → (N.mine (N.unit s passed) ≡ None) × (N.status (N.unit s passed) ≡ Idle)
      × (N.ended (N.unit s passed) ≡ Some (record { tag = tag; outcome = outcome }))
  -- what runs then is what was planned, or what was saved
  pub cleaning_new : (s : N.State) (passed : Bool) (tag : ℕ) → N.mine s ≡ Some tag → N.status s ≡ CleaningUp
      → N.outcome s ≡ Some New → N.Brings (N.planned s) s (N.unit s passed)
  pub cleaning_old : (s : N.State) (passed : Bool) (tag : ℕ) → N.mine s ≡ Some tag → N.status s ≡ CleaningUp
      → N.outcome s ≡ Some Old → N.Leaves s (N.unit s passed)
  -- in Processing there is an id in processing
  pub processing_id : (s : N.State) (tag : ℕ) → N.mine s ≡ Some tag → N.status s ≡ Processing
      → (id : ℕ) × (N.in_process s ≡ Some id)
  -- a Sync alone shows the session
  pub synced_only : (s : N.State) (call : Call) (shown : Shown) → (N.judge s call).1 ≡ Synced shown → call ≡ Sync
  -- a session exists exactly where the status isn't Idle
  pub session_status : (s : N.State) (tag : ℕ) → N.mine s ≡ Some tag → N.status s ≢ Idle
  pub cleaning_outcome : (s : N.State) (tag : ℕ) → N.mine s ≡ Some tag → N.status s ≡ CleaningUp
      → (o : Outcome) × (N.outcome s ≡ Some o)

-- A world over such nodes: what happened on each, the fold of the list, and which event may happen.
-- what happened on a node
pub data Move (N : NodeRules) : Type 0 where
  Delivered : (message : Message) → Move N
  Foreign : (call : N.ForeignCall) → Move N
  Unit_done : (passed : Bool) → Move N

-- one node, the newest first in each list
pub record NodeWorld (N : NodeRules) : Type 0 where
  pub moves : List (Move N)
  pub sent : List Message
  pub told : List Told

-- packages: of a campaign's steps for a node, in step order, the bytes. No event changes them
pub record World (N : NodeRules) : Type 0 where
  pub fold : Fold
  pub node : ℕ → NodeWorld N

abbrev pub step : (N : NodeRules) → N.State → Move N → N.State
step N s (Delivered m) = delivered N s m.at m.call
step N s (Foreign call) = N.foreign s call
step N s (Unit_done passed) = N.unit s passed

abbrev pub after : (N : NodeRules) → List (Move N) → N.State
after N [] = N.formatted
after N (m ∷ ms) = step N (after N ms) m

abbrev pub state_of : (N : NodeRules) → NodeWorld N → N.State
state_of N x = after N x.moves

-- the events
pub data Event (N : NodeRules) : Type 0 where
  Deliver : (node which : ℕ) (told : Bool) → Event N
  ForeignCalls : (node : ℕ) (call : N.ForeignCall) → Event N
  Unit_comes : (node : ℕ) (passed told : Bool) → Event N
  Send : (node : ℕ) (call : Call) → Event N
  Record : (event : MasterEvent) → Event N
  Restart : Event N

abbrev pub Evidence : (N : NodeRules) → Packages → List ℕ → World N → MasterEvent → Type 0
Evidence N packages numbers w (Begin k named) = Contains numbers k × NamesOf packages k named
Evidence N packages numbers w (VoteOf n v) = VoteEvidence v (w.node n).told
Evidence N packages numbers w (EndedAt n o) =
    InCurrent w.fold.current (λ c. EndEvidence w.fold.epoch c (w.node n).told (w.node n).sent)
Evidence N packages numbers w _ = Unit {0}

-- one event may happen
abbrev pub Allowed : (N : NodeRules) → Packages → List ℕ → World N → Event N → Type 0
Allowed N packages numbers w (Deliver n which told) = which < length (w.node n).sent
Allowed N packages numbers w (Send n call) =
    InCurrent w.fold.current (λ c. MaySend packages w.fold.epoch n c (w.node n).told (w.node n).sent call)
Allowed N packages numbers w (Record e) = (refusal_of w.fold e ≡ None) × Evidence N packages numbers w e
Allowed N packages numbers w _ = Unit {0}

-- a world in which node n is x
abbrev pub with_node : (N : NodeRules) → World N → ℕ → NodeWorld N → World N
with_node N w n x = record { fold = w.fold; node = λ k. if nat_eq k n then x else w.node k }

abbrev pub emptied : (N : NodeRules) → World N → Fold → World N
emptied N w f = record { fold = f; node = λ k. record { moves = (w.node k).moves; sent = (w.node k).sent; told = [] } }

abbrev pub deliver_to : (N : NodeRules) → NodeWorld N → Option Message → Bool → NodeWorld N
deliver_to N x None told = x
deliver_to N x (Some m) told =
    record {
      moves = Delivered m ∷ x.moves;
      sent = x.sent;
      told = if told then answer_of m (reached N (state_of N x) m.at m.call) x.told else x.told;
    }

abbrev pub recorded : (N : NodeRules) → World N → MasterEvent → World N
recorded N w e =
    if empties e then emptied N w (after_event w.fold e) else record { fold = after_event w.fold e; node = w.node }

abbrev pub happens : (N : NodeRules) → World N → Event N → World N
happens N w (Deliver n which told) = with_node N w n (deliver_to N (w.node n) (slice_get (w.node n).sent which) told)
happens N w (ForeignCalls n call) =
    with_node N w n (record { moves = Foreign call ∷ (w.node n).moves; sent = (w.node n).sent; told = (w.node n).told })
happens N w (Unit_comes n passed told) =
    with_node N w n
    (record {
      moves = Unit_done passed ∷ (w.node n).moves;
      sent = (w.node n).sent;
      told = if told then Showed
          (N.status (N.unit (state_of N (w.node n)) passed)) ∷ (w.node n).told else (w.node n).told;
    })
happens N w (Send n call) =
    with_node N w n
    (record {
      moves =
          (w.node n).moves;
      sent = record {
        at = next_number w.fold.epoch
            (w.node n).sent;
        call = call;
        campaign = campaign_of w.fold.current;
        decided = decided_of w.fold.current;
      } ∷
          (w.node n).sent;
      told = (w.node n).told;
    })
happens N w (Record e) = recorded N w e
happens N w Restart = recorded N w (Start (w.fold.epoch + 1))

-- the formatted world, and those that lists of allowed events make
abbrev pub formatted_world : (N : NodeRules) → World N
formatted_world N = record { fold = nothing_yet; node = λ k. record { moves = []; sent = []; told = [] } }

-- the same, where something foreign happened on each node
abbrev pub opened_world : (N : NodeRules) → (ℕ → N.ForeignCall) → World N
opened_world N openings =
    record { fold = nothing_yet; node = λ k. record { moves = Foreign (openings k) ∷ []; sent = []; told = [] } }

abbrev pub Makes : (N : NodeRules) → Packages → List ℕ → World N → List (Event N) → World N → Type 0
Makes N packages numbers w [] v = v ≡ w
Makes N packages numbers w (e ∷ es) v = Allowed N packages numbers w e × Makes N packages numbers (happens N w e) es v

-- What a campaign leaves: the spans of its sessions, and the law over every list of events.
-- a span that has ended: its outcome, the state before the unit that ended it, and the one after
pub record Span (N : NodeRules) : Type 0 where
  pub outcome : Option Outcome
  pub before : N.State
  pub left : N.State

-- the spans of one tag: whether one is open, and those that have ended, the newest first
pub record Spans (N : NodeRules) : Type 0 where
  pub is_open : Bool
  pub ended : List (Span N)

abbrev pub is_fresh_done : Reached → Bool
is_fresh_done (Fresh r) = is_done r
is_fresh_done _ = false

-- an accepted ProcessSwPackage of client 0 with this tag in Idle
abbrev pub begins_span : (N : NodeRules) → ℕ → N.State → Message → Bool
begins_span N k s m = has_tag k m.call && (is_status (N.status s) Idle && is_fresh_done (reached N s m.at m.call))

abbrev pub span_step : (N : NodeRules) → ℕ → N.State → Move N → Spans N → Spans N
span_step N k s (Delivered m) x = record { is_open = x.is_open || begins_span N k s m; ended = x.ended }
span_step N k s (Foreign _) x = x
span_step N k s (Unit_done passed) x =
    if x.is_open && is_status (N.status s) CleaningUp
    then record {
      is_open = false;
      ended = record { outcome = N.outcome s; before = s; left = N.unit s passed }
          ∷ x.ended;
    }
    else x

abbrev pub spans : (N : NodeRules) → ℕ → List (Move N) → Spans N
spans N k [] = record { is_open = false; ended = [] }
spans N k (m ∷ ms) = span_step N k (after N ms) m (spans N k ms)

abbrev pub EachEnded : (N : NodeRules) → (Span N → Type 0) → List (Span N) → Type 0
EachEnded N P [] = Unit {0}
EachEnded N P (x ∷ xs) = P x × EachEnded N P xs

-- exactly one span, ended as New, and it brought these changes
pub record IsNew (N : NodeRules) (k : ℕ) (changes : List N.Change) (moves : List (Move N)) : Type 0 where
  pub span : Span N
  pub only : spans N k moves ≡ record { is_open = false; ended = span ∷ [] }
  pub outcome : span.outcome ≡ Some New
  pub brings : N.Brings changes span.before span.left

-- every span has ended and left the clusters as they were saved
pub record IsOld (N : NodeRules) (k : ℕ) (moves : List (Move N)) : Type 0 where
  pub all_ended : (spans N k moves).is_open ≡ false
  pub leave : EachEnded N (λ x. N.Leaves x.before x.left) (spans N k moves).ended

abbrev pub IsLeft : (N : NodeRules) → CampaignResult → ℕ → List N.Change → List (Move N) → Type 0
IsLeft N Successful k changes moves = IsNew N k changes moves
IsLeft N _ k changes moves = IsOld N k moves

-- the law of campaigns: over every list of events,
-- at every campaign that was entered and every node that its steps name
abbrev pub CampaignLaw : (N : NodeRules) → Type 0
CampaignLaw N =
    (packages : Packages) (numbers : List ℕ) (openings : ℕ → N.ForeignCall) (events : List (Event N)) (w : World N)
    → Makes N packages numbers (opened_world N openings) events w
    → (k : ℕ) (result : CampaignResult)
    → IsIn (k, result) w.fold.earlier
    → (n : ℕ)
    → 1 ≤ n
    → n ≤ 8
    → packages k n ≢ []
    → IsLeft N result k (flat_map N.changes_of (packages k n)) (w.node n).moves

-- it holds of every node that meets the laws
abbrev pub WorldLaw : (N : NodeRules) → Type 0
WorldLaw N = NodeLaws N → CampaignLaw N
