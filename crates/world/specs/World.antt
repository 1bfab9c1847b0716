-- Nodes with their histories, the master's list, and the messages between them: which event may happen,
-- and what it makes.
use Rattle.std.specs.Prelude.{◌≡◌, ℕ, ◌+◌, ◌<◌, ◌≤◌, ⊤, IsTrue, Bool, ◌||◌, if◌then◌else◌, nat_eq, List, [], ◌∷◌, ◌++◌, length, Contains, Option, Some, None, slice_get}
use Rattle.ucm_base.specs.Limits.{client_limit}
use Rattle.ucm_base.specs.Parts.{Bytes}
use Rattle.ucm_base.specs.declared.ids.CallNo.{CallNo}
use Rattle.pm_types.specs.declared.calls.Call.{Call}
use Rattle.pm_types.specs.declared.clusters.Cluster.{Cluster}
use Rattle.pm_types.specs.declared.history.Entry.{Entry}
use Rattle.pm_types.specs.declared.history.Entry.TheVariants.{Numbered, Unit as UnitDone}
use Rattle.pm_types.specs.declared.replies.Reached.{Reached}
use Rattle.pm_types.specs.declared.replies.Reached.TheVariants.{Done as Executed, Again, Stale}
use Rattle.pm_types.specs.declared.status.Status.{Status}
use Rattle.pm_types.specs.declared.status.Status.TheVariants.{Verifying}
use Rattle.pm_types.specs.NodeState.{NodeState, has_status}
use Rattle.pm_types.specs.Steps.{step}
use Rattle.pm_types.specs.Work.{unit}
use Rattle.pm_types.specs.Histories.{Reading, verdict_for, formatted, state_after}
use Rattle.campaign_core.specs.declared.events.MasterEvent.{MasterEvent}
use Rattle.campaign_core.specs.declared.events.MasterEvent.TheVariants.{Start, Begin, PhaseTo, VoteOf, CancelAsked, Decide, EndedAt, Enter}
use Rattle.campaign_core.specs.declared.fold.Fold.{Fold}
use Rattle.campaign_core.specs.Campaign.{campaign, refusal_of}
use Rattle.world.specs.Messages.{Message, Told, Showed, answer_of}
use Rattle.world.specs.Sends.{Packages, MaySend, next_number, campaign_of, decided_of, empties}
use Rattle.world.specs.Evidence.{InCurrent, VoteEvidence, EndEvidence, NamesOf}

-- one node: its history since its opening, the oldest entry first,
-- what was sent to it and what the master was told of it, the newest first
pub record NodeWorld : Type 0 where
  pub opening : NodeState
  pub history : List Entry
  pub sent : List Message
  pub told : List Told

-- the master's list, the oldest event first, and the nodes
pub record World : Type 0 where
  pub list : List MasterEvent
  pub node : ℕ → NodeWorld

abbrev pub fold_of : World → Fold
fold_of w = campaign w.list

abbrev pub state_of : Reading → NodeWorld → NodeState
state_of read x = state_after read x.opening x.history

-- what can happen: a message arrives, another client calls, a unit of work is asked for, a message is sent,
-- the master records
pub data Event : Type 0 where
  Deliver : (node which : ℕ) (told : Bool) → Event
  Foreign : (node client : ℕ) (at : CallNo) (call : Call) → Event
  Work : (node : ℕ) (passed told : Bool) → Event
  Send : (node : ℕ) (call : Call) → Event
  Record : (event : MasterEvent) → Event
  Restart : Event

-- the evidence of a record
abbrev pub HasEvidence : Packages → List ℕ → World → MasterEvent → Type 0
HasEvidence packages numbers w (Start _) = ⊤
HasEvidence packages numbers w (Begin k named) = Contains numbers k × NamesOf packages k named
HasEvidence packages numbers w (PhaseTo _) = ⊤
HasEvidence packages numbers w (VoteOf n v) = VoteEvidence v (w.node n).told
HasEvidence packages numbers w CancelAsked = ⊤
HasEvidence packages numbers w (Decide _) = ⊤
HasEvidence packages numbers w (EndedAt n o) =
    InCurrent (fold_of w).current (λ c. EndEvidence (fold_of w).epoch c (w.node n).told (w.node n).sent)
HasEvidence packages numbers w (Enter _) = ⊤

-- an event may happen
abbrev pub IsAllowed : Reading → Packages → List ℕ → World → Event → Type 0
IsAllowed read packages numbers w (Deliver n which told) = which < length (w.node n).sent
IsAllowed read packages numbers w (Foreign n client at call) = (1 ≤ client) × (client < client_limit)
IsAllowed read packages numbers w (Work n passed told) =
    IsTrue (passed || has_status Verifying (state_of read (w.node n)))
IsAllowed read packages numbers w (Send n call) =
    InCurrent (fold_of w).current (λ c. MaySend packages (fold_of w).epoch n c (w.node n).told (w.node n).sent call)
IsAllowed read packages numbers w (Record e) = (refusal_of (fold_of w) e ≡ None) × HasEvidence packages numbers w e
IsAllowed read packages numbers w Restart = ⊤

-- what becomes of a call on a node
abbrev pub reached : Reading → NodeState → ℕ → CallNo → Call → Reached
reached read s client at call = (step s client at call (verdict_for read s client call)).1

-- an executed call is entered
abbrev pub entered : List Entry → ℕ → CallNo → Call → Reached → List Entry
entered es client at call (Executed reply) = es ++ Numbered client at call reply ∷ []
entered es client at call (Again _) = es
entered es client at call (Stale _) = es

abbrev pub called : Reading → NodeWorld → ℕ → CallNo → Call → NodeWorld
called read x client at call =
    record x { history = entered x.history client at call (reached read (state_of read x) client at call) }

-- a message arrives, and its reply is told or lost
abbrev pub delivered : Reading → NodeWorld → Option Message → Bool → NodeWorld
delivered read x None told = x
delivered read x (Some m) told = record (called read x 0 m.at m.call) {
  told = if told then answer_of m (reached read (state_of read x) 0 m.at m.call) x.told else x.told;
}

-- a unit is entered, where there was one to do
abbrev pub worked_on : List Entry → Bool → Option NodeState → List Entry
worked_on es passed None = es
worked_on es passed (Some t) = es ++ UnitDone passed t.status ∷ []

-- the status after it
abbrev pub shown_by : NodeState → Option NodeState → Status
shown_by s None = s.status
shown_by s (Some t) = t.status

abbrev pub worked : Reading → NodeWorld → Bool → Bool → NodeWorld
worked read x passed told = record x {
  history = worked_on x.history passed (unit (state_of read x) passed);
  told = if told then Showed (shown_by (state_of read x) (unit (state_of read x) passed)) ∷ x.told else x.told;
}

-- the next message to a node
abbrev pub message : World → ℕ → Call → Message
message w n call = record {
  at = next_number (fold_of w).epoch (w.node n).sent;
  call = call;
  campaign = campaign_of (fold_of w).current;
  decided = decided_of (fold_of w).current;
}

-- the world with another node n
abbrev pub with_node : World → ℕ → NodeWorld → World
with_node w n x = record w { node = λ k. if nat_eq k n then x else w.node k }

-- a Start and a Begin empty what was told
abbrev pub recorded : World → MasterEvent → World
recorded w e = record {
  list = w.list ++ e ∷ [];
  node = if empties e then (λ k. record (w.node k) { told = [] }) else w.node;
}

-- the world after an event
abbrev pub happens : Reading → World → Event → World
happens read w (Deliver n which told) = with_node w n (delivered read (w.node n) (slice_get (w.node n).sent which) told)
happens read w (Foreign n client at call) = with_node w n (called read (w.node n) client at call)
happens read w (Work n passed told) = with_node w n (worked read (w.node n) passed told)
happens read w (Send n call) = with_node w n (record (w.node n) { sent = message w n call ∷ (w.node n).sent })
happens read w (Record e) = recorded w e
happens read w Restart = recorded w (Start ((fold_of w).epoch + 1))

-- a world in which nothing has happened yet, with the clusters of each node
abbrev pub opened : (ℕ → List (Cluster Bytes)) → World
opened clusters =
    record { list = []; node = λ n. record { opening = formatted (clusters n); history = []; sent = []; told = [] } }

-- a list of events that may happen one after another makes a world of another
abbrev pub Makes : Reading → Packages → List ℕ → World → List Event → World → Type 0
Makes read packages numbers w [] v = v ≡ w
Makes read packages numbers w (e ∷ es) v =
    IsAllowed read packages numbers w e × Makes read packages numbers (happens read w e) es v
