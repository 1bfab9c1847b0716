-- What a call, a unit of work and a query do to the entries and to what is pending.
use Rattle.std.specs.Prelude.{◌≡◌, ◌⊎◌, ⊤, ℕ, ◌≤◌, Bool, false, List, [], ◌∷◌, ◌++◌, length, Option, Some, None}
use Rattle.turn_gate.specs.Mine.{Settles}
use Rattle.ucm_base.specs.declared.ids.CallNo.{CallNo}
use Rattle.pm_types.specs.declared.calls.Call.{Call}
use Rattle.pm_types.specs.declared.history.Entry.{Entry}
use Rattle.pm_types.specs.declared.history.Entry.TheVariants.{Numbered, Unit as UnitDone}
use Rattle.pm_types.specs.declared.queries.Answer.{Answer}
use Rattle.pm_types.specs.declared.queries.Query.{Query}
use Rattle.pm_types.specs.declared.replies.Reached.{Reached}
use Rattle.pm_types.specs.declared.replies.Reached.TheVariants.{Done, Again, Stale}
use Rattle.pm_types.specs.declared.replies.Reply.{Reply}
use Rattle.pm_types.specs.declared.replies.Worked.TheVariants.{Unit as OneUnit, Nothing}
use Rattle.pm_types.specs.declared.status.Status.{Status}
use Rattle.pm_types.specs.Histories.{IsNext, state_after}
use Rattle.pm_types.specs.NodeState.{NodeState, is_working, of_client}
use Rattle.pm_types.specs.Queries.{answer}
use Rattle.pm_types.specs.Steps.{repeat_of}
use Rattle.node_laws.specs.NewestKept.{newest_kept}
use Rattle.node_core.specs.Packages.{package_reading}
use Rattle.node_store.specs.Answers.{IsRise}
use Rattle.node_store.specs.declared.answers.NodeAnswer.{NodeAnswer}
use Rattle.node_store.specs.declared.answers.NodeAnswer.TheVariants.{Reached as Got, NoReply, OutOfMemory}
use Rattle.node_store.specs.declared.answers.WorkAnswer.{WorkAnswer}
use Rattle.node_store.specs.declared.answers.WorkAnswer.TheVariants.{Worked as Did, NoReply as NoWork, OutOfMemory as NoRoom}
use Rattle.node_gate.specs.declared.answers.AskAnswer.{AskAnswer}
use Rattle.node_gate.specs.declared.answers.AskAnswer.TheVariants.{At, NoReply as NoView, OutOfMemory as NoMemory}
use Rattle.node_gate.specs.Stands.{Listing, listing}

-- the faults that an answer carries
abbrev pub rise_of : NodeAnswer → ℕ
rise_of (NoReply faults) = faults
rise_of (Got reached) = 0
rise_of OutOfMemory = 0

abbrev pub rise_of_work : WorkAnswer → ℕ
rise_of_work (NoWork faults) = faults
rise_of_work (Did worked) = 0
rise_of_work NoRoom = 0

abbrev pub rise_of_ask : AskAnswer → ℕ
rise_of_ask (NoView faults) = faults
rise_of_ask (At place view) = 0
rise_of_ask NoMemory = 0

-- a query without a reply carries how far the count of faults rose
abbrev pub CarriesRise : AskAnswer → ℕ → ℕ → Type 0
CarriesRise (NoView faults) before now = IsRise before now faults
CarriesRise _ before now = ⊤

-- what was pending is settled, and nothing is pending
pub record HasSettled (old new : Listing) : Type 0 where
  pub settled : Settles old.pending old.entries new.entries
  pub no_doubt : new.pending ≡ None

-- all is as it was, or what was pending is settled
abbrev pub StaysOrSettles : Listing → Listing → Type 0
StaysOrSettles old new = (new ≡ old) ⊎ HasSettled old new

module _ (n : NodeState) where
  -- the node after entries
  abbrev pub After : List Entry → NodeState
  After entries = state_after package_reading n entries

  -- the entry is the last one, behind what was pending, where that stood
  pub record IsEntered (e : Entry) (old new : Listing) : Type 0 where
    pub before : List Entry
    pub settled : Settles old.pending old.entries before
    pub next : IsNext package_reading (After before) e
    pub entered : new ≡ listing (before ++ e ∷ []) None

  -- what was pending is settled, and the entry, which the node would make, is pending now
  pub record IsPending (e : Entry) (old new : Listing) : Type 0 where
    pub settled : Settles old.pending old.entries new.entries
    pub next : IsNext package_reading (After new.entries) e
    pub pending : new.pending ≡ Some e

  -- the client's newest entry, or else what the node had kept of it, then answers the call
  pub record IsRepeated (client : ℕ) (at : CallNo) (reached : Reached) (old new : Listing) : Type 0 where
    pub settled : HasSettled old new
    pub kept : repeat_of at (newest_kept client (of_client n.last client) new.entries) ≡ Some reached

  -- the node then has this status, in which there is no unit to do
  pub record HasNoUnit (status : Status) (old new : Listing) : Type 0 where
    pub settled : HasSettled old new
    pub status_is : status ≡ (After new.entries).status
    pub rests : is_working status ≡ false

  -- the query is answered after all entries, of which there are so many
  pub record IsAnswered (client : ℕ) (query : Query) (place : ℕ) (a : Answer) (old new : Listing) : Type 0 where
    pub settled : HasSettled old new
    pub place_is : place ≡ length new.entries
    pub answer_is : a ≡ answer (After new.entries) client query

  -- a numbered call
  abbrev pub CallsTo : ℕ → CallNo → Call → NodeAnswer → Listing → Listing → Type 0
  CallsTo client at call (Got (Done reply)) old new = IsEntered (Numbered client at call reply) old new
  CallsTo client at call (Got (Again reply)) old new = IsRepeated client at (Again reply) old new
  CallsTo client at call (Got (Stale last)) old new = IsRepeated client at (Stale last) old new
  CallsTo client at call (NoReply faults) old new =
      (1 ≤ faults)
      × (StaysOrSettles old new ⊎ ((reply : Reply) × IsPending (Numbered client at call reply) old new))
  CallsTo client at call OutOfMemory old new = StaysOrSettles old new

  -- a unit of work
  abbrev pub WorksTo : WorkAnswer → Listing → Listing → Type 0
  WorksTo (Did (OneUnit passed after)) old new = IsEntered (UnitDone passed after) old new
  WorksTo (Did (Nothing status)) old new = HasNoUnit status old new
  WorksTo (NoWork faults) old new =
      (1 ≤ faults)
      × (StaysOrSettles old new ⊎ ((passed : Bool) × (after : Status) × IsPending (UnitDone passed after) old new))
  WorksTo NoRoom old new = StaysOrSettles old new

  -- a query; without a reply the node wasn't opened
  abbrev pub AsksTo : ℕ → Query → AskAnswer → Listing → Listing → Type 0
  AsksTo client query (At place a) old new = IsAnswered client query place a old new
  AsksTo client query (NoView faults) old new = (1 ≤ faults) × (new ≡ old)
  AsksTo client query NoMemory old new = StaysOrSettles old new
