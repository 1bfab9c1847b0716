-- Two closed lists of events: one node installs a cluster and the campaign ends successful,
-- or its check fails and it ends failed.
use Rattle.world.specs.World.{HasEvidence}
use Rattle.std.specs.Prelude.{Contains, ℕ, suc, ◌<◌}
use Rattle.world.proofs.Names.{◌≡◌, List, [], ◌∷◌, ◌++◌, Some, None, true, false, Ok, if◌then◌else◌, nat_eq, replicate}
use Rattle.world.proofs.Names.{refl, arith, Bytes, NodeSet, Install, Call, Sync, TransferStart, TransferData}
use Rattle.world.proofs.Names.{TransferExit, ProcessSwPackage, Activate, Finish, Cluster, Part, Outcome, New, Old}
use Rattle.world.proofs.Names.{Reading, Commit, Abort, Successful, Failed, MasterEvent, Start, Begin, PhaseTo, VoteOf}
use Rattle.world.proofs.Names.{Decide, EndedAt, Enter, Shown, NamesOf, Packages, IsReading, IsEntered, spans, World}
use Rattle.world.proofs.Names.{NodeWorld, Event, Deliver, Work, Send, Record, opened, happens, state_of, Makes}
use Rattle.campaign_core.specs.declared.events.Phase.TheVariants as Phase
use Rattle.campaign_core.specs.declared.events.Vote.TheVariants as Vote
use Rattle.campaign_core.specs.declared.events.Cause.TheVariants as Cause

-- every package installs this cluster
abbrev part : Part Bytes
part = record {
  manifest =
      record {
        action = Install;
        name = 97 ∷ [];
        version = 49 ∷ 46 ∷ 48 ∷ 46 ∷ 48
            ∷ [];
        needs = [];
        sha256 = replicate 32 0;
      };
  payload = 9 ∷ [];
}

abbrev read : Reading
read bytes = Ok (part ∷ [])

reading : IsReading read
reading = grind arith

-- campaign 7 has one package, for node 1
abbrev packages : Packages
packages k n = if nat_eq n 1 then (5 ∷ []) ∷ [] else []

abbrev one : NodeSet
one = record { flags = true ∷ replicate 7 false }

abbrev world_after : World → List Event → World
world_after w [] = w
world_after w (e ∷ es) = world_after (happens read w e) es

-- a message that arrives, and its reply too, before other events
abbrev sent : Call → List Event → List Event
sent call events = Send 1 call ∷ Deliver 1 0 true ∷ events

abbrev until_activate : List Event → List Event
until_activate events =
    Record (Start 1) ∷ Record (Begin 7 one) ∷ Record (PhaseTo Phase.Transferring)
    ∷ sent Sync (sent (TransferStart 1) (sent (TransferData 1 1 (5 ∷ [])) (sent (TransferExit 1) (
    Record (PhaseTo Phase.Processing) ∷ sent (ProcessSwPackage 1 7) (
    Work 1 true true ∷ Record (PhaseTo Phase.Activating) ∷ sent Activate (Work 1 true true ∷ events))))))

-- Finish, the unit that cleans up, and a last Sync
abbrev finished : List Event → List Event
finished events = sent Sync (sent Finish (Work 1 true true ∷ sent Sync events))

abbrev commits : List Event → List Event
commits events =
    until_activate (Work 1 true true ∷ Record (VoteOf 1 Vote.Yes) ∷ Record (Decide Commit) ∷ finished events)

abbrev aborts : List Event → List Event
aborts events =
    until_activate (Work 1 false true ∷ Work 1 true true ∷ Record (VoteOf 1 Vote.RolledBack)
    ∷ Record (Decide (Abort (Cause.Vote 1))) ∷ finished events)

abbrev successful : List Event
successful = commits (Record (EndedAt 1 New) ∷ Record (Enter Successful) ∷ [])

abbrev failed : List Event
failed = aborts (Record (EndedAt 1 Old) ∷ Record (Enter Failed) ∷ [])

abbrev start : World
start = opened (λ n. [])

names : NamesOf packages 7 one
names = grind arith

-- what the last Sync shows
abbrev shown : Outcome → Shown
shown outcome = record { session = None; ended = Some (record { tag = 7; outcome = outcome }); transfers = [] }

there : Contains {X = ℕ} (7 ∷ []) 7
there = (0, omega arith, refl)

-- so many messages were sent at each delivery, and one more
some : (n : ℕ) → 0 < suc n
some n = omega arith

-- the last Sync is the evidence of the node's end
shown-new : HasEvidence packages (7 ∷ []) (world_after start (commits [])) (EndedAt 1 New)
shown-new = (refl, shown New, (0, some _, refl), refl, refl)

shown-old : HasEvidence packages (7 ∷ []) (world_after start (aborts [])) (EndedAt 1 Old)
shown-old = (refl, shown Old, (0, some _, refl), refl, refl)

-- each event may happen
made-successful : Makes read packages (7 ∷ []) start successful (world_after start successful)
made-successful =
    assumption (names, there, shown-new, some 0, some 1, some 2, some 3, some 4, some 5, some 6, some 7, some 8)

made-failed : Makes read packages (7 ∷ []) start failed (world_after start failed)
made-failed =
    assumption (names, there, shown-old, some 0, some 1, some 2, some 3, some 4, some 5, some 6, some 7, some 8)

-- before each Enter
abbrev until_activated : List MasterEvent
until_activated =
    Start 1 ∷ Begin 7 one ∷ PhaseTo Phase.Transferring ∷ PhaseTo Phase.Processing ∷ PhaseTo Phase.Activating ∷ []

entered-successful : IsEntered 7 Successful (world_after start successful).list
entered-successful =
    record {
      before = until_activated ++ VoteOf 1 Vote.Yes ∷ Decide Commit ∷ EndedAt 1 New
          ∷ [];
      after = [];
      there = refl;
      of = refl;
    }

entered-failed : IsEntered 7 Failed (world_after start failed).list
entered-failed =
    record {
      before = until_activated ++ VoteOf 1 Vote.RolledBack ∷ Decide (Abort (Cause.Vote 1)) ∷ EndedAt 1 Old
          ∷ [];
      after = [];
      there = refl;
      of = refl;
    }

-- one span, which ended New and left the cluster, or Old and left none
abbrev installed : Cluster Bytes
installed = record { name = 97 ∷ []; version = 49 ∷ 46 ∷ 48 ∷ 46 ∷ 48 ∷ []; needs = []; content = 9 ∷ [] }

abbrev at_one : List Event → NodeWorld
at_one events = (world_after start events).node 1

left-new : spans read 7 (at_one successful).opening (at_one successful).history
    ≡ record { is_open = false; ended = record { outcome = Some New; saved = []; left = installed ∷ [] } ∷ [] }
left-new = refl

left-old : spans read 7 (at_one failed).opening (at_one failed).history
    ≡ record { is_open = false; ended = record { outcome = Some Old; saved = []; left = [] } ∷ [] }
left-old = refl

running-new : (state_of read (at_one successful)).running ≡ installed ∷ []
running-new = refl

running-old : (state_of read (at_one failed)).running ≡ []
running-old = refl
