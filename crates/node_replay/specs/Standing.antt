-- What is known of a node between two lines.
use Rattle.std.specs.Prelude.{◌≡◌, ◌⊎◌, ℕ, ◌-◌, ◌≤◌, Bool, true, false, List, string_bytes, Option, Some, None, Result, Ok, Err}
use Rattle.disk_core.specs.declared.plan.FaultPlan.{FaultPlan}
use Rattle.disk_core.specs.Images.{EachImage}
use Rattle.disk_core.specs.Plans.{no_faults}
use Rattle.event_log.specs.declared.log.Log.{Log}
use Rattle.fault_count.specs.Faults.{HasRisen}
use Rattle.ucm_base.specs.Limits.{attempt_limit}
use Rattle.pm_types.specs.NodeState.{NodeState}
use Rattle.node_core.specs.Core.{Readied}
use Rattle.node_store.specs.Open.{IsOpen}
use Rattle.node_store.specs.Serving.{MakesOne, ServesEither, node_on}
use Rattle.scenario.specs.declared.events.Event.{Event}
use Rattle.scenario.specs.declared.script.Script.{Script}
use Rattle.node_replay.specs.declared.given.Given.{Given}
use Rattle.node_replay.specs.declared.running.Replayed.{Replayed}
use Rattle.node_replay.specs.declared.running.Replayed.TheVariants.{Printed, Unformatted}
use Rattle.node_replay.specs.Done.{IsReplayed, RoseIn}
use Rattle.node_replay.specs.Lines.{after_event, given_by}

-- an open node is this one; of a closed one a crash leaves it, or the one after its last event
abbrev pub StandsAt : NodeState → NodeState → Bool → Log → Readied → List ℕ → (List ℕ → Type 0) → Type 0
StandsAt n m false log r seen images = IsOpen log r seen images × (node_on r.state seen ≡ n) × (m ≡ n)
StandsAt n m true log r seen images =
    EachImage images (ServesEither n m) × (n.entries ≡ r.state.entries) × MakesOne n m

-- after an event that was done at a node: what it gave, and the node behind it; without a reply that may stand
abbrev pub StandsAfter : NodeState → NodeState → Given → Option Given → Bool → Log → Readied → List ℕ
    → (List ℕ → Type 0) → Type 0
StandsAfter k after given (Some g) closed log r seen images =
    (g ≡ given) × StandsAt after after closed log r seen images
StandsAfter k after given None closed log r seen images = StandsAt k after closed log r seen images

-- after a line: all stays without a reply, or its event was done at one of the two nodes
abbrev pub StandsBehind : Script → List ℕ → Event → NodeState → NodeState → Option Given → Bool → Log → Readied
    → List ℕ → (List ℕ → Type 0) → Type 0
StandsBehind script attached event n m given closed log r seen images =
    ((given ≡ None) × StandsAt n m closed log r seen images)
    ⊎ ((k : NodeState) × ((k ≡ n) ⊎ (k ≡ m))
    × StandsAfter k (after_event script attached k event) (given_by script attached k event) given closed log r seen
    images)

-- only a line without a reply takes a fault
abbrev pub Rises : Option Given → ℕ → ℕ → Type 0
Rises (Some given) before now = before ≤ now
Rises None before now = HasRisen before now

-- how a replay ended
abbrev pub IsEnded : Script → List ℕ → ℕ → ℕ → (List ℕ → Type 0) → Replayed → Type 0
IsEnded script attached before now images (Printed text) =
    IsReplayed script attached script.events (string_bytes text) before now images
IsEnded script attached before now images (Unformatted faults) =
    RoseIn attempt_limit before now × (faults ≡ now - before)

-- the plan of the disk of a replay that ended so: the one that it was to have, or none where it wasn't formatted
abbrev pub IsArmed : {E : Type 0} → Result Replayed E → FaultPlan → FaultPlan → Type 0
IsArmed (Ok (Printed text)) plan armed = armed ≡ plan
IsArmed (Ok (Unformatted faults)) plan armed = armed ≡ no_faults
IsArmed (Err refused) plan armed = (armed ≡ no_faults) ⊎ (armed ≡ plan)
