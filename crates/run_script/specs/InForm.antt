-- What every line that is read satisfies, and all lines of a script together.
use Rattle.std.specs.Prelude.{◌≡◌, ℕ, ◌≤◌, ◌<◌, ◌&&◌, ◌==◌, not, Bool, true, ⊤, List, [], ◌∷◌, length, Option, Some, None}
use Rattle.std.specs.List.{All, AllByRecursion, list_any}
use Rattle.std.specs.Str.{bytes_eq}
use Rattle.ucm_base.specs.Limits.{carried_limit, client_limit, cluster_limit, node_limit, package_limit, time_limit}
use Rattle.disk_core.specs.declared.plan.FailKind.{FailKind}
use Rattle.range_set.specs.Ranges.{meets}
use Rattle.vehicle_package.specs.declared.vehicle.Vehicle.{Vehicle}
use Rattle.vehicle_package.specs.Changes.{twice_in}
use Rattle.vehicle_package.specs.Plan.{IsStep, are_few}
use Rattle.vehicle_package.specs.Spelling.{IsCarried}
use Rattle.scenario.specs.declared.events.Event.{Event}
use Rattle.scenario.specs.declared.events.Event.TheVariants.{Call, Work, Ask}
use Rattle.scenario.specs.declared.events.NodeEvent.{NodeEvent}
use Rattle.scenario.specs.declared.lines.ScriptLine.{ScriptLine}
use Rattle.scenario.specs.declared.lines.ScriptLine.TheVariants.{Time, Installed, Happens, Fails, Attach}
use Rattle.scenario.specs.Blocks.{length_meant}
use Rattle.run_script.specs.declared.script.Script.{Script}
use Rattle.run_script.specs.declared.lines.ClientLine.{ClientLine}
use Rattle.sub_core.specs.declared.subordinate.Fate.{Fate as AnyFate}
use Rattle.sub_core.specs.declared.subordinate.Fate.TheVariants.{Deliver, Late, Delayed}
use Rattle.run_script.specs.declared.lines.CampaignLine.{CampaignLine}
use Rattle.run_script.specs.declared.lines.TimeLine.{TimeLine}
use Rattle.run_script.specs.declared.lines.FateLine.{FateLine}
use Rattle.run_script.specs.declared.lines.FaultLine.{FaultLine}
use Rattle.run_script.specs.declared.lines.InstalledLine.{InstalledLine}
use Rattle.run_script.specs.declared.lines.StopLine.{StopLine}
use Rattle.run_script.specs.declared.lines.Lines.{Lines}
use Rattle.run_script.specs.declared.read.RunLine.{RunLine}
use Rattle.run_script.specs.declared.read.RunLine.TheVariants.{Shared, Setup, Stop, Fault, Campaign, Cancel, Fate}
use Rattle.run_script.specs.Above.{on_node}
use Rattle.run_script.specs.Taken.{attempts_of, faults_of, stops_of}

-- a node of a vehicle
abbrev pub IsNode : ℕ → Type 0
IsNode n = (1 ≤ n) × (n ≤ node_limit)

-- a client beside the master, which is client 0
abbrev pub IsClient : ℕ → Type 0
IsClient c = (1 ≤ c) × (c < client_limit)

-- who does this
abbrev pub client_of : Event → ℕ
client_of (Call client at call) = client
client_of (Work client) = client
client_of (Ask client query) = client

-- a client does something on a node
abbrev pub IsDone : NodeEvent → Type 0
IsDone e = IsNode e.node × IsClient (client_of e.event)

-- a campaign's number, if a line gives it
abbrev pub IsCampaign : Option CampaignLine → Type 0
IsCampaign None = ⊤
IsCampaign (Some k) = 1 ≤ k.campaign

-- a start time, if a line gives it
abbrev pub IsTime : Option TimeLine → Type 0
IsTime None = ⊤
IsTime (Some t) = t.time ≤ time_limit

-- a line that `replay` has, too
abbrev pub IsShared : ScriptLine → Type 0
IsShared (Time t) = t ≤ time_limit
IsShared (Installed node c) = IsNode node
IsShared (Happens e) = IsDone e
IsShared (Fails node name) = IsNode node
IsShared (Attach name len) = ⊤

-- numbers from 1 on, in order
abbrev pub IsRange : ℕ → ℕ → Type 0
IsRange first last = (1 ≤ first) × (first ≤ last)

-- a message comes again at its own attempt or later, or at the end
abbrev pub IsLater : ℕ → Option ℕ → Type 0
IsLater last None = ⊤
IsLater last (Some j) = last ≤ j

-- a fate of a script, of attempts of which this is the last
abbrev pub IsFate : ℕ → AnyFate → Type 0
IsFate last Deliver = ⊥
IsFate last (Late j) = IsLater last j
IsFate last (Delayed j) = IsLater last j
IsFate last _ = ⊤

pub record IsFateLine (f : FateLine) : Type 0 where
  pub node : IsNode f.node
  pub attempts : IsRange f.first f.last
  pub fate : IsFate f.last f.fate

pub record IsFaultLine (f : FaultLine) : Type 0 where
  pub disk : f.disk ≤ node_limit
  pub calls : IsRange f.first f.last

pub record IsStopLine (s : StopLine) : Type 0 where
  pub disk : s.disk ≤ node_limit
  pub write : 1 ≤ s.write

-- a line that is read
abbrev pub IsLine : RunLine → Type 0
IsLine (Shared l) = IsShared l
IsLine (Setup e) = IsDone e
IsLine (Stop s) = IsStopLine s
IsLine (Fault f) = IsFaultLine f
IsLine (Campaign k) = 1 ≤ k
IsLine (Cancel point) = ⊤
IsLine (Fate f) = IsFateLine f

-- a line of a client
abbrev pub IsClientLine : ClientLine → Type 0
IsClientLine c = IsNode c.node × IsClient (client_of c.event)

-- a cluster of a node, no longer than a package
abbrev pub IsInstalledLine : InstalledLine → Type 0
IsInstalledLine l = IsNode l.node × (length_meant l.cluster.block ≤ package_limit)

-- no two elements of a list meet
abbrev pub are_apart : {A : Type 0} → (A → A → Bool) → List A → Bool
are_apart meet [] = true
are_apart meet (x ∷ xs) = not (list_any (meet x) xs) && are_apart meet xs

-- two ranges have a number in common
abbrev pub ranges_meet : (ℕ × ℕ) × ℕ → (ℕ × ℕ) × ℕ → Bool
ranges_meet x y = meets x.0.0 x.1 x.0.1 y

-- two lines install clusters of one name on one node
abbrev pub same_cluster : InstalledLine → InstalledLine → Bool
same_cluster x y = (y.node == x.node) && bytes_eq y.cluster.name x.cluster.name

pub record AreInstalled (ls : List InstalledLine) : Type 0 where
  pub each : All IsInstalledLine ls
  pub once : are_apart same_cluster ls ≡ true
  pub room : (node : ℕ) → on_node ls node ≤ cluster_limit

pub record AreStops (ls : List StopLine) : Type 0 where
  pub each : All IsStopLine ls
  pub apart : are_apart ranges_meet (stops_of ls) ≡ true

pub record AreFaults (ls : List FaultLine) : Type 0 where
  pub each : All IsFaultLine ls
  pub apart : (kind : FailKind) → are_apart ranges_meet (faults_of kind ls) ≡ true

pub record AreFates (ls : List FateLine) : Type 0 where
  pub each : All IsFateLine ls
  pub apart : are_apart ranges_meet (attempts_of ls) ≡ true

-- what all lines of a script satisfy
pub record AreInForm (lines : Lines) : Type 0 where
  pub campaign : IsCampaign lines.campaign
  pub time : IsTime lines.time
  pub installed : AreInstalled lines.installed
  pub fails : All (λ l. IsNode l.node) lines.fails
  pub clients : All IsClientLine lines.clients
  pub stops : AreStops lines.stops
  pub faults : AreFaults lines.faults
  pub fates : AreFates lines.fates

-- the vehicle that every script has: 1 to 128 steps, each of a package that is there, which is one by its bytes, to one
-- of the eight nodes, and no cluster to a node twice
pub record IsLoaded (v : Vehicle) : Type 0 where
  pub some : are_few (length v.steps) ≡ true
  pub steps : AllByRecursion (IsStep (length v.packages)) v.steps
  pub few : length v.packages ≤ carried_limit
  pub packages : AllByRecursion IsCarried v.packages
  pub once : twice_in v.packages v.steps ≡ None

-- what every script of a run satisfies
pub record IsInForm (s : Script) : Type 0 where
  pub campaign : 1 ≤ s.campaign
  pub lines : AreInForm s.lines
  pub vehicle : IsLoaded s.vehicle
