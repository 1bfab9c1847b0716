-- What is known below each line, unless it stands twice or passes a limit.
use Rattle.std.specs.Prelude.{ℕ, ◌&&◌, ◌==◌, not, nat_lt, nat_le, Bool, true, false, if◌then◌else◌, List, [], ◌∷◌, ◌++◌, length, filter, Option, Some, None, is_some, is_none, Result, Ok, Err}
use Rattle.std.specs.List.{list_any}
use Rattle.std.specs.Str.{bytes_eq}
use Rattle.ucm_base.specs.Limits.{cluster_limit, package_limit}
use Rattle.range_set.specs.Ranges.{is_met}
use Rattle.scenario.specs.declared.why.Why.{Why}
use Rattle.scenario.specs.declared.why.Why.TheVariants.{Twice, Limit}
use Rattle.scenario.specs.declared.events.NodeEvent.{NodeEvent}
use Rattle.scenario.specs.declared.lines.Installed.{Installed as Cluster}
use Rattle.scenario.specs.declared.lines.ScriptLine.{ScriptLine}
use Rattle.scenario.specs.declared.lines.ScriptLine.TheVariants.{Time, Installed, Happens, Fails, Attach}
use Rattle.scenario.specs.Readings.{given}
use Rattle.scenario.specs.Attached.{attached_by, with_attached}
use Rattle.scenario.specs.Blocks.{length_meant}
use Rattle.scenario.specs.Scripts.{attached_with}
use Rattle.run_script.specs.declared.lines.FateLine.{FateLine}
use Rattle.run_script.specs.declared.lines.FaultLine.{FaultLine}
use Rattle.run_script.specs.declared.lines.InstalledLine.{InstalledLine}
use Rattle.run_script.specs.declared.lines.Lines.{Lines}
use Rattle.run_script.specs.declared.lines.Point.{Point}
use Rattle.run_script.specs.declared.lines.StopLine.{StopLine}
use Rattle.run_script.specs.declared.read.RunLine.{RunLine}
use Rattle.run_script.specs.declared.read.RunLine.TheVariants.{Shared, Setup, Stop, Fault, Campaign, Cancel, Fate}
use Rattle.run_script.specs.declared.above.Above.{Above}
use Rattle.run_script.specs.Taken.{attempts_of, faults_of, stops_of}

-- no lines of any kind
abbrev pub no_lines : Lines
no_lines =
    record {
      campaign = None;
      time = None;
      cancel = None;
      attached = [];
      installed = [];
      fails = [];
      clients = [];
      stops = [];
      faults = [];
      fates = [];
    }

-- what is known before the first line
abbrev pub nothing_above : Above
nothing_above = record { lines = no_lines; attachments = []; attached = 0 }

-- what is known below the n-th line, of each kind
abbrev pub time_added : ℕ → Above → ℕ → Result Above Why
time_added n above t =
    let lines = above.lines in
    given (is_none lines.time)
    (record above { lines = record lines { time = Some (record { line = n; time = t }) } }) Twice

abbrev pub campaign_added : ℕ → Above → ℕ → Result Above Why
campaign_added n above k =
    let lines = above.lines in
    given (is_none lines.campaign)
    (record above { lines = record lines { campaign = Some (record { line = n; campaign = k }) } }) Twice

abbrev pub cancel_added : ℕ → Above → Point → Result Above Why
cancel_added n above p =
    let lines = above.lines in
    given (is_none lines.cancel)
    (record above { lines = record lines { cancel = Some (record { line = n; point = p }) } }) Twice

abbrev pub has_installed : List InstalledLine → ℕ → List ℕ → Bool
has_installed installed node name = list_any (λ l. (l.node == node) && bytes_eq l.cluster.name name) installed

-- how many clusters are installed on a node
abbrev pub on_node : List InstalledLine → ℕ → ℕ
on_node installed node = length (filter (λ l. l.node == node) installed)

-- at most 64 clusters on a node, each of at most 16,777,216 bytes
abbrev pub has_room : Above → ℕ → Cluster → Bool
has_room above node c =
    nat_lt (on_node above.lines.installed node) cluster_limit && nat_le (length_meant c.block) package_limit

abbrev pub with_installed : ℕ → Above → ℕ → Cluster → Above
with_installed n above node c =
    let lines = above.lines in
    record above {
      lines = record lines { installed = lines.installed ++ record { line = n; node = node; cluster = c } ∷ [] };
    }

abbrev pub installed_added : ℕ → Above → ℕ → Cluster → Result Above Why
installed_added n above node c =
    if has_installed above.lines.installed node c.name then Err Twice
    else given (has_room above node c) (with_installed n above node c) Limit

abbrev pub client_added : ℕ → Bool → Above → NodeEvent → Result Above Why
client_added n is_setup above e =
    let lines = above.lines in
    Ok (record above {
      lines = record lines {
        clients = lines.clients ++ record { line = n; is_setup = is_setup; node = e.node; event = e.event } ∷ [];
      };
    })

abbrev pub fails_added : ℕ → Above → ℕ → List ℕ → Result Above Why
fails_added n above node name =
    let lines = above.lines in
    Ok (record above {
      lines = record lines { fails = lines.fails ++ record { line = n; node = node; name = name } ∷ [] };
    })

-- what is known below an attachment, where this many bytes are attached then
abbrev pub attached_to : ℕ → Above → List ℕ → ℕ → Option ℕ → Result Above Why
attached_to n above name len (Some all) =
    let lines = above.lines in
    Ok (record above {
      lines = record lines { attached = lines.attached ++ record { line = n; name = name; len = len } ∷ [] };
      attachments = with_attached above.attachments name (record { at = above.attached; len = len });
      attached = all;
    })
attached_to n above name len None = Err Limit

abbrev pub attach_added : ℕ → Above → List ℕ → ℕ → Result Above Why
attach_added n above name len =
    if is_some (attached_by above.attachments name) then Err Twice
    else attached_to n above name len (attached_with above.attached len)

abbrev pub shared_added : ℕ → Above → ScriptLine → Result Above Why
shared_added n above (Time t) = time_added n above t
shared_added n above (Installed node c) = installed_added n above node c
shared_added n above (Happens e) = client_added n false above e
shared_added n above (Fails node name) = fails_added n above node name
shared_added n above (Attach name len) = attach_added n above name len

-- a node's attempt stands once
abbrev pub fate_added : Above → FateLine → Result Above Why
fate_added above f =
    let lines = above.lines in
    given (not (is_met (attempts_of lines.fates) f.node f.first f.last))
    (record above { lines = record lines { fates = lines.fates ++ f ∷ [] } }) Twice

-- a disk's write stands once among the stops
abbrev pub stop_added : Above → StopLine → Result Above Why
stop_added above s =
    let lines = above.lines in
    given (not (is_met (stops_of lines.stops) s.disk s.write s.write))
    (record above { lines = record lines { stops = lines.stops ++ s ∷ [] } }) Twice

-- a disk's call of a kind stands once among the faults
abbrev pub fault_added : Above → FaultLine → Result Above Why
fault_added above f =
    let lines = above.lines in
    given (not (is_met (faults_of f.kind lines.faults) f.disk f.first f.last))
    (record above { lines = record lines { faults = lines.faults ++ f ∷ [] } }) Twice

-- what is known below the n-th line
abbrev pub added : ℕ → Above → RunLine → Result Above Why
added n above (Shared l) = shared_added n above l
added n above (Setup e) = client_added n true above e
added n above (Stop s) = stop_added above s
added n above (Fault f) = fault_added above f
added n above (Campaign k) = campaign_added n above k
added n above (Cancel point) = cancel_added n above point
added n above (Fate f) = fate_added above f
