-- What a script that is read asks of a run, and what the laws ask of it.
use Rattle.std.specs.Prelude.{◌≡◌, ℕ, ◌≤◌, List, [], map, option_map, slice_get, Ok}
use Rattle.std.specs.Option.{option_map_or}
use Rattle.ucm_base.specs.Parts.{Bytes}
use Rattle.ucm_base.specs.declared.parts.Part.{Part}
use Rattle.package_reader.specs.Spelling.{IsPackage}
use Rattle.pm_types.specs.Histories.{Reading}
use Rattle.node_laws.specs.Fit.{IsInstalled}
use Rattle.run_script.specs.declared.script.Script.{Script as AnyScript}
use Rattle.run_script.specs.InForm.{IsInForm}
use Rattle.run_script.specs.Scripts.{Said, said, start_time}
use Rattle.run_claim.specs.Calm.{AreWhole}
use Rattle.pm_types.specs.declared.clusters.Cluster.{Cluster}
use Rattle.vehicle_package.specs.declared.vehicle.Step.{Step as Brings}
use Rattle.vehicle_package.specs.declared.vehicle.Vehicle.{Vehicle}
use Rattle.scenario.specs.declared.events.Event.{Event}
use Rattle.scenario.specs.declared.events.Event.TheVariants.{Call, Work, Ask}
use Rattle.scenario.specs.declared.lines.Installed.{Installed as Formatted}
use Rattle.scenario.specs.Blocks.{bytes_meant}
use Rattle.scenario.specs.Events.{call_meant}
use Rattle.run_script.specs.declared.lines.ClientLine.{ClientLine as Line}
use Rattle.run_script.specs.declared.lines.InstalledLine.{InstalledLine}
use Rattle.run_script.specs.Plans.{disks_of}
use Rattle.run_claim.specs.Script.{Script, Step, Installed, ClientLine, Deed, Calls, Works, Asks, installed_on, packages_of}

-- the bytes that a step of the vehicle brings to its node
abbrev pub step_meant : Vehicle → Brings → Step
step_meant v s =
    record { node = s.node; bytes = option_map_or (λ p. p.bytes) (slice_get v.packages s.«package») [] }

-- a cluster of a line, with its block's bytes among those attached
abbrev pub cluster_meant : Bytes → Formatted → Cluster Bytes
cluster_meant attached c =
    record { name = c.name; version = c.version; needs = c.needs; content = bytes_meant attached c.block }

abbrev pub installed_meant : Bytes → InstalledLine → Installed
installed_meant attached l = record { node = l.node; cluster = cluster_meant attached l.cluster }

-- a line of a client, with its call's bytes among those attached
abbrev pub line_meant : Bytes → Line → ClientLine
line_meant attached l = done l.event
  where
    line_of : ℕ → Deed → ClientLine
    line_of client deed =
        record { line = l.line; is_setup = l.is_setup; node = l.node; client = client; deed = deed }

    done : Event → ClientLine
    done (Call client at call) = line_of client (Calls at (call_meant attached call))
    done (Work client) = line_of client Works
    done (Ask client query) = line_of client (Asks query)

-- the script of a run, as a run's claim speaks of it
abbrev pub asked : Said → Script
asked s =
    record {
      campaign = s.campaign;
      time = start_time s;
      steps = map (step_meant s.vehicle) s.vehicle.steps;
      installed = map (installed_meant s.attached) s.lines.installed;
      fails = s.lines.fails;
      lines = map (line_meant s.attached) s.lines.clients;
      cancel = option_map (λ c. c.point) s.lines.cancel;
      fates = s.lines.fates;
      plans = disks_of s.lines;
    }

-- a reading that gives the parts of every package
abbrev pub ReadsPackages : Reading → Type 0
ReadsPackages read = (bytes : Bytes) (parts : List (Part Bytes)) → IsPackage bytes parts → read bytes ≡ Ok parts

-- what the laws ask of a script: its campaign counts from 1, each node can be formatted with its clusters, and packages
-- are whole
pub record IsSound (read : Reading) (s : Script) : Type 0 where
  pub campaign : 1 ≤ s.campaign
  pub installed : (n : ℕ) → IsInstalled (installed_on s n)
  pub packages : (n : ℕ) → AreWhole read (packages_of s n)

-- every script in form asks for what is sound
abbrev pub SoundFollows : Type 0
SoundFollows = (read : Reading) → ReadsPackages read → (s : AnyScript) → IsInForm s → IsSound read (asked (said s))
