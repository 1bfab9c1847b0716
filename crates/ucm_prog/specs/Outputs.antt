-- What the commands that never wait write.
use Rattle.std.specs.Prelude.{◌≡◌, ℕ, ◌-◌, List, [], ◌∷◌, ◌++◌, codes, drop, Result, Ok, Err, Option, Some, None, IfSome}
use Rattle.std.specs.Fmt.{decimal}
use Rattle.fault_count.specs.Faults.{HasRisen}
use Rattle.ucm_base.specs.Limits.{attempt_limit, input_limit}
use Rattle.ucm_ports.specs.Reading.{whole}
use Rattle.recipe.specs.Packing.{packed}
use Rattle.scenario.specs.declared.script.Command.TheVariants.{Replay as ScriptOfReplay}
use Rattle.scenario.specs.declared.script.Script.{Script}
use Rattle.scenario.specs.Scripts.{Refused, script_of}
use Rattle.node_replay.specs.Done.{IsReplayed, RoseIn}
use Rattle.ucm_prog.specs.declared.commands.Command.{Command}
use Rattle.ucm_prog.specs.declared.commands.Command.TheVariants.{Replay, Inspect, Pack}
use Rattle.ucm_prog.specs.declared.status.ExitStatus.{ExitStatus}
use Rattle.ucm_prog.specs.declared.status.ExitStatus.TheVariants.{Successful, LeftUnfinished}
use Rattle.ucm_prog.specs.Inspect.{inspected_input}
use Rattle.ucm_prog.specs.Refusals.{Output, line_refusal, refused_output, too_long_output}

-- what a command does with an input: it writes an output, or a script's events are done, among the attached bytes
pub data Task : Type 0 where
  Writes : Output → Task
  Replays : Script → List ℕ → Task

abbrev pub packed_output : Result (List ℕ) Refused → Output
packed_output (Ok bytes) = record { status = Successful; text = bytes }
packed_output (Err r) = refused_output (line_refusal r.line r.why)

abbrev pub replayed : Result Script Refused → List ℕ → Task
replayed (Ok script) input = Replays script (drop script.attached_at input)
replayed (Err r) input = Writes (refused_output (line_refusal r.line r.why))

-- what a command does with an input that isn't too long
abbrev pub command_task : Command → List ℕ → Task
command_task Replay input = replayed (script_of ScriptOfReplay input) input
command_task Inspect input = Writes (inspected_input input)
command_task (Pack kind) input = Writes (packed_output (packed kind input))

-- the same of an input that was read whole; there is none where it is too long
abbrev pub task_at : Command → Option (List ℕ) → Task
task_at command (Some input) = command_task command input
task_at command None = Writes too_long_output

-- what a command does with an input
abbrev pub task_of : Command → List ℕ → Task
task_of command input = task_at command (whole input_limit input)

-- the output has this status and this text
pub record IsOutput (output : Output) (ended : ExitStatus) (written : List ℕ) : Type 0 where
  pub status : ended ≡ output.status
  pub text : written ≡ output.text

-- what is written where no attempt formatted the disk of node 1, in which its faults rose by this much
abbrev pub unformatted_line : ℕ → List ℕ
unformatted_line faults = codes "open node 1 losses 0 faults " ++ decimal faults ++ 10 ∷ []

-- a script's events were done on the disk of node 1, or eight attempts to format it failed
abbrev pub IsReplay : Script → List ℕ → ExitStatus → List ℕ → ℕ → ℕ → (List ℕ → Type 0) → Type 0
IsReplay script attached Successful text before now images =
    IsReplayed script attached script.events text before now images
IsReplay script attached LeftUnfinished text before now images =
    RoseIn attempt_limit before now × (text ≡ unformatted_line (now - before))
IsReplay script attached _ text before now images = ⊥

-- a task ended with this status and text, by the counts of faults of node 1's disk and its images
abbrev pub Ends : Task → ExitStatus → List ℕ → ℕ → ℕ → (List ℕ → Type 0) → Type 0
Ends (Writes output) status text before now images = IsOutput output status text
Ends (Replays script attached) status text before now images = IsReplay script attached status text before now images

-- what is said of a command's task, where the source tells its input
abbrev pub OfTask : Option Command → Option (List ℕ) → (Task → Type 0) → Type 0
OfTask command left says = IfSome command (λ c. IfSome left (λ input. says (task_of c input)))
