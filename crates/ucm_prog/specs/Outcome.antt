-- What a run of the program left of its source and its sink.
use Rattle.std.specs.Prelude.{◌≡◌, ◌≤◌, ◌++◌, ◌⊎◌, ℕ, ⊤, List, length, take, Option, Some, option_map}
use Rattle.fault_count.specs.Faults.{HasRisen}
use Rattle.ucm_prog.specs.declared.commands.Command.{Command}
use Rattle.ucm_prog.specs.declared.commands.Command.TheVariants.{Replay}
use Rattle.ucm_prog.specs.declared.status.ExitStatus.{ExitStatus}
use Rattle.ucm_prog.specs.declared.status.ExitStatus.TheVariants.{Successful, CampaignNotSuccessful, Usage, InputRefused, LeftUnfinished, ReadFault, WriteFault, OutOfMemory}

-- a text was put, where the sink tells what it holds
abbrev pub Puts : Option (List ℕ) → Option (List ℕ) → List ℕ → Type 0
Puts earlier later text = later ≡ option_map (λ w. w ++ text) earlier

-- a prefix of a text was put
abbrev pub PutsPrefix : Option (List ℕ) → Option (List ℕ) → List ℕ → Type 0
PutsPrefix earlier later text = (n : ℕ) × (n ≤ length text) × Puts earlier later (take n text)

-- a text was put, or a prefix of it and the sink's faults rose
abbrev pub IsWritten : Option (List ℕ) → Option (List ℕ) → List ℕ → ℕ → ℕ → Type 0
IsWritten earlier later text faults faults_now =
    Puts earlier later text ⊎ (PutsPrefix earlier later text × HasRisen faults faults_now)

-- the number that the process ends with
abbrev pub code_of : ExitStatus → ℕ
code_of Successful = 0
code_of CampaignNotSuccessful = 1
code_of Usage = 2
code_of InputRefused = 3
code_of LeftUnfinished = 4
code_of ReadFault = 5
code_of WriteFault = 6
code_of OutOfMemory = 7

-- a status that a command ends with
abbrev pub IsEnd : ExitStatus → Type 0
IsEnd Successful = ⊤
IsEnd InputRefused = ⊤
IsEnd LeftUnfinished = ⊤
IsEnd _ = ⊥

-- the run came to an output, written or not
abbrev pub IsJudged : ExitStatus → Type 0
IsJudged WriteFault = ⊤
IsJudged status = IsEnd status

-- a status of a command that runs no campaign
abbrev pub IsPlain : ExitStatus → Type 0
IsPlain CampaignNotSuccessful = ⊥
IsPlain _ = ⊤

-- the status where the sink fails: a refusal stands
abbrev pub unwritten : ExitStatus → ExitStatus
unwritten InputRefused = InputRefused
unwritten _ = WriteFault

-- how the program ends where a command ended with this status and text
abbrev pub IsTold : ExitStatus → List ℕ → ExitStatus → Option (List ℕ) → Option (List ℕ) → ℕ → ℕ → Type 0
IsTold status text ended earlier later faults faults_now =
    ((ended ≡ status) × Puts earlier later text)
    ⊎ ((ended ≡ unwritten status) × PutsPrefix earlier later text × HasRisen faults faults_now)

-- no disk is called: by another command than `replay`, where the input is refused, and where the source fails
abbrev pub CallsNoDisk : Option Command → ExitStatus → Type 0
CallsNoDisk (Some Replay) InputRefused = ⊤
CallsNoDisk (Some Replay) ReadFault = ⊤
CallsNoDisk (Some Replay) _ = ⊥
CallsNoDisk _ _ = ⊤
