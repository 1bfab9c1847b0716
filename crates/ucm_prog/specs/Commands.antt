-- The words of the program's commands.
use Rattle.std.specs.Prelude.{ℕ, if◌then◌else◌, List, [], ◌∷◌, ◌++◌, codes, option_map, Option, Some, None}
use Rattle.std.specs.Str.{bytes_eq}
use Rattle.recipe.specs.declared.packing.Kind.{Kind}
use Rattle.recipe.specs.declared.packing.Kind.TheVariants.{Package, Vehicle, Script}
use Rattle.ucm_prog.specs.declared.commands.Command.{Command}
use Rattle.ucm_prog.specs.declared.commands.Command.TheVariants.{Replay, Inspect, Pack}

-- `replay` or `inspect`
abbrev pub plain_command : List ℕ → Option Command
plain_command word =
    if bytes_eq word (codes "replay") then Some Replay
    else if bytes_eq word (codes "inspect") then Some Inspect
    else None

-- what is packed: `package`, `vehicle` or `script`
abbrev pub kind_of : List ℕ → Option Kind
kind_of word =
    if bytes_eq word (codes "package") then Some Package
    else if bytes_eq word (codes "vehicle") then Some Vehicle
    else if bytes_eq word (codes "script") then Some Script
    else None

-- the command of the words, if they are those of one that is served
abbrev pub command_of : List (List ℕ) → Option Command
command_of (word ∷ []) = plain_command word
command_of (word ∷ kind ∷ []) = if bytes_eq word (codes "pack") then option_map Pack (kind_of kind) else None
command_of _ = None

-- what is printed where the words are none of a command
abbrev pub usage_line : List ℕ
usage_line = codes "usage: ucm run [full] | demo <number> | replay | inspect | pack package|vehicle|script" ++ 10 ∷ []
