use Rattle.std.proofs.Common.{◌≡◌, ◌+◌, ◌≤◌, length}
use Rattle.scenario.specs.declared.script.Command.TheVariants.{Replay}
use Rattle.scenario.specs.Scripts.{pieces_left, read_from, script_of, size_left, text_left}
use Rattle.scenario.proofs.script.read_replay.Given as goal

abbrev pub invariant-lines : goal.invariant-lines
invariant-lines l =
    (script_of Replay l.input ≡ read_from (length l.input) l.above l.at l.number (pieces_left 10 (text_left l.left)))
    × (l.at + size_left (text_left l.left) ≤ length l.input + 1)
    × (l.number ≤ l.at + 1)

abbrev pub decreases-lines : goal.decreases-lines
decreases-lines l = size_left (text_left l.left)
