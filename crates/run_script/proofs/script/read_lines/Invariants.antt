use Rattle.std.proofs.Common.{◌≡◌, ◌+◌, ◌≤◌, length}
use Rattle.scenario.specs.Scripts.{lines_of, pieces_left, size_left, text_left}
use Rattle.run_script.specs.Above.{nothing_above}
use Rattle.run_script.specs.Scripts.{above_end, end_at, lines_read}
use Rattle.run_script.specs.InForm.{AreInForm}
use Rattle.run_script.specs.Taken.{IsTaken}
use Rattle.run_script.proofs.script.read_lines.Given as goal

abbrev pub invariant-lines : goal.invariant-lines
invariant-lines l =
    record {
      read : lines_read nothing_above 1 (above_end (lines_of l.input)) ≡ lines_read l.above l.number
          (above_end (pieces_left 10 (text_left l.left)));
      end : end_at (lines_of l.input) ≡ l.at + end_at (pieces_left 10 (text_left l.left));
      within : l.at + size_left (text_left l.left) ≤ length l.input + 1;
      count : l.number ≤ l.at + 1;
      taken : IsTaken l.taken l.above.lines;
      form : AreInForm l.above.lines;
    }

abbrev pub decreases-lines : goal.decreases-lines
decreases-lines l = size_left (text_left l.left)
