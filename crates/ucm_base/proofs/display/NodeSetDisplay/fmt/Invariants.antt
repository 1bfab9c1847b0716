use Rattle.std.proofs.Common.{◌≡◌, take}
use Rattle.std.specs.Fmt.{HasWritten, IsPlainFormatter}
use denote.Text.{Utf8}
use denote.Shadow.{shadow}
use Rattle.ucm_base.specs.Printed.{numbers_from}
use Rattle.ucm_base.proofs.NodeTexts.{joined, separator}
use Rattle.ucm_base.proofs.display.NodeSetDisplay.fmt.Given as goal

abbrev pub invariant-loop-before : goal.invariant-loop-before
invariant-loop-before g l =
    shadow (Utf8 l.separator)
    × (l.separator ≡ separator (numbers_from 1 (take l.before l.self.flags)))
    × (IsPlainFormatter l.initial.f → HasWritten g.W.Write.write_str_gives l.initial.f
    (joined (numbers_from 1 (take l.before l.self.flags))) l.f)
