use Rattle.std.proofs.Common.{◌≡◌, ◌++◌, take, string_bytes}
use Rattle.std.specs.List.{flat_map}
use Rattle.report.specs.Lines.{reply_line}
use Rattle.report.proofs.lines.add_replies.Given as goal

abbrev pub invariant-loop-reply : goal.invariant-loop-reply
invariant-loop-reply l =
    string_bytes l.text ≡ string_bytes l.initial.text ++ flat_map (reply_line l.start) (take l.reply-index l.replies)
