use Rattle.std.proofs.Common.{◌≡◌, length}
use Rattle.disk_core.specs.Images.{EachImage}
use Rattle.disk_mem.specs.Medium.{images}
use Rattle.journal.specs.Ready.{IsReady}
use Rattle.disk_tries.proofs.long_journal.append_many.Given as goal

abbrev pub invariant-loop-record : goal.invariant-loop-record
invariant-loop-record l =
    EachImage (images l.disk.medium) (IsReady l.journal.area l.journal.used) ×
    (l.journal.area ≡ l.initial.journal.area) ×
    (length l.disk.medium.pages.bytes ≡ length l.initial.disk.medium.pages.bytes)
