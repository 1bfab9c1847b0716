use Rattle.std.proofs.Common.{◌≡◌, ◌++◌, length}
use Rattle.journal.specs.Records.{journal_list}
use Rattle.journal.proofs.reading.records_of.Given as goal

abbrev pub invariant-loop-payload : goal.invariant-loop-payload
invariant-loop-payload l = l.payloads.items ++ journal_list l.rest ≡ journal_list l.bytes

abbrev pub decreases-loop-payload : goal.decreases-loop-payload
decreases-loop-payload l = length l.rest
