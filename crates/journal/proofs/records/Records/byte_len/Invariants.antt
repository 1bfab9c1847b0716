use Rattle.std.proofs.Common.{◌≡◌, ◌+◌, drop}
use Rattle.journal.specs.Records.{taken}
use Rattle.journal.proofs.records.Records.byte_len.Given as goal

abbrev pub invariant-loop-payload : goal.invariant-loop-payload
invariant-loop-payload l = l.all + taken (drop l.payload-index l.payload-items) ≡ taken l.self
