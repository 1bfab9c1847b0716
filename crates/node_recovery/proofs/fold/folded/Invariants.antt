use Rattle.std.proofs.Common.{◌≡◌, drop, Some}
use Rattle.event_log.specs.Meaning.{after_all, state_of}
use Rattle.event_codec.specs.DecidingStates.{state_told}
use Rattle.node_recovery.specs.Images.{after_bytes}
use Rattle.node_recovery.proofs.fold.folded.Given as goal

abbrev pub invariant-loop-bytes : goal.invariant-loop-bytes
invariant-loop-bytes l = after_all after_bytes (Some l.state) (drop l.bytes-index l.records)
    ≡ state_of state_told after_bytes l.text l.records
