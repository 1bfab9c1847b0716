use Rattle.std.proofs.Common.{◌≡◌, drop, Some}
use Rattle.event_log.specs.Meaning.{after_all, state_of}
use Rattle.disk_tries.specs.Tallies.{tally_of, with_note}
use Rattle.disk_tries.proofs.tally_start.folded.Given as goal

abbrev pub invariant-loop-note : goal.invariant-loop-note
invariant-loop-note l = after_all with_note (Some l.tally) (drop l.note-index l.notes)
    ≡ state_of tally_of with_note l.text l.notes
