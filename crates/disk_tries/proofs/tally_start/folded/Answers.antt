use Rattle.std.proofs.Common.{Option, sym, ◌∙◌, ap}
use Rattle.event_log.specs.Meaning.{after_all}
use Rattle.disk_tries.specs.Tallies.{with_note}
use Rattle.disk_tries.specs.declared.tally.Tally.{Tally}
use Rattle.disk_tries.proofs.Folds.{after_none, no_room}
use Rattle.disk_tries.proofs.tally_start.folded.Goals as goal

pub returns-in_err-tally : goal.returns-in_err-tally
returns-in_err-tally c =
    c.from_residual.ensures
    ∙ sym (ap (λ (o : Option Tally). after_all with_note o c.args.notes.now) (sym c.read.ensures
    ∙ c.in_err-tally.was) ∙ after_none c.args.notes.now)

pub returns-in_err-tally-2 : goal.returns-in_err-tally-2
returns-in_err-tally-2 c =
    c.from_residual-in_err-tally-2.ensures
    ∙ sym (sym c.loop-note.invariant
    ∙ no_room c.loop-note.tally c.args.notes.now c.loop-note.note-index c.note-item.result c.as_slice.result.now
    c.loop-note-test.true c.note-item.is c.as_slice.ensures (sym c.with_note.ensures ∙ c.in_err-tally-2.was))
