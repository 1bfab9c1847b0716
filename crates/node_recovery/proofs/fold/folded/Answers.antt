use Rattle.std.proofs.Common.{◌+◌, drop, sym, subst, ◌∙◌, ap}
use Rattle.std.specs.Prelude.{IsSome}
use Rattle.event_log.specs.Meaning.{after_all}
use Rattle.event_codec.specs.DecidingStates.{state_told}
use Rattle.node_recovery.specs.Images.{after_bytes}
use Rattle.node_recovery.proofs.Folded.{next_record, next_some, spells_one, tells_one, told_allowed}
use Rattle.node_recovery.proofs.fold.folded.Goals as goal

pub unreachable-requires : goal.unreachable-requires
unreachable-requires c =
    tells_one (state_told c.args.text.now) c.args.records.now (sym c.in_ok-state.ensures.read ∙ c.in_default.is)
    c.requires

pub unreachable-requires-in_default-2 : goal.unreachable-requires-in_default-2
unreachable-requires-in_default-2 c =
    spells_one c.loop-bytes.state c.as_slice.result.now (sym c.in_ok-record.ensures.read ∙ c.in_default-2.is)
    (next_some c.loop-bytes.state c.args.records.now c.loop-bytes.bytes-index c.bytes-item.result c.as_slice.result.now
    _
    c.loop-bytes-test.true c.bytes-item.is c.as_slice.ensures c.loop-bytes.invariant c.requires)

pub redo-requires-clause-allowed : goal.redo-requires-clause-allowed
redo-requires-clause-allowed c =
    (told_allowed c.loop-bytes.state c.as_slice.result.now c.in-Some-2.record
    (sym c.in_ok-record.ensures.read ∙ c.in-Some-2.is)
    (next_some c.loop-bytes.state c.args.records.now c.loop-bytes.bytes-index c.bytes-item.result c.as_slice.result.now
    _
    c.loop-bytes-test.true c.bytes-item.is c.as_slice.ensures c.loop-bytes.invariant c.requires)).0

pub redo-requires-clause-there : goal.redo-requires-clause-there
redo-requires-clause-there c =
    let some = next_some c.loop-bytes.state c.args.records.now c.loop-bytes.bytes-index c.bytes-item.result
    c.as_slice.result.now _ c.loop-bytes-test.true c.bytes-item.is c.as_slice.ensures c.loop-bytes.invariant c.requires
    in
    subst IsSome (told_allowed c.loop-bytes.state c.as_slice.result.now c.in-Some-2.record
    (sym c.in_ok-record.ensures.read ∙ c.in-Some-2.is) some).1 some

pub loop-bytes-preserved : goal.loop-bytes-preserved
loop-bytes-preserved c =
    let some = next_some c.loop-bytes.state c.args.records.now c.loop-bytes.bytes-index c.bytes-item.result
    c.as_slice.result.now _ c.loop-bytes-test.true c.bytes-item.is c.as_slice.ensures c.loop-bytes.invariant c.requires
    in
    ap (λ o. after_all after_bytes o (drop (c.loop-bytes.bytes-index + 1) c.args.records.now))
    (sym ((told_allowed c.loop-bytes.state c.as_slice.result.now c.in-Some-2.record
    (sym c.in_ok-record.ensures.read ∙ c.in-Some-2.is) some).1 ∙ c.in_ok-redo.ensures))
    ∙ sym (next_record c.loop-bytes.state c.args.records.now c.loop-bytes.bytes-index c.bytes-item.result
    c.as_slice.result.now c.loop-bytes-test.true c.bytes-item.is c.as_slice.ensures)
    ∙ c.loop-bytes.invariant
