use Rattle.std.proofs.Common.{arith, rules}
use Rattle.wire.proofs.Spelled.{u64_taken}
use Rattle.wire.proofs.take.take_u64.Goals as goal

pub returns : goal.returns
returns c =
    let cut = c.in_ok-field.ensures.cases in
    u64_taken c.args.bytes.now c.in_ok-field.rest.now c.from_be_bytes.result
    (λ i. let small = c.type_inv.bytes i in search rules) c.in_ok-field.field.now cut.0 cut.1
    (omega (arith, cut.2)) c.from_be_bytes.ensures
