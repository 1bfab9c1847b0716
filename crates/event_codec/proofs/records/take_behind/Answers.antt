use Rattle.std.proofs.Common.{◌++◌, refl}
use Rattle.event_codec.specs.UniqueRecords.{Fields, fields_spelled}
use Rattle.event_codec.specs.Outside.{no_part}
use Rattle.event_codec.proofs.records.take_behind.Goals as goal

pub returns-in-Err-clause-outside : goal.returns-in-Err-clause-outside
returns-in-Err-clause-outside c = λ is.
    let t : Fields = (c.args.client, (c.args.no, (c.args.call, c.args.reply))) in
    let exit = c.in-TransferExit-Done in
    no_part (fields_spelled t ++ c.args.bytes.now) c.args.bytes.now t exit.id exit.is-0 exit.is-1 c.requires refl
    (c.in-Err.ensures.outside is)
