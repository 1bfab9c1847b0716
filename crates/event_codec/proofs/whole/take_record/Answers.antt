use Rattle.event_codec.specs.UniqueRecords.{unique-record}
use Rattle.event_codec.specs.Deciding.{taken_ok}
use Rattle.event_codec.specs.DecidingRecords.{record_told, tells-record}
use Rattle.event_codec.proofs.whole.take_record.Goals as goal

pub returns-clause-read : goal.returns-clause-read
unfolding record_told
returns-clause-read c =
    taken_ok unique-record c.args.bytes.now c.take_whole.result (tells-record c.args.bytes.now) c.take_whole.ensures
