use Rattle.std.proofs.Common.{◌≡◌, ◌++◌}
use Rattle.std.specs.List.{flat_map}
use Rattle.event_codec.specs.Spelling.{ManyFit}
use Rattle.event_codec.proofs.fields.take_many.Given as goal

abbrev pub invariant-values : goal.invariant-values
invariant-values g l =
    ManyFit g.T.Take.fits l.counter l.values.items × (l.bytes ≡ flat_map g.T.Take.spelled l.values.items ++ l.rest)
