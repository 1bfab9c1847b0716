use Rattle.std.proofs.Common.{◌≡◌, ◌++◌, take}
use Rattle.std.specs.List.{flat_map, AllByRecursion}
use Rattle.event_codec.proofs.fields.put_many.Given as goal

abbrev pub invariant-values : goal.invariant-values
invariant-values g l =
    (l.into.items ≡ l.initial.into.items ++ flat_map g.T.Take.spelled (take l.value-index l.values))
    × AllByRecursion g.T.Take.fits (take l.value-index l.values)
