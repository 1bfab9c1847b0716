use Rattle.std.proofs.Common.{◌∙◌, ap}
use Rattle.history_query.specs.Shown.{are_consecutive}
use Rattle.history_query.proofs.Places.{consecutive-front, consecutive-back}
use Rattle.history_query.proofs.lines.history.Goals as goal

pub between-requires : goal.between-requires
between-requires c = record {
  consecutive = consecutive-front c.as_slices.result.0.now c.as_slices.result.1.now
      (ap are_consecutive c.as_slices.ensures ∙ c.requires.consecutive);
}

pub between-requires-2 : goal.between-requires-2
between-requires-2 c = record {
  consecutive = consecutive-back c.as_slices.result.0.now c.as_slices.result.1.now
      (ap are_consecutive c.as_slices.ensures ∙ c.requires.consecutive);
}
