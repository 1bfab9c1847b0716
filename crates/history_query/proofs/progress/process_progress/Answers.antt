use Rattle.std.proofs.Common.{sym, subst}
use Rattle.history_query.specs.Shown.{IsUnfinished}
use Rattle.history_query.proofs.Found.{found-has}
use Rattle.history_query.proofs.progress.process_progress.Goals as goal

pub progress_of-requires : goal.progress_of-requires
progress_of-requires c = record {
  unfinished =
      subst (λ done. IsUnfinished done c.in-Some.transfer.now) (sym c.units_done_in.ensures)
      (found-has _ _ c.args.transfers.now c.in-Some.transfer.now c.requires.unfinished (sym c.in-Some.ensures)).1;
}
