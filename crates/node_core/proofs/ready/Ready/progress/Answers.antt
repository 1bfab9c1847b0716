use Rattle.node_core.proofs.Opened.{held}
use Rattle.node_core.proofs.Queried.{unfinished, progressed}
use Rattle.node_core.proofs.ready.Ready.progress.Goals as goal

pub process_progress-requires : goal.process_progress-requires
process_progress-requires c = record {
  unfinished =
      unfinished (held c.state.view_is c.self.view_is c.requires.sound.0) c.requires.sound.1 _
      c.as_slice-transfers.result.now c.as_ref.ensures.value c.as_slice-transfers.ensures.transfers;
}

pub returns : goal.returns
returns c = λ areas sound.
    progressed (held c.state.view_is c.self.view_is areas) sound _ c.as_slice-transfers.result.now
    c.as_ref.ensures.value c.as_slice-transfers.ensures.transfers c.args.client c.args.id c.process_progress.result
    c.process_progress.ensures
