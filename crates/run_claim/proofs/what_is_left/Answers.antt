use Rattle.run_claim.proofs.Left.{is-left}
use Rattle.run_claim.proofs.what_is_left.Goals as goal

pub returns : goal.returns
returns c = record {
  law = λ read reading s counted list fits n low high some installed history node master.
      is-left read reading s counted n list history some installed node master fits low high;
}
