use Rattle.world.proofs.TableLaw.{campaign-law}
use Rattle.world.proofs.RoundList.{stages-list}
use Rattle.world.proofs.Attempts.{replies-got}
use Rattle.world.proofs.RoundEnds.{rounds-end}
use Rattle.world.proofs.BySize.{goes-by-size}
use Rattle.world.proofs.campaign_law.Goals as goal

pub returns : goal.returns
returns c = record {
  law = campaign-law;
  rounds = λ k packages some replies fit. stages-list k packages replies some fit;
  ends = rounds-end;
  by_size = goes-by-size;
  attempts = replies-got;
}
