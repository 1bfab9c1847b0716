use Rattle.client_calls.proofs.Arriving.{answered-stays, entries-posted, more-posted}
use Rattle.client_calls.proofs.calls_of_a_client.Goals as goal

pub returns : goal.returns
returns c = record { posted = entries-posted; more = more-posted; stays = answered-stays }
