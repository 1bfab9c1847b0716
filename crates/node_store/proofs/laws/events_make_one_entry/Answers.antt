use Rattle.node_store.proofs.Entries.{call_makes_one, unit_makes_one}
use Rattle.node_store.proofs.laws.events_make_one_entry.Goals as goal

pub returns-clause-call : goal.returns-clause-call
returns-clause-call c = call_makes_one

pub returns-clause-unit : goal.returns-clause-unit
returns-clause-unit c = unit_makes_one
