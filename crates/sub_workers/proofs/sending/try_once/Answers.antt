use Rattle.sub_core.specs.Calls.{bytes_of}
use Rattle.sub_workers.proofs.sending.try_once.Goals as goal

pub send-requires-clause-there : goal.send-requires-clause-there
send-requires-clause-there g c =
    c.in-Send.ensures.there (bytes_of c.args.worker.now.packages.now) c.requires.ready.packages
