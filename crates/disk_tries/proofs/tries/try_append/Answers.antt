use Rattle.disk_tries.proofs.tries.try_append.Goals as goal

pub append-ended-requires-clause-ready : goal.append-ended-requires-clause-ready
append-ended-requires-clause-ready c x now = c.in_default.ensures.ready x (c.arm.ensures.images.none_new x now)
