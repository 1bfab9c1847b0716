use Rattle.slot_store.specs.Extents.{node_places}
use Rattle.slot_store.proofs.Apart.{node_sound}
use Rattle.slot_store.proofs.Runs.{ran_moments, ran_after, ran_settles, ran_plan}
use Rattle.slot_store.proofs.laws.runs_leave_what_they_put.Goals as goal

pub returns-clause-any_moment : goal.returns-clause-any_moment
returns-clause-any_moment g c steps old new ran =
    let d = g.D.Disk in
    ran_moments (λ s. s.disk) d.seen d.images d.moment d.left_since d.armed node_places g.met.D.Disk.only_now
    steps old new ran

pub returns-clause-put : goal.returns-clause-put
returns-clause-put g c steps old new ran done on =
    let d = g.D.Disk in
    ran_after (λ s. s.disk) d.seen d.images d.moment d.left_since d.armed node_places node_sound
    steps old new ran done on

pub returns-clause-durable : goal.returns-clause-durable
returns-clause-durable g c steps old new ran sound only =
    let d = g.D.Disk in
    ran_settles (λ s. s.disk) d.seen d.images d.moment d.left_since d.armed node_places steps old new ran sound only

pub returns-clause-plan : goal.returns-clause-plan
returns-clause-plan g c steps old new ran =
    let d = g.D.Disk in
    ran_plan (λ s. s.disk) d.seen d.images d.moment d.left_since d.armed node_places steps old new ran
