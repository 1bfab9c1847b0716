use Rattle.slot_store.specs.Extents.{held_in, node_places}
use Rattle.node_store.proofs.Asked.{plain}
use Rattle.node_store.proofs.node.Node.query.Goals as goal

pub query-requires : goal.query-requires
query-requires g c =
    let areas = held_in node_places (g.D.Disk.seen c.args.self.now.extents.disk) in record {
      sound = (areas, plain areas c.args.self.now.ready c.requires.known.sound);
    }

pub returns : goal.returns
returns g c =
    let areas = held_in node_places (g.D.Disk.seen c.args.self.now.extents.disk) in
    c.query.ensures areas (plain areas c.args.self.now.ready c.requires.known.sound)
