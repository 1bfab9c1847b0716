use Rattle.std.proofs.Common.{arith}
use Rattle.slot_store.specs.Extents.{node_places}
use Rattle.slot_store.proofs.Apart.{node_sound, extents_apart, extent_ends, extent_behind}
use Rattle.slot_store.proofs.Held.{content_long, torn_before, torn_leaves}
use Rattle.slot_store.proofs.laws.extents_lie_apart.Goals as goal

pub returns-clause-apart : goal.returns-clause-apart
returns-clause-apart c area other is other_is differ =
    extents_apart node_places node_sound area other is other_is differ

pub returns-clause-behind : goal.returns-clause-behind
returns-clause-behind c area is = extent_behind node_places node_sound area

pub returns-clause-within : goal.returns-clause-within
returns-clause-within c area is = omega (arith, extent_ends node_places node_sound area is)

pub returns-clause-spared : goal.returns-clause-spared
returns-clause-spared c area at n old new is torn = torn_leaves node_places node_sound old new area at n is torn

pub returns-clause-whole : goal.returns-clause-whole
returns-clause-whole c area image is has = content_long node_places node_sound area image is has

pub returns-clause-before : goal.returns-clause-before
returns-clause-before c at n old new le torn = torn_before node_places node_sound old new at n le torn
