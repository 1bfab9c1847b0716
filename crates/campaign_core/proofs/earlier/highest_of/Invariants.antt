use Rattle.std.proofs.Common.{take}
use Rattle.campaign_core.specs.Earlier.{IsHighest}
use Rattle.campaign_core.proofs.earlier.highest_of.Given as goal

abbrev pub invariant-items : goal.invariant-items
invariant-items l = IsHighest l.highest (take l.item-index l.items)
