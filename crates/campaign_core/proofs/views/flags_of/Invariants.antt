use Rattle.std.proofs.Common.{◌≡◌, ℕ, ◌<◌, get_or, length, false}
use Rattle.std.specs.Prelude.{None}
use Rattle.campaign_core.specs.Campaign.{has_ended}
use Rattle.campaign_core.proofs.views.flags_of.Given as goal

abbrev pub invariant-loop-node : goal.invariant-loop-node
invariant-loop-node l =
    (length l.flags ≡ 8) × ((k : ℕ) → k < l.node → get_or l.flags k false ≡ has_ended (get_or l.ended k None))
