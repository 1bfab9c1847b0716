-- When an allowed event changes what the list says.
use Rattle.std.specs.Prelude.{◌≡◌, ◌≤◌, length, ⊤, IfSome}
use Rattle.ucm_base.specs.Limits.{node_limit}
use Rattle.campaign_core.specs.declared.events.MasterEvent.{MasterEvent}
use Rattle.campaign_core.specs.declared.events.MasterEvent.TheVariants.{Begin}
use Rattle.campaign_core.specs.declared.fold.Current.{Current}
use Rattle.campaign_core.specs.declared.fold.Fold.{Fold}

-- each node that is named has its place among the votes and the ends
pub record HasPlaces (c : Current) : Type 0 where
  pub named : length c.named.flags ≤ node_limit
  pub votes : length c.votes ≡ node_limit
  pub ended : length c.ended ≡ node_limit

-- so have those of the current campaign
abbrev pub IsPlaced : Fold → Type 0
IsPlaced f = IfSome f.current HasPlaces

-- an event names no more nodes than there are
abbrev pub NamesFew : MasterEvent → Type 0
NamesFew (Begin k named) = length named.flags ≤ node_limit
NamesFew _ = ⊤
