-- Room for events in memory.
use Rattle.std.specs.Prelude.{ℕ, ◌+◌, ◌≤◌, ◌^◌, Vec, length, vec_len, vec_capacity}
use Rattle.campaign_core.specs.declared.events.MasterEvent.{MasterEvent}

-- there is room for so many events more
pub record HasRoom {A : Type 0} (n : ℕ) (events : Vec MasterEvent A) : Type 0 where
  pub enough : vec_len events + n ≤ vec_capacity events
  pub short : length events.items + n ≤ 2 ^ 50
