-- Room for entries in memory.
use Rattle.std.specs.Prelude.{ℕ, ◌+◌, ◌≤◌, ◌^◌, Vec, length, vec_len, vec_capacity}
use Rattle.pm_types.specs.declared.history.Entry.{Entry}

-- there is room for so many entries more
pub record HasRoom {A : Type 0} (n : ℕ) (entries : Vec Entry A) : Type 0 where
  pub enough : vec_len entries + n ≤ vec_capacity entries
  pub short : length entries.items + n ≤ 2 ^ 50
