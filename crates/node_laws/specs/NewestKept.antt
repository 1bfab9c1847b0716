-- What a node keeps of a client's calls.
use Rattle.std.specs.Prelude.{◌≡◌, ℕ, ◌<◌, ◌==◌, Bool, false, if◌then◌else◌, List, [], ◌∷◌, length, filter, Option, Some}
use Rattle.ucm_base.specs.Limits.{client_limit}
use Rattle.pm_types.specs.declared.history.Entry.{Entry}
use Rattle.pm_types.specs.declared.history.Entry.TheVariants.{Numbered, Unit as UnitDone}
use Rattle.pm_types.specs.declared.state.Kept.{Kept}
use Rattle.pm_types.specs.NodeState.{NodeState, of_client}
use Rattle.pm_types.specs.Histories.{Reading, state_after}

-- whether the entry is of a call of this client
abbrev pub is_by : ℕ → Entry → Bool
is_by client (Numbered by at call reply) = by == client
is_by client (UnitDone passed after) = false

-- the number and the reply of a client's newest entry, or else what was kept before
abbrev pub newest_kept : ℕ → Option Kept → List Entry → Option Kept
newest_kept client before [] = before
newest_kept client before (Numbered by at call reply ∷ entries) =
    newest_kept client (if by == client then Some (record { no = at; reply = reply }) else before) entries
newest_kept client before (UnitDone passed after ∷ entries) = newest_kept client before entries

-- after a history the pair of a client's newest entry is kept, or else the opening's; its own entries alone tell it
pub record KeepsNewest (read : Reading) : Type 0 where
  pub kept : (s : NodeState) (entries : List Entry) (client : ℕ) → length s.last ≡ client_limit → client < client_limit
      → of_client (state_after read s entries).last client ≡ newest_kept client (of_client s.last client) entries
  pub own : (client : ℕ) (before : Option Kept) (entries : List Entry)
      → newest_kept client before (filter (is_by client) entries) ≡ newest_kept client before entries
