-- What a seat knows of one client's calls.
use Rattle.std.specs.Prelude.{ℕ, List, [], ◌∷◌, Option, Some, None}
use Rattle.turn_gate.specs.Mine.{doubt_in, mine_of}
use Rattle.turn_gate.specs.declared.view.View.{View}
use Rattle.ucm_base.specs.declared.ids.CallNo.{CallNo}
use Rattle.pm_types.specs.declared.calls.Call.{Call}
use Rattle.pm_types.specs.declared.history.Entry.{Entry}
use Rattle.pm_types.specs.declared.history.Entry.TheVariants.{Numbered, Unit as UnitDone}
use Rattle.sub_core.specs.Made.{Made}
use Rattle.client_calls.specs.Calls.{Known, Posted}

-- the calls among entries, the oldest first
abbrev pub calls_in : List Entry → List Made
calls_in [] = []
calls_in (Numbered client at call reply ∷ es) = record { at = at; call = call; reply = reply } ∷ calls_in es
calls_in (UnitDone passed after ∷ es) = calls_in es

-- a call under its number
abbrev pub posted : CallNo → Call → Posted
posted at call = record { at = at; call = call }

-- the call of an entry that may stand or not
abbrev pub call_in : Option Entry → Option Made
call_in None = None
call_in (Some (Numbered client at call reply)) = Some (record { at = at; call = call; reply = reply })
call_in (Some (UnitDone passed after)) = None

-- the client's own calls, and the one that may stand or not
abbrev pub known_of : {O : Type 0} → ℕ → View Entry O → Known
known_of client v = record { mine = calls_in (mine_of client v.parts); doubt = call_in (doubt_in client v.parts) }
