-- The calls of a disk and how they ended, for what a kind of disk says beyond the model.
use Rattle.std.specs.Prelude.{Bool, true, false, ℕ, List, Result, Ok, Err}
use Rattle.disk_core.specs.declared.fault.ReadError.{ReadError}
use Rattle.disk_core.specs.declared.fault.ReadError.TheVariants.{Failed, OutOfMemory}

-- a call; `failed` says that it answered a fault of the device
pub data Call : Type 0 where
  reserves : Call
  reads : (failed : Bool) → Call
  writes : (at : ℕ) (piece : List ℕ) (failed : Bool) → Call
  syncs : (failed : Bool) → Call
  restarts : (failed : Bool) → Call
  arms : (armed : Bool) → Call

-- the read answered a fault of the device
abbrev pub is_failed : {T : Type 0} → Result T ReadError → Bool
is_failed (Ok v) = false
is_failed (Err Failed) = true
is_failed (Err OutOfMemory) = false
