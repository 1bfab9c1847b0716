-- Sources and sinks in memory: what each call answers, and what stands after it.
use Rattle.std.specs.Prelude.{◌≡◌, ℕ, ◌-◌, min, max, Bool, true, false, if◌then◌else◌, ◌&&◌, ◌||◌, not, nat_eq, List, ◌++◌, length, take, drop, get_or, Option, Some, None}
use Rattle.ucm_ports.specs.declared.calls.Calls.{Calls}
use Rattle.ucm_ports.specs.Plan.{is_named, counted}

-- a source: the bytes left, how many each take to come gives at most, and its calls
pub record Input : Type 0 where
  pub bytes : List ℕ
  pub cuts : List ℕ
  pub calls : Calls

-- what the next take into so many bytes answers: as many as are left, fit and aren't cut off
abbrev pub next_take : ℕ → Input → Option ℕ
next_take size s =
    if is_named s.calls then None else Some (min (min size (max 1 (get_or s.cuts 0 size))) (length s.bytes))

-- the source after a take with this answer
abbrev pub after_take : Option ℕ → Input → Input
after_take None s = record { bytes = s.bytes; cuts = s.cuts; calls = counted true s.calls }
after_take (Some n) s = record { bytes = drop n s.bytes; cuts = drop 1 s.cuts; calls = counted false s.calls }

-- a take fails just where the plan names it
pub record Gives (old : Input) (size : ℕ) (answer : Option ℕ) (new : Input) : Type 0 where
  pub count : answer ≡ next_take size old
  pub after : new ≡ after_take answer old

-- a sink: the bytes that were put, how many more it has room for, and its calls
pub record Held : Type 0 where
  pub bytes : List ℕ
  pub room : ℕ
  pub calls : Calls

-- no byte of a piece that has some fits
abbrev pub is_full : List ℕ → Held → Bool
is_full piece s = not (nat_eq (length piece) 0) && nat_eq s.room 0

-- what the next put answers: as many bytes of the piece as there is room for
abbrev pub next_put : List ℕ → Held → Option ℕ
next_put piece s = if is_full piece s || is_named s.calls then None else Some (min (length piece) s.room)

-- the sink after a put with this answer
abbrev pub after_put : Option ℕ → List ℕ → Held → Held
after_put None piece s = record { bytes = s.bytes; room = s.room; calls = counted true s.calls }
after_put (Some n) piece s =
    record { bytes = s.bytes ++ take n piece; room = s.room - n; calls = counted false s.calls }

-- a put fails just where the plan names it or the sink is full
pub record Takes (old : Held) (piece : List ℕ) (answer : Option ℕ) (new : Held) : Type 0 where
  pub count : answer ≡ next_put piece old
  pub after : new ≡ after_put answer piece old
