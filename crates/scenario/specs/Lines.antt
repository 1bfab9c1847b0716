-- Lines, by their words: later and form first, then each word from left to right.
use Rattle.std.specs.Prelude.{ℕ, ◌^◌, ◌&&◌, ◌||◌, nat_le, if◌then◌else◌, Bool, List, [], ◌∷◌, length, codes, Result, Ok, Err}
use Rattle.std.specs.Str.{bytes_eq}
use Rattle.ucm_base.specs.Limits.{need_limit, time_limit}
use Rattle.scenario.specs.declared.why.Why.{Why}
use Rattle.scenario.specs.declared.why.Why.TheVariants.{Form, Value, Later}
use Rattle.scenario.specs.declared.words.Reach.{Reach}
use Rattle.scenario.specs.declared.words.Reach.TheVariants.{OneNode}
use Rattle.scenario.specs.declared.events.Event.{Event}
use Rattle.scenario.specs.declared.events.Event.TheVariants.{Call, Work, Ask}
use Rattle.scenario.specs.declared.events.NodeEvent.{NodeEvent}
use Rattle.scenario.specs.declared.lines.Installed.{Installed as Cluster}
use Rattle.scenario.specs.declared.lines.ScriptLine.{ScriptLine}
use Rattle.scenario.specs.declared.lines.ScriptLine.TheVariants.{Time, Installed, Happens, Fails, Attach}
use Rattle.scenario.specs.Readings.{◌>>=◌, given}
use Rattle.scenario.specs.Attached.{Places}
use Rattle.scenario.specs.Words.{number_in, node_in, client_in, call_no_in, name_in, version_in, needs_in}
use Rattle.scenario.specs.Blocks.{block_in}
use Rattle.scenario.specs.Events.{call_in, query_in}

-- `<n>`, at most 2^62
abbrev pub time_line : List (List ℕ) → Result ScriptLine Why
time_line (word ∷ []) = number_in word >>= λ n. given (nat_le n time_limit) (Time n) Value
time_line _ = Err Form

abbrev pub cluster_line : Places → List ℕ → List ℕ → List ℕ → List (List ℕ) → Result Cluster Why
cluster_line places name version block needs = do
  n ← name_in name
  v ← version_in version
  b ← block_in places block
  ns ← needs_in needs
  Ok (record { name = n; version = v; needs = ns; block = b })

-- a cluster of a node
abbrev pub cluster_on : Reach → Places → List ℕ → List ℕ → List ℕ → List ℕ → List (List ℕ) → Result ScriptLine Why
cluster_on reach places node name version block needs = do
  at ← node_in reach node
  c ← cluster_line places name version block needs
  Ok (Installed at c)

-- `<node> <cluster> <version> <block> <need>*`, with at most 16 needs
abbrev pub installed_line : Reach → Places → List (List ℕ) → Result ScriptLine Why
installed_line reach places (node ∷ name ∷ version ∷ block ∷ needs) =
    if nat_le (length needs) need_limit then cluster_on reach places node name version block needs else Err Form
installed_line reach places _ = Err Form

-- a call has one to four words
abbrev pub is_call_form : List (List ℕ) → Bool
is_call_form call = nat_le 1 (length call) && nat_le (length call) 4

abbrev pub numbered_call : Reach → Places → List ℕ → List ℕ → List ℕ → List (List ℕ) → Result NodeEvent Why
numbered_call reach places node client number call = do
  at ← node_in reach node
  c ← client_in reach client
  n ← call_no_in number
  asked ← call_in places call
  Ok (record { node = at; event = Call c n asked })

-- `<node> <client> <no> <call>`
abbrev pub call_line : Reach → Places → List (List ℕ) → Result NodeEvent Why
call_line reach places (node ∷ client ∷ number ∷ call) =
    if is_call_form call then numbered_call reach places node client number call else Err Form
call_line reach places _ = Err Form

-- `<node> <client>`
abbrev pub work_line : Reach → List (List ℕ) → Result NodeEvent Why
work_line reach (node ∷ client ∷ []) = do
  at ← node_in reach node
  c ← client_in reach client
  Ok (record { node = at; event = Work c })
work_line reach _ = Err Form

-- a query has one to three words
abbrev pub is_query_form : List (List ℕ) → Bool
is_query_form query = nat_le 1 (length query) && nat_le (length query) 3

abbrev pub client_query : Reach → List ℕ → List ℕ → List (List ℕ) → Result NodeEvent Why
client_query reach node client query = do
  at ← node_in reach node
  c ← client_in reach client
  q ← query_in query
  Ok (record { node = at; event = Ask c q })

-- `<node> <client> <query>`
abbrev pub ask_line : Reach → List (List ℕ) → Result NodeEvent Why
ask_line reach (node ∷ client ∷ query) =
    if is_query_form query then client_query reach node client query else Err Form
ask_line reach _ = Err Form

-- the first word of a line by which a client does something
abbrev pub is_event : List ℕ → Bool
is_event word = bytes_eq word (codes "call") || bytes_eq word (codes "work") || bytes_eq word (codes "ask")

-- what a client does, by the first word
abbrev pub event_line : Reach → Places → List ℕ → List (List ℕ) → Result NodeEvent Why
event_line reach places word words =
    if bytes_eq word (codes "call") then call_line reach places words
    else if bytes_eq word (codes "work") then work_line reach words
    else ask_line reach words

-- `<node> <cluster>`
abbrev pub fails_line : Reach → List (List ℕ) → Result ScriptLine Why
fails_line reach (node ∷ name ∷ []) = do
  at ← node_in reach node
  n ← name_in name
  Ok (Fails at n)
fails_line reach _ = Err Form

-- `<name> <length>`
abbrev pub attach_line : List (List ℕ) → Result ScriptLine Why
attach_line (name ∷ size ∷ []) = do
  n ← name_in name
  s ← number_in size
  Ok (Attach n s)
attach_line _ = Err Form

-- a line that names neither a block nor a client, by its first word
abbrev pub short_line : Reach → List ℕ → List (List ℕ) → Result ScriptLine Why
short_line reach word words =
    if bytes_eq word (codes "time") then time_line words
    else if bytes_eq word (codes "fails") then fails_line reach words
    else if bytes_eq word (codes "attach") then attach_line words
    else Err Form

-- a line that scripts of every command may have, by its first word
abbrev pub shared_line : Reach → Places → List ℕ → List (List ℕ) → Result ScriptLine Why
shared_line reach places word words =
    if is_event word then (event_line reach places word words >>= λ e. Ok (Happens e))
    else if bytes_eq word (codes "installed") then installed_line reach places words
    else short_line reach word words

-- lines that aren't served yet
abbrev pub is_later : List ℕ → Bool
is_later word = bytes_eq word (codes "stop") || bytes_eq word (codes "fault")

-- a line of `replay`, by its first word
abbrev pub line_named : Places → List ℕ → List (List ℕ) → Result ScriptLine Why
line_named places word words = if is_later word then Err Later else shared_line OneNode places word words

abbrev pub line_in : Places → List (List ℕ) → Result ScriptLine Why
line_in places [] = Err Form
line_in places (word ∷ words) = line_named places word words
