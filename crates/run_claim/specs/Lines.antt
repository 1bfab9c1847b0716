-- The lines of the setup and of other clients: which entries they made, and what they were answered.
use Rattle.std.specs.Prelude.{◌≡◌, ℕ, ◌+◌, ◌≤◌, Bool, true, false, not, ◌&&◌, ◌||◌, ◌==◌, nat_lt, nat_le, IsTrue, ⊤, List, [], ◌∷◌, length, take, drop, filter, find, count_by, slice_get, Option, Some, None}
use Rattle.std.specs.List.{AllByRecursion, list_all}
use Rattle.std.specs.Option.{option_map_or}
use Rattle.pm_types.specs.declared.history.Entry.{Entry}
use Rattle.pm_types.specs.declared.history.Entry.TheVariants.{Numbered, Unit as UnitDone}
use Rattle.pm_types.specs.declared.replies.Reached.TheVariants.{Done as Executed}
use Rattle.pm_types.specs.declared.replies.Worked.{Worked}
use Rattle.pm_types.specs.declared.replies.Worked.TheVariants.{Unit as UnitOf, Nothing}
use Rattle.pm_types.specs.NodeState.{NodeState}
use Rattle.pm_types.specs.Queries.{answer}
use Rattle.pm_types.specs.Steps.{step}
use Rattle.pm_types.specs.Work.{unit}
use Rattle.pm_types.specs.Histories.{Reading, state_after, unit_passes, verdict_for}
use Rattle.run_claim.specs.Script.{ClientLine, Deed, Calls, Works, Asks, query_at}
use Rattle.run_claim.specs.Ended.{Gave, Replied, Did, Saw, NoReply, LineReply, gave_of, is_no_reply}

-- which line made each entry of a node, after how many entries each line was answered, and how many the setup made
pub record Account : Type 0 where
  pub makers : List (Option ℕ)
  pub place : ℕ → ℕ
  pub setup : ℕ

-- the line of a number
abbrev pub line_at : List ClientLine → ℕ → Option ClientLine
line_at lines number = find (λ l. l.line == number) lines

-- the line of this number is there, and P holds of it
abbrev pub InLine : Option ClientLine → (ClientLine → Type 0) → Type 0
InLine None P = ⊥
InLine (Some l) P = P l

-- an entry of another client is the call of a line with its number; a unit tells no client, and may have its line
abbrev pub IsMadeBy : List ClientLine → Entry → Option ℕ → Type 0
IsMadeBy lines (Numbered client at call reply) None = client ≡ 0
IsMadeBy lines (Numbered client at call reply) (Some number) =
    InLine (line_at lines number) (λ l. (l.client ≡ client) × (l.deed ≡ Calls at call))
IsMadeBy lines (UnitDone passed after) None = ⊤
IsMadeBy lines (UnitDone passed after) (Some number) = InLine (line_at lines number) (λ l. l.deed ≡ Works)

-- each entry has its maker
abbrev pub EachIsMade : List ClientLine → List Entry → List (Option ℕ) → Type 0
EachIsMade lines [] [] = ⊤
EachIsMade lines (e ∷ es) (m ∷ ms) = IsMadeBy lines e m × EachIsMade lines es ms
EachIsMade lines _ _ = ⊥

-- the maker is a line of which the test holds
abbrev pub is_made : List ClientLine → (ClientLine → Bool) → Option ℕ → Bool
is_made lines test None = false
is_made lines test (Some number) = option_map_or test (line_at lines number) false

-- whether a line asks for a unit
abbrev pub is_works : Deed → Bool
is_works Works = true
is_works _ = false

-- a line made one entry at most; one that works may make a unit at each attempt
abbrev pub MakesOnce : List ClientLine → List (Option ℕ) → ClientLine → Type 0
MakesOnce lines makers l =
    IsTrue (is_works l.deed || nat_le (count_by (is_made lines (λ x. x.line == l.line)) makers) 1)

-- each entry is made by a line of the test
abbrev pub all_made : List ClientLine → (ClientLine → Bool) → List (Option ℕ) → Bool
all_made lines test makers = list_all (is_made lines test) makers

-- no entry is made by a line of the test
abbrev pub none_made : List ClientLine → (ClientLine → Bool) → List (Option ℕ) → Bool
none_made lines test makers = list_all (λ m. not (is_made lines test m)) makers

-- whether a line had no reply
abbrev pub is_unanswered : List LineReply → ClientLine → Bool
is_unanswered replies l = is_no_reply (gave_of replies l.line)

-- whether it had one
abbrev pub is_answered : List LineReply → ClientLine → Bool
is_answered replies l = not (is_unanswered replies l)

-- the setup's entries come first; one that was pending as the setup ended may come next, of a line without a reply
pub record SetupIsFirst (lines : List ClientLine) (replies : List LineReply) (history : List Entry) (a : Account) : Type
    0 where
  pub within : a.setup ≤ length history
  pub first : IsTrue (all_made lines (λ l. l.is_setup) (take a.setup a.makers))
  pub pending : IsTrue (none_made lines (λ l. l.is_setup && is_answered replies l) (take 1 (drop a.setup a.makers)))
  pub later : IsTrue (none_made lines (λ l. l.is_setup) (drop (a.setup + 1) a.makers))

-- what one unit of work gives
abbrev pub work_of : List (List ℕ) → NodeState → Worked
work_of fails s =
    elim (unit s (unit_passes fails s)) [ None ↦ Nothing s.status | Some t ↦ UnitOf (unit_passes fails s) t.status ]

-- what a line gives in this state, which `place` entries led to
abbrev pub Gives : Reading → List (List ℕ) → ℕ → NodeState → ℕ → ClientLine → Deed → Gave → Type 0
Gives read fails time s place l (Calls at call) (Replied reached) =
    (step s l.client at call (verdict_for read s l.client call)).1 ≡ reached
Gives read fails time s place l Works (Did worked) = work_of fails s ≡ worked
Gives read fails time s place l (Asks query) (Saw p given) =
    (p ≡ place) × (answer s l.client (query_at time query) ≡ given)
Gives read fails time s place l _ _ = ⊥

-- the entry that an answer makes
abbrev pub entry_made : ClientLine → Deed → Gave → Option Entry
entry_made l (Calls at call) (Replied (Executed reply)) = Some (Numbered l.client at call reply)
entry_made l Works (Did (UnitOf passed after)) = Some (UnitDone passed after)
entry_made l _ _ = None

-- an entry that a line's answer makes is the next one, and this line's
abbrev pub IsNextOf : List Entry → Account → ClientLine → Option Entry → Type 0
IsNextOf history a l None = ⊤
IsNextOf history a l (Some e) =
    (slice_get history (a.place l.line) ≡ Some e) × (slice_get a.makers (a.place l.line) ≡ Some (Some l.line))

-- the line is of the setup and stands above l, or is l
abbrev pub is_setup_up_to : ClientLine → ClientLine → Bool
is_setup_up_to l x = x.is_setup && nat_le x.line l.line

-- the line is of the setup and stands above l
abbrev pub is_setup_above : ClientLine → ClientLine → Bool
is_setup_above l x = x.is_setup && nat_lt x.line l.line

-- the line is of the same client and stands above l
abbrev pub is_client_above : ClientLine → ClientLine → Bool
is_client_above l x = not x.is_setup && ((x.client == l.client) && nat_lt x.line l.line)

-- the line is of the same client and stands below l
abbrev pub is_client_below : ClientLine → ClientLine → Bool
is_client_below l x = not x.is_setup && ((x.client == l.client) && nat_lt l.line x.line)

-- before a setup line stand the entries of the setup lines above it, and perhaps its own
pub record SetupPlace (lines : List ClientLine) (a : Account) (l : ClientLine) : Type 0 where
  pub only : IsTrue (all_made lines (is_setup_up_to l) (take (a.place l.line) a.makers))
  pub all : IsTrue (none_made lines (is_setup_above l) (drop (a.place l.line) a.makers))

-- before a client's line stand the setup's entries and those of this client's lines above it, and none of its lines
-- below
pub record ClientPlace (lines : List ClientLine) (replies : List LineReply) (a : Account) (l : ClientLine) : Type
    0 where
  pub setup : a.setup ≤ a.place l.line
  pub rises : AllByRecursion (λ x. a.place x.line ≤ a.place l.line)
      (filter (λ x. is_client_above l x && is_answered replies x) lines)
  pub above : IsTrue (none_made lines (is_client_above l) (drop (a.place l.line) a.makers))
  pub below : IsTrue (none_made lines (is_client_below l) (take (a.place l.line) a.makers))

-- the place of a line of the setup, or of a client
abbrev pub PlaceIsDue : Bool → List ClientLine → List LineReply → Account → ClientLine → Type 0
PlaceIsDue true lines replies a l = SetupPlace lines a l
PlaceIsDue false lines replies a l = ClientPlace lines replies a l

-- a line that was answered gave what its node gives after the entries before its place
pub record IsGiven (read : Reading) (opening : NodeState) (fails : List (List ℕ)) (time : ℕ) (lines : List ClientLine)
    (replies : List LineReply) (history : List Entry) (a : Account) (l : ClientLine) (gave : Gave) : Type 0 where
  pub within : a.place l.line ≤ length history
  pub gives : Gives read fails time (state_after read opening (take (a.place l.line) history)) (a.place l.line) l l.deed
      gave
  pub next : IsNextOf history a l (entry_made l l.deed gave)
  pub due : PlaceIsDue l.is_setup lines replies a l

-- each line has a reply: NoReply, or what its node gives
abbrev pub LineIsGiven : Reading → NodeState → List (List ℕ) → ℕ → List ClientLine → List LineReply → List Entry
    → Account → ClientLine → Option Gave → Type 0
LineIsGiven read opening fails time lines replies history a l None = ⊥
LineIsGiven read opening fails time lines replies history a l (Some NoReply) = ⊤
LineIsGiven read opening fails time lines replies history a l (Some gave) =
    IsGiven read opening fails time lines replies history a l gave

-- one account of a node's entries meets all this
pub record IsAccounted (read : Reading) (opening : NodeState) (fails : List (List ℕ)) (time : ℕ)
    (lines : List ClientLine) (replies : List LineReply) (history : List Entry) : Type 0 where
  pub account : Account
  pub each : EachIsMade lines history account.makers
  pub once : AllByRecursion (MakesOnce lines account.makers) lines
  pub setup : SetupIsFirst lines replies history account
  pub given : AllByRecursion
      (λ l. LineIsGiven read opening fails time lines replies history account l (gave_of replies l.line)) lines
