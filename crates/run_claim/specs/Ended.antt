-- What a run ends with: the master's list, the histories of the nodes, what each line gave, and the series of failed
-- attempts.
use Rattle.std.specs.Prelude.{ℕ, Bool, true, false, ◌==◌, List, [], ⊤, find, Option, Some, None, Result}
use Rattle.std.specs.List.{list_any}
use Rattle.std.specs.Option.{option_map_or}
use Rattle.pm_types.specs.declared.history.Entry.{Entry}
use Rattle.pm_types.specs.declared.queries.Answer.{Answer}
use Rattle.pm_types.specs.declared.replies.Reached.{Reached}
use Rattle.pm_types.specs.declared.replies.Worked.{Worked}
use Rattle.campaign_core.specs.declared.events.CampaignRefusal.{CampaignRefusal}
use Rattle.campaign_core.specs.declared.events.MasterEvent.{MasterEvent}
use Rattle.sub_core.specs.declared.answers.Rises.{Rises}

-- the entries of a node, in order
pub record NodeHistory : Type 0 where
  pub node : ℕ
  pub entries : List Entry

-- what a line gave at last
pub data Gave : Type 0 where
  Replied : (reached : Reached) → Gave
  Did : (worked : Worked) → Gave
  Saw : (place : ℕ) (answer : Answer) → Gave
  NoReply : Gave

-- the reply of the line of this number
pub record LineReply : Type 0 where
  pub line : ℕ
  pub gave : Gave

-- what didn't come to its end, a node or with 0 the master, with the rises of its eight failed attempts
pub record Unfinished : Type 0 where
  pub disk : ℕ
  pub losses : ℕ
  pub faults : ℕ

-- of what eight attempts failed
pub data Failure : Type 0 where
  OfVote : Failure
  OfEnd : Failure
  OfLine : (line : ℕ) → Failure
  OfFormatting : Failure
  OfMaster : Failure

-- the rises of each failed attempt, at a node or with 0 at the master
pub record Series : Type 0 where
  pub failure : Failure
  pub disk : ℕ
  pub rises : List Rises

-- `cancel` is what the cancel was answered, where it was
pub record Ended : Type 0 where
  pub list : List MasterEvent
  pub nodes : List NodeHistory
  pub replies : List LineReply
  pub unfinished : List Unfinished
  pub cancel : Option (Result ⊤ CampaignRefusal)
  pub series : List Series

-- the history of a node, which is empty where the node isn't used
abbrev pub history_of : List NodeHistory → ℕ → List Entry
history_of nodes n = option_map_or (λ x. x.entries) (find (λ x. x.node == n) nodes) []

-- what a line gave
abbrev pub gave_of : List LineReply → ℕ → Option Gave
gave_of replies line = option_map_or (λ r. Some r.gave) (find (λ r. r.line == line) replies) None

-- whether a line gave NoReply
abbrev pub is_no_reply : Option Gave → Bool
is_no_reply (Some NoReply) = true
is_no_reply _ = false

-- whether eight formattings failed
abbrev pub is_of_formatting : Failure → Bool
is_of_formatting OfFormatting = true
is_of_formatting _ = false

-- whether eight appends of the master failed
abbrev pub is_of_master : Failure → Bool
is_of_master OfMaster = true
is_of_master _ = false

-- whether a formatting ended the run
abbrev pub is_unformatted : Ended → Bool
is_unformatted e = list_any (λ s. is_of_formatting s.failure) e.series

-- whether failed appends ended the run
abbrev pub is_ended_by_master : Ended → Bool
is_ended_by_master e = list_any (λ s. is_of_master s.failure) e.series
