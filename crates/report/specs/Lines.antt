-- The lines of a report.
use Rattle.std.specs.Prelude.{ℕ, Bool, List, [], ◌∷◌, ◌++◌, Option, Some, None, Result, Ok, Err, codes}
use Rattle.std.specs.Fmt.{decimal}
use Rattle.std.specs.List.{flat_map}
use Rattle.std.specs.Option.{option_or}
use Rattle.ucm_base.specs.declared.parts.Manifest.{Manifest}
use Rattle.ucm_base.specs.Printed.{action_text, need_text}
use Rattle.pm_types.specs.declared.history.Entry.{Entry}
use Rattle.pm_types.specs.Printed.{worked_text}
use Rattle.pm_types.specs.Text.{reached_text}
use Rattle.campaign_core.specs.declared.events.CampaignRefusal.{CampaignRefusal}
use Rattle.campaign_core.specs.declared.events.CampaignResult.{CampaignResult}
use Rattle.campaign_core.specs.declared.events.MasterEvent.{MasterEvent}
use Rattle.campaign_core.specs.declared.events.MasterEvent.TheVariants.{Start, Begin, PhaseTo, VoteOf, CancelAsked, Decide, EndedAt, Enter}
use Rattle.campaign_core.specs.Printed.{event_text, refused_text, result_text}
use Rattle.report.specs.declared.shown.Gave.{Gave}
use Rattle.report.specs.declared.shown.Gave.TheVariants.{Replied, Did, Saw, NoReply}
use Rattle.report.specs.declared.shown.LineReply.{LineReply}
use Rattle.report.specs.declared.shown.Named.{Named}
use Rattle.report.specs.declared.shown.NodeHistory.{NodeHistory}
use Rattle.report.specs.declared.shown.Opening.{Opening}
use Rattle.report.specs.declared.shown.Unreached.{Unreached}
use Rattle.report.specs.declared.shown.Whose.{Whose}
use Rattle.report.specs.declared.shown.Whose.TheVariants.{Master, Node}
use Rattle.report.specs.Answers.{answer_text, spaced}
use Rattle.report.specs.Entries.{entry_text, hex_or_dash}

abbrev pub line_feed : List ℕ
line_feed = 10 ∷ []

-- the result that an event enters
abbrev pub result_in : MasterEvent → Option CampaignResult
result_in (Start _) = None
result_in (Begin _ _) = None
result_in (PhaseTo _) = None
result_in (VoteOf _ _) = None
result_in CancelAsked = None
result_in (Decide _) = None
result_in (EndedAt _ _) = None
result_in (Enter result) = Some result

-- the result that the list enters last
abbrev pub last_result : List (ℕ × MasterEvent) → Option CampaignResult
last_result [] = None
last_result (e ∷ list) = option_or (last_result list) (result_in e.1)

-- open where nothing was entered
abbrev pub result_or_open : Option CampaignResult → List ℕ
result_or_open None = codes "open"
result_or_open (Some result) = result_text result

-- the campaign's number and its result
abbrev pub campaign_line : Option ℕ → Option CampaignResult → List ℕ
campaign_line None result = codes "campaign none" ++ line_feed
campaign_line (Some campaign) result =
    codes "campaign " ++ decimal campaign ++ codes " " ++ result_or_open result ++ line_feed

-- what the cancel was answered, where it was
abbrev pub cancel_line : Option (Result Unit CampaignRefusal) → List ℕ
cancel_line None = []
cancel_line (Some (Ok _)) = codes "cancel Done" ++ line_feed
cancel_line (Some (Err refusal)) = codes "cancel " ++ refused_text refusal ++ line_feed

-- a cluster that a node was formatted with: name, version, content and needs
abbrev pub opening_line : Opening → List ℕ
opening_line o =
    codes "opening " ++ decimal o.node ++ codes " " ++ o.cluster.name ++ codes " " ++ o.cluster.version ++ codes " "
    ++ hex_or_dash o.cluster.content ++ flat_map (λ need. spaced (need_text need)) o.cluster.needs ++ line_feed

-- what a part of a package does on a node: cluster, action and version
abbrev pub change_text : ℕ → Manifest → List ℕ
change_text node m =
    codes "named " ++ decimal node ++ codes " " ++ m.name ++ codes " " ++ action_text m.action ++ codes " " ++ m.version
    ++ codes " "

-- and its payload
abbrev pub named_line : Named → List ℕ
named_line n = change_text n.node n.manifest.now ++ hex_or_dash n.payload.now ++ line_feed

abbrev pub time_line : ℕ → List ℕ
time_line time = codes "time " ++ decimal time ++ line_feed

-- an event of the master's list, with its place
abbrev pub master_line : ℕ × MasterEvent → List ℕ
master_line e = codes "master " ++ decimal e.0 ++ codes " " ++ event_text e.1 ++ line_feed

-- an entry of a node, with its place
abbrev pub node_line : Bool → ℕ → ℕ × Entry → List ℕ
node_line full node e =
    codes "node " ++ decimal node ++ codes " " ++ decimal e.0 ++ codes " " ++ entry_text full e.1 ++ line_feed

abbrev pub node_lines : Bool → NodeHistory → List ℕ
node_lines full h = flat_map (node_line full h.node) h.entries

abbrev pub whose_text : Whose → List ℕ
whose_text Master = codes "master"
whose_text (Node node) = codes "node " ++ decimal node

-- what didn't come to its end, with the sums of its eight failures
abbrev pub open_line : Unreached → List ℕ
open_line u =
    codes "open " ++ whose_text u.whose ++ codes " losses " ++ decimal u.losses ++ codes " faults " ++ decimal u.faults
    ++ line_feed

-- what the last attempt of a line gave, where the first place has this time
abbrev pub gave_text : ℕ → Gave → List ℕ
gave_text start (Replied reached) = reached_text reached
gave_text start (Did worked) = worked_text worked
gave_text start (Saw place answer) = codes "at " ++ decimal place ++ codes " " ++ answer_text start answer
gave_text start NoReply = codes "NoReply"

abbrev pub reply_line : ℕ → LineReply → List ℕ
reply_line start r = codes "line " ++ decimal r.line ++ codes " " ++ gave_text start r.gave ++ line_feed
