-- What the events of a script do to a node, and what they print.
use Rattle.std.specs.Prelude.{ℕ, ◌-◌, List, [], ◌∷◌, ◌++◌, map, codes, Option, Some, None}
use Rattle.std.specs.Fmt.{decimal}
use Rattle.ucm_base.specs.declared.ids.CallNo.{CallNo}
use Rattle.ucm_base.specs.Parts.{Bytes}
use Rattle.pm_types.specs.declared.calls.Call.{Call as NumberedCall}
use Rattle.pm_types.specs.declared.clusters.Cluster.{Cluster}
use Rattle.pm_types.specs.declared.history.Entry.{Entry}
use Rattle.pm_types.specs.declared.history.Entry.TheVariants.{Numbered, Unit as UnitDone}
use Rattle.pm_types.specs.declared.queries.Query.{Query}
use Rattle.pm_types.specs.declared.queries.Query.TheVariants.{GetHistory}
use Rattle.pm_types.specs.declared.replies.Reached.{Reached as CallReached}
use Rattle.pm_types.specs.declared.replies.Reached.TheVariants.{Done}
use Rattle.pm_types.specs.declared.replies.Worked.{Worked as WorkGave}
use Rattle.pm_types.specs.declared.replies.Worked.TheVariants.{Unit}
use Rattle.pm_types.specs.Histories.{formatted}
use Rattle.pm_types.specs.NodeState.{NodeState}
use Rattle.pm_types.specs.Printed.{worked_text}
use Rattle.pm_types.specs.Queries.{answer}
use Rattle.pm_types.specs.Text.{reached_text}
use Rattle.node_core.specs.Format.{in_order}
use Rattle.node_core.specs.Units.{after_work, answer_to}
use Rattle.node_store.specs.Serving.{stepped}
use Rattle.report.specs.Answers.{answer_text as queried_text}
use Rattle.scenario.specs.declared.events.Event.{Event}
use Rattle.scenario.specs.declared.events.Event.TheVariants.{Call, Work, Ask}
use Rattle.scenario.specs.declared.events.EventLine.{EventLine}
use Rattle.scenario.specs.declared.lines.Installed.{Installed}
use Rattle.scenario.specs.declared.script.Script.{Script}
use Rattle.scenario.specs.Blocks.{bytes_meant}
use Rattle.scenario.specs.Events.{call_meant}
use Rattle.node_replay.specs.declared.given.Given.{Given}
use Rattle.node_replay.specs.declared.given.Given.TheVariants.{Reached, Worked, Answer}

-- an installed cluster, with its bytes
abbrev pub cluster_meant : List ℕ → Installed → Cluster Bytes
cluster_meant attached c =
    record { name = c.name; version = c.version; needs = c.needs; content = bytes_meant attached c.block }

-- the node at the beginning: the installed clusters run, in order of name
abbrev pub begun : List ℕ → List Installed → NodeState
begun attached installed = formatted (in_order (map (cluster_meant attached) installed))

-- a query of a script that begins at this time: the bounds of a history are times
abbrev pub asked : ℕ → Query → Query
asked start (GetHistory ge lt) = GetHistory (ge - start) (lt - start)
asked start query = query

-- the node after an event
abbrev pub after_event : Script → List ℕ → NodeState → Event → NodeState
after_event script attached n (Call client call_no call) = (stepped n client call_no (call_meant attached call)).0
after_event script attached n (Work client) = after_work script.fails n
after_event script attached n (Ask client query) = n

-- what an event gives
abbrev pub given_by : Script → List ℕ → NodeState → Event → Given
given_by script attached n (Call client call_no call) =
    Reached (stepped n client call_no (call_meant attached call)).1
given_by script attached n (Work client) = Worked (answer_to script.fails n)
given_by script attached n (Ask client query) = Answer (answer n client (asked script.time query))

-- the entry of a call that was executed; one that was answered before makes none
abbrev pub entry_of_call : ℕ → CallNo → NumberedCall → CallReached → List Entry
entry_of_call client call_no call (Done reply) = Numbered client call_no call reply ∷ []
entry_of_call client call_no call _ = []

abbrev pub entry_of_unit : WorkGave → List Entry
entry_of_unit (Unit passed after) = UnitDone passed after ∷ []
entry_of_unit _ = []

-- the entry that an event makes, if it makes one
abbrev pub entry_of : Script → List ℕ → NodeState → Event → List Entry
entry_of script attached n (Call client call_no call) =
    entry_of_call client call_no (call_meant attached call)
    (stepped n client call_no (call_meant attached call)).1
entry_of script attached n (Work client) = entry_of_unit (answer_to script.fails n)
entry_of script attached n (Ask client query) = []

-- what is printed of what an event gave, of a script that begins at this time; nothing where the disk failed
abbrev pub answer_text : ℕ → Option Given → List ℕ
answer_text start (Some (Reached reached)) = reached_text reached
answer_text start (Some (Worked worked)) = worked_text worked
answer_text start (Some (Answer answer)) = queried_text start answer
answer_text start None = codes "NoReply"

-- the line's number, what was given, and a line feed
abbrev pub answer_line : ℕ → ℕ → Option Given → List ℕ
answer_line start line given = decimal line ++ codes " " ++ answer_text start given ++ 10 ∷ []

-- what is printed where no disk fails: a line for each event, by the fold of the node's step, its units and its queries
abbrev pub texts_of : Script → List ℕ → NodeState → List EventLine → List ℕ
texts_of script attached n [] = []
texts_of script attached n (e ∷ events) =
    answer_line script.time e.line (Some (given_by script attached n e.event))
    ++ texts_of script attached (after_event script attached n e.event) events
