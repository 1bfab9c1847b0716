-- The report of a run.
use Rattle.std.specs.Prelude.{ℕ, Bool, true, false, List, [], ◌++◌}
use Rattle.std.specs.List.{flat_map}
use Rattle.report.specs.declared.shown.Shown.{Shown}
use Rattle.report.specs.Lines.{campaign_line, cancel_line, last_result, master_line, named_line, node_lines, open_line, opening_line, reply_line, time_line}

-- the campaign and its result, and what a cancel was answered
abbrev pub heading : Shown → List ℕ
heading s = campaign_line s.campaign (last_result s.master) ++ cancel_line s.cancel

-- what the run began with, which a full report has alone
abbrev pub beginning : Bool → Shown → List ℕ
beginning true s = flat_map opening_line s.opening ++ flat_map named_line s.named ++ time_line s.time
beginning false s = []

-- what happened: the master's list, each node's history, what stayed open, and what lines gave
abbrev pub happenings : Bool → Shown → List ℕ
happenings full s =
    flat_map master_line s.master ++ flat_map (node_lines full) s.nodes ++ flat_map open_line s.unreached
    ++ flat_map (reply_line s.time) s.replies

abbrev pub report_text : Bool → Shown → List ℕ
report_text full s = heading s ++ beginning full s ++ happenings full s
