-- The master's disk stops after the decision's record stood: the campaign goes on after a restart.
use Rattle.std.specs.Prelude.{ℕ, true, if◌then◌else◌, nat_eq, List, [], ◌∷◌, take, drop, Some, None}
use Rattle.std.proofs.Common.{refl, inr, arith}
use Rattle.pm_types.specs.declared.calls.Call.TheVariants.{Sync, TransferStart, TransferData, TransferExit, ProcessSwPackage, Activate, Finish}
use Rattle.pm_types.specs.declared.history.Entry.{Entry}
use Rattle.pm_types.specs.declared.history.Entry.TheVariants.{Numbered, Unit as UnitDone}
use Rattle.pm_types.specs.declared.replies.Reply.TheVariants.{Done, Started, Synced}
use Rattle.pm_types.specs.declared.status.Outcome.TheVariants.{New}
use Rattle.pm_types.specs.declared.status.Status.TheVariants as Status
use Rattle.campaign_core.specs.declared.events.CampaignResult.TheVariants.{Successful}
use Rattle.campaign_core.specs.declared.events.Decision.TheVariants.{Commit}
use Rattle.campaign_core.specs.declared.events.MasterEvent.{MasterEvent}
use Rattle.campaign_core.specs.declared.events.MasterEvent.TheVariants.{Start, Begin, PhaseTo, VoteOf, Decide, EndedAt, Enter}
use Rattle.campaign_core.specs.declared.events.Phase.TheVariants as Phase
use Rattle.campaign_core.specs.declared.events.Vote.TheVariants as Vote
use Rattle.world.specs.Spans.{Span}
use Rattle.run_claim.specs.Script.{Script, packages_of, installed_on}
use Rattle.run_claim.specs.Ended.{Ended, LineReply, is_ended_by_master}
use Rattle.run_claim.specs.Masters.{made_by, GoesInOrder}
use Rattle.run_claim.specs.Lines.{Account}
use Rattle.run_claim.specs.FailedAttempts.{Counted}
use Rattle.run_claim.specs.Cancelled.{CancelFits}
use Rattle.run_claim.specs.Law.{NodeIsLegal, LinesFit, MasterFits, ListFits, NodeFits, NodeIsLeft, SeriesAreThere, IsComplete, IsRun}
use Rattle.run_claim.proofs.Closed.{never}
use Rattle.run_claim.proofs.Removal.{package_1, read, named, names, runs_1}
use Rattle.run_claim.proofs.Removal as removal

-- the removal's script, and a plan for the master's disk
abbrev pub script : Script
script = record removal.script { plans = 0 ∷ [] }

abbrev pub list : List MasterEvent
list =
    Start 1 ∷ Begin 7 named ∷ PhaseTo Phase.Transferring ∷ PhaseTo Phase.Processing ∷ PhaseTo Phase.Activating
    ∷ VoteOf 1 Vote.Yes ∷ Decide Commit ∷ Start 2 ∷ EndedAt 1 New ∷ Enter Successful ∷ []

abbrev pub history_1 : List Entry
history_1 =
    Numbered 0 (record { epoch = 1; number = 1 }) Sync
    (Synced (record { session = None; ended = None; transfers = [] }))
    ∷ Numbered 0 (record { epoch = 1; number = 2 }) (TransferStart 182) (Started 1)
    ∷ Numbered 0 (record { epoch = 1; number = 3 }) (TransferData 1 1 package_1) Done
    ∷ Numbered 0 (record { epoch = 1; number = 4 }) (TransferExit 1) Done
    ∷ Numbered 0 (record { epoch = 1; number = 5 }) (ProcessSwPackage 1 7) Done
    ∷ UnitDone true Status.Ready
    ∷ Numbered 0 (record { epoch = 1; number = 6 }) Activate Done
    ∷ UnitDone true Status.Verifying
    ∷ UnitDone true Status.Activated
    ∷ Numbered 0 (record { epoch = 2; number = 1 }) Sync
    (Synced (record {
      session = Some (record { owner = 0; tag = 7; status = Status.Activated });
      ended =
          None;
      transfers = (1 ∷ []);
    }))
    ∷ Numbered 0 (record { epoch = 2; number = 2 }) Finish Done
    ∷ UnitDone true Status.Idle
    ∷ Numbered 0 (record { epoch = 2; number = 3 }) Sync
    (Synced (record { session = None; ended = Some (record { tag = 7; outcome = New }); transfers = [] }))
    ∷ []

abbrev pub replies : List LineReply
replies = []

abbrev pub ended : Ended
ended = record {
  list = list;
  nodes = record { node = 1; entries = history_1 } ∷ [];
  replies = replies;
  unfinished = [];
  cancel = None;
  series = [];
}

-- the counts of faults before and after the run
abbrev pub counted : ℕ → Counted
counted disk = if nat_eq disk 0 then record { before = 0; after = 1 } else (record { before = 0; after = 0 })

legal_1 : NodeIsLegal read script 1 history_1
legal_1 =
    record {
      legal = search arith parts 60;
      faithful = (refl, (refl, (refl, (refl, tt))));
    }

abbrev pub account_1 : Account
account_1 =
    record {
      makers =
          None ∷ None ∷ None ∷ None ∷ None ∷ None ∷ None ∷ None ∷ None ∷ None ∷ None ∷ None ∷ None ∷ [];
      place =
          λ line. 0;
      setup = 0;
    }

lines_1 : LinesFit read script 1 replies history_1
lines_1 = record {
  account = account_1;
  each = (refl, (refl, (refl, (refl, (refl, (tt, (refl, (tt, (tt, (refl, (refl, (tt, (refl, tt)))))))))))));
  once = tt;
  setup = record { within = omega arith; first = refl; pending = refl; later = refl };
  given = tt;
}

order_1 : GoesInOrder 7 1 (packages_of script 1) list (made_by 0 history_1)
order_1 = record {
  rounds = take 6 (made_by 0 history_1);
  ends = drop 6 (made_by 0 history_1);
  split = refl;
  first = record { calls = refl; numbers = refl; accepted = refl };
  due = refl;
  sent = 6;
  within = omega arith;
  begun = λ h. omega arith;
  calls = refl;
  later = refl;
  decided = refl;
  rest = λ h. refl;
}

master_1 : MasterFits read script 1 list history_1
master_1 = record {
  order = order_1;
  decision = record { waits = refl; finish = λ h. refl; back = λ h. refl };
  votes = (record { place = 9; calls = refl; numbers = refl; accepted = refl; status = refl; session = refl }, tt);
}

node_1 : NodeFits read script counted ended 1
node_1 = record { legal = legal_1; lines = lines_1; master = master_1 }

list_fits : ListFits script counted list
list_fits = record {
  legal = (refl, (refl, (refl, (refl, (refl, (refl, (refl, (refl, (refl, (refl, tt))))))))));
  begins = (tt, ((refl, names), (tt, (tt, (tt, (tt, (tt, (tt, (tt, (tt, tt))))))))));
  restarts = inr (omega arith);
}

abbrev pub span_1 : Span
span_1 = record { outcome = Some New; saved = installed_on script 1; left = [] }

left_1 : NodeIsLeft read script ended 1
left_1 = record { span = span_1; only = refl; outcome = refl; runs = runs_1 }

series_fit : SeriesAreThere script counted ended
series_fit = record {
  votes = (tt, (tt, (tt, (tt, (tt, (tt, (tt, (tt, (tt, (tt, tt))))))))));
  unfinished = tt;
  lines = tt;
  owned = tt;
  fit = record { each = tt; lost = tt; faults = tt; losses = tt };
}

cancel_fits : CancelFits script.cancel list (is_ended_by_master ended) ended.cancel
cancel_fits = record { asked = refl; done = refl; kinds = refl; refused = λ h. never h; always = λ h. never h }

complete : IsComplete read script counted ended
complete = record {
  open_lines = refl;
  unfinished = tt;
  settled = (refl, tt);
  entered = λ rose h. refl;
  eligible = λ rose h. refl;
  calm = λ rose h. refl;
  unactivated = λ h. never h;
}

run : IsRun read script counted ended
run = record {
  used = refl;
  replied = refl;
  list = list_fits;
  nodes = (node_1, tt);
  left = (left_1, tt);
  series = series_fit;
  cancel = cancel_fits;
  complete = complete;
}
