-- A campaign that removes a cluster from one node succeeds.
use Rattle.std.specs.Prelude.{ℕ, true, false, if◌then◌else◌, bytes_eq, List, [], ◌∷◌, take, drop, Some, None, Ok, Err}
use Rattle.std.proofs.Common.{refl, inr, arith}
use Rattle.ucm_base.specs.Parts.{Bytes}
use Rattle.ucm_base.specs.declared.ids.NodeSet.{NodeSet}
use Rattle.ucm_base.specs.declared.parts.Action.TheVariants.{Remove}
use Rattle.pm_types.specs.declared.calls.Call.TheVariants.{Sync, TransferStart, TransferData, TransferExit, ProcessSwPackage, Activate, Finish}
use Rattle.pm_types.specs.declared.clusters.Cluster.{Cluster}
use Rattle.ucm_base.specs.declared.parts.Part.{Part}
use Rattle.pm_types.specs.declared.history.Entry.{Entry}
use Rattle.pm_types.specs.declared.history.Entry.TheVariants.{Numbered, Unit as UnitDone}
use Rattle.pm_types.specs.declared.replies.Refusal.TheVariants.{InvalidManifest}
use Rattle.pm_types.specs.declared.replies.Reply.TheVariants.{Done, Started, Synced}
use Rattle.pm_types.specs.declared.status.Outcome.TheVariants.{New}
use Rattle.pm_types.specs.declared.status.Status.TheVariants as Status
use Rattle.pm_types.specs.Histories.{Reading}
use Rattle.campaign_core.specs.declared.events.CampaignResult.TheVariants.{Successful}
use Rattle.campaign_core.specs.declared.events.Decision.TheVariants.{Commit}
use Rattle.campaign_core.specs.declared.events.MasterEvent.{MasterEvent}
use Rattle.campaign_core.specs.declared.events.MasterEvent.TheVariants.{Start, Begin, PhaseTo, VoteOf, Decide, EndedAt, Enter}
use Rattle.campaign_core.specs.declared.events.Phase.TheVariants as Phase
use Rattle.campaign_core.specs.declared.events.Vote.TheVariants as Vote
use Rattle.world.specs.Evidence.{NamesOf}
use Rattle.world.specs.Spans.{Span}
use Rattle.world.specs.Words.{RunsNew}
use Rattle.run_claim.specs.Script.{Script, packages_of, installed_on}
use Rattle.run_claim.specs.Ended.{Ended, LineReply, is_ended_by_master}
use Rattle.run_claim.specs.Masters.{made_by, GoesInOrder}
use Rattle.run_claim.specs.Lines.{Account}
use Rattle.run_claim.specs.FailedAttempts.{Counted}
use Rattle.run_claim.specs.Cancelled.{CancelFits}
use Rattle.run_claim.specs.Law.{NodeIsLegal, LinesFit, MasterFits, ListFits, NodeFits, NodeIsLeft, SeriesAreThere, IsComplete, IsRun}
use Rattle.run_claim.proofs.Closed.{never, each_node, FlagFits, removed_only}

abbrev pub package_1 : List ℕ
package_1 =
    83 ∷ 87 ∷ 80 ∷ 49 ∷ 0 ∷ 0 ∷ 0 ∷ 138 ∷ 123 ∷ 34 ∷ 97 ∷ 99 ∷ 116 ∷ 105 ∷ 111 ∷ 110 ∷ 34 ∷ 58 ∷ 34 ∷ 114 ∷ 101 ∷ 109
    ∷ 111 ∷ 118 ∷ 101 ∷ 34 ∷ 44 ∷ 34 ∷ 110 ∷ 97 ∷ 109 ∷ 101 ∷ 34 ∷ 58 ∷ 34 ∷ 99 ∷ 111 ∷ 114 ∷ 101 ∷ 34 ∷ 44 ∷ 34 ∷ 110
    ∷ 101 ∷ 101 ∷ 100 ∷ 115 ∷ 34 ∷ 58 ∷ 91 ∷ 93 ∷ 44 ∷ 34 ∷ 115 ∷ 104 ∷ 97 ∷ 50 ∷ 53 ∷ 54 ∷ 34 ∷ 58 ∷ 34 ∷ 101 ∷ 51 ∷ 98
    ∷ 48 ∷ 99 ∷ 52 ∷ 52 ∷ 50 ∷ 57 ∷ 56 ∷ 102 ∷ 99 ∷ 49 ∷ 99 ∷ 49 ∷ 52 ∷ 57 ∷ 97 ∷ 102 ∷ 98 ∷ 102 ∷ 52 ∷ 99 ∷ 56 ∷ 57
    ∷ 57 ∷ 54 ∷ 102 ∷ 98 ∷ 57 ∷ 50 ∷ 52 ∷ 50 ∷ 55 ∷ 97 ∷ 101 ∷ 52 ∷ 49 ∷ 101 ∷ 52 ∷ 54 ∷ 52 ∷ 57 ∷ 98 ∷ 57 ∷ 51 ∷ 52
    ∷ 99 ∷ 97 ∷ 52 ∷ 57 ∷ 53 ∷ 57 ∷ 57 ∷ 49 ∷ 98 ∷ 55 ∷ 56 ∷ 53 ∷ 50 ∷ 98 ∷ 56 ∷ 53 ∷ 53 ∷ 34 ∷ 44 ∷ 34 ∷ 118 ∷ 101
    ∷ 114 ∷ 115 ∷ 105 ∷ 111 ∷ 110 ∷ 34 ∷ 58 ∷ 34 ∷ 49 ∷ 46 ∷ 48 ∷ 46 ∷ 48 ∷ 34 ∷ 125 ∷ 0 ∷ 0 ∷ 0 ∷ 0 ∷ 212 ∷ 89 ∷ 38
    ∷ 235 ∷ 61 ∷ 74 ∷ 231 ∷ 68 ∷ 1 ∷ 14 ∷ 211 ∷ 253 ∷ 185 ∷ 43 ∷ 179 ∷ 33 ∷ 51 ∷ 140 ∷ 219 ∷ 152 ∷ 68 ∷ 102 ∷ 27 ∷ 235
    ∷ 44 ∷ 97 ∷ 209 ∷ 194 ∷ 165 ∷ 151 ∷ 61 ∷ 32 ∷ []

abbrev pub part_1 : Part Bytes
part_1 =
    record {
      manifest =
          record {
            action = Remove;
            name = (99 ∷ 111 ∷ 114 ∷ 101 ∷ []);
            version = (49 ∷ 46 ∷ 48 ∷ 46 ∷ 48 ∷ []);
            needs =
                [];
            sha256 =
                (227 ∷ 176 ∷ 196 ∷ 66 ∷ 152 ∷ 252 ∷ 28 ∷ 20 ∷ 154 ∷ 251 ∷ 244 ∷ 200 ∷ 153 ∷ 111 ∷ 185 ∷ 36 ∷ 39 ∷ 174
                ∷ 65 ∷ 228
                ∷ 100 ∷ 155 ∷ 147 ∷ 76 ∷ 164 ∷ 149 ∷ 153 ∷ 27 ∷ 120 ∷ 82 ∷ 184 ∷ 85 ∷ []);
          };
      payload = [];
    }

-- the packages, and nothing else, are read
abbrev pub read : Reading
read bytes = if bytes_eq bytes package_1 then Ok (part_1 ∷ []) else (Err InvalidManifest)

abbrev pub named : NodeSet
named = record { flags = true ∷ false ∷ false ∷ false ∷ false ∷ false ∷ false ∷ false ∷ [] }

abbrev pub script : Script
script = record {
  campaign = 7;
  time = 0;
  steps = record { node = 1; bytes = package_1 } ∷ [];
  installed =
      record {
        node = 1;
        cluster =
            record {
              name = (99 ∷ 111 ∷ 114 ∷ 101 ∷ []);
              version = (49 ∷ 46 ∷ 48 ∷ 46 ∷ 48 ∷ []);
              needs = [];
              content =
                  (1 ∷ 1 ∷ 1 ∷ 1 ∷ 1 ∷ 1 ∷ 1 ∷ 1 ∷ 1 ∷ 1 ∷ []);
            };
      } ∷ [];
  fails = [];
  lines = [];
  cancel = None;
  fates = [];
  plans = [];
}

abbrev pub list : List MasterEvent
list =
    Start 1 ∷ Begin 7 named ∷ PhaseTo Phase.Transferring ∷ PhaseTo Phase.Processing ∷ PhaseTo Phase.Activating
    ∷ VoteOf 1 Vote.Yes ∷ Decide Commit ∷ EndedAt 1 New ∷ Enter Successful ∷ []

abbrev pub history_1 : List Entry
history_1 =
    Numbered 0 (record { epoch = 1; number = 1 }) Sync
    (Synced (record { session = None; ended = None; transfers = [] }))
    ∷ Numbered 0 (record { epoch = 1; number = 2 }) (TransferStart 182) (Started 1)
    ∷ Numbered 0 (record { epoch = 1; number = 3 }) (TransferData 1 1 package_1) Done
    ∷ Numbered 0 (record { epoch = 1; number = 4 }) (TransferExit 1) Done
    ∷ Numbered 0 (record { epoch = 1; number = 5 }) (ProcessSwPackage 1 7) Done
    ∷ UnitDone true Status.Ready
    ∷ Numbered 0 (record { epoch = 1; number = 6 }) Activate Done
    ∷ UnitDone true Status.Verifying
    ∷ UnitDone true Status.Activated
    ∷ Numbered 0 (record { epoch = 1; number = 7 }) Sync
    (Synced (record {
      session = Some (record { owner = 0; tag = 7; status = Status.Activated });
      ended =
          None;
      transfers = (1 ∷ []);
    }))
    ∷ Numbered 0 (record { epoch = 1; number = 8 }) Finish Done
    ∷ UnitDone true Status.Idle
    ∷ Numbered 0 (record { epoch = 1; number = 9 }) Sync
    (Synced (record { session = None; ended = Some (record { tag = 7; outcome = New }); transfers = [] }))
    ∷ []

abbrev pub replies : List LineReply
replies = []

abbrev pub ended : Ended
ended = record {
  list = list;
  nodes = record { node = 1; entries = history_1 } ∷ [];
  replies = replies;
  unfinished = [];
  cancel = None;
  series = [];
}

-- the counts of faults before and after the run
abbrev pub counted : ℕ → Counted
counted disk = record { before = 0; after = 0 }

pub legal_1 : NodeIsLegal read script 1 history_1
legal_1 =
    record {
      legal = search arith parts 60;
      faithful = (refl, (refl, (refl, (refl, tt))));
    }

abbrev pub account_1 : Account
account_1 =
    record {
      makers =
          None ∷ None ∷ None ∷ None ∷ None ∷ None ∷ None ∷ None ∷ None ∷ None ∷ None ∷ None ∷ None ∷ [];
      place =
          λ line. 0;
      setup = 0;
    }

pub lines_1 : LinesFit read script 1 replies history_1
lines_1 = record {
  account = account_1;
  each = (refl, (refl, (refl, (refl, (refl, (tt, (refl, (tt, (tt, (refl, (refl, (tt, (refl, tt)))))))))))));
  once = tt;
  setup = record { within = omega arith; first = refl; pending = refl; later = refl };
  given = tt;
}

pub order_1 : GoesInOrder 7 1 (packages_of script 1) list (made_by 0 history_1)
order_1 = record {
  rounds = take 6 (made_by 0 history_1);
  ends = drop 6 (made_by 0 history_1);
  split = refl;
  first = record { calls = refl; numbers = refl; accepted = refl };
  due = refl;
  sent = 6;
  within = omega arith;
  begun = λ h. omega arith;
  calls = refl;
  later = refl;
  decided = refl;
  rest = λ h. refl;
}

pub master_1 : MasterFits read script 1 list history_1
master_1 = record {
  order = order_1;
  decision = record { waits = refl; finish = λ h. refl; back = λ h. refl };
  votes = (record { place = 9; calls = refl; numbers = refl; accepted = refl; status = refl; session = refl }, tt);
}

node_1 : NodeFits read script counted ended 1
node_1 = record { legal = legal_1; lines = lines_1; master = master_1 }

pub names : NamesOf (λ k n. packages_of script n) 7 named
names = (
  refl,
  each_node (λ n. FlagFits script named n)
      ((
        (λ f. λ e. cc e, λ e. refl),
        (
          (λ f. absurd (cc f), λ e. absurd (e refl)),
          (
            (λ f. absurd (cc f), λ e. absurd (e refl)),
            (
              (λ f. absurd (cc f), λ e. absurd (e refl)),
              (
                (λ f. absurd (cc f), λ e. absurd (e refl)),
                (
                  (λ f. absurd (cc f), λ e. absurd (e refl)),
                  ((λ f. absurd (cc f), λ e. absurd (e refl)), ((λ f. absurd (cc f), λ e. absurd (e refl)), tt)),
                ),
              ),
            ),
          ),
        ),
      )),
)

pub list_fits : ListFits script counted list
list_fits = record {
  legal = (refl, (refl, (refl, (refl, (refl, (refl, (refl, (refl, (refl, tt)))))))));
  begins = (tt, ((refl, names), (tt, (tt, (tt, (tt, (tt, (tt, (tt, tt)))))))));
  restarts = inr (omega arith);
}

abbrev pub span_1 : Span
span_1 = record { outcome = Some New; saved = installed_on script 1; left = [] }

abbrev pub core : Cluster Bytes
core =
    record {
      name = (99 ∷ 111 ∷ 114 ∷ 101 ∷ []);
      version = (49 ∷ 46 ∷ 48 ∷ 46 ∷ 48 ∷ []);
      needs = [];
      content =
          (1 ∷ 1 ∷ 1 ∷ 1 ∷ 1 ∷ 1 ∷ 1 ∷ 1 ∷ 1 ∷ 1 ∷ []);
    }

pub runs_1 : RunsNew (part_1 ∷ []) (installed_on script 1) []
runs_1 = removed_only part_1 core refl refl

pub left_1 : NodeIsLeft read script ended 1
left_1 = record { span = span_1; only = refl; outcome = refl; runs = runs_1 }

series_fit : SeriesAreThere script counted ended
series_fit = record {
  votes = (tt, (tt, (tt, (tt, (tt, (tt, (tt, (tt, (tt, tt)))))))));
  unfinished = tt;
  lines = tt;
  owned = tt;
  fit = record { each = tt; lost = tt; faults = tt; losses = tt };
}

pub cancel_fits : CancelFits script.cancel list (is_ended_by_master ended) ended.cancel
cancel_fits = record { asked = refl; done = refl; kinds = refl; refused = λ h. never h; always = λ h. never h }

complete : IsComplete read script counted ended
complete = record {
  open_lines = refl;
  unfinished = tt;
  settled = (refl, tt);
  entered = λ rose h. refl;
  eligible = λ rose h. refl;
  calm = λ rose h. refl;
  unactivated = λ h. never h;
}

pub run : IsRun read script counted ended
run = record {
  used = refl;
  replied = refl;
  list = list_fits;
  nodes = (node_1, tt);
  left = (left_1, tt);
  series = series_fit;
  cancel = cancel_fits;
  complete = complete;
}
