-- On the second of two nodes a cluster's check fails, and both go back.
use Rattle.std.specs.Prelude.{ℕ, true, false, if◌then◌else◌, bytes_eq, List, [], ◌∷◌, take, drop, Some, None, Ok, Err}
use Rattle.std.proofs.Common.{refl, inr, arith}
use Rattle.ucm_base.specs.Parts.{Bytes}
use Rattle.ucm_base.specs.declared.ids.NodeSet.{NodeSet}
use Rattle.ucm_base.specs.declared.parts.Action.TheVariants.{Install}
use Rattle.pm_types.specs.declared.calls.Call.TheVariants.{Sync, TransferStart, TransferData, TransferExit, ProcessSwPackage, Activate, Finish, Rollback}
use Rattle.ucm_base.specs.declared.parts.Part.{Part}
use Rattle.pm_types.specs.declared.history.Entry.{Entry}
use Rattle.pm_types.specs.declared.history.Entry.TheVariants.{Numbered, Unit as UnitDone}
use Rattle.pm_types.specs.declared.replies.Refusal.TheVariants.{InvalidManifest}
use Rattle.pm_types.specs.declared.replies.Reply.TheVariants.{Done, Started, Synced}
use Rattle.pm_types.specs.declared.status.Outcome.TheVariants.{Old}
use Rattle.pm_types.specs.declared.status.Status.TheVariants as Status
use Rattle.pm_types.specs.Histories.{Reading}
use Rattle.campaign_core.specs.declared.events.CampaignResult.TheVariants.{Failed}
use Rattle.campaign_core.specs.declared.events.Cause.TheVariants as Cause
use Rattle.campaign_core.specs.declared.events.Decision.TheVariants.{Abort}
use Rattle.campaign_core.specs.declared.events.MasterEvent.{MasterEvent}
use Rattle.campaign_core.specs.declared.events.MasterEvent.TheVariants.{Start, Begin, PhaseTo, VoteOf, Decide, EndedAt, Enter}
use Rattle.campaign_core.specs.declared.events.Phase.TheVariants as Phase
use Rattle.campaign_core.specs.declared.events.Vote.TheVariants as Vote
use Rattle.world.specs.Evidence.{NamesOf}
use Rattle.run_claim.specs.Script.{Script, packages_of}
use Rattle.run_claim.specs.Ended.{Ended, LineReply, is_ended_by_master}
use Rattle.run_claim.specs.Masters.{made_by, GoesInOrder}
use Rattle.run_claim.specs.Lines.{Account}
use Rattle.run_claim.specs.FailedAttempts.{Counted}
use Rattle.run_claim.specs.Cancelled.{CancelFits}
use Rattle.run_claim.specs.Law.{NodeIsLegal, LinesFit, MasterFits, ListFits, NodeFits, NodeIsLeft, SeriesAreThere, IsComplete, IsRun}
use Rattle.run_claim.proofs.Closed.{never, each_node, FlagFits}

abbrev pub package_1 : List ℕ
package_1 =
    83 ∷ 87 ∷ 80 ∷ 49 ∷ 0 ∷ 0 ∷ 0 ∷ 136 ∷ 123 ∷ 34 ∷ 97 ∷ 99 ∷ 116 ∷ 105 ∷ 111 ∷ 110 ∷ 34 ∷ 58 ∷ 34 ∷ 105 ∷ 110 ∷ 115
    ∷ 116 ∷ 97 ∷ 108 ∷ 108 ∷ 34 ∷ 44 ∷ 34 ∷ 110 ∷ 97 ∷ 109 ∷ 101 ∷ 34 ∷ 58 ∷ 34 ∷ 97 ∷ 34 ∷ 44 ∷ 34 ∷ 110 ∷ 101 ∷ 101
    ∷ 100 ∷ 115 ∷ 34 ∷ 58 ∷ 91 ∷ 93 ∷ 44 ∷ 34 ∷ 115 ∷ 104 ∷ 97 ∷ 50 ∷ 53 ∷ 54 ∷ 34 ∷ 58 ∷ 34 ∷ 102 ∷ 102 ∷ 97 ∷ 100
    ∷ 102 ∷ 56 ∷ 100 ∷ 56 ∷ 57 ∷ 100 ∷ 51 ∷ 55 ∷ 98 ∷ 51 ∷ 98 ∷ 53 ∷ 53 ∷ 102 ∷ 101 ∷ 49 ∷ 56 ∷ 52 ∷ 55 ∷ 98 ∷ 53 ∷ 49
    ∷ 51 ∷ 99 ∷ 102 ∷ 57 ∷ 50 ∷ 101 ∷ 51 ∷ 98 ∷ 101 ∷ 56 ∷ 55 ∷ 101 ∷ 52 ∷ 99 ∷ 49 ∷ 54 ∷ 56 ∷ 55 ∷ 48 ∷ 56 ∷ 99 ∷ 55
    ∷ 56 ∷ 53 ∷ 49 ∷ 56 ∷ 52 ∷ 53 ∷ 100 ∷ 102 ∷ 57 ∷ 54 ∷ 102 ∷ 98 ∷ 51 ∷ 54 ∷ 98 ∷ 101 ∷ 34 ∷ 44 ∷ 34 ∷ 118 ∷ 101 ∷ 114
    ∷ 115 ∷ 105 ∷ 111 ∷ 110 ∷ 34 ∷ 58 ∷ 34 ∷ 49 ∷ 46 ∷ 48 ∷ 46 ∷ 48 ∷ 34 ∷ 125 ∷ 0 ∷ 0 ∷ 0 ∷ 10 ∷ 1 ∷ 1 ∷ 1 ∷ 1 ∷ 1 ∷ 1
    ∷ 1 ∷ 1 ∷ 1 ∷ 1 ∷ 23 ∷ 92 ∷ 28 ∷ 47 ∷ 63 ∷ 246 ∷ 53 ∷ 189 ∷ 203 ∷ 154 ∷ 134 ∷ 26 ∷ 149 ∷ 134 ∷ 53 ∷ 250 ∷ 249 ∷ 195
    ∷ 186 ∷ 158 ∷ 143 ∷ 147 ∷ 23 ∷ 136 ∷ 113 ∷ 220 ∷ 73 ∷ 91 ∷ 248 ∷ 23 ∷ 202 ∷ 95 ∷ []

abbrev pub package_2 : List ℕ
package_2 =
    83 ∷ 87 ∷ 80 ∷ 49 ∷ 0 ∷ 0 ∷ 0 ∷ 136 ∷ 123 ∷ 34 ∷ 97 ∷ 99 ∷ 116 ∷ 105 ∷ 111 ∷ 110 ∷ 34 ∷ 58 ∷ 34 ∷ 105 ∷ 110 ∷ 115
    ∷ 116 ∷ 97 ∷ 108 ∷ 108 ∷ 34 ∷ 44 ∷ 34 ∷ 110 ∷ 97 ∷ 109 ∷ 101 ∷ 34 ∷ 58 ∷ 34 ∷ 98 ∷ 34 ∷ 44 ∷ 34 ∷ 110 ∷ 101 ∷ 101
    ∷ 100 ∷ 115 ∷ 34 ∷ 58 ∷ 91 ∷ 93 ∷ 44 ∷ 34 ∷ 115 ∷ 104 ∷ 97 ∷ 50 ∷ 53 ∷ 54 ∷ 34 ∷ 58 ∷ 34 ∷ 51 ∷ 53 ∷ 48 ∷ 48 ∷ 100
    ∷ 57 ∷ 51 ∷ 50 ∷ 49 ∷ 52 ∷ 99 ∷ 97 ∷ 102 ∷ 55 ∷ 102 ∷ 53 ∷ 48 ∷ 50 ∷ 97 ∷ 102 ∷ 53 ∷ 97 ∷ 100 ∷ 99 ∷ 100 ∷ 50 ∷ 56
    ∷ 102 ∷ 56 ∷ 102 ∷ 52 ∷ 102 ∷ 98 ∷ 51 ∷ 54 ∷ 50 ∷ 48 ∷ 101 ∷ 97 ∷ 101 ∷ 51 ∷ 98 ∷ 101 ∷ 100 ∷ 98 ∷ 101 ∷ 98 ∷ 51
    ∷ 50 ∷ 55 ∷ 99 ∷ 99 ∷ 53 ∷ 99 ∷ 54 ∷ 56 ∷ 97 ∷ 53 ∷ 55 ∷ 98 ∷ 51 ∷ 49 ∷ 50 ∷ 57 ∷ 34 ∷ 44 ∷ 34 ∷ 118 ∷ 101 ∷ 114
    ∷ 115 ∷ 105 ∷ 111 ∷ 110 ∷ 34 ∷ 58 ∷ 34 ∷ 49 ∷ 46 ∷ 48 ∷ 46 ∷ 48 ∷ 34 ∷ 125 ∷ 0 ∷ 0 ∷ 0 ∷ 10 ∷ 2 ∷ 2 ∷ 2 ∷ 2 ∷ 2 ∷ 2
    ∷ 2 ∷ 2 ∷ 2 ∷ 2 ∷ 161 ∷ 194 ∷ 7 ∷ 6 ∷ 178 ∷ 126 ∷ 255 ∷ 115 ∷ 215 ∷ 58 ∷ 233 ∷ 209 ∷ 88 ∷ 70 ∷ 204 ∷ 112 ∷ 51 ∷ 113
    ∷ 137 ∷ 10 ∷ 9 ∷ 169 ∷ 35 ∷ 131 ∷ 226 ∷ 104 ∷ 113 ∷ 251 ∷ 216 ∷ 216 ∷ 3 ∷ 66 ∷ []

abbrev pub part_1 : Part Bytes
part_1 =
    record {
      manifest =
          record {
            action = Install;
            name = (97 ∷ []);
            version = (49 ∷ 46 ∷ 48 ∷ 46 ∷ 48 ∷ []);
            needs = [];
            sha256 =
                (255 ∷ 173 ∷ 248 ∷ 216 ∷ 157 ∷ 55 ∷ 179 ∷ 181 ∷ 95 ∷ 225 ∷ 132 ∷ 123 ∷ 81 ∷ 60 ∷ 249 ∷ 46 ∷ 59 ∷ 232
                ∷ 126 ∷ 76 ∷ 22
                ∷ 135 ∷ 8 ∷ 199 ∷ 133 ∷ 24 ∷ 69 ∷ 223 ∷ 150 ∷ 251 ∷ 54 ∷ 190 ∷ []);
          };
      payload =
          (1 ∷ 1 ∷ 1 ∷ 1 ∷ 1 ∷ 1 ∷ 1 ∷ 1 ∷ 1 ∷ 1 ∷ []);
    }

abbrev pub part_2 : Part Bytes
part_2 =
    record {
      manifest =
          record {
            action = Install;
            name = (98 ∷ []);
            version = (49 ∷ 46 ∷ 48 ∷ 46 ∷ 48 ∷ []);
            needs = [];
            sha256 =
                (53 ∷ 0 ∷ 217 ∷ 50 ∷ 20 ∷ 202 ∷ 247 ∷ 245 ∷ 2 ∷ 175 ∷ 90 ∷ 220 ∷ 210 ∷ 143 ∷ 143 ∷ 79 ∷ 179 ∷ 98 ∷ 14
                ∷ 174 ∷ 59
                ∷ 237 ∷ 190 ∷ 179 ∷ 39 ∷ 204 ∷ 92 ∷ 104 ∷ 165 ∷ 123 ∷ 49 ∷ 41 ∷ []);
          };
      payload =
          (2 ∷ 2 ∷ 2 ∷ 2 ∷ 2 ∷ 2 ∷ 2 ∷ 2 ∷ 2 ∷ 2 ∷ []);
    }

-- the packages, and nothing else, are read
abbrev pub read : Reading
read bytes =
    if bytes_eq bytes package_1 then Ok (part_1 ∷ [])
    else (if bytes_eq bytes package_2 then Ok (part_2 ∷ []) else (Err InvalidManifest))

abbrev pub named : NodeSet
named = record { flags = true ∷ true ∷ false ∷ false ∷ false ∷ false ∷ false ∷ false ∷ [] }

abbrev pub script : Script
script = record {
  campaign = 7;
  time = 0;
  steps =
      record { node = 1; bytes = package_1 } ∷ record { node = 2; bytes = package_1 }
      ∷ record { node = 2; bytes = package_2 } ∷ [];
  installed = [];
  fails = record { line = 1; node = 2; name = (98 ∷ []) } ∷ [];
  lines = [];
  cancel = None;
  fates = [];
  plans = [];
}

abbrev pub list : List MasterEvent
list =
    Start 1 ∷ Begin 7 named ∷ PhaseTo Phase.Transferring ∷ PhaseTo Phase.Processing ∷ PhaseTo Phase.Activating
    ∷ VoteOf 1 Vote.Yes ∷ VoteOf 2 Vote.RolledBack ∷ Decide (Abort (Cause.Vote 2)) ∷ EndedAt 1 Old ∷ EndedAt 2 Old
    ∷ Enter Failed ∷ []

abbrev pub history_1 : List Entry
history_1 =
    Numbered 0 (record { epoch = 1; number = 1 }) Sync
    (Synced (record { session = None; ended = None; transfers = [] }))
    ∷ Numbered 0 (record { epoch = 1; number = 2 }) (TransferStart 190) (Started 1)
    ∷ Numbered 0 (record { epoch = 1; number = 3 }) (TransferData 1 1 package_1) Done
    ∷ Numbered 0 (record { epoch = 1; number = 4 }) (TransferExit 1) Done
    ∷ Numbered 0 (record { epoch = 1; number = 5 }) (ProcessSwPackage 1 7) Done
    ∷ UnitDone true Status.Ready
    ∷ Numbered 0 (record { epoch = 1; number = 6 }) Activate Done
    ∷ UnitDone true Status.Verifying
    ∷ UnitDone true Status.Activated
    ∷ Numbered 0 (record { epoch = 1; number = 7 }) Sync
    (Synced (record {
      session = Some (record { owner = 0; tag = 7; status = Status.Activated });
      ended =
          None;
      transfers = (1 ∷ []);
    }))
    ∷ Numbered 0 (record { epoch = 1; number = 8 }) Rollback Done
    ∷ UnitDone true Status.RolledBack
    ∷ Numbered 0 (record { epoch = 1; number = 9 }) Finish Done
    ∷ UnitDone true Status.Idle
    ∷ Numbered 0 (record { epoch = 1; number = 10 }) Sync
    (Synced (record { session = None; ended = Some (record { tag = 7; outcome = Old }); transfers = [] }))
    ∷ []

abbrev pub history_2 : List Entry
history_2 =
    Numbered 0 (record { epoch = 1; number = 1 }) Sync
    (Synced (record { session = None; ended = None; transfers = [] }))
    ∷ Numbered 0 (record { epoch = 1; number = 2 }) (TransferStart 190) (Started 1)
    ∷ Numbered 0 (record { epoch = 1; number = 3 }) (TransferData 1 1 package_1) Done
    ∷ Numbered 0 (record { epoch = 1; number = 4 }) (TransferExit 1) Done
    ∷ Numbered 0 (record { epoch = 1; number = 5 }) (TransferStart 190) (Started 2)
    ∷ Numbered 0 (record { epoch = 1; number = 6 }) (TransferData 2 1 package_2) Done
    ∷ Numbered 0 (record { epoch = 1; number = 7 }) (TransferExit 2) Done
    ∷ Numbered 0 (record { epoch = 1; number = 8 }) (ProcessSwPackage 1 7) Done
    ∷ UnitDone true Status.Ready
    ∷ Numbered 0 (record { epoch = 1; number = 9 }) (ProcessSwPackage 2 7) Done
    ∷ UnitDone true Status.Ready
    ∷ Numbered 0 (record { epoch = 1; number = 10 }) Activate Done
    ∷ UnitDone true Status.Verifying
    ∷ UnitDone true Status.Verifying
    ∷ UnitDone false Status.RollingBack
    ∷ UnitDone true Status.RolledBack
    ∷ Numbered 0 (record { epoch = 1; number = 11 }) Sync
    (Synced (record {
      session = Some (record { owner = 0; tag = 7; status = Status.RolledBack });
      ended =
          None;
      transfers = (1 ∷ 2 ∷ []);
    }))
    ∷ Numbered 0 (record { epoch = 1; number = 12 }) Finish Done
    ∷ UnitDone true Status.Idle
    ∷ Numbered 0 (record { epoch = 1; number = 13 }) Sync
    (Synced (record { session = None; ended = Some (record { tag = 7; outcome = Old }); transfers = [] }))
    ∷ []

abbrev pub replies : List LineReply
replies = []

abbrev pub ended : Ended
ended = record {
  list = list;
  nodes = record { node = 1; entries = history_1 } ∷ record { node = 2; entries = history_2 } ∷ [];
  replies = replies;
  unfinished = [];
  cancel = None;
  series = [];
}

-- the counts of faults before and after the run
abbrev pub counted : ℕ → Counted
counted disk = record { before = 0; after = 0 }

legal_1 : NodeIsLegal read script 1 history_1
legal_1 =
    record {
      legal = search arith parts 60;
      faithful = (refl, (refl, (refl, (refl, (refl, tt)))));
    }

abbrev pub account_1 : Account
account_1 =
    record {
      makers =
          None ∷ None ∷ None ∷ None ∷ None ∷ None ∷ None ∷ None ∷ None ∷ None ∷ None ∷ None ∷ None ∷ None ∷ None ∷ [];
      place =
          λ line. 0;
      setup = 0;
    }

lines_1 : LinesFit read script 1 replies history_1
lines_1 = record {
  account = account_1;
  each =
      (refl, (refl, (refl, (refl, (refl, (tt, (refl, (tt, (tt, (refl, (refl, (tt, (refl, (tt, (refl, tt)))))))))))))));
  once = tt;
  setup = record { within = omega arith; first = refl; pending = refl; later = refl };
  given = tt;
}

order_1 : GoesInOrder 7 1 (packages_of script 1) list (made_by 0 history_1)
order_1 = record {
  rounds = take 6 (made_by 0 history_1);
  ends = drop 6 (made_by 0 history_1);
  split = refl;
  first = record { calls = refl; numbers = refl; accepted = refl };
  due = refl;
  sent = 6;
  within = omega arith;
  begun = λ h. omega arith;
  calls = refl;
  later = refl;
  decided = refl;
  rest = λ h. refl;
}

master_1 : MasterFits read script 1 list history_1
master_1 = record {
  order = order_1;
  decision = record { waits = refl; finish = λ h. never h; back = λ h. never h };
  votes = (record { place = 9; calls = refl; numbers = refl; accepted = refl; status = refl; session = refl }, tt);
}

node_1 : NodeFits read script counted ended 1
node_1 = record { legal = legal_1; lines = lines_1; master = master_1 }

legal_2 : NodeIsLegal read script 2 history_2
legal_2 =
    record {
      legal = search arith parts 60;
      faithful =
          (refl, (refl, (refl, (refl, (refl, (refl, (refl, tt)))))));
    }

abbrev pub account_2 : Account
account_2 =
    record {
      makers =
          None ∷ None ∷ None ∷ None ∷ None ∷ None ∷ None ∷ None ∷ None ∷ None ∷ None ∷ None ∷ None ∷ None ∷ None ∷ None
          ∷ None
          ∷ None ∷ None ∷ None ∷ [];
      place = λ line. 0;
      setup = 0;
    }

lines_2 : LinesFit read script 2 replies history_2
lines_2 = record {
  account = account_2;
  each = (
    refl,
    (
      refl,
      (
        refl,
        (
          refl,
          (
            refl,
            (
              refl,
              (
                refl,
                (
                  refl,
                  (tt, (refl, (tt, (refl, (tt, (tt, (tt, (tt, (refl, (refl, (tt, (refl, tt)))))))))))),
                ),
              ),
            ),
          ),
        ),
      ),
    ),
  );
  once = tt;
  setup = record { within = omega arith; first = refl; pending = refl; later = refl };
  given = tt;
}

order_2 : GoesInOrder 7 2 (packages_of script 2) list (made_by 0 history_2)
order_2 = record {
  rounds = take 10 (made_by 0 history_2);
  ends = drop 10 (made_by 0 history_2);
  split = refl;
  first = record { calls = refl; numbers = refl; accepted = refl };
  due = refl;
  sent = 10;
  within = omega arith;
  begun = λ h. omega arith;
  calls = refl;
  later = refl;
  decided = refl;
  rest = λ h. refl;
}

master_2 : MasterFits read script 2 list history_2
master_2 = record {
  order = order_2;
  decision = record { waits = refl; finish = λ h. never h; back = λ h. never h };
  votes = (record { place = 16; calls = refl; numbers = refl; accepted = refl; status = refl; session = refl }, tt);
}

node_2 : NodeFits read script counted ended 2
node_2 = record { legal = legal_2; lines = lines_2; master = master_2 }

names : NamesOf (λ k n. packages_of script n) 7 named
names = (
  refl,
  each_node (λ n. FlagFits script named n)
      ((
        (λ f. λ e. cc e, λ e. refl),
        (
          (λ f. λ e. cc e, λ e. refl),
          (
            (λ f. absurd (cc f), λ e. absurd (e refl)),
            (
              (λ f. absurd (cc f), λ e. absurd (e refl)),
              (
                (λ f. absurd (cc f), λ e. absurd (e refl)),
                (
                  (λ f. absurd (cc f), λ e. absurd (e refl)),
                  ((λ f. absurd (cc f), λ e. absurd (e refl)), ((λ f. absurd (cc f), λ e. absurd (e refl)), tt)),
                ),
              ),
            ),
          ),
        ),
      )),
)

list_fits : ListFits script counted list
list_fits = record {
  legal = (refl, (refl, (refl, (refl, (refl, (refl, (refl, (refl, (refl, (refl, (refl, tt)))))))))));
  begins = (tt, ((refl, names), (tt, (tt, (tt, (tt, (tt, (tt, (tt, (tt, (tt, tt)))))))))));
  restarts = inr (omega arith);
}

left_1 : NodeIsLeft read script ended 1
left_1 = record { closed = refl; same = (refl, tt) }

left_2 : NodeIsLeft read script ended 2
left_2 = record { closed = refl; same = (refl, tt) }

series_fit : SeriesAreThere script counted ended
series_fit = record {
  votes = (tt, (tt, (tt, (tt, (tt, (tt, (tt, (tt, (tt, (tt, (tt, tt)))))))))));
  unfinished = tt;
  lines = tt;
  owned = tt;
  fit = record { each = tt; lost = tt; faults = tt; losses = tt };
}

cancel_fits : CancelFits script.cancel list (is_ended_by_master ended) ended.cancel
cancel_fits = record { asked = refl; done = refl; kinds = refl; refused = λ h. never h; always = λ h. never h }

complete : IsComplete read script counted ended
complete = record {
  open_lines = refl;
  unfinished = tt;
  settled = (refl, (refl, tt));
  entered = λ rose h. refl;
  eligible = λ rose h. never h;
  calm = λ rose h. never h;
  unactivated = λ h. never h;
}

run : IsRun read script counted ended
run = record {
  used = refl;
  replied = refl;
  list = list_fits;
  nodes = (node_1, (node_2, tt));
  left = (left_1, (left_2, tt));
  series = series_fit;
  cancel = cancel_fits;
  complete = complete;
}
