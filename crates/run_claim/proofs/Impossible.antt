-- Reports that no run ends with: each is a run's own with one thing changed, and a sentence of the promise refuses it.
use Rattle.std.specs.Prelude.{◌≡◌, ℕ, ◌==◌, Bool, true, false, nat_le, ◌+◌, ◌||◌, IsTrue, cond, length, map, List, [], ◌∷◌, ◌++◌, take, slice_get, replicate, Option, Some, None, Ok}
use Rattle.std.specs.List.{list_all}
use Rattle.std.specs.Option.{option_map_or}
use Rattle.std.proofs.Common.{refl, inl, inr, sym, ap, ◌∙◌, subst, arith}
use Rattle.ucm_base.specs.declared.ids.NodeSet.{NodeSet}
use Rattle.pm_types.specs.declared.calls.Call.{Call}
use Rattle.pm_types.specs.declared.calls.Call.TheVariants.{Sync, TransferStart, ProcessSwPackage}
use Rattle.pm_types.specs.declared.history.Entry.{Entry}
use Rattle.pm_types.specs.declared.history.Entry.TheVariants.{Numbered, Unit as UnitDone}
use Rattle.pm_types.specs.declared.queries.Answer.{Answer}
use Rattle.pm_types.specs.declared.queries.Answer.TheVariants.{Packages, Status as StatusIs}
use Rattle.pm_types.specs.declared.queries.Query.TheVariants.{GetSwPackages, CurrentStatus}
use Rattle.pm_types.specs.declared.replies.Reply.TheVariants.{Done, Started, Synced, Refused}
use Rattle.pm_types.specs.declared.replies.Refusal.TheVariants.{OperationNotPermitted}
use Rattle.pm_types.specs.declared.status.Status.TheVariants.{Idle, Processing, Activated, RollingBack}
use Rattle.pm_types.specs.Histories.{state_after}
use Rattle.pm_types.specs.Queries.{answer}
use Rattle.campaign_core.specs.declared.events.Decision.TheVariants.{Commit, Abort}
use Rattle.campaign_core.specs.declared.events.Cause.TheVariants as Cause
use Rattle.pm_types.specs.declared.status.Outcome.TheVariants.{Old}
use Rattle.campaign_core.specs.declared.events.MasterEvent.{MasterEvent}
use Rattle.campaign_core.specs.declared.events.MasterEvent.TheVariants.{Start, Begin, VoteOf, Decide, CancelAsked, EndedAt}
use Rattle.campaign_core.specs.declared.events.CampaignResult.TheVariants.{Failed}
use Rattle.campaign_core.specs.declared.events.Vote.TheVariants as Vote
use Rattle.world.specs.Messages.{is_status}
use Rattle.world.specs.RoundCalls.{round_calls}
use Rattle.run_script.specs.declared.lines.FateLine.{FateLine}
use Rattle.run_script.specs.declared.lines.Point.TheVariants.{Syncing, Voted}
use Rattle.run_claim.specs.Script.{ClientLine, Calls, Asks, packages_of}
use Rattle.sub_core.specs.declared.subordinate.Fate.TheVariants.{Lost}
use Rattle.run_claim.specs.Ended.{Series, OfEnd, OfVote, Saw, LineReply}
use Rattle.sub_core.specs.declared.answers.Rises.{Rises}
use Rattle.run_claim.specs.Masters.{made_by, IsOfRoundsIn, GoesInOrder, GoesByDecision, has_decision, is_later_than}
use Rattle.sub_core.specs.Made.{Made, ids_given, has_none, is_end_call, ends_at_rest}
use Rattle.run_claim.specs.Evidence.{ShowsAfterRounds}
use Rattle.run_claim.specs.Lines.{InLine, EachIsMade, MakesOnce, Gives, IsAccounted}
use Rattle.run_claim.specs.FailedAttempts.{SeriesFit, VoteHasSeries}
use Rattle.run_claim.specs.Cancelled.{CancelFits}
use Rattle.run_claim.specs.Left.{IsLeftSo}
use Rattle.run_claim.specs.Law.{opening_of, NodeIsLegal, MasterFits, ListFits, LinesFit, IsComplete}
use Rattle.run_claim.proofs.Closed.{never, each_prefix, each_split}
use Rattle.run_claim.proofs.Removal.{read, script, list, history_1, counted, ended}

-- Finish is accepted in Activated, and the list has no Commit
early_finish : GoesByDecision read (opening_of script 1) (take 6 list) history_1 → ⊥
early_finish h = never (h.finish refl)

-- nor may client 0 have called in the end phase
undecided_end : GoesInOrder 7 1 (packages_of script 1) (take 6 list) (made_by 0 history_1) → ⊥
undecided_end h =
    each_split (λ a b. IsTrue (has_decision (take 6 list) || has_none b)
    → IsOfRoundsIn (Some 1) 7 (packages_of script 1) a → ⊥) (made_by 0 history_1) (
      (λ d f. never d),
      (
        (λ d f. never d),
        (
          (λ d f. never d),
          (
            (λ d f. never d),
            (
              (λ d f. never d),
              (
                (λ d f. never d),
                ((λ d f. never d), ((λ d f. never d), ((λ d f. never d), λ d f. too-long f.calls))),
              ),
            ),
          ),
        ),
      ),
    ) h.rounds h.ends
    h.split h.decided h.first
  where
    too-long : map (λ m. m.call) (made_by 0 history_1)
        ≡ take 9 (round_calls 7 (ids_given (made_by 0 history_1)) (packages_of script 1)) → ⊥
    too-long e = let n : 9 ≡ 6 = ap (λ cs. length cs) e in omega (arith, n)

-- a Yes, and the node is still Verifying
early_yes : ShowsAfterRounds read (opening_of script 1) 7 1 (packages_of script 1) Activated (take 8 history_1) → ⊥
early_yes h =
    let no : is_status (state_after read (opening_of script 1) (take h.place (take 8 history_1))).status Activated
    ≡ false =
    each_prefix (λ es. is_status (state_after read (opening_of script 1) es).status Activated ≡ false)
    (take 8 history_1)
    (refl, (refl, (refl, (refl, (refl, (refl, (refl, (refl, refl)))))))) h.place in
    never (sym no ∙ ap (λ s. is_status s Activated) h.status)

-- an end of the node without the last Sync
no_last_sync : MasterFits read script 1 list (take 12 history_1) → ⊥
no_last_sync h =
    each_split (λ a b. IsTrue (ends_at_rest b) → ⊥) (made_by 0 (take 12 history_1))
    (never, (never, (never, (never, (never, (never, (never, (never, never)))))))) h.order.rounds h.order.ends
    h.order.split (h.order.rest refl)

-- the Sync of the rounds isn't the one that the end needs
abbrev aborted : List MasterEvent
aborted = take 3 list ++ CancelAsked ∷ Decide (Abort Cause.Cancel) ∷ EndedAt 1 Old ∷ []

old_sync : GoesInOrder 7 1 (packages_of script 1) aborted (take 1 (made_by 0 history_1)) → ⊥
old_sync h =
    each_split (λ a b. IsTrue (list_all (λ m. is_later_than (Some 1) h.sent aborted m.at) b) → IsTrue (ends_at_rest b)
    → ⊥) (take 1 (made_by 0 history_1))
    ((λ l r. let first = h.begun refl in grind (arith, l, first)), λ l r. never r) h.rounds h.ends h.split h.later
    (h.rest refl)

-- client 3's entry, and no line names it
abbrev stranger : Entry
stranger =
    Numbered 3 (record { epoch = 1; number = 1 }) Sync
    (Synced (record { session = None; ended = None; transfers = [] }))

unnamed_client : LinesFit read script 1 [] (stranger ∷ []) → ⊥
unnamed_client h = nobody h.account.makers h.each
  where
    nobody : (makers : List (Option ℕ)) → EachIsMade [] (stranger ∷ []) makers → ⊥
    nobody [] e = e
    nobody (None ∷ ms) e = omega (arith, e.0)
    nobody (Some n ∷ ms) e = e.0

-- a line of client 2, and an entry as it makes
abbrev line : ClientLine
line =
    record {
      line = 6;
      is_setup = false;
      node = 1;
      client = 2;
      deed =
          Calls (record { epoch = 1; number = 1 }) (TransferStart 10);
    }

abbrev entry : Entry
entry = Numbered 2 (record { epoch = 1; number = 1 }) (TransferStart 10) (Started 1)

-- whether the number is the line's
abbrev line_if : Bool → Option ClientLine
line_if b = cond b (Some line) None

abbrev counts : Bool → ℕ
counts b = cond (option_map_or (λ (x : ClientLine). x.line == 6) (line_if b) false) 1 0

abbrev IsOfLine : Bool → Type 0
IsOfLine b = InLine (line_if b) (λ l. (l.client ≡ 2) × (l.deed ≡ line.deed))

-- two entries for one line
two_entries : (makers : List (Option ℕ)) → EachIsMade (line ∷ []) (entry ∷ entry ∷ []) makers
    → MakesOnce (line ∷ []) makers line → ⊥
two_entries [] e o = e
two_entries (m ∷ []) e o = e.1
two_entries (m ∷ n ∷ k ∷ ms) e o = e.1.1
two_entries (None ∷ n ∷ []) e o = omega (arith, e.0)
two_entries (Some m ∷ None ∷ []) e o = omega (arith, e.1.0)
two_entries (Some m ∷ Some n ∷ []) e o = both (6 == m) (6 == n) e.0 e.1.0 o
  where
    both : (a b : Bool) → IsOfLine a → IsOfLine b → IsTrue (nat_le (0 + counts a + counts b) 1) → ⊥
    both false b p q o = p
    both true false p q o = q
    both true true p q o = never o

-- a query is answered with what its place doesn't give
abbrev question : ClientLine
question = record { line = 8; is_setup = false; node = 1; client = 2; deed = Asks GetSwPackages }

abbrev count : Answer → ℕ
count (Packages ps) = length ps
count _ = 0

other_answer : (place : ℕ)
    → Gives read [] 0 (state_after read (opening_of script 1) (take place (history_1 ++ entry ∷ []))) place question
    question.deed (Saw 14 (Packages [])) → ⊥
other_answer place h =
    differ (subst (λ (n : ℕ). answer (state_after read (opening_of script 1) (take n (history_1 ++ entry ∷ []))) 2
    GetSwPackages ≡ Packages []) (sym h.0) h.1)
  where
    differ : answer (state_after read (opening_of script 1) (history_1 ++ entry ∷ [])) 2 GetSwPackages ≡ Packages [] → ⊥
    differ e = let n : 1 ≡ 0 = ap count e in omega (arith, n)

-- a series with an attempt without a rise
abbrev risen : Rises
risen = record { losses = 1; faults = 0 }

abbrev lost : FateLine
lost = record { line = 1; node = 1; first = 7; last = 14; fate = Lost }

abbrev series_with : Rises → Series
series_with r = record { failure = OfEnd; disk = 1; rises = r ∷ replicate 7 risen }

no_rise : SeriesFit (lost ∷ []) counted (series_with (record { losses = 0; faults = 0 }) ∷ []) → ⊥
no_rise h = never h.each.0.each

-- more losses than the fate lines make
abbrev seven : FateLine
seven = record lost { last = 13 }

more_losses : SeriesFit (seven ∷ []) counted (series_with risen ∷ []) → ⊥
more_losses h = omega (arith, h.losses.0)

-- more faults than the disk's count rose by
more_faults : SeriesFit (lost ∷ []) counted (series_with (record { losses = 0; faults = 1 }) ∷ []) → ⊥
more_faults h = elim h.faults.0 [ inl e ↦ omega (arith, e) | inr l ↦ omega (arith, l) ]

-- the cancel line says Done, and no cancel is in the list
unasked_done : CancelFits None list false (Some (Ok tt)) → ⊥
unasked_done h = never (sym h.done)

-- a cancel that the script doesn't ask for, and one at another place
unasked : CancelFits None (take 6 list ++ CancelAsked ∷ []) false (Some (Ok tt)) → ⊥
unasked h = never h.asked

elsewhere : CancelFits (Some Voted) (take 2 list ++ CancelAsked ∷ []) false (Some (Ok tt)) → ⊥
elsewhere h = never h.asked

-- a Commit without a Yes
no_yes : ListFits script counted (take 5 list ++ Decide Commit ∷ []) → ⊥
no_yes h = cc h.legal.1.1.1.1.1.0

-- a Begin of two nodes, where the steps name one
abbrev two : NodeSet
two = record { flags = true ∷ true ∷ replicate 6 false }

other_nodes : ListFits script counted (Start 1 ∷ Begin 7 two ∷ []) → ⊥
other_nodes h = (h.begins.1.0.1.1 2 (omega arith) (omega arith)).0 refl refl

-- a restart, and the master's disk never failed
sudden_restart : ListFits script counted (Start 1 ∷ Start 2 ∷ []) → ⊥
sudden_restart h = elim h.restarts [ inl e ↦ omega (arith, e) | inr l ↦ omega (arith, l) ]

-- a package is processed with another tag
abbrev mistagged : List Made
mistagged =
    take 4 (made_by 0 history_1)
    ++ record { at = record { epoch = 1; number = 5 }; call = ProcessSwPackage 1 8; reply = Done } ∷ []

abbrev tag : Option Call → ℕ
tag (Some (ProcessSwPackage id k)) = k
tag _ = 0

other_tag : GoesInOrder 7 1 (packages_of script 1) list mistagged → ⊥
other_tag h =
    each_split (λ a b. IsOfRoundsIn (Some 1) 7 (packages_of script 1) a → IsTrue (list_all (λ m. is_end_call m.call) b)
    → ⊥) mistagged (
      (λ f l. never l),
      (
        (λ f l. never l),
        ((λ f l. never l), ((λ f l. never l), ((λ f l. never l), λ f l. differ f.calls))),
      ),
    ) h.rounds h.ends h.split
    h.first h.calls
  where
    differ : map (λ m. m.call) mistagged ≡ take 5 (round_calls 7 (ids_given mistagged) (packages_of script 1)) → ⊥
    differ e = let n : 8 ≡ 7 = ap (λ cs. tag (slice_get cs 4)) e in omega (arith, n)

-- a package is begun before the first Sync
abbrev hasty : List Made
hasty = record { at = record { epoch = 1; number = 1 }; call = TransferStart 182; reply = Started 1 } ∷ []

out_of_order : GoesInOrder 7 1 (packages_of script 1) list hasty → ⊥
out_of_order h =
    each_split (λ a b. IsOfRoundsIn (Some 1) 7 (packages_of script 1) a → IsTrue (list_all (λ m. is_end_call m.call) b)
    → ⊥) hasty
    ((λ f l. never l), λ f l. differ f.calls) h.rounds h.ends h.split h.first h.calls
  where
    differ : TransferStart 182 ∷ [] ≡ Sync ∷ [] → ⊥
    differ e = cc e

-- a failed campaign leaves a node new
left_new : IsLeftSo read (Some Failed) 7 (packages_of script 1) (opening_of script 1) history_1 → ⊥
left_new h = cc h.same.0

-- a client's second line is answered by fewer entries than its first
abbrev first_ask : ClientLine
first_ask = record { line = 8; is_setup = false; node = 1; client = 2; deed = Asks CurrentStatus }

abbrev second_ask : ClientLine
second_ask = record first_ask { line = 9 }

abbrev asked : List LineReply
asked =
    record { line = 8; gave = Saw 13 (StatusIs Idle) } ∷ record { line = 9; gave = Saw 5 (StatusIs Processing) } ∷ []

backwards : IsAccounted read (opening_of script 1) [] 0 (first_ask ∷ second_ask ∷ []) asked history_1 → ⊥
backwards h =
    let a = h.given.0.gives.0 in
    let b = h.given.1.0.gives.0 in
    let c = h.given.1.0.due.rises.0 in
    omega (arith, a, b, c)

-- a check fails that the script lets pass
other_verdict : NodeIsLegal read script 1 (take 8 history_1 ++ UnitDone false RollingBack ∷ []) → ⊥
other_verdict h = never h.faithful.1.1.0

-- a node is activated, though the campaign is cancelled before
activated_anyway : IsComplete read (record script { cancel = Some Syncing }) counted ended → ⊥
activated_anyway h = never (h.unactivated refl).0

-- a vote Unreached with other sums than its series
other_sums : VoteHasSeries (record (series_with risen) { failure = OfVote } ∷ []) (VoteOf 1 (Vote.Unreached 9 0)) → ⊥
other_sums h = let e = h.losses in omega (arith, e)

-- a campaign without a result, and nothing is open
nothing_open : IsComplete read script counted (record ended { list = take 6 list }) → ⊥
nothing_open h = never h.open_lines

-- a package is processed again before the units of the first are done
hasty_process : GoesByDecision read (opening_of script 1) list
    (take 5 history_1 ++ Numbered 0 (record { epoch = 1; number = 6 }) (ProcessSwPackage 1 7)
    (Refused OperationNotPermitted) ∷ []) → ⊥
hasty_process h = never h.waits
