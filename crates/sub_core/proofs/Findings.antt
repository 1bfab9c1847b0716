-- What a driver finds has its evidence.
use Rattle.std.proofs.Common.{◌≡◌, ℕ, ◌≤◌, Bool, true, false, if◌then◌else◌, nat_le, List, [], ◌∷◌, length, drop, Option, Some, refl, sym, ap, subst, ◌∙◌, arith, length-drop}
use Rattle.std.proofs.lemmas.Bool.Decides.{nat_tests}
use Rattle.ucm_base.specs.Limits.{attempt_limit}
use Rattle.ucm_base.specs.declared.ids.CallNo.{CallNo}
use Rattle.campaign_core.specs.declared.events.Phase.{Phase}
use Rattle.campaign_core.specs.declared.events.Vote.{Vote}
use Rattle.pm_types.specs.declared.replies.Reply.{Reply}
use Rattle.pm_types.specs.declared.replies.Reply.TheVariants.{Synced, Refused}
use Rattle.std.specs.Prelude.{Contains}
use Rattle.world.specs.Evidence.{EndEvidence, VoteEvidence}
use Rattle.pm_types.specs.declared.replies.Refusal.{Refusal}
use Rattle.world.specs.Attempts.{Attempt, told_by, sent_by, replies_by}
use Rattle.world.specs.Messages.{Message, Told, Answered}
use Rattle.world.specs.RoundCalls.{AllFit, RoundsEnd, calls_until, ids_of, is_past}
use Rattle.world.specs.Rounds.{Stage, AtSync, next_processed, stage_of}
use Rattle.world.specs.RoundsBySize.{GoesBySize, sized, stage_by_size}
use Rattle.world.specs.Sends.{has_refusal, is_end_sync, is_settled}
use Rattle.sub_core.specs.declared.answers.Finding.{Finding}
use Rattle.sub_core.specs.declared.answers.PackageSize.{PackageSize}
use Rattle.sub_core.specs.declared.answers.Round.{Round}
use Rattle.sub_core.specs.declared.answers.SendStep.{SendStep}
use Rattle.sub_core.specs.declared.answers.Todo.{Todo}
use Rattle.sub_core.specs.declared.progress.Progress.{Progress}
use Rattle.sub_core.specs.declared.progress.Wish.{Wish}
use Rattle.sub_core.specs.Calls.{step_bytes}
use Rattle.sub_core.specs.Driving.{is_missed, is_over, round_step, todo, todo_for, unreached, wish, wish_at, IsBeforeEnd}
use Rattle.sub_core.specs.Evidence.{AreEight, AreMissed, DoneIsFound, FindingsAreShown, IsEnded, IsRoundDone, IsShown, MissesAreKept, RepliesFit, is_preparing}
use Rattle.sub_core.specs.Given.{AreGiven, Given, IsTask, Task, after, attempts, is_asked}
use Rattle.sub_core.specs.Sends.{SendsAreNumbered, phase_of}
use Rattle.sub_core.specs.States.{DriverState}
use Rattle.sub_core.proofs.Allowed.{found_for}
use Rattle.sub_core.proofs.Journeys.{Stands, Wishes, ToSend, ToWork, stands, wishes_of}
use Rattle.sub_core.proofs.Kept.{HasRow, IsKept, IsLast, IsWithin, LastAt, early_at_round, not_ending, plain}
use Rattle.sub_core.proofs.Making.{some_bytes}
use Rattle.sub_core.proofs.Rounds.{sizes_of, stage_seen}
use Rattle.sub_core.proofs.Stages.{done_at, done_of_todo, le_true, sizes_same, stands_calling}
use Rattle.sub_core.proofs.Told.{Found, IsAtRest, IsNewest, ToldAt}

rounds_of : (round : Round) → is_preparing round ≡ true → IsBeforeEnd (Some round)
rounds_of round is = grind arith

over_of : (b : Bool) (asked : SendStep)
    → (if b then Wish.Rest Finding.RoundDone else Wish.Send asked) ≡ Wish.Rest Finding.RoundDone → b ≡ true
over_of true asked is = refl
over_of false asked is = absurd (cc is)

-- what a round that is found done was told
done_told : (k epoch : ℕ) (d : DriverState) (round : Round) (p : Progress) (told : List Told) → d.round ≡ Some round
    → IsWithin d.round p → ToldAt k epoch p told → wish_at d p ≡ Wish.Rest Finding.RoundDone
    → (is_preparing round ≡ true) × (has_refusal told ≡ false) × (is_settled told ≡ true)
done_told k epoch d round p told here within t is = grind arith

-- a stage is past a round over lengths as over bytes
pub past_sized : (phase : Option Phase) (stage : Stage) → is_past phase (sized stage) ≡ is_past phase stage
past_sized phase stage = grind arith

-- where the process stage of these ids is past its round, all are taken
taken_all : (ids : List ℕ) (taken : ℕ) → is_past {B = ℕ} (Some Phase.Processing) (next_processed ids taken) ≡ true
    → ids ≡ []
taken_all [] taken is = refl
taken_all (id ∷ ids) taken is = absurd (cc is)

over_process : (ids : List ℕ) (taken : ℕ) → drop taken ids ≡ [] → nat_le (length ids) taken ≡ true
over_process ids taken is =
    let none : length ids ≤ taken = omega (arith, length-drop taken ids, ap length is) in
    grind (arith, nat_tests, none)

done_if : (b : Bool) (asked : SendStep) → b ≡ true
    → (if b then Wish.Rest Finding.RoundDone else Wish.Send asked) ≡ Wish.Rest Finding.RoundDone
done_if true asked is = refl
done_if false asked is = absurd (cc is)

process_done : (d : DriverState) (round : Round) (taken : ℕ) (settled : Bool) → settled ≡ true
    → is_over d.round d.ids (Progress.Process taken settled) ≡ true
    → wish_at d (Progress.Process taken settled) ≡ Wish.Rest Finding.RoundDone
process_done d round taken true is over = done_if _ (round_step d (Progress.Process taken true)) over
process_done d round taken false is over = absurd (cc is)

over_past : (round : Round) (steps : List PackageSize) (ids : List ℕ) (taken : ℕ) (settled : Bool)
    → is_preparing round ≡ true → is_past (phase_of round) (next_processed {B = ℕ} (drop taken ids) taken) ≡ true
    → is_over (Some round) ids (Progress.Process taken settled) ≡ true
over_past Round.Sync steps ids taken settled prepares past = refl
over_past Round.Transfer steps ids taken settled prepares past = refl
over_past Round.Process steps ids taken settled prepares past =
    over_process ids taken (taken_all (drop taken ids) taken past)
over_past Round.Activate steps ids taken settled prepares past = absurd (cc prepares)
over_past (Round.End commit) steps ids taken settled prepares past = absurd (cc prepares)

refused_told : (m : Message) (r : Reply) (told older : List Told) → told ≡ Answered m r ∷ older
    → (has_refusal (Answered m r ∷ older) ≡ true) → has_refusal told ≡ false → ⊥
refused_told m r told older is refused accepted = cc (sym (ap has_refusal is ∙ refused) ∙ accepted)

-- a round that is done is found
found_done : (k epoch : ℕ) (d : DriverState) (round : Round) (p : Progress) (told : List Told) → d.round ≡ Some round
    → is_preparing round ≡ true → IsWithin (Some round) p → ToldAt k epoch p told → has_refusal told ≡ false
    → is_settled told ≡ true → is_past (phase_of round) (stage_seen d.steps d.ids p) ≡ true
    → wish_at d p ≡ Wish.Rest Finding.RoundDone
found_done k epoch d round Progress.Sync told here prepares within t accepted settled past = absurd (cc past)
found_done k epoch d Round.Sync Progress.Transfer told here prepares within t accepted settled past =
    done_if _ (round_step d Progress.Transfer) (ap (λ r. is_over r d.ids Progress.Transfer) here)
found_done k epoch d Round.Transfer Progress.Transfer told here prepares within t accepted settled past =
    absurd (cc past)
found_done k epoch d Round.Process Progress.Transfer told here prepares within t accepted settled past =
    absurd (cc past)
found_done k epoch d Round.Activate p told here prepares within t accepted settled past = absurd (cc prepares)
found_done k epoch d (Round.End commit) p told here prepares within t accepted settled past = absurd (cc prepares)
found_done k epoch d Round.Sync (Progress.Data id counter left) told here prepares within t accepted settled past =
    let p = Progress.Data id counter left in done_if _ (round_step d p) (ap (λ r. is_over r d.ids p) here)
found_done k epoch d Round.Transfer (Progress.Data id counter left) told here prepares within t accepted settled past =
    absurd (cc past)
found_done k epoch d Round.Process (Progress.Data id counter left) told here prepares within t accepted settled past =
    absurd (cc past)
found_done k epoch d round (Progress.Process taken settled_) told here prepares within t accepted settled past =
    process_done d round taken settled_ (sym t.1 ∙ settled)
    (subst (λ r. is_over r d.ids (Progress.Process taken settled_) ≡ true) (sym here)
    (over_past round d.steps d.ids taken settled_ prepares past))
found_done k epoch d Round.Sync Progress.Activating told here prepares within t accepted settled past =
    absurd (cc within)
found_done k epoch d Round.Transfer Progress.Activating told here prepares within t accepted settled past =
    absurd (cc within)
found_done k epoch d Round.Process Progress.Activating told here prepares within t accepted settled past =
    absurd (cc within)
found_done k epoch d round (Progress.Voted (Finding.Refused call_no why)) told here prepares within t accepted settled
    past = absurd (refused_told t.message (Refused why) told t.older t.is refl accepted)
found_done k epoch d Round.Sync (Progress.Voted Finding.Yes) told here prepares within t accepted settled past =
    absurd (cc within)
found_done k epoch d Round.Transfer (Progress.Voted Finding.Yes) told here prepares within t accepted settled past =
    absurd (cc within)
found_done k epoch d Round.Process (Progress.Voted Finding.Yes) told here prepares within t accepted settled past =
    absurd (cc within)
found_done k epoch d Round.Sync (Progress.Voted Finding.RolledBack) told here prepares within t accepted settled past =
    absurd (cc within)
found_done k epoch d Round.Transfer (Progress.Voted Finding.RolledBack) told here prepares within t accepted settled
    past = absurd (cc within)
found_done k epoch d Round.Process (Progress.Voted Finding.RolledBack) told here prepares within t accepted settled
    past = absurd (cc within)
found_done k epoch d round (Progress.Voted Finding.RoundDone) told here prepares within t accepted settled past =
    absurd within
found_done k epoch d round (Progress.Voted (Finding.Unreached losses faults)) told here prepares within t accepted
    settled past = absurd within
found_done k epoch d round (Progress.Voted (Finding.Ended call_no)) told here prepares within t accepted settled past =
    absurd within
found_done k epoch d Round.Sync (Progress.Ending commit at) told here prepares within t accepted settled past =
    absurd (cc within)
found_done k epoch d Round.Transfer (Progress.Ending commit at) told here prepares within t accepted settled past =
    absurd (cc within)
found_done k epoch d Round.Process (Progress.Ending commit at) told here prepares within t accepted settled past =
    absurd (cc within)

-- misses

asks_of : (d : DriverState) (w : Wish) → wish d ≡ w → is_asked (plain d w) ≡ true → is_asked (plain d (wish d)) ≡ true
asks_of d w here asks = ap (λ x. is_asked (plain d x)) here ∙ asks

missed_row : (task : Task) (d : DriverState) (gs : List Given) → HasRow task d gs → is_asked (plain d (wish d)) ≡ true
    → AreMissed task d.misses gs
missed_row task d gs row asks = record {
  row = row.row;
  older = row.older;
  split = row.split;
  asked = ap is_asked row.asked ∙ asks;
  vain = row.vain;
  rises = row.rises;
}

wish_asks : (d : DriverState) (t : Todo) → Wishes d t → is_asked (plain d (wish d)) ≡ true
wish_asks d t (ToSend asked wishes few) = asks_of d (Wish.Send asked) wishes refl
wish_asks d t (ToWork wishes few) = asks_of d Wish.Unit wishes refl

-- how a driver comes to rest without an answer
pub data RestsBy (d : DriverState) (finding : Finding) : Type 0 where
  ByMisses : is_asked (plain d (wish d)) ≡ true → is_missed d ≡ true → unreached d.misses ≡ finding → RestsBy d finding
  ByWish : wish d ≡ Wish.Rest finding → RestsBy d finding

pub rests_if : (d : DriverState) (w : Wish) (b : Bool) (finding : Finding) → wish d ≡ w → is_missed d ≡ b
    → todo_for d w ≡ Todo.Rest finding → RestsBy d finding
rests_if d w b finding here is rests = grind arith

-- no wish is Unreached
reached_wish : (d : DriverState) (p : Progress) (losses faults : ℕ) → IsWithin d.round p
    → wish_at d p ≡ Wish.Rest (Finding.Unreached losses faults) → ⊥
reached_wish d p losses faults within is = grind arith

not_ended : (b : Bool) (asked : SendStep) (call_no : CallNo)
    → (if b then Wish.Rest Finding.RoundDone else Wish.Send asked) ≡ Wish.Rest (Finding.Ended call_no) → ⊥
not_ended true asked call_no is = cc is
not_ended false asked call_no is = cc is

-- where it rests at its end, the newest message is the last that was answered
last_found : (d : DriverState) (p : Progress) (tries : List Attempt) (call_no : CallNo) → IsWithin d.round p
    → LastAt p tries → wish_at d p ≡ Wish.Rest (Finding.Ended call_no) → IsLast tries
last_found d p tries call_no within last is = grind arith

-- the newest message and what was told of it
ended_by : (k epoch : ℕ) (task : Task) (tries : List Attempt) (call_no : CallNo) → k ≡ task.campaign
    → epoch ≡ task.epoch → IsLast tries → IsAtRest k epoch call_no (told_by tries)
    → IsEnded task call_no (told_by tries) (sent_by tries)
ended_by k epoch task tries call_no of_k of_epoch last rest =
    let both : Answered last.message last.reply ∷ last.told
    ≡ Answered rest.newest.message (Synced rest.shown) ∷ rest.newest.older =
    sym last.answered ∙ rest.newest.is in
    let same : last.message ≡ rest.newest.message = cc both in
    let sent : sent_by tries ≡ rest.newest.message ∷ last.sent =
    last.newest ∙ ap (λ m. m ∷ last.sent) same in
    record {
      newest = rest.newest.message;
      older = last.sent;
      last = sent;
      number = rest.newest.at;
      shown = λ c of_c. subst (EndEvidence task.epoch c (told_by tries)) (sym sent) (
        ap (λ x. is_end_sync x task.epoch rest.newest.message) (of_c ∙ sym of_k)
            ∙ (ap (λ x. is_end_sync k x rest.newest.message) (sym of_epoch) ∙ rest.of_end),
        rest.shown,
        subst (λ told. Contains told (Answered rest.newest.message (Synced rest.shown))) (sym rest.newest.is)
            (0, omega arith, refl),
        rest.session,
        rest.transfers,
      );
    }

-- the rounds of a finding
abbrev IsOfRound : Round → Finding → Type 0
IsOfRound round Finding.Yes = round ≡ Round.Activate
IsOfRound round Finding.RolledBack = round ≡ Round.Activate
IsOfRound round (Finding.Refused call_no why) = IsBeforeEnd (Some round)
IsOfRound round (Finding.Ended call_no) = (commit : Bool) × (round ≡ Round.End commit)
IsOfRound round _ = Unit {0}

-- where a driver rests by what it was answered, that is in a round of the finding
round_of : (d : DriverState) (round : Round) (p : Progress) (finding : Finding) → IsWithin (Some round) p
    → wish_at d p ≡ Wish.Rest finding → IsOfRound round finding
round_of d round p finding within is = grind arith

module _ (by_size : GoesBySize) (ends : RoundsEnd) (lent : List (List ℕ)) (task : Task) (gs : List Given)
    (is : IsTask lent task) (given_ : AreGiven task gs) where
  abbrev d : DriverState
  d = after task gs

  abbrev tries : List Attempt
  tries = attempts lent task gs

  so_far : Stands lent task gs
  so_far = stands by_size lent task is gs given_

  kept : IsKept lent task d tries
  kept = so_far.kept

  module _ (round : Round) (here : d.round ≡ Some round) where
    fits : is_preparing round ≡ true → has_refusal (told_by tries) ≡ false
        → AllFit (step_bytes lent task.steps) AtSync (replies_by tries)
    fits prepares accepted = kept.fit (subst IsBeforeEnd (sym here) (rounds_of round prepares)) accepted

    -- the round of a finding
    of_round : (finding : Finding) → RestsBy d finding → IsOfRound round finding
    of_round finding (ByWish wishes) =
        round_of d round d.progress finding (subst (λ r. IsWithin r d.progress) here kept.within) wishes
    of_round finding (ByMisses asks is_eight sums) = subst (IsOfRound round) sums tt

    of_rest : (finding : Finding) → todo d ≡ Todo.Rest finding → IsOfRound round finding
    of_rest finding rests = of_round finding (rests_if d (wish d) (is_missed d) finding refl refl rests)

    -- the stage after the replies, over lengths and as a count of calls
    past_is : is_preparing round ≡ true → has_refusal (told_by tries) ≡ false
        → is_past (phase_of round) (stage_by_size (sizes_of d.steps) AtSync (replies_by tries))
        ≡ nat_le (length (calls_until (phase_of round) task.campaign (ids_of (replies_by tries))
        (step_bytes lent task.steps)))
        (length (replies_by tries))
    past_is prepares accepted =
        ap (λ steps. is_past (phase_of round) (stage_by_size (sizes_of steps) AtSync (replies_by tries))) kept.steps
        ∙ (ap (λ sizes. is_past (phase_of round) (stage_by_size sizes AtSync (replies_by tries)))
        (sym (sizes_same lent task.steps is.there))
        ∙ (ap (is_past (phase_of round)) (sym (by_size.stages (step_bytes lent task.steps) (replies_by tries)))
        ∙ (past_sized (phase_of round) (stage_of (step_bytes lent task.steps) AtSync (replies_by tries))
        ∙ ends task.campaign (step_bytes lent task.steps) (some_bytes lent task.steps is.some) (replies_by tries)
        (fits prepares accepted) (phase_of round))))

    shown_done : todo d ≡ Todo.Rest Finding.RoundDone
        → IsRoundDone task.campaign (step_bytes lent task.steps) round (told_by tries) (replies_by tries)
    shown_done rests =
        let wishes = done_of_todo d (wish d) rests in
        let t = done_told d.campaign d.epoch d round d.progress (told_by tries) here kept.within kept.told wishes in
        record {
          prepares = t.0;
          accepted = t.1;
          answered = le_true _ _
              (sym (past_is t.0 t.1) ∙ done_at d (replies_by tries) round d.progress kept.stands here wishes);
          settled = t.2;
        }

    found_round : IsRoundDone task.campaign (step_bytes lent task.steps) round (told_by tries) (replies_by tries)
        → todo d ≡ Todo.Rest Finding.RoundDone
    found_round done =
        let early = not_ending d.progress
        (early_at_round d.round d.progress (subst IsBeforeEnd (sym here) (rounds_of round done.prepares)) kept.within)
        in
        let answered = done.answered in
        let past : is_past (phase_of round) (stage_by_size (sizes_of d.steps) AtSync (replies_by tries)) ≡ true =
        past_is done.prepares done.accepted ∙ grind (arith, nat_tests, answered) in
        let seen : is_past (phase_of round) (stage_seen d.steps d.ids d.progress) ≡ true =
        ap (is_past (phase_of round))
        (sym (stands_calling d.steps d.ids d.progress (replies_by tries) early kept.stands)) ∙ past in
        ap (todo_for d)
        (found_done d.campaign d.epoch d round d.progress (told_by tries) here done.prepares
        (subst (λ r. IsWithin r d.progress) here kept.within) kept.told done.accepted done.settled seen)

    evidence : (finding : Finding) → todo d ≡ Todo.Rest finding → Found d.campaign d.epoch finding (told_by tries)
    evidence finding rests =
        found_for d.campaign d.epoch (told_by tries) d d.progress (wish d) finding refl kept.told rests

    eight : (losses faults : ℕ) → RestsBy d (Finding.Unreached losses faults)
        → (e : AreEight task losses faults gs) × (e.rises ≡ d.misses)
    eight losses faults (ByWish wishes) = absurd (reached_wish d d.progress losses faults kept.within wishes)
    eight losses faults (ByMisses asks is_eight sums) = (
      record {
        rises = d.misses;
        missed = missed_row task d gs so_far.row asks;
        eight =
            let least : attempt_limit ≤ length d.misses = le_true _ _ is_eight in
            let most = kept.sound.misses in
            omega (arith, least, most);
        losses = sym (cc sums);
        faults = sym (cc sums);
      },
      refl,
    )

    rest_end : (call_no : CallNo) → todo d ≡ Todo.Rest (Finding.Ended call_no)
        → RestsBy d (Finding.Ended call_no) → IsEnded task call_no (told_by tries) (sent_by tries)
    rest_end call_no rests (ByWish wishes) =
        ended_by d.campaign d.epoch task tries call_no kept.campaign kept.epoch
        (last_found d d.progress tries call_no kept.within kept.last wishes) (evidence (Finding.Ended call_no) rests)
    rest_end call_no rests (ByMisses asks is_eight sums) = absurd (cc sums)

    refused : (call_no : CallNo) (why : Refusal) (told : List Told) → IsNewest call_no (Refused why) told
        → VoteEvidence (Vote.Refused call_no why) told
    refused call_no why told newest = grind arith

    shown : (finding : Finding) → todo d ≡ Todo.Rest finding → IsShown lent task round gs finding
    shown Finding.RoundDone rests =
        let done = shown_done rests in
        let answered = done.answered in (
          done,
          ends task.campaign (step_bytes lent task.steps) (some_bytes lent task.steps is.some) (replies_by tries)
              (fits done.prepares done.accepted) (phase_of round)
              ∙ grind (arith, nat_tests, answered),
        )
    shown Finding.Yes rests = (of_rest Finding.Yes rests, (evidence Finding.Yes rests).0)
    shown Finding.RolledBack rests = (of_rest Finding.RolledBack rests, (evidence Finding.RolledBack rests).0)
    shown (Finding.Refused call_no why) rests = (
      of_rest (Finding.Refused call_no why) rests,
      refused call_no why (told_by tries) (evidence (Finding.Refused call_no why) rests),
    )
    shown (Finding.Unreached losses faults) rests =
        eight losses faults (rests_if d (wish d) (is_missed d) (Finding.Unreached losses faults) refl refl rests)
    shown (Finding.Ended call_no) rests =
        let at = of_rest (Finding.Ended call_no) rests in (
          at.0,
          at.1,
          rest_end call_no rests (rests_if d (wish d) (is_missed d) (Finding.Ended call_no) refl refl rests),
        )

-- what a driver finds is shown, and a round that is done is found
pub findings_are_shown : GoesBySize → RoundsEnd → FindingsAreShown
findings_are_shown by_size ends lent task gs is given_ round here finding rests =
    shown by_size ends lent task gs is given_ round here finding rests

pub done_is_found : GoesBySize → RoundsEnd → DoneIsFound
done_is_found by_size ends lent task gs is given_ round here done =
    found_round by_size ends lent task gs is given_ round here done

pub misses_are_kept : GoesBySize → MissesAreKept
misses_are_kept by_size lent task gs is given_ asks =
    let d = after task gs in
    missed_row task d gs (stands by_size lent task is gs given_).row (wish_asks d (todo d) (wishes_of d asks))

pub replies_fit : GoesBySize → RepliesFit
replies_fit by_size lent task gs is given_ rounds accepted =
    (stands by_size lent task is gs given_).kept.fit rounds accepted

pub sends_are_numbered : GoesBySize → SendsAreNumbered
sends_are_numbered by_size lent task gs is given_ = (stands by_size lent task is gs given_).kept.numbered
