-- A round that begins keeps it, and so do misses and units.
use Rattle.std.proofs.Common.{◌≡◌, inl, inr, ℕ, suc, ◌+◌, ◌<◌, ◌≤◌, Bool, true, false, if◌then◌else◌, List, [], ◌∷◌, ◌++◌, length, take, Option, Some, None, is_some, refl, sym, ap, subst, ◌∙◌, arith, append-nil}
use Rattle.pm_types.specs.declared.calls.Call.{Call}
use Rattle.pm_types.specs.declared.status.Status.{Status}
use Rattle.world.specs.Attempts.{Attempt, Worked, told_by, sent_by, replies_by}
use Rattle.world.specs.Messages.{Message, Told, Showed}
use Rattle.world.specs.RoundCalls.{round_calls}
use Rattle.world.specs.RoundsBySize.{GoesBySize}
use Rattle.sub_core.specs.declared.answers.Round.{Round}
use Rattle.sub_core.specs.declared.answers.SendStep.{SendStep}
use Rattle.sub_core.specs.declared.progress.Wish.{Wish}
use Rattle.sub_core.specs.Calls.{AreThere, call_of, step_bytes}
use Rattle.sub_core.specs.Driving.{begun, decision_given, fresh, is_missed, missed, next_no, wish, worked, CanBegin, IsBeforeEnd}
use Rattle.sub_core.specs.Made.{AreSentInTurn, Made, calls_in, ids_given, made_early, made_in, made_late, sent_early}
use Rattle.sub_core.specs.Given.{Task, message_of}
use Rattle.sub_core.specs.Sends.{AreCallsFor}
use Rattle.sub_core.specs.States.{DriverState, IsSound}
use Rattle.sub_core.proofs.Allowed.{early_at, told_begun, told_worked}
use Rattle.sub_core.proofs.Ends.{end_begins, not_begun, end_worked}
use Rattle.sub_core.proofs.Asked.{all_undecided, answered_in, calls_answered, closed_of, count_answered, shown_late}
use Rattle.sub_core.proofs.Making.{AreRounds, AreTurned, all_early, all_sent_early, are_accepted, next_taken, none_made, some_bytes, turned}
use Rattle.sub_core.proofs.Placed.{sound_begun, sound_missed, sound_worked}
use Rattle.sub_core.proofs.Stages.{stands_begun, stands_worked}
use Rattle.sub_core.proofs.Kept.{FollowsAt, IsEndRound, IsKept, IsOpen, IsWithin, OpenAt, below_more, calls_so_far, early_at_round, early_call, last_asked, last_begun, last_worked, none_given, not_ending, rounds_before, within_begun, within_worked}

-- the end comes once
pub no_end : (r : Option Round) → IsBeforeEnd r → IsEndRound r → ⊥
no_end r rounds end = grind arith

-- a round that isn't the end begins where nothing is open, and after no end
not_open : (round : Round) (d : DriverState) → CanBegin round d → IsBeforeEnd (Some round)
    → (asked : SendStep) → is_some d.round ≡ true → wish d ≡ Wish.Send asked → ⊥
not_open round d can rounds asked has_begun wishes = grind arith

not_again : (round : Round) (d : DriverState) → CanBegin round d → IsEndRound d.round → ⊥
not_again round d can end = grind arith

module _ (lent : List (List ℕ)) (d : DriverState) (told : List Told) (within : IsWithin d.round d.progress) where
  open_begun : (round : Round) → CanBegin round d → (sent : List Message) → IsOpen lent d sent
      → FollowsAt false (Some round) told sent
  open_begun round can sent is = grind arith

  closed_begun : (round : Round) → CanBegin round d → (sent : List Message)
      → FollowsAt false d.round told sent → FollowsAt false (Some round) told sent
  closed_begun round can [] follows = tt
  closed_begun round can (m ∷ sent) (inl told_) = inl told_
  closed_begun round can (m ∷ sent) (inr end) = absurd (not_again round d can end.1)

  follows_begun : (round : Round) → CanBegin round d → (sent : List Message) (b : Bool)
      → OpenAt lent b d sent → FollowsAt b d.round told sent → FollowsAt false (Some round) told sent
  follows_begun round can sent true pending follows = open_begun round can sent pending
  follows_begun round can sent false pending follows = closed_begun round can sent follows

-- in the rounds all messages are of the rounds
module _ (by_size : GoesBySize) (lent : List (List ℕ)) (task : Task) (d : DriverState) (tries : List Attempt)
    (kept : IsKept lent task d tries) (there : AreThere lent task.steps) (rounds : IsBeforeEnd d.round) where
  abbrev bytes : List (List ℕ)
  bytes = step_bytes lent task.steps

  abbrev before : List Made
  before = made_in (told_by tries)

  abbrev all_calls : List Call
  all_calls = round_calls task.campaign (ids_given before) bytes

  calls_closed : sent_by tries ≡ answered_in (told_by tries)
      → calls_in (sent_by tries) ≡ take (length (sent_by tries)) all_calls
  calls_closed heard =
      let made = kept.made rounds in
      ap calls_in heard
      ∙ (calls_answered (told_by tries)
      ∙ (made.calls []
      ∙ (ap (λ l. take (length before) (round_calls task.campaign l bytes)) (append-nil (ids_given before))
      ∙ ap (λ n. take n all_calls) (sym (ap length heard ∙ count_answered (told_by tries))))))

  calls_open : (asked : SendStep) (older : List Message) → wish d ≡ Wish.Send asked
      → sent_by tries ≡ message_of lent d (next_no d) asked ∷ older → older ≡ answered_in (told_by tries)
      → calls_in (sent_by tries) ≡ take (length (sent_by tries)) all_calls
  calls_open asked older wishes newest heard =
      let call = call_of lent asked in
      let early = early_at_round d.round d.progress rounds kept.within in
      let accepted =
      (early_at d.campaign d.epoch d d.progress (told_by tries) asked kept.told (not_ending d.progress early) wishes).0
      in
      let some = some_bytes lent task.steps (subst (λ steps. 0 < length steps) kept.steps kept.sound.some) in
      let next = next_taken task.campaign task.epoch task.first bytes d.number before (replies_by tries)
      (kept.made rounds) some (kept.fit rounds accepted) (are_accepted (told_by tries) accepted) call
      (early_call by_size lent task d tries kept there asked wishes early) in
      ap calls_in newest
      ∙ (ap (λ l. calls_in l ++ call ∷ []) heard
      ∙ (ap (λ l. l ++ call ∷ []) (calls_answered (told_by tries))
      ∙ (next
      ∙ ap (λ n. take n all_calls)
      (sym (ap length newest ∙ ap suc (ap length heard ∙ count_answered (told_by tries)))))))

  calls_if : (b : Bool) → closed_of b (sent_by tries) ≡ answered_in (told_by tries) → OpenAt lent b d (sent_by tries)
      → calls_in (sent_by tries) ≡ take (length (sent_by tries)) all_calls
  calls_if false heard pending = calls_closed heard
  calls_if true heard pending =
      calls_open pending.asked pending.older pending.wish pending.newest
      (ap (closed_of true) (sym pending.newest) ∙ heard)

  pub sent_in_rounds : (decision : Option Bool) → AreSentInTurn decision task.campaign bytes (told_by tries)
      (sent_by tries)
  sent_in_rounds decision =
      let order = kept.order rounds in
      record {
        early = sent_by tries;
        late = [];
        split = refl;
        of_rounds = all_undecided task.campaign tries order;
        calls = calls_if d.is_open (kept.heard rounds) kept.pending
            ∙ ap (λ made. take (length (sent_by tries)) (round_calls task.campaign (ids_given made) bytes))
            (sym (all_early (told_by tries) (not_begun task.campaign tries order)).0);
        of_end = tt;
      }

module _ (lent : List (List ℕ)) (task : Task) (d : DriverState) (tries : List Attempt) (kept : IsKept lent task d tries)
  where
    -- the misses are no part of the rest
    pub kept_missed : (losses faults : ℕ) → is_missed d ≡ false → IsKept lent task (missed losses faults d) tries
    kept_missed losses faults few = record {
      sound = sound_missed d kept.sound losses faults few;
      epoch = kept.epoch;
      campaign = kept.campaign;
      steps = kept.steps;
      told = kept.told;
      stands = kept.stands;
      within = kept.within;
      count = kept.count;
      numbered = kept.numbered;
      below = kept.below;
      pending = open_missed d.is_open kept.pending;
      follows = kept.follows;
      order = kept.order;
      fit = kept.fit;
      last = kept.last;
      end = kept.end;
      calls = kept.calls;
      made = kept.made;
      turned = kept.turned;
      heard = kept.heard;
      messages = kept.messages;
    }
      where
        open_missed : (b : Bool) → OpenAt lent b d (sent_by tries) → OpenAt lent b (missed losses faults d)
            (sent_by tries)
        open_missed true pending =
            record {
              asked = pending.asked;
              older = pending.older;
              begun = pending.begun;
              wish = pending.wish;
              newest = pending.newest;
            }
        open_missed false pending = tt

    -- a unit without an answer
    pub kept_idle : wish d ≡ Wish.Unit → IsKept lent task d (Worked None ∷ tries)
    kept_idle wishes = record {
      sound = kept.sound;
      epoch = kept.epoch;
      campaign = kept.campaign;
      steps = kept.steps;
      told = kept.told;
      stands = kept.stands;
      within = kept.within;
      count = kept.count;
      numbered = kept.numbered;
      below = kept.below;
      pending = kept.pending;
      follows = kept.follows;
      order = kept.order;
      fit = kept.fit;
      last = last_asked d d.progress (Worked None ∷ tries) (λ call_no is. cc (sym wishes ∙ is));
      end = kept.end;
      calls = kept.calls;
      made = kept.made;
      turned = kept.turned;
      heard = kept.heard;
      messages = kept.messages;
    }

    -- a unit with its status
    pub kept_worked : (status : Status) → wish d ≡ Wish.Unit → IsKept lent task (worked status d)
        (Worked (Some status) ∷ tries)
    kept_worked status wishes = record {
      sound = sound_worked d kept.sound status;
      epoch = kept.epoch;
      campaign = kept.campaign;
      steps = kept.steps;
      told = told_worked d.campaign d.epoch d d.progress status (told_by tries) wishes kept.told;
      stands = stands_worked d.steps d.ids d.progress status (replies_by tries) kept.stands;
      within = within_worked d.round d.progress status kept.within;
      count = kept.count;
      numbered = kept.numbered;
      below = kept.below;
      pending = open_worked d.is_open kept.pending;
      follows = follows_worked d.is_open (sent_by tries) kept.follows;
      order = kept.order;
      fit = kept.fit;
      last = last_worked d d.progress status (Worked (Some status) ∷ tries) wishes;
      end = end_worked d status (told_by tries) wishes kept.told kept.end;
      calls = kept.calls;
      made = kept.made;
      turned = kept.turned;
      heard = kept.heard;
      messages = λ end.
          shown_late (decision_given d.round) task.campaign (step_bytes lent task.steps) (told_by tries) (sent_by
          tries) status
          (kept.messages end);
    }
      where
        open_worked : (b : Bool) → OpenAt lent b d (sent_by tries) → OpenAt lent b (worked status d) (sent_by tries)
        open_worked true pending = absurd (cc (sym pending.wish ∙ wishes))
        open_worked false pending = tt

        follows_worked : (b : Bool) (sent : List Message) → FollowsAt b d.round (told_by tries) sent
            → FollowsAt b d.round (Showed status ∷ told_by tries) sent
        follows_worked true sent follows = tt
        follows_worked false [] follows = tt
        follows_worked false (m ∷ sent) follows = follows

    -- a round that begins
    pub kept_begun : GoesBySize → AreThere lent task.steps → (round : Round) → CanBegin round d
        → IsKept lent task (begun round d) tries
    kept_begun by_size there round can = record {
      sound = sound_begun d kept.sound round;
      epoch = kept.epoch;
      campaign = kept.campaign;
      steps = kept.steps;
      told = told_begun d (told_by tries) round kept.told;
      stands = stands_begun d (replies_by tries) round kept.stands;
      within = within_begun round d can kept.within;
      count = count_begun d.is_open kept.count;
      numbered = kept.numbered;
      below = below_more task.epoch d.number (begun round d).number (told_by tries) (more d.is_open) kept.below;
      pending = tt;
      follows =
          follows_begun lent d (told_by tries) kept.within round can (sent_by tries) d.is_open kept.pending
          kept.follows;
      order = λ rounds. kept.order (rounds_before round d can rounds).0;
      fit = λ rounds. kept.fit (rounds_before round d can rounds).0;
      last = last_begun round d tries kept.last;
      end = end_begins task.campaign round d tries can kept.order;
      calls = calls_so_far task.campaign task.epoch (step_bytes lent task.steps) (decision_given (Some round)) tries
          (subst (λ x. AreCallsFor task.campaign task.epoch (step_bytes lent task.steps) x tries)
          (none_given round d can) kept.calls);
      made = made_begun d.is_open kept.pending;
      turned = turned_begun round can;
      heard = heard_begun d.is_open kept.pending kept.heard;
      messages = messages_begun round can;
    }
      where
        heard_begun : (b : Bool) → OpenAt lent b d (sent_by tries)
            → (IsBeforeEnd d.round → closed_of b (sent_by tries) ≡ answered_in (told_by tries))
            → IsBeforeEnd (Some round) → sent_by tries ≡ answered_in (told_by tries)
        heard_begun true pending heard rounds =
            absurd (not_open round d can rounds pending.asked pending.begun pending.wish)
        heard_begun false pending heard rounds = heard (rounds_before round d can rounds).0

        messages_begun : (r : Round) → CanBegin r d → IsEndRound (Some r)
            → AreSentInTurn (decision_given (Some r)) task.campaign (step_bytes lent task.steps) (told_by tries)
            (sent_by tries)
        messages_begun (Round.End commit) begins end =
            sent_in_rounds by_size lent task d tries kept there begins (Some commit)
        messages_begun Round.Sync begins end = absurd end
        messages_begun Round.Transfer begins end = absurd end
        messages_begun Round.Process begins end = absurd end
        messages_begun Round.Activate begins end = absurd end

        count_begun : (b : Bool) → d.number + (if b then 1 else 0) ≡ task.first + length (sent_by tries)
            → (if b then d.number + 1 else d.number) + 0 ≡ task.first + length (sent_by tries)
        count_begun true count = omega (arith, count)
        count_begun false count = count

        more : (b : Bool) → d.number ≤ (if b then d.number + 1 else d.number)
        more true = omega arith
        more false = omega arith

        made_begun : (b : Bool) → OpenAt lent b d (sent_by tries) → IsBeforeEnd (Some round)
            → AreRounds task.campaign task.epoch task.first (step_bytes lent task.steps)
            (if b then d.number + 1 else d.number)
            (made_in (told_by tries)) (replies_by tries)
        made_begun true pending rounds =
            absurd (not_open round d can rounds pending.asked pending.begun pending.wish)
        made_begun false pending rounds = kept.made (rounds_before round d can rounds).0

        turned_begun : (r : Round) → CanBegin r d → IsEndRound (Some r)
            → AreTurned task.campaign task.epoch task.first (step_bytes lent task.steps) (decision_given (Some r))
            (if d.is_open then d.number + 1 else d.number)
            (made_in (told_by tries)) (made_early (told_by tries)) (made_late (told_by tries))
            (sent_early (sent_by tries))
        turned_begun (Round.End commit) begins end =
            let made = kept.made begins in
            let now : (if d.is_open then d.number + 1 else d.number) + 0 ≡ task.first + length (sent_by tries) =
            count_begun d.is_open kept.count in
            let later = more d.is_open in
            let order = kept.order begins in
            subst
            (AreTurned task.campaign task.epoch task.first (step_bytes lent task.steps) (Some commit)
            (if d.is_open then d.number + 1 else d.number) (made_in (told_by tries)) (made_early (told_by tries))
            (made_late (told_by tries)))
            (sym (all_sent_early task.campaign tries order))
            (turned task.campaign task.epoch task.first (step_bytes lent task.steps) (Some commit) d.number (length
            (sent_by tries))
            (told_by tries) (replies_by tries) made (not_begun task.campaign tries order)
            (omega (arith, made.count, now, later)) (if d.is_open then d.number + 1 else d.number) (omega (arith, now)))
        turned_begun Round.Sync begins end = absurd end
        turned_begun Round.Transfer begins end = absurd end
        turned_begun Round.Process begins end = absurd end
        turned_begun Round.Activate begins end = absurd end

-- a driver as it was made
pub kept_fresh : (lent : List (List ℕ)) (task : Task)
    → IsSound (fresh task.epoch task.first task.campaign task.steps)
    → IsKept lent task (fresh task.epoch task.first task.campaign task.steps) []
kept_fresh lent task sound = record {
  sound = sound;
  epoch = refl;
  campaign = refl;
  steps = refl;
  told = (refl, refl, refl);
  stands = refl;
  within = tt;
  count = omega arith;
  numbered = tt;
  below = tt;
  pending = tt;
  follows = tt;
  order = λ rounds. tt;
  fit = λ rounds accepted. tt;
  last = tt;
  end = λ commit here. absurd (cc here);
  calls = tt;
  made = λ rounds. none_made task.campaign task.epoch task.first (step_bytes lent task.steps);
  turned = λ end. absurd end;
  heard = λ rounds. refl;
  messages = λ end. absurd end;
}
