-- An attempt at a call keeps it, with an answer or without.
use Rattle.std.proofs.Common.{◌≡◌, inl, inr, ℕ, suc, ◌+◌, ◌<◌, Bool, true, false, if◌then◌else◌, List, [], ◌∷◌, ◌++◌, length, Option, Some, None, is_some, refl, sym, ap, subst, ◌∙◌, arith, append-nil}
use Rattle.campaign_core.specs.declared.events.Cause.{Cause}
use Rattle.pm_types.specs.declared.replies.Reply.{Reply}
use Rattle.world.specs.Attempts.{Attempt, Tried, told_by, sent_by, with_sent, replies_by, MayTry, AreInOrder}
use Rattle.world.specs.Messages.{Message, Told, Answered, is_refusal, told_reply}
use Rattle.world.specs.RoundCalls.{AllFit}
use Rattle.world.specs.Rounds.{AtSync, stage_of}
use Rattle.world.specs.RoundsBySize.{GoesBySize}
use Rattle.world.specs.Sends.{has_refusal, last_shown, last_status}
use Rattle.sub_core.specs.declared.answers.SendStep.{SendStep}
use Rattle.sub_core.specs.declared.progress.Wish.{Wish}
use Rattle.sub_core.specs.Calls.{AreThere, call_of, step_bytes}
use Rattle.sub_core.specs.Driving.{decision_given, is_answer, next_no, opened, replied, wish, IsBeforeEnd}
use Rattle.sub_core.specs.Made.{is_permitted, made_early, made_in, made_late, made_of, sent_early}
use Rattle.sub_core.specs.Given.{Task, is_ending, message_of}
use Rattle.sub_core.specs.Sends.{AreNumbered, IsCallFor, IsEndCall}
use Rattle.sub_core.specs.States.{DriverState, number_limit}
use Rattle.sub_core.proofs.Allowed.{early_at, told_replied}
use Rattle.sub_core.proofs.Ends.{end_replied}
use Rattle.sub_core.proofs.Asked.{answered_late, closed_of, sent_late}
use Rattle.sub_core.proofs.Making.{AreRounds, AreTurned, are_accepted, end_more, neither, one_more, some_bytes, with_late}
use Rattle.sub_core.proofs.Placed.{sound_opened, sound_replied}
use Rattle.sub_core.proofs.Rounds.{StandsFor}
use Rattle.sub_core.proofs.Stages.{stands_replied}
use Rattle.sub_core.proofs.Kept.{FollowsAt, IsEndRound, IsKept, IsNow, OpenAt, below_more, early_at_round, early_call, end_round, fit_snoc, fits_call, is_call_for, is_later, is_same, last_asked, last_of, not_ending, not_same, permitted, same_answers, same_no, same_send, untold, within_replied}

module _ (lent : List (List ℕ)) (task : Task) (d : DriverState) (tries : List Attempt) (kept : IsKept lent task d tries)
    (asked : SendStep) (wishes : wish d ≡ Wish.Send asked) (has_begun : is_some d.round ≡ true)
    (by_size : GoesBySize) (there : AreThere lent task.steps) where
  abbrev m : Message
  m = message_of lent d (next_no d) asked

  is_untold : told_reply (told_by tries) (next_no d) ≡ None
  is_untold = untold task.epoch (next_no d) (told_by tries) kept.below

  open_now : (older : List Message) → sent_by tries ≡ m ∷ older → IsNow task m true tries
  open_now older is =
      let numbers = subst (AreNumbered task.epoch task.first) is kept.numbered in
      record {
        rest = older;
        closed = ap (closed_of true) (sym is);
        sent = ap (with_sent m) is ∙ ap (λ b. if b then m ∷ older else m ∷ m ∷ older) (is_same m.at);
        count = ap (λ a. a.number) numbers.0;
        epoch = kept.epoch;
        numbered = numbers.1;
        may = subst (MayTry m (told_by tries)) (sym is) (inl (refl, ap is_some is_untold));
      }

  new_now : (sent : List Message) → sent_by tries ≡ sent → d.number + 0 ≡ task.first + length (sent_by tries)
      → IsNow task m false tries
  new_now [] is count = record {
    rest = [];
    closed = sym is;
    sent = ap (with_sent m) is;
    count = omega (arith, count, ap length is);
    epoch = kept.epoch;
    numbered = tt;
    may = subst (MayTry m (told_by tries)) (sym is) tt;
  }
  new_now (newest ∷ older) is count =
      let numbers = subst (AreNumbered task.epoch task.first) is kept.numbered in
      let number : newest.at.number ≡ task.first + length older = ap (λ a. a.number) numbers.0 in
      let all : length (sent_by tries) ≡ suc (length older) = ap length is in
      let less : newest.at.number < d.number = omega (arith, count, number, all) in
      let epoch : newest.at.epoch ≡ d.epoch = ap (λ a. a.epoch) numbers.0 ∙ sym kept.epoch in
      record {
        rest = newest ∷ older;
        closed = sym is;
        sent = ap (with_sent m) is
            ∙ ap (λ b. if b then newest ∷ older else m ∷ newest ∷ older) (not_same newest.at m.at less);
        count = omega (arith, count, all);
        epoch = kept.epoch;
        numbered = numbers;
        may = subst (MayTry m (told_by tries)) (sym is) (inr (is_later newest.at m.at epoch less));
      }

  now_if : (b : Bool) → d.number + (if b then 1 else 0) ≡ task.first + length (sent_by tries)
      → OpenAt lent b d (sent_by tries) → IsNow task m b tries
  now_if true count pending =
      open_now pending.older
      (pending.newest
      ∙ ap (λ a. message_of lent d (next_no d) a ∷ pending.older) (same_send pending.asked asked
      (sym pending.wish ∙ wishes)))
  now_if false count pending = new_now (sent_by tries) refl count

  pub now : IsNow task m d.is_open tries
  now = now_if d.is_open kept.count kept.pending

  in_order : (reply : Option Reply) → IsBeforeEnd d.round → AreInOrder task.campaign (Tried m reply ∷ tries)
  in_order reply rounds =
      (kept.campaign, early_at_round d.round d.progress rounds kept.within, now.may, kept.order rounds)

  is_late : IsEndRound d.round → is_ending d.progress ≡ true
  is_late end = let round = end_round d.round end in ap is_ending (kept.end round.0 round.1)

  end_call : IsEndRound d.round → is_permitted (decision_given d.round) m.call ≡ true
  end_call end =
      let round = end_round d.round end in
      let is : IsEndCall round.0 task.campaign task.epoch (told_by tries) m.call =
      subst
      (λ r. IsCallFor task.campaign task.epoch (step_bytes lent task.steps) true (decision_given r) m.call tries)
      round.1
      (subst
      (λ b. IsCallFor task.campaign task.epoch (step_bytes lent task.steps) b (decision_given d.round) m.call tries)
      (is_late end) (is_call_for by_size lent task d tries kept there asked wishes)) in
      subst (λ r. is_permitted (decision_given r) m.call ≡ true) (sym round.1)
      (permitted round.0 Cause.Cancel (last_status task.campaign task.epoch (told_by tries))
      (last_shown task.campaign task.epoch (told_by tries)) m.call (is Cause.Cancel))

  turned_opened : IsEndRound d.round
      → AreTurned task.campaign task.epoch task.first (step_bytes lent task.steps) (decision_given d.round) d.number
      (made_in (told_by tries)) (made_early (told_by tries)) (made_late (told_by tries))
      (sent_early (with_sent m (sent_by tries)))
  turned_opened end =
      subst
      (AreTurned task.campaign task.epoch task.first (step_bytes lent task.steps) (decision_given d.round) d.number
      (made_in (told_by tries)) (made_early (told_by tries)) (made_late (told_by tries)))
      (sym (with_late m (sent_by tries) (is_late end))) (kept.turned end)

  -- an attempt without an answer
  pub kept_opened : d.number < number_limit → IsKept lent task (opened d) (Tried m None ∷ tries)
  kept_opened left = record {
    sound = sound_opened d kept.sound left;
    epoch = kept.epoch;
    campaign = kept.campaign;
    steps = kept.steps;
    told = kept.told;
    stands = subst (StandsFor d) (sym (append-nil (replies_by tries))) kept.stands;
    within = kept.within;
    count = omega (arith, now.count, ap length now.sent);
    numbered = subst (AreNumbered task.epoch task.first) (sym now.sent)
        (same_no m.at task.epoch (task.first + length now.rest) now.epoch now.count, now.numbered);
    below = kept.below;
    pending = record { asked = asked; older = now.rest; begun = has_begun; wish = wishes; newest = now.sent };
    follows = tt;
    order = in_order None;
    fit = λ rounds accepted. subst (AllFit (step_bytes lent task.steps) AtSync) (sym (append-nil (replies_by tries)))
        (kept.fit rounds accepted);
    last = last_asked d d.progress (Tried m None ∷ tries) (λ call_no is. cc (sym wishes ∙ is));
    end = kept.end;
    calls = (is_call_for by_size lent task d tries kept there asked wishes, kept.calls);
    made = λ rounds.
        subst
        (AreRounds task.campaign task.epoch task.first (step_bytes lent task.steps) d.number (made_in (told_by tries)))
        (sym (append-nil (replies_by tries))) (kept.made rounds);
    turned = turned_opened;
    heard = λ rounds. ap (closed_of true) now.sent ∙ (now.closed ∙ kept.heard rounds);
    messages = λ end.
        sent_late (decision_given d.round) task.campaign (step_bytes lent task.steps) (told_by tries) m (is_late end)
        (end_call end)
        (sent_by tries)
        (kept.messages end);
  }

  module _ (reply : Reply) (fits : is_answer asked reply ≡ true) where
    abbrev ps : List (List ℕ)
    ps = step_bytes lent task.steps

    fit_now : IsBeforeEnd d.round → has_refusal (told_by (Tried m (Some reply) ∷ tries)) ≡ false
        → AllFit ps AtSync (replies_by tries ++ reply ∷ [])
    fit_now rounds accepted =
        let parts = neither (is_refusal reply) (has_refusal (told_by tries)) accepted in
        let next = early_call by_size lent task d tries kept there asked wishes
        (early_at_round d.round d.progress rounds kept.within) in
        fit_snoc ps AtSync (replies_by tries) reply (kept.fit rounds parts.1)
        (fits_call task.campaign (stage_of ps AtSync (replies_by tries)) reply (call_of lent asked) next
        (sym (same_answers lent asked reply) ∙ fits) parts.0)

    at_now : m.at ≡ record { epoch = task.epoch; number = d.number }
    at_now = same_no m.at task.epoch d.number kept.epoch refl

    made_now : IsBeforeEnd d.round
        → AreRounds task.campaign task.epoch task.first ps (d.number + 1)
        (made_in (told_by tries) ++ made_of m reply ∷ []) (replies_by tries ++ reply ∷ [])
    made_now rounds =
        let early = early_at_round d.round d.progress rounds kept.within in
        let accepted =
        (early_at d.campaign d.epoch d d.progress (told_by tries) asked kept.told (not_ending d.progress early)
        wishes).0 in
        let some = some_bytes lent task.steps (subst (λ steps. 0 < length steps) kept.steps kept.sound.some) in
        one_more task.campaign task.epoch task.first ps d.number (made_in (told_by tries)) (replies_by tries)
        (kept.made rounds) some (kept.fit rounds accepted) (are_accepted (told_by tries) accepted) m at_now
        (early_call by_size lent task d tries kept there asked wishes early) reply

    abbrev answered : List Told
    answered = Answered m reply ∷ told_by tries

    turned_now : IsEndRound d.round
        → AreTurned task.campaign task.epoch task.first ps (decision_given d.round) (d.number + 1) (made_in answered)
        (made_early answered) (made_late answered) (sent_early (with_sent m (sent_by tries)))
    turned_now end =
        end_more task.campaign task.epoch task.first ps (decision_given d.round) d.number (sent_early (with_sent m
        (sent_by tries)))
        (told_by tries) (turned_opened end) m (is_late end) at_now (end_call end) reply

    -- an attempt with its reply
    pub kept_replied : d.number < number_limit → IsKept lent task (replied reply d) (Tried m (Some reply) ∷ tries)
    kept_replied left = record {
      sound = sound_replied d kept.sound reply left;
      epoch = kept.epoch;
      campaign = kept.campaign;
      steps = kept.steps;
      told =
          told_replied lent d (told_by tries) kept.sound d.progress reply asked kept.sound.placed wishes fits kept.told;
      stands = stands_replied d (replies_by tries) kept.sound d.progress reply asked kept.sound.placed kept.stands
          wishes fits;
      within = within_replied d d.progress reply asked wishes kept.within;
      count = omega (arith, now.count, ap length now.sent);
      numbered = subst (AreNumbered task.epoch task.first) (sym now.sent)
          (same_no m.at task.epoch (task.first + length now.rest) now.epoch now.count, now.numbered);
      below = (
        kept.epoch,
        omega arith,
        below_more task.epoch d.number (d.number + 1) (told_by tries) (omega arith)
            kept.below,
      );
      pending = tt;
      follows = subst (FollowsAt false d.round (Answered m reply ∷ told_by tries)) (sym now.sent) (inl
          (ap (λ b. is_some (if b then Some reply else told_reply (told_by tries) m.at)) (is_same m.at)));
      order = in_order (Some reply);
      fit = fit_now;
      last = last_of (replied reply d).progress (Tried m (Some reply) ∷ tries) (record {
        message = m;
        reply = reply;
        sent = now.rest;
        told = told_by tries;
        newest = now.sent;
        answered = refl;
      });
      end = end_replied d m reply (told_by tries) refl refl kept.end;
      calls = (is_call_for by_size lent task d tries kept there asked wishes, kept.calls);
      made = made_now;
      turned = turned_now;
      heard = λ rounds. now.sent ∙ ap (λ l. m ∷ l) (now.closed ∙ kept.heard rounds);
      messages = λ end.
          answered_late (decision_given d.round) task.campaign ps (told_by tries) m (is_late end) (end_call end) reply
          (sent_by tries) (kept.messages end);
    }
