-- What a driver asks to be sent is allowed.
use Rattle.std.proofs.Common.{◌≡◌, ◌⊎◌, inl, inr, ℕ, ◌+◌, Bool, true, false, not, ◌&&◌, ◌||◌, if◌then◌else◌, nat_eq, List, [], ◌∷◌, ◌++◌, length, Some, None, is_some, refl, sym, ap, subst, ◌∙◌, arith}
use Rattle.std.proofs.lemmas.Bool.Decides.{nat_tests}
use Rattle.std.specs.List.{AllByRecursion}
use Rattle.ucm_base.specs.declared.ids.CallNo.{CallNo}
use Rattle.pm_types.specs.declared.replies.Reply.{Reply}
use Rattle.campaign_core.specs.Nodes.{flag_of}
use Rattle.campaign_core.specs.declared.fold.Current.{Current}
use Rattle.world.specs.Attempts.{Attempt, told_by, sent_by, replies_by, RepliesAreGot}
use Rattle.world.specs.Messages.{Message, Told, Answered, Showed, is_sync, is_told, told_reply}
use Rattle.world.specs.Rounds.{AtSync, call_at, stage_of}
use Rattle.world.specs.RoundsBySize.{GoesBySize}
use Rattle.world.specs.Sends.{MaySendBy, Packages, delete_at, end_call_at, is_due, last_shown, last_status, may_follow, next_number, one_if, replies_of}
use Rattle.sub_core.specs.declared.answers.Finding.{Finding}
use Rattle.sub_core.specs.declared.answers.Round.{Round}
use Rattle.sub_core.specs.declared.answers.SendStep.{SendStep}
use Rattle.sub_core.specs.declared.progress.EndProgress.{EndProgress}
use Rattle.sub_core.specs.declared.progress.Progress.{Progress}
use Rattle.sub_core.specs.declared.progress.Wish.{Wish}
use Rattle.sub_core.specs.Calls.{call_of, step_bytes}
use Rattle.sub_core.specs.Driving.{at_shown, is_over, next_no, round_step, todo_for, wish, wish_at, IsBeforeEnd}
use Rattle.sub_core.specs.Ending.{end_at}
use Rattle.sub_core.specs.Evidence.{EndIsFound}
use Rattle.sub_core.specs.Given.{AreGiven, Given, IsTask, Task, after, attempts, message_of, sent_of, told_of}
use Rattle.sub_core.specs.Sends.{AreEarlier, AreNumbered, CallsAreNext, IsAgain, IsAtEnd, IsInRound, IsMasters, IsNew, RepliesAreRead, SendsAreAllowed, decision_of, phase_of}
use Rattle.sub_core.specs.States.{DriverState}
use Rattle.sub_core.proofs.Allowed.{at_of_todo, early_at, late_told}
use Rattle.sub_core.proofs.Ends.{end_sync_decided, rest_shown}
use Rattle.sub_core.proofs.Journeys.{Stands, stands}
use Rattle.sub_core.proofs.Kept.{FollowsAt, IsEndRound, IsKept, IsOpen, OpenAt, ToldBelow, early_at_round, early_call, not_ending, not_epoch, untold}
use Rattle.sub_core.proofs.Begins.{no_end}
use Rattle.sub_core.proofs.Stages.{IsCalling, calls_of_wish, wish_of_todo}

-- the round of a call has come

open_round : (b : Bool) (other asked : SendStep)
    → (if b then Wish.Rest Finding.RoundDone else Wish.Send other) ≡ Wish.Send asked → b ≡ false
open_round true other asked is = absurd (cc is)
open_round false other asked is = refl

due_at : (lent : List (List ℕ)) (d : DriverState) (round : Round) (p : Progress) → IsBeforeEnd (Some round) → IsCalling
    p
    → is_over (Some round) d.ids p ≡ false → is_due (phase_of round) (call_of lent (round_step d p)) ≡ true
due_at lent d round p rounds calling over = grind arith

over_at : (d : DriverState) (p : Progress) (asked : SendStep) → IsCalling p → wish_at d p ≡ Wish.Send asked
    → is_over d.round d.ids p ≡ false
over_at d p asked calling is = grind arith

-- what was sent before

or_right : (a b : Bool) → b ≡ true → (a || b) ≡ true
or_right true b is = refl
or_right false b is = is

-- messages before a driver's own: none of them was answered to it
module _ (epoch k : ℕ) (told : List Told) (n : ℕ) (below : ToldBelow epoch n told) where
  told_other : (at : CallNo) (told' : List Told) → ToldBelow epoch n told' → nat_eq at.epoch epoch ≡ false
      → told_reply told' at ≡ None
  told_other at [] below' other = refl
  told_other at (Answered m r ∷ ts) below' other =
      ap (λ b. if b then Some r else told_reply ts at)
      (not_epoch m.at at (subst (λ e. nat_eq at.epoch e ≡ false) (sym below'.0) other))
      ∙ told_other at ts below'.2 other
  told_other at (Showed status ∷ ts) below' other = told_other at ts below' other

  none_of : (m : Message) (rest : List Reply) (a b : Bool) → nat_eq m.at.epoch epoch ≡ a → nat_eq m.campaign k ≡ b
      → (a && b) ≡ false → rest ≡ []
      → (if b && not m.decided then rest ++ one_if (told_reply told m.at) else rest) ≡ []
  none_of m rest true true same_epoch same_k other none = absurd (cc other)
  none_of m rest a false same_epoch same_k other none = none
  none_of m rest false true other_epoch same_k other none =
      go m.decided (ap (λ o. rest ++ one_if o) (told_other m.at told below other_epoch)
      ∙ ap (λ l. l ++ []) none)
    where
      go : (b : Bool) → rest ++ one_if (told_reply told m.at) ≡ []
          → (if true && not b then rest ++ one_if (told_reply told m.at) else rest) ≡ []
      go true both = none
      go false both = both

  no_replies : (earlier : List Message) → AllByRecursion (λ m. (nat_eq m.at.epoch epoch && nat_eq m.campaign k) ≡ false)
      earlier
      → replies_of k told earlier ≡ []
  no_replies [] other = refl
  no_replies (m ∷ ms) other =
      none_of m (replies_of k told ms) (nat_eq m.at.epoch epoch) (nat_eq m.campaign k) refl refl other.0
      (no_replies ms other.1)

  replies_before : (sent earlier : List Message) → replies_of k told earlier ≡ []
      → replies_of k told (sent ++ earlier) ≡ replies_of k told sent
  replies_before [] earlier none = none
  replies_before (m ∷ sent) earlier none =
      ap (λ l. if nat_eq m.campaign k && not m.decided then l ++ one_if (told_reply told m.at) else l)
      (replies_before sent earlier none)

-- what the law reads of the messages
pub replies_are_read : GoesBySize → RepliesAreGot → RepliesAreRead
replies_are_read by_size got lent task gs is given_ rounds earlier before =
    let kept = (stands by_size lent task is gs given_).kept in
    let told = told_of lent task gs in
    let n = (after task gs).number in
    replies_before task.epoch task.campaign told n kept.below (sent_of lent task gs) earlier
    (no_replies task.epoch task.campaign told n kept.below earlier before.other)
    ∙ got task.campaign (attempts lent task gs) (kept.order rounds)

follow_other : (a b c d : Bool) → (a && b) ≡ false → (not a || (c || (not b || d))) ≡ true
follow_other a b c d is = grind arith

follow_told : (a b c : Bool) → b ≡ true → (a || (b || c)) ≡ true
follow_told a b c is = grind arith

follow_decided : (a b c decided : Bool) → decided ≡ false → (a || (b || (c || (not decided && true)))) ≡ true
follow_decided a b c decided is = grind arith

module _ (by_size : GoesBySize) (got : RepliesAreGot) (lent : List (List ℕ)) (task : Task) (gs : List Given)
    (is : IsTask lent task) (given_ : AreGiven task gs) (packages : Packages) (n : ℕ)
    (of_node : packages task.campaign n ≡ step_bytes lent task.steps) (earlier : List Message)
    (before : AreEarlier task earlier) (c : Current) where
  abbrev d : DriverState
  d = after task gs

  abbrev tries : List Attempt
  tries = attempts lent task gs

  abbrev told : List Told
  told = told_by tries

  abbrev sent : List Message
  sent = sent_by tries

  so_far : Stands lent task gs
  so_far = stands by_size lent task is gs given_

  kept : IsKept lent task d tries
  kept = so_far.kept

  module _ (asked : SendStep) (wishes : wish d ≡ Wish.Send asked) where
    abbrev m : Message
    m = message_of lent d (next_no d) asked

    -- the newest message again
    again : IsOpen lent d sent → IsAgain m told (sent ++ earlier)
    again is_open =
        let same : is_open.asked ≡ asked = cc (sym is_open.wish ∙ wishes) in
        record {
          older = is_open.older ++ earlier;
          newest = ap (λ l. l ++ earlier)
              (is_open.newest ∙ ap (λ a. message_of lent d (next_no d) a ∷ is_open.older) same);
          pending = ap is_some (untold task.epoch (next_no d) told kept.below);
        }

    -- a new message has the next number
    next_of : (own : List Message) → AreNumbered task.epoch task.first own → d.number + 0 ≡ task.first + length own
        → m.at ≡ next_number d.epoch (own ++ earlier)
    next_of [] numbered count =
        let number : d.number ≡ task.first = omega (arith, count) in
        ap (λ x. record { epoch = d.epoch; number = x }) number
        ∙ (ap (λ x. record { epoch = x; number = task.first }) kept.epoch
        ∙ (sym before.next ∙ ap (λ e. next_number e earlier) (sym kept.epoch)))
    next_of (newest ∷ older) numbered count =
        let number : newest.at.number ≡ task.first + length older = ap (λ a. a.number) numbered.0 in
        let same : nat_eq newest.at.epoch d.epoch ≡ true =
        ap (λ a. nat_eq a.epoch d.epoch) numbered.0 ∙ (ap (nat_eq task.epoch) kept.epoch ∙ same_number task.epoch) in
        let up : d.number ≡ newest.at.number + 1 = omega (arith, count, number) in
        ap (λ x. record { epoch = d.epoch; number = x })
        (up ∙ sym (ap (λ b. if b then newest.at.number + 1 else 1) same))
      where
        same_number : (x : ℕ) → nat_eq x x ≡ true
        same_number x = grind (arith, nat_tests)

    -- and the message before it is done with
    follows_of : (own : List Message) → FollowsAt false d.round told own → c.campaign ≡ task.campaign
        → (IsEndRound d.round → is_some c.decision ≡ true) → may_follow d.epoch c told (own ++ earlier) ≡ true
    follows_of [] follows of_k decided = first earlier before.other
      where
        first : (ms : List Message)
            → AllByRecursion (λ m. (nat_eq m.at.epoch task.epoch && nat_eq m.campaign task.campaign) ≡ false) ms
            → may_follow d.epoch c told ms ≡ true
        first [] other = refl
        first (x ∷ xs) other =
            follow_other (nat_eq x.at.epoch d.epoch) (nat_eq x.campaign c.campaign) (is_told told x.at)
            (not x.decided && is_some c.decision)
            (ap (λ e. nat_eq x.at.epoch e && nat_eq x.campaign c.campaign) kept.epoch
            ∙ (ap (λ k. nat_eq x.at.epoch task.epoch && nat_eq x.campaign k) of_k ∙ other.0))
    follows_of (x ∷ own) (inl answered) of_k decided =
        follow_told (not (nat_eq x.at.epoch d.epoch)) (is_told told x.at)
        (not (nat_eq x.campaign c.campaign) || (not x.decided && is_some c.decision)) answered
    follows_of (x ∷ own) (inr ended) of_k decided =
        ap (λ b. not (nat_eq x.at.epoch d.epoch)
        || (is_told told x.at || (not (nat_eq x.campaign c.campaign) || (not x.decided && b)))) (decided ended.1)
        ∙ follow_decided (not (nat_eq x.at.epoch d.epoch)) (is_told told x.at) (not (nat_eq x.campaign c.campaign))
        x.decided ended.0

    new_by : (b : Bool) → d.is_open ≡ b → b ≡ false → flag_of c.named n ≡ true → c.campaign ≡ task.campaign
        → (IsEndRound d.round → is_some c.decision ≡ true)
        → MaySendBy packages d.epoch n c c.decision told (sent ++ earlier) m.call
        → IsNew packages n c m told (sent ++ earlier)
    new_by b is_b closed named of_k decided by =
        let shut : d.is_open ≡ false = is_b ∙ closed in
        record {
          allowed = record {
            named = named;
            follows = follows_of sent (subst (λ o. FollowsAt o d.round told sent) shut kept.follows) of_k decided;
            by = by;
          };
          next = next_of sent kept.numbered
              (subst (λ o. d.number + (if o then 1 else 0) ≡ task.first + length sent) shut kept.count);
        }

    module _ (round : Round) (here : d.round ≡ Some round) where
      -- in the rounds
      early_by : IsBeforeEnd (Some round) → IsInRound n task round c
          → MaySendBy packages d.epoch n c c.decision told (sent ++ earlier) m.call
      early_by rounds master =
          let in_rounds = subst IsBeforeEnd (sym here) rounds in
          let early = not_ending d.progress (early_at_round d.round d.progress in_rounds kept.within) in
          let t = early_at d.campaign d.epoch d d.progress told asked kept.told early wishes in
          let call = calls_of_wish d d.progress asked wishes early in
          let replies : replies_of task.campaign told (sent ++ earlier) ≡ replies_by tries =
          replies_are_read by_size got lent task gs is given_ in_rounds earlier before in
          let next = early_call by_size lent task d tries kept is.there asked wishes
          (early_at_round d.round d.progress in_rounds kept.within) in
          let over = over_at d d.progress asked call.0 wishes in
          subst (λ x. MaySendBy packages d.epoch n c x told (sent ++ earlier) m.call) (sym master.undecided) (record {
            no_mark = master.no_mark;
            no_vote = master.no_vote;
            no_refusal = t.0;
            next = subst
                (λ k. call_at k (stage_of (packages k n) AtSync (replies_of k told (sent ++ earlier))) ≡ Some m.call)
                (sym master.campaign)
                (ap (λ ps. call_at task.campaign (stage_of ps AtSync
                (replies_of task.campaign told (sent ++ earlier))))
                of_node
                ∙ (ap (λ rs. call_at task.campaign (stage_of (step_bytes lent task.steps) AtSync rs)) replies
                ∙ next));
            due = ap (λ phase. is_due phase m.call) master.phase
                ∙ (ap (λ a. is_due (phase_of round) (call_of lent a)) (sym call.1)
                ∙ due_at lent d round d.progress rounds call.0
                (subst (λ r. is_over r d.ids d.progress ≡ false) here over));
            settled = t.1;
          })

      -- at the end
      late_by : (commit : Bool) (end : EndProgress) → d.progress ≡ Progress.Ending commit end → IsAtEnd n task commit
          c
          → MaySendBy packages d.epoch n c c.decision told (sent ++ earlier) m.call
      late_by commit end at_end master =
          subst (λ x. MaySendBy packages d.epoch n c x told (sent ++ earlier) m.call) (sym master.decided) (record {
            not_ended = master.not_ended;
            allowed = subst
                (λ k. (is_sync m.call
                || (end_call_at (decision_of commit master.cause) (last_status k d.epoch told) m.call
                || delete_at (last_shown k d.epoch told) m.call))
                ≡ true)
                (kept.campaign ∙ sym master.campaign)
                (late_told lent d told commit end at_end kept.sound kept.told asked wishes master.cause);
          })

    -- which of both
    allowed_if : (b : Bool) → d.is_open ≡ b → OpenAt lent b d sent → (flag_of c.named n ≡ true)
        → c.campaign ≡ task.campaign → (IsEndRound d.round → is_some c.decision ≡ true)
        → MaySendBy packages d.epoch n c c.decision told (sent ++ earlier) m.call
        → IsNew packages n c m told (sent ++ earlier) ⊎ IsAgain m told (sent ++ earlier)
    allowed_if true is_b is_open named of_k decided by = inr (again is_open)
    allowed_if false is_b is_open named of_k decided by = inl (new_by false is_b refl named of_k decided by)

    in_round : (round : Round) → d.round ≡ Some round → IsBeforeEnd (Some round) → IsInRound n task round c
        → IsNew packages n c m told (sent ++ earlier) ⊎ IsAgain m told (sent ++ earlier)
    in_round round here rounds master =
        allowed_if d.is_open refl kept.pending master.named master.campaign
        (λ end. absurd (no_end (Some round) rounds (subst IsEndRound here end))) (early_by round here rounds master)

    allowed_at : (round : Round) → d.round ≡ Some round → IsMasters n task round c
        → IsNew packages n c m told (sent ++ earlier) ⊎ IsAgain m told (sent ++ earlier)
    allowed_at Round.Sync here master = in_round Round.Sync here tt master
    allowed_at Round.Transfer here master = in_round Round.Transfer here tt master
    allowed_at Round.Process here master = in_round Round.Process here tt master
    allowed_at Round.Activate here master = in_round Round.Activate here tt master
    allowed_at (Round.End commit) here master =
        allowed_if d.is_open refl kept.pending master.named master.campaign (λ e. ap is_some master.decided)
        (late_by (Round.End commit) here commit (end_at commit told) (kept.end commit here) master)

-- each call that a driver asks for is allowed
pub sends_are_allowed : GoesBySize → RepliesAreGot → SendsAreAllowed
sends_are_allowed by_size got lent task gs is given_ packages n of_node earlier before c round here master call_no asked
    asks =
    let d = after task gs in
    let at : next_no d ≡ call_no = at_of_todo d (wish d) call_no asked asks in
    subst
    (λ x. IsNew packages n c (message_of lent d x asked) (told_of lent task gs) (sent_of lent task gs ++ earlier)
    ⊎ IsAgain (message_of lent d x asked) (told_of lent task gs) (sent_of lent task gs ++ earlier))
    at
    (allowed_at by_size got lent task gs is given_ packages n of_node earlier before c asked
    (wish_of_todo d (wish d) call_no asked asks) round here master)

-- a Sync at rest ends it
pub end_is_found : GoesBySize → EndIsFound
end_is_found by_size lent task gs is given_ commit here m shown older told of_end free none =
    let d = after task gs in
    let at : end_at commit (told_of lent task gs) ≡ EndProgress.Rest m.at =
    ap (end_at commit) told
    ∙ (ap (λ b. if b then at_shown commit m.at shown else EndProgress.Call SendStep.Sync)
    (end_sync_decided task.campaign task.epoch m of_end)
    ∙ rest_shown commit m.at shown free none) in
    ap (λ p. todo_for d (wish_at d p))
    ((stands by_size lent task is gs given_).kept.end commit here ∙ ap (Progress.Ending commit) at)

-- each call is one for the replies before it
pub calls_are_next : GoesBySize → CallsAreNext
calls_are_next by_size lent task gs is given_ = (stands by_size lent task is gs given_).kept.calls
