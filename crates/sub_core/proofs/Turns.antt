-- What the answered calls are, and what is asked for at the end.
use Rattle.std.proofs.Common.{◌≡◌, ℕ, ◌+◌, ◌≤◌, Bool, true, false, not, ◌&&◌, if◌then◌else◌, nat_eq, nat_le, take, append-nil, List, [], ◌∷◌, ◌++◌, length, arith, Option, Some, None, refl, sym, ap, subst, ◌∙◌}
use Rattle.std.proofs.lemmas.List.{length-map, take_all}
use Rattle.std.specs.List.{list_all}
use Rattle.ucm_base.specs.declared.ids.CallNo.{CallNo}
use Rattle.campaign_core.specs.declared.events.Phase.{Phase}
use Rattle.pm_types.specs.declared.replies.Refusal.{Refusal}
use Rattle.pm_types.specs.declared.replies.Reply.{Reply}
use Rattle.pm_types.specs.declared.replies.Reply.TheVariants.{Synced, Refused}
use Rattle.pm_types.specs.declared.replies.Synced.{Synced as Shown}
use Rattle.world.specs.Attempts.{Attempt, replies_by, sent_by, told_by}
use Rattle.world.specs.Messages.{Message, Told, is_refusal, is_sync, is_told}
use Rattle.world.specs.RoundCalls.{RoundsEnd, ids_of, is_past, round_calls}
use Rattle.world.specs.Rounds.{AtSync, Over, stage_of}
use Rattle.world.specs.RoundsBySize.{GoesBySize, sized, stage_by_size}
use Rattle.world.specs.Sends.{has_refusal, is_masters}
use Rattle.sub_core.specs.declared.answers.Finding.{Finding}
use Rattle.sub_core.specs.declared.answers.Round.{Round}
use Rattle.sub_core.specs.declared.answers.Todo.{Todo}
use Rattle.sub_core.specs.declared.progress.Progress.{Progress}
use Rattle.sub_core.specs.declared.progress.Wish.{Wish}
use Rattle.sub_core.specs.Calls.{step_bytes}
use Rattle.sub_core.specs.Driving.{decision_given, is_missed, next_no, todo, todo_for, wish, wish_at, IsBeforeEnd}
use Rattle.sub_core.specs.Given.{AreGiven, Given, IsTask, Task, after, attempts, message_of, replies_to, told_of}
use Rattle.sub_core.specs.Made.{AreInTurn, AreSentInTurn, Made, ends_at_rest, has_none, ids_given, made_early, made_in, made_late, made_of, sent_early, shows_rest}
use Rattle.sub_core.specs.States.{DriverState}
use Rattle.sub_core.specs.Turns.{AreAllOfRounds, AreOfRounds, CallsAreInTurn, EndIsAsked, EndIsMade, IsLastRefused, MessagesAreInTurn, RoundsAreMade, VoteIsMade, VotesAreMade}
use Rattle.sub_core.proofs.Allowed.{early_at, found_for}
use Rattle.sub_core.proofs.Journeys.{stands}
use Rattle.sub_core.proofs.Kept.{FollowsAt, IsEndRound, IsKept, IsOpen, OpenAt, early_at_round, early_call, not_ending}
use Rattle.sub_core.proofs.Begins.{sent_in_rounds}
use Rattle.sub_core.proofs.Findings.{RestsBy, ByMisses, ByWish, past_sized, rests_if}
use Rattle.sub_core.proofs.Ends.{not_begun}
use Rattle.sub_core.proofs.Making.{AreAccepted, AreTurned, all_sent_early, are_accepted, of_rounds, one_more, some_bytes, turned}
use Rattle.sub_core.proofs.Rounds.{StandsAt, sizes_of, stage_seen}
use Rattle.sub_core.proofs.Stages.{le_true, sizes_same}
use Rattle.sub_core.proofs.Told.{Found, IsAtRest, IsNewest}

module _ (by_size : GoesBySize) (lent : List (List ℕ)) (task : Task) (gs : List Given) (is : IsTask lent task)
    (given_ : AreGiven task gs) where
  abbrev d : DriverState
  d = after task gs

  abbrev tries : List Attempt
  tries = attempts lent task gs

  kept : IsKept lent task d tries
  kept = (stands by_size lent task is gs given_).kept

  -- before the end the newest call is open, where it isn't answered
  open_newest : IsBeforeEnd d.round → (m : Message) (older : List Message) → sent_by tries ≡ m ∷ older
      → is_told (told_by tries) m.at ≡ false → (b : Bool) → OpenAt lent b d (sent_by tries)
      → FollowsAt b d.round (told_by tries) (sent_by tries) → IsOpen lent d (sent_by tries)
  open_newest rounds m older newest untold b pending follows = grind arith

  with_newest : IsBeforeEnd d.round → (m : Message) (older : List Message) → sent_by tries ≡ m ∷ older
      → is_told (told_by tries) m.at ≡ false → (reply : Reply)
      → AreOfRounds lent task (made_in (told_by tries) ++ made_of m reply ∷ [])
  with_newest rounds m older newest untold reply =
      let o = open_newest rounds m older newest untold d.is_open kept.pending kept.follows in
      let n = message_of lent d (next_no d) o.asked in
      let same : n ≡ m = cc (sym o.newest ∙ newest) in
      let early = early_at_round d.round d.progress rounds kept.within in
      let accepted =
      (early_at d.campaign d.epoch d d.progress (told_by tries) o.asked kept.told (not_ending d.progress early)
      o.wish).0 in
      let ps = step_bytes lent task.steps in
      let more = one_more task.campaign task.epoch task.first ps d.number (made_in (told_by tries)) (replies_by tries)
      (kept.made rounds) (some_bytes lent task.steps is.some) (kept.fit rounds accepted)
      (are_accepted (told_by tries) accepted) n (ap (λ e. record { epoch = e; number = d.number }) kept.epoch)
      (early_call by_size lent task d tries kept is.there o.asked o.wish early) reply in
      subst (λ x. AreOfRounds lent task (made_in (told_by tries) ++ made_of x reply ∷ [])) same
      (of_rounds task.campaign task.epoch task.first ps (d.number + 1) (made_in (told_by tries) ++ made_of n reply ∷ [])
      (replies_by tries ++ reply ∷ []) more)

  in_rounds : IsBeforeEnd d.round → AreOfRounds lent task (made_in (told_by tries))
  in_rounds rounds =
      of_rounds task.campaign task.epoch task.first (step_bytes lent task.steps) d.number (made_in (told_by tries))
      (replies_by tries) (kept.made rounds)

  abbrev InTurn : Type 0
  InTurn =
      AreInTurn (decision_given d.round) task.campaign task.epoch task.first (step_bytes lent task.steps)
      (told_by tries) (sent_by tries)

  in_turn_so : (number : ℕ)
      → AreTurned task.campaign task.epoch task.first (step_bytes lent task.steps) (decision_given d.round) number
      (made_in (told_by tries)) (made_early (told_by tries)) (made_late (told_by tries)) (sent_early (sent_by tries))
      → InTurn
  in_turn_so number t = record { split = t.split; of_rounds = t.of_rounds; within = t.within; of_end = t.of_end }

  in_rounds_so : IsBeforeEnd d.round
      → AreSentInTurn (decision_given d.round) task.campaign (step_bytes lent task.steps) (told_by tries)
      (sent_by tries)
  in_rounds_so rounds = sent_in_rounds by_size lent task d tries kept is.there rounds (decision_given d.round)

  -- before the end there are none of its calls
  before : IsBeforeEnd d.round → InTurn
  before rounds =
      let order = kept.order rounds in
      let made = kept.made rounds in
      let count = kept.count in
      let sent : length (made_in (told_by tries)) ≤ length (sent_by tries) = few d.is_open made.count count in
      in_turn_so (task.first + length (sent_by tries))
      (subst
      (AreTurned task.campaign task.epoch task.first (step_bytes lent task.steps) (decision_given d.round)
      (task.first + length (sent_by tries)) (made_in (told_by tries)) (made_early (told_by tries))
      (made_late (told_by tries)))
      (sym (all_sent_early task.campaign tries order))
      (turned task.campaign task.epoch task.first (step_bytes lent task.steps) (decision_given d.round) d.number
      (length (sent_by tries))
      (told_by tries) (replies_by tries) made (not_begun task.campaign tries order) sent
      (task.first + length (sent_by tries)) (omega arith)))
    where
      few : (b : Bool) → d.number ≡ task.first + length (made_in (told_by tries))
          → d.number + (if b then 1 else 0) ≡ task.first + length (sent_by tries)
          → length (made_in (told_by tries)) ≤ length (sent_by tries)
      few true made count = omega (arith, made, count)
      few false made count = omega (arith, made, count)

  in_turn : (r : Option Round) → d.round ≡ r → InTurn
  in_turn (Some (Round.End commit)) here = in_turn_so d.number (kept.turned (subst IsEndRound (sym here) tt))
  in_turn None here = before (subst IsBeforeEnd (sym here) tt)
  in_turn (Some Round.Sync) here = before (subst IsBeforeEnd (sym here) tt)
  in_turn (Some Round.Transfer) here = before (subst IsBeforeEnd (sym here) tt)
  in_turn (Some Round.Process) here = before (subst IsBeforeEnd (sym here) tt)
  in_turn (Some Round.Activate) here = before (subst IsBeforeEnd (sym here) tt)

  -- and the messages likewise
  sent_in_turn : (r : Option Round) → d.round ≡ r
      → AreSentInTurn (decision_given d.round) task.campaign (step_bytes lent task.steps) (told_by tries)
      (sent_by tries)
  sent_in_turn (Some (Round.End commit)) here = kept.messages (subst IsEndRound (sym here) tt)
  sent_in_turn None here = in_rounds_so (subst IsBeforeEnd (sym here) tt)
  sent_in_turn (Some Round.Sync) here = in_rounds_so (subst IsBeforeEnd (sym here) tt)
  sent_in_turn (Some Round.Transfer) here = in_rounds_so (subst IsBeforeEnd (sym here) tt)
  sent_in_turn (Some Round.Process) here = in_rounds_so (subst IsBeforeEnd (sym here) tt)
  sent_in_turn (Some Round.Activate) here = in_rounds_so (subst IsBeforeEnd (sym here) tt)

pub rounds_are_made : GoesBySize → RoundsAreMade
rounds_are_made by_size lent task gs is given_ rounds =
    (in_rounds by_size lent task gs is given_ rounds, with_newest by_size lent task gs is given_ rounds)

pub messages_are_in_turn : GoesBySize → MessagesAreInTurn
messages_are_in_turn by_size lent task gs is given_ =
    sent_in_turn by_size lent task gs is given_ (after task gs).round refl

pub calls_are_in_turn : GoesBySize → CallsAreInTurn
calls_are_in_turn by_size lent task gs is given_ = in_turn by_size lent task gs is given_ (after task gs).round refl

-- votes

voted_of : (d : DriverState) (p : Progress) (f : Finding) → (f ≡ Finding.RoundDone → ⊥)
    → ((call_no : CallNo) → f ≡ Finding.Ended call_no → ⊥) → wish_at d p ≡ Wish.Rest f → p ≡ Progress.Voted f
voted_of d p f other more is = grind arith

accepted_all : (made : List Made) → AreAccepted made → list_all (λ m. not (is_refusal m.reply)) made ≡ true
accepted_all [] all = refl
accepted_all (m ∷ made) all =
    ap (λ b. not b && list_all (λ x. not (is_refusal x.reply)) made) all.0 ∙ accepted_all made all.1

module _ (by_size : GoesBySize) (ends : RoundsEnd) (lent : List (List ℕ)) (task : Task) (gs : List Given)
    (is : IsTask lent task) (given_ : AreGiven task gs) (rounds : IsBeforeEnd (after task gs).round) where
  abbrev ps : List (List ℕ)
  ps = step_bytes lent task.steps

  abbrev e : DriverState
  e = after task gs

  abbrev heard : List Told
  heard = told_of lent task gs

  abbrev replies : List Reply
  replies = replies_to lent task gs

  held : IsKept lent task e (attempts lent task gs)
  held = (stands by_size lent task is gs given_).kept

  -- a driver that has voted so is over
  all_made : (f : Finding) → e.progress ≡ Progress.Voted f → stage_seen e.steps e.ids (Progress.Voted f) ≡ Over
      → StandsAt e.steps e.ids (Progress.Voted f) replies → has_refusal heard ≡ false
      → AreAllOfRounds lent task (made_in heard)
  all_made f here over seen accepted =
      let made = held.made rounds in
      let stage : sized (stage_of ps AtSync replies) ≡ Over =
      by_size.stages ps replies
      ∙ (ap (λ sizes. stage_by_size sizes AtSync replies) (sizes_same lent task.steps is.there)
      ∙ (ap (λ steps. stage_by_size (sizes_of steps) AtSync replies) (sym held.steps) ∙ (seen ∙ over))) in
      let past : nat_le (length (round_calls task.campaign (ids_of replies) ps)) (length replies) ≡ true =
      sym (ends task.campaign ps (some_bytes lent task.steps is.some) replies (held.fit rounds accepted)
      (Some Phase.Activating))
      ∙ (sym (past_sized (Some Phase.Activating) (stage_of ps AtSync replies))
      ∙ ap (is_past (Some Phase.Activating)) stage) in
      let ids : ids_given (made_in heard) ≡ ids_of replies = ap ids_of made.same in
      let many : length (made_in heard) ≡ length replies =
      sym (length-map (made_in heard) (λ m. m.reply)) ∙ ap length made.same in
      let all : length (round_calls task.campaign (ids_given (made_in heard)) ps) ≤ length (made_in heard) =
      subst (λ l. length (round_calls task.campaign l ps) ≤ length (made_in heard)) (sym ids)
      (subst (λ n. length (round_calls task.campaign (ids_of replies) ps) ≤ n) (sym many) (le_true _ _ past)) in
      record {
        calls = made.calls []
            ∙ (ap (λ l. take (length (made_in heard)) (round_calls task.campaign l ps))
            (append-nil (ids_given (made_in heard)))
            ∙ take_all (length (made_in heard)) (round_calls task.campaign (ids_given (made_in heard)) ps) all);
        accepted = accepted_all (made_in heard) (are_accepted heard accepted);
      }

  last_refused : (call_no : CallNo) (why : Refusal) → IsNewest call_no (Refused why) heard
      → IsLastRefused call_no why (made_in heard)
  last_refused call_no why newest = record {
    older = made_in newest.older;
    last = made_of newest.message (Refused why);
    split = ap made_in newest.is;
    at = newest.at;
    reply = refl;
  }

  -- a vote is no series of misses
  wishes_vote : (f : Finding) → ((losses faults : ℕ) → f ≡ Finding.Unreached losses faults → ⊥) → RestsBy e f
      → wish e ≡ Wish.Rest f
  wishes_vote f other (ByWish wishes) = wishes
  wishes_vote f other (ByMisses asks is_eight sums) = absurd (other _ _ (sym sums))

  evidence : (f : Finding) → todo e ≡ Todo.Rest f → Found e.campaign e.epoch f heard
  evidence f rests = found_for e.campaign e.epoch heard e e.progress (wish e) f refl held.told rests

  voted : (f : Finding) → todo e ≡ Todo.Rest f → VoteIsMade lent task f (made_in heard)
  voted Finding.Yes rests =
      let here = voted_of e e.progress Finding.Yes (λ is. cc is) (λ n is. cc is)
      (wishes_vote Finding.Yes (λ l f is. cc is) (rests_if e (wish e) (is_missed e) Finding.Yes refl refl rests)) in
      all_made Finding.Yes here refl (subst (λ p. StandsAt e.steps e.ids p replies) here held.stands)
      (evidence Finding.Yes rests).1
  voted Finding.RolledBack rests =
      let here = voted_of e e.progress Finding.RolledBack (λ is. cc is) (λ n is. cc is)
      (wishes_vote Finding.RolledBack (λ l f is. cc is)
      (rests_if e (wish e) (is_missed e) Finding.RolledBack refl refl rests)) in
      all_made Finding.RolledBack here refl (subst (λ p. StandsAt e.steps e.ids p replies) here held.stands)
      (evidence Finding.RolledBack rests).1
  voted (Finding.Refused call_no why) rests = last_refused call_no why (evidence (Finding.Refused call_no why) rests)
  voted Finding.RoundDone rests = tt
  voted (Finding.Unreached losses faults) rests = tt
  voted (Finding.Ended call_no) rests = tt

pub votes_are_made : GoesBySize → RoundsEnd → VotesAreMade
votes_are_made by_size ends lent task gs is given_ rounds f rests =
    voted by_size ends lent task gs is given_ rounds f rests

-- the last call

last_rests : (made : List Made) (x : Made) → is_sync x.call ≡ true → shows_rest x.reply ≡ true
    → ends_at_rest (made ++ x ∷ []) ≡ true
last_rests [] x sync rests = ap (λ b. b && shows_rest x.reply) sync ∙ rests
last_rests (m ∷ []) x sync rests = ap (λ b. b && shows_rest x.reply) sync ∙ rests
last_rests (m ∷ n ∷ made) x sync rests = last_rests (n ∷ made) x sync rests

sync_of : (a b : Bool) → (a && b) ≡ true → a ≡ true
sync_of true b is = refl
sync_of false b is = absurd (cc is)

rests_so : (x : Shown) → is_masters x.session ≡ false → x.transfers ≡ [] → shows_rest (Synced x) ≡ true
rests_so x free none =
    ap (λ b. not b && has_none x.transfers) free ∙ ap (λ l. not false && has_none l) none

rest_made : (k epoch : ℕ) (call_no : CallNo) (told : List Told) → IsAtRest k epoch call_no told
    → ends_at_rest (made_in told) ≡ true
rest_made k epoch call_no told is =
    let m = is.newest.message in
    ap (λ ts. ends_at_rest (made_in ts)) is.newest.is
    ∙ last_rests (made_in is.newest.older) (made_of m (Synced is.shown))
    (sync_of (is_sync m.call) (m.decided && (nat_eq m.campaign k && nat_eq m.at.epoch epoch)) is.of_end)
    (rests_so is.shown is.session is.transfers)

pub end_is_made : GoesBySize → EndIsMade
end_is_made by_size lent task gs is given_ call_no rests =
    let d = after task gs in
    let kept = (stands by_size lent task is gs given_).kept in
    rest_made d.campaign d.epoch call_no (told_of lent task gs)
    (found_for d.campaign d.epoch (told_of lent task gs) d d.progress (wish d) (Finding.Ended call_no) refl kept.told
    rests)

pub end_is_asked : GoesBySize → EndIsAsked
end_is_asked by_size lent task gs is given_ commit here =
    let d = after task gs in
    ap (λ p. todo_for d (wish_at d p)) ((stands by_size lent task is gs given_).kept.end commit here)
