-- What is kept of a driver and of its attempts, by whatever it is given.
use Rattle.std.proofs.Common.{◌≡◌, ◌⊎◌, ℕ, ◌+◌, ◌<◌, ◌≤◌, Bool, true, false, ◌||◌, if◌then◌else◌, nat_eq, List, [], ◌∷◌, ◌++◌, length, take, Option, Some, None, is_some, refl, sym, ap, subst, ◌∙◌, arith}
use Rattle.std.proofs.lemmas.Bool.Decides.{nat_tests}
use Rattle.std.specs.Ordering.{is_eq, is_lt}
use Rattle.ucm_base.specs.Limits.{block_limit}
use Rattle.ucm_base.specs.declared.ids.CallNo.{CallNo}
use Rattle.campaign_core.specs.declared.events.Cause.{Cause}
use Rattle.pm_types.specs.Steps.{call_no_cmp}
use Rattle.pm_types.specs.declared.calls.Call.{Call}
use Rattle.pm_types.specs.declared.replies.Reply.{Reply}
use Rattle.pm_types.specs.declared.replies.Reply.TheVariants.{Done}
use Rattle.pm_types.specs.declared.replies.Synced.{Synced as Shown}
use Rattle.pm_types.specs.declared.status.Status.{Status}
use Rattle.world.specs.Attempts.{Attempt, Tried, Worked, told_by, sent_by, with_sent, replies_by, MayTry, AreInOrder}
use Rattle.world.specs.Messages.{Message, Told, Answered, Showed, is_refusal, is_sync, is_told, told_reply}
use Rattle.world.specs.RoundCalls.{AllFit, Fits}
use Rattle.world.specs.Rounds.{Stage, AtSync, AtStart, AtData, AtProcess, AtActivate, Over, RefusedOnce, call_at, onward, stage_of}
use Rattle.world.specs.RoundsBySize.{GoesBySize}
use Rattle.world.specs.Sends.{delete_at, end_call_at, has_refusal}
use Rattle.sub_core.specs.declared.answers.Finding.{Finding}
use Rattle.sub_core.specs.declared.answers.Round.{Round}
use Rattle.sub_core.specs.declared.answers.SendStep.{SendStep}
use Rattle.sub_core.specs.declared.answers.Todo.{Todo}
use Rattle.sub_core.specs.declared.progress.EndProgress.{EndProgress}
use Rattle.sub_core.specs.declared.progress.Progress.{Progress}
use Rattle.sub_core.specs.declared.progress.Wish.{Wish}
use Rattle.sub_core.specs.Calls.{AreThere, call_of, step_bytes}
use Rattle.sub_core.specs.Driving.{begun, decision_given, is_answer, next_no, progress_after, settled_after, todo, wish, wish_at, CanBegin, IsBeforeEnd, IsEnding}
use Rattle.sub_core.specs.Evidence.{AreVain, misses_in}
use Rattle.sub_core.specs.Made.{AreSentInTurn, is_permitted, made_early, made_in, made_late, sent_early}
use Rattle.sub_core.specs.Given.{Given, Task, after, is_ending, message_of}
use Rattle.sub_core.specs.Sends.{AreCallsFor, AreNumbered, IsCallFor, IsEndCall, decision_of}
use Rattle.sub_core.specs.States.{DriverState, IsSound}
use Rattle.sub_core.proofs.Allowed.{late_told}
use Rattle.sub_core.proofs.Ends.{IsEndAt}
use Rattle.sub_core.proofs.Asked.{answered_in, closed_of}
use Rattle.sub_core.proofs.Making.{AreRounds, AreTurned}
use Rattle.sub_core.proofs.Rounds.{StandsFor}
use Rattle.sub_core.proofs.Stages.{asks_next}
use Rattle.sub_core.proofs.Told.{IsTold}

-- Activate is answered in its own round alone, and the end phase is gone through in its own
abbrev pub IsWithin : Option Round → Progress → Type 0
IsWithin r (Progress.Ending commit at) = r ≡ Some (Round.End commit)
IsWithin r Progress.Activating = r ≡ Some Round.Activate
IsWithin r (Progress.Voted Finding.Yes) = r ≡ Some Round.Activate
IsWithin r (Progress.Voted Finding.RolledBack) = r ≡ Some Round.Activate
IsWithin r (Progress.Voted (Finding.Refused call_no why)) = IsBeforeEnd r
IsWithin r (Progress.Voted finding) = ⊥
IsWithin r p = IsBeforeEnd r

-- each message that was told of is of this epoch and below this number
abbrev pub ToldBelow : ℕ → ℕ → List Told → Type 0
ToldBelow epoch n [] = Unit {0}
ToldBelow epoch n (Answered m r ∷ told) = (m.at.epoch ≡ epoch) × (m.at.number < n) × ToldBelow epoch n told
ToldBelow epoch n (Showed status ∷ told) = ToldBelow epoch n told

module _ (lent : List (List ℕ)) where
  -- the message that is open is the newest one, and it is asked for
  pub record IsOpen (d : DriverState) (sent : List Message) : Type 0 where
    pub asked : SendStep
    pub older : List Message
    pub begun : is_some d.round ≡ true
    pub wish : wish d ≡ Wish.Send asked
    pub newest : sent ≡ message_of lent d (next_no d) asked ∷ older

  abbrev pub OpenAt : Bool → DriverState → List Message → Type 0
  OpenAt true d sent = IsOpen d sent
  OpenAt false d sent = Unit {0}

abbrev pub IsEndRound : Option Round → Type 0
IsEndRound (Some (Round.End commit)) = Unit {0}
IsEndRound r = ⊥

-- the newest message is open, or answered, or was sent before the end phase that goes on now
abbrev pub FollowsAt : Bool → Option Round → List Told → List Message → Type 0
FollowsAt true r told sent = Unit {0}
FollowsAt false r told [] = Unit {0}
FollowsAt false r told (m ∷ sent) = (is_told told m.at ≡ true) ⊎ ((m.decided ≡ false) × IsEndRound r)

-- the newest message is the last that was answered
pub record IsLast (attempts : List Attempt) : Type 0 where
  pub message : Message
  pub reply : Reply
  pub sent : List Message
  pub told : List Told
  pub newest : sent_by attempts ≡ message ∷ sent
  pub answered : told_by attempts ≡ Answered message reply ∷ told

abbrev pub LastAt : Progress → List Attempt → Type 0
LastAt (Progress.Ending commit (EndProgress.Rest call_no)) attempts = IsLast attempts
LastAt p attempts = Unit {0}

-- what is asked for where no attempt failed
abbrev pub plain : DriverState → Wish → Todo
plain d (Wish.Rest finding) = Todo.Rest finding
plain d (Wish.Send asked) = Todo.Send (next_no d) asked
plain d Wish.Unit = Todo.Unit

-- the misses are those in a row at what is asked
pub record HasRow (task : Task) (d : DriverState) (gs : List Given) : Type 0 where
  pub row : List Given
  pub older : List Given
  pub split : gs ≡ row ++ older
  pub asked : todo (after task older) ≡ plain d (wish d)
  pub vain : AreVain task older (todo (after task older)) row
  pub rises : misses_in row ≡ d.misses

-- what is kept
pub record IsKept (lent : List (List ℕ)) (task : Task) (d : DriverState) (attempts : List Attempt) : Type 0 where
  pub sound : IsSound d
  pub epoch : d.epoch ≡ task.epoch
  pub campaign : d.campaign ≡ task.campaign
  pub steps : d.steps ≡ task.steps
  pub told : IsTold d (told_by attempts)
  pub stands : StandsFor d (replies_by attempts)
  pub within : IsWithin d.round d.progress
  pub count : d.number + (if d.is_open then 1 else 0) ≡ task.first + length (sent_by attempts)
  pub numbered : AreNumbered task.epoch task.first (sent_by attempts)
  pub below : ToldBelow task.epoch d.number (told_by attempts)
  pub pending : OpenAt lent d.is_open d (sent_by attempts)
  pub follows : FollowsAt d.is_open d.round (told_by attempts) (sent_by attempts)
  pub order : IsBeforeEnd d.round → AreInOrder task.campaign attempts
  pub fit : IsBeforeEnd d.round → has_refusal (told_by attempts) ≡ false
      → AllFit (step_bytes lent task.steps) AtSync (replies_by attempts)
  pub last : LastAt d.progress attempts
  pub end : IsEndAt d.round d.progress (told_by attempts)
  pub calls : AreCallsFor task.campaign task.epoch (step_bytes lent task.steps) (decision_given d.round) attempts
  pub made : IsBeforeEnd d.round
      → AreRounds task.campaign task.epoch task.first (step_bytes lent task.steps) d.number
      (made_in (told_by attempts)) (replies_by attempts)
  pub turned : IsEndRound d.round
      → AreTurned task.campaign task.epoch task.first (step_bytes lent task.steps) (decision_given d.round) d.number
      (made_in (told_by attempts)) (made_early (told_by attempts)) (made_late (told_by attempts))
      (sent_early (sent_by attempts))
  pub heard : IsBeforeEnd d.round → closed_of d.is_open (sent_by attempts) ≡ answered_in (told_by attempts)
  pub messages : IsEndRound d.round
      → AreSentInTurn (decision_given d.round) task.campaign (step_bytes lent task.steps) (told_by attempts)
      (sent_by attempts)

-- numbers and what was told

pub below_more : (epoch n m : ℕ) (told : List Told) → n ≤ m → ToldBelow epoch n told → ToldBelow epoch m told
below_more epoch n m [] more below = tt
below_more epoch n m (Answered x r ∷ told) more below =
    (below.0, omega (arith, below.1, more), below_more epoch n m told more below.2)
below_more epoch n m (Showed status ∷ told) more below = below_more epoch n m told more below

pub not_same : (a b : CallNo) → a.number < b.number → is_eq (call_no_cmp a b) ≡ false
not_same a b less = grind arith

pub not_epoch : (a b : CallNo) → nat_eq b.epoch a.epoch ≡ false → is_eq (call_no_cmp a b) ≡ false
not_epoch a b other = grind (arith, nat_tests)

pub is_later : (a b : CallNo) → a.epoch ≡ b.epoch → a.number < b.number → is_lt (call_no_cmp a b) ≡ true
is_later a b same less = grind arith

pub is_same : (a : CallNo) → is_eq (call_no_cmp a a) ≡ true
is_same a = grind arith

-- a number above all is of none that was told
pub untold : (epoch : ℕ) (at : CallNo) (told : List Told) → ToldBelow epoch at.number told
    → told_reply told at ≡ None
untold epoch at [] below = refl
untold epoch at (Answered m r ∷ told) below =
    ap (λ b. if b then Some r else told_reply told at) (not_same m.at at below.1) ∙ untold epoch at told below.2
untold epoch at (Showed status ∷ told) below = untold epoch at told below

-- where a driver is, by its round

pub early_at_round : (r : Option Round) (p : Progress) → IsBeforeEnd r → IsWithin r p → is_ending p ≡ false
early_at_round r p rounds within = grind arith

pub not_ending : (p : Progress) → is_ending p ≡ false → IsEnding p → ⊥
not_ending p is ending = grind arith

open_round : (b : Bool) (f : Finding) (other asked : SendStep)
    → (if b then Wish.Rest f else Wish.Send other) ≡ Wish.Send asked → b ≡ false
open_round true f other asked is = absurd (cc is)
open_round false f other asked is = refl

pub within_replied : (d : DriverState) (p : Progress) (reply : Reply) (asked : SendStep) → wish_at d p ≡ Wish.Send asked
    → IsWithin d.round p → IsWithin d.round (progress_after d p reply)
within_replied d p reply asked is within = grind arith

pub within_worked : (r : Option Round) (p : Progress) (status : Status) → IsWithin r p
    → IsWithin r (settled_after p status)
within_worked r p status within = grind arith

-- the round that was before
pub rounds_before : (round : Round) (d : DriverState) → CanBegin round d → IsBeforeEnd (Some round)
    → IsBeforeEnd d.round × (d.round ≡ Some Round.Activate → ⊥)
rounds_before round d can rounds = grind arith

pub within_begun : (round : Round) (d : DriverState) → CanBegin round d → IsWithin d.round d.progress
    → IsWithin (begun round d).round (begun round d).progress
within_begun round d can within = grind arith

-- the last message, where a driver rests at its end

pub last_of : (p : Progress) (attempts : List Attempt) → IsLast attempts → LastAt p attempts
last_of p attempts last = grind arith

-- a driver that asks for something isn't at its end
pub last_asked : (d : DriverState) (p : Progress) (attempts : List Attempt)
    → ((call_no : CallNo) → wish_at d p ≡ Wish.Rest (Finding.Ended call_no) → ⊥) → LastAt p attempts
last_asked d Progress.Sync attempts asks = tt
last_asked d Progress.Transfer attempts asks = tt
last_asked d (Progress.Data id counter left) attempts asks = tt
last_asked d (Progress.Process taken settled) attempts asks = tt
last_asked d Progress.Activating attempts asks = tt
last_asked d (Progress.Voted finding) attempts asks = tt
last_asked d (Progress.Ending commit (EndProgress.Call asked)) attempts asks = tt
last_asked d (Progress.Ending commit EndProgress.Units) attempts asks = tt
last_asked d (Progress.Ending commit (EndProgress.Delete listed place)) attempts asks = tt
last_asked d (Progress.Ending commit (EndProgress.Rest call_no)) attempts asks = absurd (asks call_no refl)

pub last_worked : (d : DriverState) (p : Progress) (status : Status) (attempts : List Attempt) → wish_at d p ≡ Wish.Unit
    → LastAt (settled_after p status) attempts
last_worked d p status attempts is = grind arith

pub last_begun : (round : Round) (d : DriverState) (attempts : List Attempt) → LastAt d.progress attempts
    → LastAt (begun round d).progress attempts
last_begun round d attempts last = grind arith

-- replies fit their calls

pub fit_snoc : (ps : List (List ℕ)) (stage : Stage) (rs : List Reply) (r : Reply) → AllFit ps stage rs
    → Fits (stage_of ps stage rs) r → AllFit ps stage (rs ++ r ∷ [])
fit_snoc ps stage [] r fit one = (one, tt)
fit_snoc ps stage (x ∷ rs) r fit one = (fit.0, fit_snoc ps (onward ps stage x) rs r fit.1 one)

-- whether a reply is of the kind that a call has
pub call_answers : Call → Reply → Bool
call_answers Call.Sync r = is_answer SendStep.Sync r
call_answers (Call.TransferStart size) r = is_answer (SendStep.Start 0) r
call_answers c r = is_answer SendStep.Activate r

pub same_answers : (lent : List (List ℕ)) (asked : SendStep) (r : Reply)
    → is_answer asked r ≡ call_answers (call_of lent asked) r
unfolding call_answers
same_answers lent SendStep.Sync r = refl
same_answers lent (SendStep.Start p) r = refl
same_answers lent (SendStep.Data p id counter) r = refl
same_answers lent (SendStep.Exit id) r = refl
same_answers lent (SendStep.Process id tag) r = refl
same_answers lent SendStep.Activate r = refl
same_answers lent SendStep.Finish r = refl
same_answers lent SendStep.Rollback r = refl
same_answers lent SendStep.Revert r = refl
same_answers lent (SendStep.Delete id) r = refl

sync_fits : (r : Reply) → is_answer SendStep.Sync r ≡ true → is_refusal r ≡ false → Fits AtSync r
sync_fits r fits accepted = grind arith

start_fits : (ids : List ℕ) (p : List ℕ) (ps : List (List ℕ)) (r : Reply) → is_answer (SendStep.Start 0) r ≡ true
    → is_refusal r ≡ false → Fits (AtStart ids (p ∷ ps)) r
start_fits ids p ps r fits accepted = grind arith

is_done_only : (r : Reply) → is_answer SendStep.Activate r ≡ true → is_refusal r ≡ false → r ≡ Done
is_done_only r fits accepted = grind arith

pub fits_call : (k : ℕ) (stage : Stage) (r : Reply) (c : Call) → call_at k stage ≡ Some c → call_answers c r ≡ true
    → is_refusal r ≡ false → Fits stage r
unfolding call_answers
fits_call k AtSync r c is fits accepted =
    let same : Call.Sync ≡ c = cc is in
    sync_fits r (subst (λ x. call_answers x r ≡ true) (sym same) fits) accepted
fits_call k (AtStart ids []) r c is fits accepted = absurd (cc is)
fits_call k (AtStart ids (p ∷ ps)) r c is fits accepted =
    let same : Call.TransferStart (length p) ≡ c = cc is in
    start_fits ids p ps r (subst (λ x. call_answers x r ≡ true) (sym same) fits) accepted
fits_call k (AtData ids id counter [] left) r c is fits accepted =
    let same : Call.TransferExit id ≡ c = cc is in
    subst (Fits (AtData ids id counter [] left))
    (sym (is_done_only r (subst (λ x. call_answers x r ≡ true) (sym same) fits) accepted)) tt
fits_call k (AtData ids id counter (b ∷ bs) left) r c is fits accepted =
    let same : Call.TransferData id counter (take block_limit (b ∷ bs)) ≡ c = cc is in
    subst (Fits (AtData ids id counter (b ∷ bs) left))
    (sym (is_done_only r (subst (λ x. call_answers x r ≡ true) (sym same) fits) accepted)) tt
fits_call k (AtProcess [] taken) r c is fits accepted = absurd (cc is)
fits_call k (AtProcess (id ∷ ids) taken) r c is fits accepted =
    let same : Call.ProcessSwPackage id k ≡ c = cc is in
    subst (Fits (AtProcess (id ∷ ids) taken))
    (sym (is_done_only r (subst (λ x. call_answers x r ≡ true) (sym same) fits) accepted)) tt
fits_call k AtActivate r c is fits accepted =
    let same : Call.Activate ≡ c = cc is in
    subst (Fits AtActivate)
    (sym (is_done_only r (subst (λ x. call_answers x r ≡ true) (sym same) fits) accepted)) tt
fits_call k Over r c is fits accepted = absurd (cc is)
fits_call k RefusedOnce r c is fits accepted = absurd (cc is)

-- the decision of the end phase
pub end_round : (r : Option Round) → IsEndRound r → (commit : Bool) × (r ≡ Some (Round.End commit))
end_round r end = grind arith

-- the attempt of this message
pub record IsNow (task : Task) (m : Message) (is_open : Bool) (attempts : List Attempt) : Type 0 where
  pub rest : List Message
  pub closed : rest ≡ closed_of is_open (sent_by attempts)
  pub sent : with_sent m (sent_by attempts) ≡ m ∷ rest
  pub count : m.at.number ≡ task.first + length rest
  pub epoch : m.at.epoch ≡ task.epoch
  pub numbered : AreNumbered task.epoch task.first rest
  pub may : MayTry m (told_by attempts) (sent_by attempts)

pub same_no : (a : CallNo) (epoch number : ℕ) → a.epoch ≡ epoch → a.number ≡ number
    → a ≡ record { epoch = epoch; number = number }
same_no a epoch number e n =
    ap (λ x. record { epoch = x; number = a.number }) e ∙ ap (λ x. record { epoch = epoch; number = x }) n

pub same_send : (a b : SendStep) → Wish.Send a ≡ Wish.Send b → a ≡ b
same_send a b is = cc is

-- what is allowed in the end phase is what the decision permits
pub permitted : (commit : Bool) (cause : Cause) (status : Option Status) (shown : Option Shown) (call : Call)
    → (is_sync call || (end_call_at (decision_of commit cause) status call || delete_at shown call)) ≡ true
    → is_permitted (Some commit) call ≡ true
permitted commit cause status shown call is = grind arith

-- before the decision no message is of the end phase
call_so_far : (k epoch : ℕ) (ps : List (List ℕ)) (b : Bool) (decision : Option Bool) (call : Call)
    (older : List Attempt) → IsCallFor k epoch ps b None call older → IsCallFor k epoch ps b decision call older
call_so_far k epoch ps false decision call older is = is
call_so_far k epoch ps true decision call older is = absurd is

pub calls_so_far : (k epoch : ℕ) (ps : List (List ℕ)) (decision : Option Bool) (attempts : List Attempt)
    → AreCallsFor k epoch ps None attempts → AreCallsFor k epoch ps decision attempts
calls_so_far k epoch ps decision [] calls = tt
calls_so_far k epoch ps decision (Tried m reply ∷ older) calls = (
  call_so_far k epoch ps m.decided decision m.call older calls.0,
  calls_so_far k epoch ps decision older calls.1,
)
calls_so_far k epoch ps decision (Worked status ∷ older) calls = calls_so_far k epoch ps decision older calls

pub none_given : (round : Round) (d : DriverState) → CanBegin round d → decision_given d.round ≡ None
none_given Round.Sync d can = ap decision_given can
none_given Round.Transfer d can = ap decision_given can.round
none_given Round.Process d can = ap decision_given can.round
none_given Round.Activate d can = ap decision_given can.round
none_given (Round.End commit) d can = before d.round can
  where
    before : (r : Option Round) → IsBeforeEnd r → decision_given r ≡ None
    before r rounds = grind arith

module _ (by_size : GoesBySize) (lent : List (List ℕ)) (task : Task) (d : DriverState) (tries : List Attempt)
    (kept : IsKept lent task d tries) (there : AreThere lent task.steps) (asked : SendStep)
    (wishes : wish d ≡ Wish.Send asked) where
  pub early_call : is_ending d.progress ≡ false
      → call_at task.campaign (stage_of (step_bytes lent task.steps) AtSync (replies_by tries))
      ≡ Some (call_of lent asked)
  early_call early =
      subst
      (λ k. call_at k (stage_of (step_bytes lent task.steps) AtSync (replies_by tries)) ≡ Some (call_of lent asked))
      kept.campaign
      (subst
      (λ steps. call_at d.campaign (stage_of (step_bytes lent steps) AtSync (replies_by tries))
      ≡ Some (call_of lent asked))
      kept.steps
      (asks_next by_size lent d (replies_by tries) kept.sound kept.stands (subst (AreThere lent) (sym kept.steps) there)
      (not_ending d.progress early) asked wishes))

  call_for : (p : Progress) → d.progress ≡ p
      → IsCallFor task.campaign task.epoch (step_bytes lent task.steps) (is_ending p) (decision_given d.round)
      (call_of lent asked) tries
  call_for Progress.Sync here = early_call (ap is_ending here)
  call_for Progress.Transfer here = early_call (ap is_ending here)
  call_for (Progress.Data id counter left) here = early_call (ap is_ending here)
  call_for (Progress.Process taken settled) here = early_call (ap is_ending here)
  call_for Progress.Activating here = early_call (ap is_ending here)
  call_for (Progress.Voted finding) here = early_call (ap is_ending here)
  call_for (Progress.Ending commit at) here =
      let call = call_of lent asked in
      subst
      (λ r. IsCallFor task.campaign task.epoch (step_bytes lent task.steps) true (decision_given r) call tries)
      (sym (subst (IsWithin d.round) here kept.within))
      (subst (λ k. IsEndCall commit k task.epoch (told_by tries) call) kept.campaign
      (subst (λ e. IsEndCall commit d.campaign e (told_by tries) call) kept.epoch
      (late_told lent d (told_by tries) commit at here kept.sound kept.told asked wishes)))

  -- what is asked is a call for the attempts before it
  pub is_call_for : IsCallFor task.campaign task.epoch (step_bytes lent task.steps) (is_ending d.progress)
      (decision_given d.round) (call_of lent asked) tries
  is_call_for = call_for d.progress refl
