-- Where a driver is in the end phase, by what was told.
use Rattle.std.proofs.Common.{◌≡◌, ℕ, Bool, true, false, ◌&&◌, ◌||◌, if◌then◌else◌, nat_eq, List, [], ◌∷◌, Option, Some, None, refl, sym, ap, subst, ◌∙◌}
use Rattle.std.specs.Option.{option_or}
use Rattle.ucm_base.specs.declared.ids.CallNo.{CallNo}
use Rattle.pm_types.specs.declared.replies.Reply.{Reply}
use Rattle.pm_types.specs.declared.replies.SessionMark.{SessionMark}
use Rattle.pm_types.specs.declared.replies.Synced.{Synced as Shown}
use Rattle.pm_types.specs.declared.status.Status.{Status}
use Rattle.world.specs.Attempts.{Attempt, Tried, Worked, told_by, AreInOrder}
use Rattle.world.specs.Messages.{Message, Told, Answered, Showed, is_sync}
use Rattle.world.specs.Sends.{is_end_sync, is_masters, last_shown, shown_if}
use Rattle.sub_core.specs.declared.answers.Round.{Round}
use Rattle.sub_core.specs.declared.answers.SendStep.{SendStep}
use Rattle.sub_core.specs.declared.progress.EndProgress.{EndProgress}
use Rattle.sub_core.specs.declared.progress.Progress.{Progress}
use Rattle.sub_core.specs.declared.progress.Wish.{Wish}
use Rattle.sub_core.specs.Driving.{at_free, at_session, at_shown, at_status, begun_at, end_after, end_wish, next_no, progress_after, settled_after, wish, wish_at, CanBegin, IsBeforeEnd}
use Rattle.sub_core.specs.Ending.{end_at, has_end_answer}
use Rattle.sub_core.specs.Given.{is_ending}
use Rattle.sub_core.specs.States.{DriverState}
use Rattle.sub_core.proofs.Told.{EndTold, IsTold, ToldAt}

-- before the end no message is of the end phase

pub not_begun : (k : ℕ) (attempts : List Attempt) → AreInOrder k attempts → has_end_answer (told_by attempts) ≡ false
not_begun k [] order = refl
not_begun k (Tried m None ∷ attempts) order = not_begun k attempts order.3
not_begun k (Tried m (Some reply) ∷ attempts) order =
    ap (λ b. b || has_end_answer (told_by attempts)) order.1 ∙ not_begun k attempts order.3
not_begun k (Worked None ∷ attempts) order = not_begun k attempts order
not_begun k (Worked (Some status) ∷ attempts) order = not_begun k attempts order

first_of : (a b : Bool) → (a || b) ≡ false → a ≡ false
first_of true b is = absurd (cc is)
first_of false b is = refl

-- and the end begins with a Sync
pub at_begin : (commit : Bool) (told : List Told) → has_end_answer told ≡ false
    → end_at commit told ≡ EndProgress.Call SendStep.Sync
at_begin commit [] is = refl
at_begin commit (Answered m reply ∷ told) is =
    ap (λ b. if b then end_after commit m.at (end_at commit told) reply else EndProgress.Call SendStep.Sync)
    (first_of m.decided (has_end_answer told) is)
at_begin commit (Showed status ∷ told) is =
    ap (λ b. if b then at_status commit status else EndProgress.Call SendStep.Sync) is

never : (a c : Bool) → (a && (false && c)) ≡ false
never true c = refl
never false c = refl

begun_if : (k epoch : ℕ) (m : Message) (reply : Reply) (told : List Told) (x : Shown) (b : Bool) → m.decided ≡ b
    → (last_shown k epoch told ≡ Some x → has_end_answer told ≡ true)
    → last_shown k epoch (Answered m reply ∷ told) ≡ Some x → (b || has_end_answer told) ≡ true
begun_if k epoch m reply told x true decided older is = refl
begun_if k epoch m reply told x false early older is =
    let none : is_end_sync k epoch m ≡ false =
    ap (λ b. is_sync m.call && (b && (nat_eq m.campaign k && nat_eq m.at.epoch epoch))) early
    ∙ never (is_sync m.call) (nat_eq m.campaign k && nat_eq m.at.epoch epoch) in
    older (sym (ap (λ b. option_or (shown_if b reply) (last_shown k epoch told)) none) ∙ is)

-- a Sync of the end phase was answered, where one showed something
pub begun_of : (k epoch : ℕ) (told : List Told) (x : Shown) → last_shown k epoch told ≡ Some x
    → has_end_answer told ≡ true
begun_of k epoch [] x is = absurd (cc is)
begun_of k epoch (Showed status ∷ told) x is = begun_of k epoch told x is
begun_of k epoch (Answered m reply ∷ told) x is =
    begun_if k epoch m reply told x m.decided refl (begun_of k epoch told x) is

-- what is kept of a driver in the end phase, by its round
abbrev pub IsEndAt : Option Round → Progress → List Told → Type 0
IsEndAt r p told = (commit : Bool) → r ≡ Some (Round.End commit) → p ≡ Progress.Ending commit (end_at commit told)

pub end_replied : (d : DriverState) (m : Message) (reply : Reply) (told : List Told) → m.at ≡ next_no d
    → m.decided ≡ is_ending d.progress → IsEndAt d.round d.progress told
    → IsEndAt d.round (progress_after d d.progress reply) (Answered m reply ∷ told)
end_replied d m reply told at decided end commit here =
    let is = end commit here in
    let at_end : EndProgress = end_at commit told in
    ap (λ p. progress_after d p reply) is
    ∙ (ap (λ n. Progress.Ending commit (end_after commit n at_end reply)) (sym at)
    ∙ sym (ap
    (λ b. Progress.Ending commit
    (if b then end_after commit m.at at_end reply else EndProgress.Call SendStep.Sync))
    (decided ∙ ap is_ending is)))

-- the node works only after its session was shown
units_owned : (k epoch : ℕ) (commit : Bool) (at : EndProgress) (told : List Told) → end_wish at ≡ Wish.Unit
    → EndTold k epoch commit at told → has_end_answer told ≡ true
units_owned k epoch commit (EndProgress.Call asked) told is t = absurd (cc is)
units_owned k epoch commit EndProgress.Units told is t = begun_of k epoch told t.shown t.last
units_owned k epoch commit (EndProgress.Delete listed place) told is t = absurd (cc is)
units_owned k epoch commit (EndProgress.Rest call_no) told is t = absurd (cc is)

pub end_worked : (d : DriverState) (status : Status) (told : List Told) → wish d ≡ Wish.Unit → IsTold d told
    → IsEndAt d.round d.progress told → IsEndAt d.round (settled_after d.progress status) (Showed status ∷ told)
end_worked d status told wishes t end commit here =
    let is = end commit here in
    let begun = units_owned d.campaign d.epoch commit (end_at commit told) told
    (sym (ap (wish_at d) is) ∙ wishes) (subst (λ p. ToldAt d.campaign d.epoch p told) is t) in
    ap (λ p. settled_after p status) is
    ∙ sym (ap
    (λ b. Progress.Ending commit (if b then at_status commit status else EndProgress.Call SendStep.Sync)) begun)

pub end_begins : (k : ℕ) (round : Round) (d : DriverState) (attempts : List Attempt) → CanBegin round d
    → (IsBeforeEnd d.round → AreInOrder k attempts)
    → IsEndAt (Some round) (begun_at round d.progress) (told_by attempts)
end_begins k Round.Sync d attempts can order commit here = absurd (cc here)
end_begins k Round.Transfer d attempts can order commit here = absurd (cc here)
end_begins k Round.Process d attempts can order commit here = absurd (cc here)
end_begins k Round.Activate d attempts can order commit here = absurd (cc here)
end_begins k (Round.End c) d attempts can order commit here =
    let same : c ≡ commit = cc here in
    let begins = at_begin commit (told_by attempts) (not_begun k attempts (order can)) in
    ap (λ b. Progress.Ending b (EndProgress.Call SendStep.Sync)) same ∙ ap (Progress.Ending commit) (sym begins)

-- where that Sync is at rest

decided_of : (a b c : Bool) → (a && (b && c)) ≡ true → b ≡ true
decided_of true true c is = refl
decided_of true false c is = absurd (cc is)
decided_of false b c is = absurd (cc is)

pub end_sync_decided : (k epoch : ℕ) (m : Message) → is_end_sync k epoch m ≡ true → m.decided ≡ true
end_sync_decided k epoch m is =
    decided_of (is_sync m.call) m.decided (nat_eq m.campaign k && nat_eq m.at.epoch epoch) is

rest_free : (call_no : CallNo) (ids : List ℕ) → ids ≡ [] → at_free call_no ids ≡ EndProgress.Rest call_no
rest_free call_no ids none = ap (at_free call_no) none

rest_owned : (commit : Bool) (call_no : CallNo) (mark : SessionMark) (ids : List ℕ) (b : Bool) → b ≡ false → ids ≡ []
    → (if b then at_status commit mark.status else at_free call_no ids) ≡ EndProgress.Rest call_no
rest_owned commit call_no mark ids true is none = absurd (cc is)
rest_owned commit call_no mark ids false is none = rest_free call_no ids none

rest_session : (commit : Bool) (call_no : CallNo) (session : Option SessionMark) (ids : List ℕ)
    → is_masters session ≡ false → ids ≡ [] → at_session commit call_no session ids ≡ EndProgress.Rest call_no
rest_session commit call_no None ids free none = rest_free call_no ids none
rest_session commit call_no (Some mark) ids free none =
    rest_owned commit call_no mark ids (nat_eq mark.owner 0) free none

pub rest_shown : (commit : Bool) (call_no : CallNo) (x : Shown) → is_masters x.session ≡ false → x.transfers ≡ []
    → at_shown commit call_no x ≡ EndProgress.Rest call_no
rest_shown commit call_no x free none = rest_session commit call_no x.session x.transfers free none
