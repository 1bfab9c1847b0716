-- How the end phase goes on.
use Rattle.std.proofs.Common.{◌≡◌, ◌<◌, ℕ, zero, suc, Bool, true, false, if◌then◌else◌, is_some, List, [], ◌∷◌, length, slice_index_or, Option, Some, None, refl, ap, ◌∙◌, arith}
use Rattle.std.proofs.lemmas.Bool.Decides.{nat_tests}
use Rattle.ucm_base.specs.declared.ids.CallNo.{CallNo}
use Rattle.pm_types.specs.NodeState.{is_working}
use Rattle.pm_types.specs.declared.replies.Refusal.{Refusal}
use Rattle.pm_types.specs.declared.replies.Reply.{Reply}
use Rattle.pm_types.specs.declared.replies.SessionMark.{SessionMark}
use Rattle.pm_types.specs.declared.replies.Synced.{Synced as Shown}
use Rattle.pm_types.specs.declared.status.Status.{Status}
use Rattle.world.specs.Messages.{Message, Told, Answered, Showed}
use Rattle.world.specs.RoundsBySize.{GoesBySize}
use Rattle.world.specs.Sends.{is_end_sync, is_masters, last_shown, session_status}
use Rattle.sub_core.specs.declared.answers.SendStep.{SendStep}
use Rattle.sub_core.specs.declared.answers.Todo.{Todo}
use Rattle.sub_core.specs.declared.progress.EndProgress.{EndProgress}
use Rattle.sub_core.specs.declared.answers.Round.{Round}
use Rattle.sub_core.specs.declared.progress.Wish.{Wish}
use Rattle.sub_core.specs.Driving.{after_delete, at_free, at_session, at_shown, at_status, end_after, end_wish, is_missed, next_no, todo, todo_for, unreached}
use Rattle.sub_core.specs.Ending.{end_at, has_end_answer}
use Rattle.sub_core.specs.Given.{AreGiven, Given, IsTask, Task, after, told_of}
use Rattle.sub_core.specs.Onward.{AreDeleted, DoneLeadsToUnits, EndBeginsWithSync, EndGoesOn, GoesOn, HasFew, ListedAreDeleted, RefusalsLeadToSync, ShowsNow}
use Rattle.sub_core.specs.States.{DriverState}
use Rattle.sub_core.proofs.Ends.{begun_of, end_sync_decided}
use Rattle.sub_core.proofs.Turns.{end_is_asked}

some_shown : (o : Option Shown) → is_some o ≡ true → (x : Shown) × (o ≡ Some x)
some_shown None is = absurd (cc is)
some_shown (Some x) is = (x, refl)

owned_at : (commit : Bool) (call_no : CallNo) (session : Option SessionMark) (ids : List ℕ) (status : Status)
    → is_masters session ≡ true → session_status session ≡ status
    → at_session commit call_no session ids ≡ at_status commit status
owned_at commit call_no session ids status masters is = grind arith

free_at : (commit : Bool) (call_no : CallNo) (session : Option SessionMark) (ids : List ℕ)
    → is_masters session ≡ false → at_session commit call_no session ids ≡ at_free call_no ids
free_at commit call_no session ids free = grind arith

-- a Sync of the end phase leads to what it shows
synced_at : (k epoch : ℕ) (commit : Bool) (m : Message) (x : Shown) (told : List Told)
    → is_end_sync k epoch m ≡ true → end_at commit (Answered m (Reply.Synced x) ∷ told) ≡ at_shown commit m.at x
synced_at k epoch commit m x told of_end =
    ap (λ b. if b then at_shown commit m.at x else EndProgress.Call SendStep.Sync) (end_sync_decided k epoch m of_end)

status_at : (k epoch : ℕ) (commit : Bool) (status : Status) (told : List Told) → ShowsNow k epoch status told
    → end_at commit told ≡ at_status commit status
status_at k epoch commit status [] now = absurd now
status_at k epoch commit status (Showed s ∷ told) now =
    let x = some_shown (last_shown k epoch told) now.1 in
    ap (λ b. if b then at_status commit s else EndProgress.Call SendStep.Sync) (begun_of k epoch told x.0 x.1)
    ∙ ap (at_status commit) now.0
status_at k epoch commit status (Answered m reply ∷ told) now =
    let x = now.0 in
    ap (λ r. end_at commit (Answered m r ∷ told)) now.1
    ∙ (synced_at k epoch commit m x told now.2 ∙ owned_at commit m.at x.session x.transfers status now.3 now.4)

first_of : (call_no : CallNo) (ids : List ℕ) → 0 < length ids → at_free call_no ids ≡ EndProgress.Delete ids 0
first_of call_no [] some = absurd (omega (arith, some))
first_of call_no (id ∷ ids) some = refl

few_missed : (d : DriverState) → HasFew d → is_missed d ≡ false
few_missed d few = grind (arith, nat_tests, few)

module _ (lent : List (List ℕ)) (d : DriverState) (few : HasFew d) where
  goes_at : (commit : Bool) (status : Status) (b : Bool) → is_working status ≡ b
      → todo d ≡ todo_for d (end_wish (at_status commit status)) → GoesOn lent commit status (todo d)
  goes_at commit status b is asks = grind (arith, few_missed d few)

-- behind a status
pub end_goes_on : GoesBySize → EndGoesOn
end_goes_on by_size lent task gs is given_ commit here few status now =
    let d = after task gs in
    goes_at lent d few commit status (is_working status) refl (end_is_asked by_size lent task gs is given_ commit here
    ∙ ap (λ at. todo_for d (end_wish at)) (status_at task.campaign task.epoch commit status (told_of lent task gs) now))

-- behind deletions

more_deleted : (listed : List ℕ) (place : ℕ) → suc place < length listed
    → after_delete listed place ≡ EndProgress.Delete listed (suc place)
more_deleted listed place less = grind (arith, nat_tests, less)

all_deleted : (listed : List ℕ) (place : ℕ) → suc place ≡ length listed
    → after_delete listed place ≡ EndProgress.Call SendStep.Sync
all_deleted listed place all = grind (arith, nat_tests, all)

-- the Done of a deletion
after_one : (commit : Bool) (ids : List ℕ) (count : ℕ) (m : Message) (reply : Reply) (told : List Told)
    → reply ≡ Reply.Done → m.decided ≡ true → end_at commit told ≡ EndProgress.Delete ids count
    → end_at commit (Answered m reply ∷ told) ≡ after_delete ids count
after_one commit ids count m reply told is decided here =
    ap (λ r. end_at commit (Answered m r ∷ told)) is
    ∙ (ap (λ b. if b then end_after commit m.at (end_at commit told) Reply.Done else EndProgress.Call SendStep.Sync)
    decided
    ∙ ap (λ at. end_after commit m.at at Reply.Done) here)

module _ (k epoch : ℕ) (commit : Bool) (ids : List ℕ) where
  next_deleted : (count : ℕ) (told : List Told) → AreDeleted k epoch ids count told → count < length ids
      → end_at commit told ≡ EndProgress.Delete ids count
  next_deleted count [] are less = absurd are
  next_deleted count (Showed status ∷ told) are less = absurd are
  next_deleted zero (Answered m reply ∷ told) are less =
      let x = are.0 in
      ap (λ r. end_at commit (Answered m r ∷ told)) are.1
      ∙ (synced_at k epoch commit m x told are.2
      ∙ (free_at commit m.at x.session x.transfers are.3 ∙ (ap (at_free m.at) are.4 ∙ first_of m.at ids less)))
  next_deleted (suc count) (Answered m reply ∷ told) are less =
      after_one commit ids count m reply told are.0 are.1 (next_deleted count told are.2 (omega (arith, less)))
      ∙ more_deleted ids count less

  none_left : (count : ℕ) (told : List Told) → AreDeleted k epoch ids count told → 0 < count → count ≡ length ids
      → end_at commit told ≡ EndProgress.Call SendStep.Sync
  none_left count [] are some all = absurd are
  none_left count (Showed status ∷ told) are some all = absurd are
  none_left zero (Answered m reply ∷ told) are some all = absurd (omega (arith, some))
  none_left (suc count) (Answered m reply ∷ told) are some all =
      after_one commit ids count m reply told are.0 are.1 (next_deleted count told are.2 (omega (arith, all)))
      ∙ all_deleted ids count all

-- behind the Done of another call
done_at : (commit : Bool) (call_no : CallNo) (status : Status)
    → end_after commit call_no (at_status commit status) Reply.Done ≡ EndProgress.Units
done_at commit call_no status = grind arith

done_leads : (k epoch : ℕ) (commit : Bool) (m : Message) (status : Status) (older : List Told) → m.decided ≡ true
    → ShowsNow k epoch status older → end_at commit (Answered m Reply.Done ∷ older) ≡ EndProgress.Units
done_leads k epoch commit m status older decided now =
    ap (λ b. if b then end_after commit m.at (end_at commit older) Reply.Done else EndProgress.Call SendStep.Sync)
    decided
    ∙ (ap (λ at. end_after commit m.at at Reply.Done) (status_at k epoch commit status older now)
    ∙ done_at commit m.at status)

refused_leads : (commit : Bool) (m : Message) (why : Refusal) (older : List Told)
    → end_at commit (Answered m (Reply.Refused why) ∷ older) ≡ EndProgress.Call SendStep.Sync
refused_leads commit m why older = grind arith

-- what is asked for at a place of the end phase, where eight attempts didn't fail
module _ (d : DriverState) (few : HasFew d) where
  sends_at : (asked : SendStep) → todo_for d (Wish.Send asked) ≡ Todo.Send (next_no d) asked
  sends_at asked =
      ap (λ b. if b then Todo.Rest (unreached d.misses) else Todo.Send (next_no d) asked) (few_missed d few)

  works_at : todo_for d Wish.Unit ≡ Todo.Unit
  works_at = ap (λ b. if b then Todo.Rest (unreached d.misses) else Todo.Unit) (few_missed d few)

module _ (by_size : GoesBySize) (lent : List (List ℕ)) (task : Task) (gs : List Given) (is : IsTask lent task)
    (given_ : AreGiven task gs) (commit : Bool) (here : (after task gs).round ≡ Some (Round.End commit))
    (few : HasFew (after task gs)) where
  -- what is asked for, by where the end phase is
  asks_at : (told : List Told) (at : EndProgress) → told_of lent task gs ≡ told → end_at commit told ≡ at
      → todo (after task gs) ≡ todo_for (after task gs) (end_wish at)
  asks_at told at same leads =
      end_is_asked by_size lent task gs is given_ commit here
      ∙ ap (λ at. todo_for (after task gs) (end_wish at)) (ap (end_at commit) same ∙ leads)

begins_at : (commit : Bool) (told : List Told) → has_end_answer told ≡ false
    → end_at commit told ≡ EndProgress.Call SendStep.Sync
begins_at commit [] none = refl
begins_at commit (Answered m reply ∷ told) none = grind (arith, none)
begins_at commit (Showed status ∷ told) none = grind (arith, none)

pub end_begins_with_sync : GoesBySize → EndBeginsWithSync
end_begins_with_sync by_size lent task gs is given_ commit here few none =
    asks_at by_size lent task gs is given_ commit here few (told_of lent task gs) (EndProgress.Call SendStep.Sync) refl
    (begins_at commit (told_of lent task gs) none)
    ∙ sends_at (after task gs) few SendStep.Sync

pub listed_are_deleted : GoesBySize → ListedAreDeleted
listed_are_deleted by_size lent task gs is given_ commit here few ids count are =
    let d = after task gs in
    let told = told_of lent task gs in (
      λ less. asks_at by_size lent task gs is given_ commit here few told (EndProgress.Delete ids count) refl
          (next_deleted task.campaign task.epoch commit ids count told are less)
          ∙ sends_at d few (SendStep.Delete (slice_index_or ids count 0)),
      λ some all. asks_at by_size lent task gs is given_ commit here few told (EndProgress.Call SendStep.Sync) refl
          (none_left task.campaign task.epoch commit ids count told are some all)
          ∙ sends_at d few SendStep.Sync,
    )

pub done_leads_to_units : GoesBySize → DoneLeadsToUnits
done_leads_to_units by_size lent task gs is given_ commit here few m older told decided status now =
    asks_at by_size lent task gs is given_ commit here few (Answered m Reply.Done ∷ older) EndProgress.Units told
    (done_leads task.campaign task.epoch commit m status older decided now)
    ∙ works_at (after task gs) few

pub refusals_lead_to_sync : GoesBySize → RefusalsLeadToSync
refusals_lead_to_sync by_size lent task gs is given_ commit here few m why older told =
    asks_at by_size lent task gs is given_ commit here few (Answered m (Reply.Refused why) ∷ older)
    (EndProgress.Call SendStep.Sync) told (refused_leads commit m why older)
    ∙ sends_at (after task gs) few SendStep.Sync
