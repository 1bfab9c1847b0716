-- Units are asked for where they are due, and answers of another kind leave what is asked.
use Rattle.std.proofs.Common.{◌≡◌, inl, inr, Bool, true, false, ◌&&◌, ◌||◌, if◌then◌else◌, List, [], ◌∷◌, Option, Some, refl, sym, ap, subst, ◌∙◌}
use Rattle.ucm_base.specs.declared.ids.CallNo.{CallNo}
use Rattle.pm_types.specs.declared.replies.Refusal.{Refusal}
use Rattle.pm_types.specs.declared.replies.Reply.{Reply}
use Rattle.pm_types.specs.declared.replies.Reply.TheVariants.{Refused}
use Rattle.pm_types.specs.declared.status.Status.{Status}
use Rattle.pm_types.specs.declared.status.Status.TheVariants.{Activated, RolledBack}
use Rattle.world.specs.Messages.{Told, Answered, Showed, is_activate, is_done, is_status}
use Rattle.world.specs.Sends.{activate_done, has_refusal, showed_after_activate}
use Rattle.world.specs.RoundsBySize.{GoesBySize}
use Rattle.sub_core.specs.declared.answers.Finding.{Finding}
use Rattle.sub_core.specs.declared.answers.Got.{Got}
use Rattle.sub_core.specs.declared.answers.Round.{Round}
use Rattle.sub_core.specs.declared.answers.Todo.{Todo}
use Rattle.sub_core.specs.declared.progress.EndProgress.{EndProgress}
use Rattle.sub_core.specs.declared.progress.Progress.{Progress}
use Rattle.sub_core.specs.declared.progress.Wish.{Wish}
use Rattle.sub_core.specs.Driving.{after_todo, call_wish, end_wish, has_number, is_answer, is_missed, is_over, next_no, opened, replied, round_step, todo, todo_for, unanswered_at, unreached, wish, wish_at, IsBeforeEnd}
use Rattle.sub_core.specs.Ending.{end_at}
use Rattle.sub_core.specs.Evidence.{IsActivating, IsProcessing, IsUnitDue, OthersLeaveAll, UnitsAreDue, is_answer_to, is_miss}
use Rattle.sub_core.specs.Given.{after, told_of}
use Rattle.sub_core.specs.States.{DriverState}
use Rattle.sub_core.proofs.Allowed.{not_unit, unit_of_todo}
use Rattle.sub_core.proofs.Ends.{IsEndAt}
use Rattle.sub_core.proofs.Journeys.{stands}
use Rattle.sub_core.proofs.Kept.{IsWithin}
use Rattle.sub_core.proofs.Told.{IsNewest, ToldAt}

module _ (d : DriverState) where
  not_called : (p : Progress) → call_wish d p ≡ Wish.Unit → ⊥
  not_called p is = not_unit (is_over d.round d.ids p) Finding.RoundDone (round_step d p) is

  processing_due : (round : Round) (told : List Told) → IsBeforeEnd (Some round) → IsProcessing told
      → IsUnitDue round told
  processing_due Round.Sync told rounds is = is
  processing_due Round.Transfer told rounds is = is
  processing_due Round.Process told rounds is = is
  processing_due Round.Activate told rounds is = inl is
  processing_due (Round.End commit) told rounds is = absurd rounds

  -- a unit that is asked for is due
  unit_due : (round : Round) (p : Progress) (told : List Told) → IsWithin (Some round) p
      → ToldAt d.campaign d.epoch p told → IsEndAt (Some round) p told → wish_at d p ≡ Wish.Unit → IsUnitDue round told
  unit_due round Progress.Sync told within t end is = absurd (not_called Progress.Sync is)
  unit_due round Progress.Transfer told within t end is = absurd (not_called Progress.Transfer is)
  unit_due round (Progress.Data id counter left) told within t end is =
      absurd (not_called (Progress.Data id counter left) is)
  unit_due round (Progress.Process taken true) told within t end is =
      absurd (not_called (Progress.Process taken true) is)
  unit_due round (Progress.Process taken false) told within t end is = processing_due round told within t
  unit_due round Progress.Activating told within t end is =
      let here : Round.Activate ≡ round = sym (cc within) in
      subst (λ r. IsUnitDue r told) here (inr t)
  unit_due round (Progress.Voted finding) told within t end is = absurd (cc is)
  unit_due round (Progress.Ending commit at) told within t end is =
      let here : Round.End commit ≡ round = sym (cc within) in
      let same : at ≡ end_at commit told = cc (end commit within) in
      subst (λ r. IsUnitDue r told) here (sym same ∙ works at is)
    where
      works : (at : EndProgress) → end_wish at ≡ Wish.Unit → at ≡ EndProgress.Units
      works (EndProgress.Call asked) is = absurd (cc is)
      works EndProgress.Units is = refl
      works (EndProgress.Delete listed place) is = absurd (cc is)
      works (EndProgress.Rest call_no) is = absurd (cc is)

  pub refusal_told : (call_no : CallNo) (why : Refusal) (told : List Told) → IsNewest call_no (Refused why) told
      → has_refusal told ≡ true
  refusal_told call_no why told newest = ap has_refusal newest.is

  or_right : (a b : Bool) → b ≡ true → (a || b) ≡ true
  or_right true b is = refl
  or_right false b is = is

  after_if : (a b c : Bool) → (c ≡ true → b ≡ true) → ((a && b) || c) ≡ true → b ≡ true
  after_if a true c more is = refl
  after_if true false c more is = more is
  after_if false false c more is = more is

  pub after_activate : (status : Status) (told : List Told) → showed_after_activate status told ≡ true
      → activate_done told ≡ true
  after_activate status [] is = absurd (cc is)
  after_activate status (Answered m reply ∷ told) is =
      or_right (is_activate m.call && is_done reply) (activate_done told) (after_activate status told is)
  after_activate status (Showed shown ∷ told) is =
      after_if (is_status shown status) (activate_done told) (showed_after_activate status told)
      (after_activate status told) is

  -- where a package is in processing, or Activate is done, a unit is asked for
  processing_asked : (r : Option Round) (p : Progress) (told : List Told) → IsBeforeEnd r → IsWithin r p
      → ToldAt d.campaign d.epoch p told → IsProcessing told → wish_at d p ≡ Wish.Unit
  processing_asked r Progress.Sync told rounds within t due = absurd (cc (sym t.1 ∙ due.1))
  processing_asked r Progress.Transfer told rounds within t due = absurd (cc (sym t.1 ∙ due.1))
  processing_asked r (Progress.Data id counter left) told rounds within t due = absurd (cc (sym t.1 ∙ due.1))
  processing_asked r (Progress.Process taken true) told rounds within t due = absurd (cc (sym t.1 ∙ due.1))
  processing_asked r (Progress.Process taken false) told rounds within t due = refl
  processing_asked r Progress.Activating told rounds within t due = refl
  processing_asked r (Progress.Voted Finding.Yes) told rounds within t due =
      absurd (cc (sym (after_activate Activated told t.0) ∙ due.2))
  processing_asked r (Progress.Voted Finding.RolledBack) told rounds within t due =
      absurd (cc (sym (after_activate RolledBack told t.0) ∙ due.2))
  processing_asked r (Progress.Voted (Finding.Refused call_no why)) told rounds within t due =
      absurd (cc (sym (refusal_told call_no why told t) ∙ due.0))
  processing_asked r (Progress.Voted Finding.RoundDone) told rounds within t due = absurd within
  processing_asked r (Progress.Voted (Finding.Unreached losses faults)) told rounds within t due = absurd within
  processing_asked r (Progress.Voted (Finding.Ended call_no)) told rounds within t due = absurd within
  processing_asked r (Progress.Ending commit at) told rounds within t due = absurd (subst IsBeforeEnd within rounds)

  activating_asked : (r : Option Round) (p : Progress) (told : List Told) → IsBeforeEnd r → IsWithin r p
      → ToldAt d.campaign d.epoch p told → IsActivating told → wish_at d p ≡ Wish.Unit
  activating_asked r Progress.Sync told rounds within t due = absurd (cc (sym t.2 ∙ due.0))
  activating_asked r Progress.Transfer told rounds within t due = absurd (cc (sym t.2 ∙ due.0))
  activating_asked r (Progress.Data id counter left) told rounds within t due = absurd (cc (sym t.2 ∙ due.0))
  activating_asked r (Progress.Process taken settled) told rounds within t due = absurd (cc (sym t.2 ∙ due.0))
  activating_asked r Progress.Activating told rounds within t due = refl
  activating_asked r (Progress.Voted Finding.Yes) told rounds within t due = absurd (cc (sym t.0 ∙ due.2))
  activating_asked r (Progress.Voted Finding.RolledBack) told rounds within t due = absurd (cc (sym t.0 ∙ due.3))
  activating_asked r (Progress.Voted (Finding.Refused call_no why)) told rounds within t due =
      absurd (cc (sym (refusal_told call_no why told t) ∙ due.1))
  activating_asked r (Progress.Voted Finding.RoundDone) told rounds within t due = absurd within
  activating_asked r (Progress.Voted (Finding.Unreached losses faults)) told rounds within t due = absurd within
  activating_asked r (Progress.Voted (Finding.Ended call_no)) told rounds within t due = absurd within
  activating_asked r (Progress.Ending commit at) told rounds within t due = absurd (subst IsBeforeEnd within rounds)

  -- a unit that is due is asked for
  due_asked : (round : Round) (p : Progress) (told : List Told) → IsWithin (Some round) p
      → ToldAt d.campaign d.epoch p told → IsEndAt (Some round) p told → IsUnitDue round told → wish_at d p ≡ Wish.Unit
  due_asked Round.Sync p told within t end due = processing_asked (Some Round.Sync) p told tt within t due
  due_asked Round.Transfer p told within t end due = processing_asked (Some Round.Transfer) p told tt within t due
  due_asked Round.Process p told within t end due = processing_asked (Some Round.Process) p told tt within t due
  due_asked Round.Activate p told within t end (inl due) = processing_asked (Some Round.Activate) p told tt within t due
  due_asked Round.Activate p told within t end (inr due) = activating_asked (Some Round.Activate) p told tt within t due
  due_asked (Round.End commit) p told within t end due = ap (wish_at d) (end commit refl) ∙ ap end_wish due

  few_of : (w : Wish) (b : Bool) → is_missed d ≡ b → todo_for d w ≡ Todo.Unit → is_missed d ≡ false
  few_of w false is asks = is
  few_of (Wish.Rest finding) true is asks = absurd (cc asks)
  few_of (Wish.Send asked) true is asks =
      absurd (cc (sym (ap (λ b. if b then Todo.Rest (unreached d.misses) else Todo.Send (next_no d) asked) is) ∙ asks))
  few_of Wish.Unit true is asks =
      absurd (cc (sym (ap (λ b. if b then Todo.Rest (unreached d.misses) else Todo.Unit) is) ∙ asks))

pub units_are_due : GoesBySize → UnitsAreDue
units_are_due by_size lent task gs is given_ round here =
    let d = after task gs in
    let told = told_of lent task gs in
    let kept = (stands by_size lent task is gs given_).kept in
    let within = subst (λ r. IsWithin r d.progress) here kept.within in
    let end = subst (λ r. IsEndAt r d.progress told) here kept.end in (
      λ asks. (
        unit_due d round d.progress told within kept.told end (unit_of_todo d (wish d) asks),
        few_of d (wish d) (is_missed d) refl asks,
      ),
      λ due. ap (todo_for d) (due_asked d round d.progress told within kept.told end due.0)
          ∙ ap (λ b. if b then Todo.Rest (unreached d.misses) else Todo.Unit) due.1,
    )

-- answers of another kind

reply_leaves : (d : DriverState) (reply : Reply) (b : Bool) → b ≡ false
    → todo (if b then replied reply d else opened d) ≡ todo d
reply_leaves d reply true is = absurd (cc is)
reply_leaves d reply false is = refl

got_leaves : (d : DriverState) (t : Todo) (got : Got) → is_answer_to t got ≡ false → is_miss got ≡ false
    → todo (after_todo t got d) ≡ todo d
got_leaves d (Todo.Send call_no asked) (Got.Replied reply) vain missed =
    reply_leaves d reply (is_answer asked reply) vain
got_leaves d (Todo.Send call_no asked) (Got.UnitOf unit) vain missed = refl
got_leaves d (Todo.Send call_no asked) (Got.Miss losses faults) vain missed = absurd (cc missed)
got_leaves d Todo.Unit (Got.Replied reply) vain missed = refl
got_leaves d Todo.Unit (Got.UnitOf unit) vain missed = absurd (cc vain)
got_leaves d Todo.Unit (Got.Miss losses faults) vain missed = absurd (cc missed)
got_leaves d (Todo.Rest finding) got vain missed = refl

none_leaves : (d : DriverState) (t : Todo) → todo (unanswered_at t d) ≡ todo d
none_leaves d (Todo.Send call_no asked) = refl
none_leaves d Todo.Unit = refl
none_leaves d (Todo.Rest finding) = refl

leaves_if : (b : Bool) (e d : DriverState) → todo e ≡ todo d → todo (if b then e else d) ≡ todo d
leaves_if true e d same = same
leaves_if false e d same = refl

pub others_leave_all : OthersLeaveAll
others_leave_all d = (
  λ got vain missed.
      leaves_if (has_number d) (after_todo (todo d) got d) d (got_leaves d (todo d) got vain missed),
  leaves_if (has_number d) (unanswered_at (todo d) d) d (none_leaves d (todo d)),
)
