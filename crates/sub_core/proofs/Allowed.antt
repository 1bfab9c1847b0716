-- What was told to a driver, as answers are added.
use Rattle.std.proofs.Common.{◌≡◌, ℕ, zero, suc, ◌+◌, ◌-◌, ◌<◌, Bool, true, false, not, ◌&&◌, ◌||◌, if◌then◌else◌, ◌==◌, nat_eq, nat_lt, List, [], ◌∷◌, length, slice_index_or, Option, Some, None, refl, sym, ap, subst, ◌∙◌, arith}
use Rattle.std.specs.Option.{option_or}
use Rattle.std.specs.List.{list_any}
use Rattle.std.proofs.lemmas.Bool.Decides.{nat_tests}
use Rattle.ucm_base.specs.Limits.{block_limit}
use Rattle.ucm_base.specs.declared.ids.CallNo.{CallNo}
use Rattle.campaign_core.specs.declared.events.Cause.{Cause}
use Rattle.campaign_core.specs.declared.events.Decision.TheVariants.{Commit, Abort}
use Rattle.pm_types.specs.declared.calls.Call.{Call}
use Rattle.pm_types.specs.declared.replies.Reply.{Reply}
use Rattle.pm_types.specs.declared.replies.Reply.TheVariants.{Done, Started, Synced, Refused}
use Rattle.pm_types.specs.declared.replies.SessionMark.{SessionMark}
use Rattle.pm_types.specs.declared.replies.Synced.{Synced as Shown}
use Rattle.pm_types.specs.declared.status.Status.{Status}
use Rattle.pm_types.specs.declared.status.Status.TheVariants.{Idle, Ready, Processing, Activating, Verifying, Activated, RollingBack, RolledBack, CleaningUp}
use Rattle.world.specs.Messages.{Message, Told, Answered, Showed, is_activate, is_done, is_process, is_status, is_sync}
use Rattle.world.specs.Sends.{activate_done, delete_at, end_call_at, has_refusal, is_end_sync, is_masters, is_settled, last_shown, last_status, session_status, lists_free, showed_after_activate, shown_if, status_of_shown}
use Rattle.sub_core.specs.declared.answers.Finding.{Finding}
use Rattle.sub_core.specs.declared.answers.Round.{Round}
use Rattle.sub_core.specs.declared.answers.SendStep.{SendStep}
use Rattle.sub_core.specs.declared.answers.Todo.{Todo}
use Rattle.sub_core.specs.declared.progress.EndProgress.{EndProgress}
use Rattle.sub_core.specs.declared.progress.Progress.{Progress}
use Rattle.sub_core.specs.declared.progress.Wish.{Wish}
use Rattle.sub_core.specs.Calls.{call_of}
use Rattle.sub_core.specs.Driving.{at_free, at_session, at_shown, at_status, begun, end_after, end_wish, is_answer, next_no, next_transfer, progress_after, round_after, round_step, settled_after, todo_for, wish, wish_at, IsEnding}
use Rattle.sub_core.specs.Given.{is_ending}
use Rattle.sub_core.specs.Sends.{IsEndCall, decision_of}
use Rattle.sub_core.specs.States.{DriverState, IsPlaced, IsPlacedEnd, IsSound, size_at}
use Rattle.sub_core.proofs.Told.{EndTold, Found, IsOwned, IsTold, ToldAt}
use Rattle.sub_core.proofs.Stages.{calls_of_wish, not_process, IsCalling}

-- either progress was told enough
told_if : (k epoch : ℕ) (b : Bool) (p q : Progress) (told : List Told) → ToldAt k epoch p told → ToldAt k epoch q told
    → ToldAt k epoch (if b then p else q) told
told_if k epoch true p q told one other = one
told_if k epoch false p q told one other = other

end_if : (k epoch : ℕ) (commit b : Bool) (p q : EndProgress) (told : List Told) → EndTold k epoch commit p told
    → EndTold k epoch commit q told → EndTold k epoch commit (if b then p else q) told
end_if k epoch commit true p q told one other = one
end_if k epoch commit false p q told one other = other

-- the status that was told leads on
told_status : (k epoch : ℕ) (commit : Bool) (status : Status) (told : List Told)
    → IsOwned k epoch told → last_status k epoch told ≡ Some status
    → EndTold k epoch commit (at_status commit status) told
told_status k epoch commit Processing told owned last = owned
told_status k epoch commit Activating told owned last = owned
told_status k epoch commit Verifying told owned last = owned
told_status k epoch commit RollingBack told owned last = owned
told_status k epoch commit CleaningUp told owned last = owned
told_status k epoch true Idle told owned last = tt
told_status k epoch true Ready told owned last = tt
told_status k epoch true Activated told owned last =
    record { owned = owned; allowed = λ cause. ap (λ s. end_call_at Commit s Call.Finish) last }
told_status k epoch true RolledBack told owned last = tt
told_status k epoch false Idle told owned last = tt
told_status k epoch false Ready told owned last = record {
  owned = owned;
  allowed = λ cause. ap (λ s. end_call_at (Abort cause) s Call.RevertProcessedSwPackages) last;
}
told_status k epoch false Activated told owned last =
    record { owned = owned; allowed = λ cause. ap (λ s. end_call_at (Abort cause) s Call.Rollback) last }
told_status k epoch false RolledBack told owned last =
    record { owned = owned; allowed = λ cause. ap (λ s. end_call_at (Abort cause) s Call.Finish) last }

pub not_unit : (b : Bool) (f : Finding) (asked : SendStep)
    → (if b then Wish.Rest f else Wish.Send asked) ≡ Wish.Unit → ⊥
not_unit true f asked is = cc is
not_unit false f asked is = cc is

-- a unit's status was told
pub told_worked : (k epoch : ℕ) (d : DriverState) (p : Progress) (status : Status) (told : List Told)
    → wish_at d p ≡ Wish.Unit → ToldAt k epoch p told → ToldAt k epoch (settled_after p status) (Showed status ∷ told)
told_worked k epoch d p status told is t = grind arith

module _ (k epoch : ℕ) (commit : Bool) (call_no : CallNo) (m : Message) (x : Shown) (told : List Told)
    (of_end : is_end_sync k epoch m ≡ true) (at_no : m.at ≡ call_no) where
  last_is : last_shown k epoch (Answered m (Synced x) ∷ told) ≡ Some x
  last_is = ap (λ b. option_or (shown_if b (Synced x)) (last_shown k epoch told)) of_end

  status_is : last_status k epoch (Answered m (Synced x) ∷ told) ≡ Some (session_status x.session)
  status_is = ap (λ b. option_or (status_of_shown (shown_if b (Synced x))) (last_status k epoch told)) of_end

  told_free : (ids : List ℕ) → is_masters x.session ≡ false → x.transfers ≡ ids
      → EndTold k epoch commit (at_free call_no ids) (Answered m (Synced x) ∷ told)
  told_free [] free same = record {
    shown = x;
    newest = record { message = m; older = told; is = refl; at = at_no };
    of_end = of_end;
    session = free;
    transfers = same;
  }
  told_free (id ∷ ids) free same = record { shown = x; last = last_is; session = free; transfers = same }

  told_owned : (mark : SessionMark) (b : Bool) → nat_eq mark.owner 0 ≡ b → x.session ≡ Some mark
      → EndTold k epoch commit (if b then at_status commit mark.status else at_free call_no x.transfers)
      (Answered m (Synced x) ∷ told)
  told_owned mark true owned same =
      told_status k epoch commit mark.status (Answered m (Synced x) ∷ told)
      (record { shown = x; last = last_is; session = ap is_masters same ∙ owned })
      (status_is ∙ ap (λ s. Some (session_status s)) same)
  told_owned mark false owned same = told_free x.transfers (ap is_masters same ∙ owned) refl

  told_session : (s : Option SessionMark) → x.session ≡ s
      → EndTold k epoch commit (at_session commit call_no s x.transfers) (Answered m (Synced x) ∷ told)
  told_session None same = told_free x.transfers (ap is_masters same) refl
  told_session (Some mark) same = told_owned mark (nat_eq mark.owner 0) refl same

  -- a Sync of the end phase was answered
  told_shown : EndTold k epoch commit (at_shown commit call_no x) (Answered m (Synced x) ∷ told)
  told_shown = told_session x.session refl

-- before a call of the end phase that is done the last Sync showed a session of the master
owned_of : (k epoch : ℕ) (commit : Bool) (a : SendStep) (told : List Told) → is_answer a Done ≡ true
    → EndTold k epoch commit (EndProgress.Call a) told → IsOwned k epoch told
owned_of k epoch commit a told fits t = grind arith

sync_only : (a : SendStep) (x : Shown) → is_answer a (Synced x) ≡ true → a ≡ SendStep.Sync
sync_only a x fits = grind arith

none_starts : (a : SendStep) (n : ℕ) → IsPlacedEnd (EndProgress.Call a) → is_answer a (Started n) ≡ true → ⊥
none_starts a n placed fits = grind arith

shown_done : (b : Bool) (o : Option Shown) → option_or (shown_if b Done) o ≡ o
shown_done true o = refl
shown_done false o = refl

same_number : (n : ℕ) → nat_eq n n ≡ true
same_number n = grind (arith, nat_tests)

both_same : (k epoch : ℕ) → (nat_eq k k && nat_eq epoch epoch) ≡ true
both_same k epoch = ap (λ b. b && nat_eq epoch epoch) (same_number k) ∙ same_number epoch

module _ (packages : List (List ℕ)) (d : DriverState) (told : List Told) where
  -- the message of a call of the end phase
  abbrev end_message : SendStep → Message
  end_message asked =
      record { at = next_no d; call = call_of packages asked; campaign = d.campaign; decided = true }

  end_called : (commit : Bool) (a : SendStep) (reply : Reply) → IsPlacedEnd (EndProgress.Call a)
      → is_answer a reply ≡ true → EndTold d.campaign d.epoch commit (EndProgress.Call a) told
      → EndTold d.campaign d.epoch commit (end_after commit (next_no d) (EndProgress.Call a) reply)
      (Answered (end_message a) reply ∷ told)
  end_called commit a (Refused why) placed fits t = tt
  end_called commit a Done placed fits t =
      let owned = owned_of d.campaign d.epoch commit a told fits t in
      record {
        shown = owned.shown;
        last = shown_done (is_end_sync d.campaign d.epoch (end_message a)) (last_shown d.campaign d.epoch told)
            ∙ owned.last;
        session = owned.session;
      }
  end_called commit a (Synced x) placed fits t =
      told_shown d.campaign d.epoch commit (next_no d) (end_message a) x told
      (subst
      (λ s. is_end_sync d.campaign d.epoch (end_message s) ≡ true)
      (sym (sync_only a x fits))
      (both_same d.campaign d.epoch))
      refl
  end_called commit a (Started n) placed fits t = absurd (none_starts a n placed fits)

  end_deleted : (commit : Bool) (listed : List ℕ) (place id : ℕ) (reply : Reply)
      → is_answer (SendStep.Delete id) reply ≡ true
      → EndTold d.campaign d.epoch commit (EndProgress.Delete listed place) told
      → EndTold d.campaign d.epoch commit (end_after commit (next_no d) (EndProgress.Delete listed place) reply)
      (Answered (end_message (SendStep.Delete id)) reply ∷ told)
  end_deleted commit listed place id (Refused why) fits t = tt
  end_deleted commit listed place id Done fits t =
      end_if d.campaign d.epoch commit (nat_lt (suc place) (length listed)) (EndProgress.Delete listed (suc place))
      (EndProgress.Call SendStep.Sync)
      (Answered (end_message (SendStep.Delete id)) Done ∷ told)
      (record {
        shown = t.shown;
        last = shown_done (is_end_sync d.campaign d.epoch (end_message (SendStep.Delete id)))
            (last_shown d.campaign d.epoch told)
            ∙ t.last;
        session = t.session;
        transfers = t.transfers;
      })
      tt
  end_deleted commit listed place id (Synced x) fits t = absurd (cc fits)
  end_deleted commit listed place id (Started n) fits t = absurd (cc fits)

  end_replied : (commit : Bool) (at : EndProgress) (reply : Reply) (asked : SendStep) → IsPlacedEnd at
      → end_wish at ≡ Wish.Send asked → is_answer asked reply ≡ true
      → EndTold d.campaign d.epoch commit at told
      → EndTold d.campaign d.epoch commit (end_after commit (next_no d) at reply)
      (Answered (end_message asked) reply ∷ told)
  end_replied commit (EndProgress.Call a) reply asked placed is fits t =
      let same : a ≡ asked = cc is in
      subst
      (λ s. EndTold d.campaign d.epoch commit (end_after commit (next_no d) (EndProgress.Call a) reply)
      (Answered (end_message s) reply ∷ told))
      same
      (end_called commit a reply placed (subst (λ s. is_answer s reply ≡ true) (sym same) fits) t)
  end_replied commit EndProgress.Units reply asked placed is fits t = absurd (cc is)
  end_replied commit (EndProgress.Delete listed place) reply asked placed is fits t =
      let same : SendStep.Delete (slice_index_or listed place 0) ≡ asked = cc is in
      subst
      (λ s. EndTold d.campaign d.epoch commit (end_after commit (next_no d) (EndProgress.Delete listed place) reply)
      (Answered (end_message s) reply ∷ told))
      same
      (end_deleted commit listed place (slice_index_or listed place 0) reply
      (subst (λ s. is_answer s reply ≡ true) (sym same) fits)
      t)
  end_replied commit (EndProgress.Rest call_no) reply asked placed is fits t = absurd (cc is)

settled_bare : (m : Message) (r : Reply) (told : List Told) → is_process m.call ≡ false
    → is_settled (Answered m r ∷ told) ≡ is_settled told
settled_bare m r told is = ap (λ b. if b && is_done r then false else is_settled told) is

activate_bare : (m : Message) (r : Reply) (told : List Told) → is_activate m.call ≡ false
    → activate_done (Answered m r ∷ told) ≡ activate_done told
activate_bare m r told is = ap (λ b. (b && is_done r) || activate_done told) is

data_no_activate : (packages : List (List ℕ)) (b : Bool) (id p counter : ℕ)
    → is_activate (call_of packages (if b then SendStep.Exit id else SendStep.Data p id counter)) ≡ false
data_no_activate packages true id p counter = refl
data_no_activate packages false id p counter = refl

-- before Activate is done nothing was told after it
none_after : (x : Status) (told : List Told) → activate_done told ≡ false → showed_after_activate x told ≡ false
none_after x [] none = refl
none_after x (Showed s ∷ told) none =
    ap (λ b. (is_status s x && b) || showed_after_activate x told) none
    ∙ (ap (λ b. b || showed_after_activate x told) (and_none (is_status s x)) ∙ none_after x told none)
  where
    and_none : (b : Bool) → (b && false) ≡ false
    and_none true = refl
    and_none false = refl
none_after x (Answered m r ∷ told) none = none_after x told (or_none (is_activate m.call && is_done r) _ none)
  where
    or_none : (a b : Bool) → (a || b) ≡ false → b ≡ false
    or_none true b is = absurd (cc is)
    or_none false b is = is

data_bare : (packages : List (List ℕ)) (b : Bool) (id p counter : ℕ)
    → is_process (call_of packages (if b then SendStep.Exit id else SendStep.Data p id counter)) ≡ false
data_bare packages true id p counter = refl
data_bare packages false id p counter = refl

data_answers : (b : Bool) (id p counter : ℕ) (r : Reply)
    → is_answer (if b then SendStep.Exit id else SendStep.Data p id counter) r ≡ is_answer SendStep.Activate r
data_answers true id p counter r = refl
data_answers false id p counter r = refl

module _ (packages : List (List ℕ)) (k epoch : ℕ) (d : DriverState) (m : Message) (told : List Told)
    (at_no : m.at ≡ next_no d) where
  process_told : (taken : ℕ) (settled b : Bool) (id tag : ℕ)
      → m.call ≡ call_of packages (if b then SendStep.Process id tag else SendStep.Activate)
      → ToldAt k epoch (Progress.Process taken settled) told
      → ToldAt k epoch (if b then Progress.Process (suc taken) false else Progress.Activating) (Answered m Done ∷ told)
  process_told taken settled true id tag call t = (
    t.0,
    ap (λ c. if is_process c && true then false else is_settled told) call,
    activate_bare m Done told (ap is_activate call) ∙ t.2,
  )
  process_told taken settled false id tag call t = (
    ap (λ c. (is_activate c && true) || activate_done told) call,
    t.0,
    none_after Activated told t.2,
    none_after RolledBack told t.2,
  )

  -- a call of the rounds was answered
  told_called : (p : Progress) (reply : Reply) → IsCalling p → is_answer (round_step d p) reply ≡ true
      → m.call ≡ call_of packages (round_step d p) → ToldAt k epoch p told
      → ToldAt k epoch (round_after d p reply) (Answered m reply ∷ told)
  told_called Progress.Sync (Refused why) calling fits call t =
      record { message = m; older = told; is = refl; at = at_no }
  told_called Progress.Transfer (Refused why) calling fits call t =
      record { message = m; older = told; is = refl; at = at_no }
  told_called (Progress.Data id counter left) (Refused why) calling fits call t =
      record { message = m; older = told; is = refl; at = at_no }
  told_called (Progress.Process taken settled) (Refused why) calling fits call t =
      record { message = m; older = told; is = refl; at = at_no }
  told_called Progress.Activating (Refused why) calling fits call t = absurd calling
  told_called (Progress.Voted finding) (Refused why) calling fits call t = absurd calling
  told_called (Progress.Ending commit at) (Refused why) calling fits call t = absurd calling
  told_called Progress.Sync (Synced x) calling fits call t = (
    t.0,
    settled_bare m (Synced x) told (ap is_process call) ∙ t.1,
    activate_bare m (Synced x) told (ap is_activate call) ∙ t.2,
  )
  told_called Progress.Sync Done calling fits call t = absurd (cc fits)
  told_called Progress.Sync (Started n) calling fits call t = absurd (cc fits)
  told_called Progress.Transfer (Started n) calling fits call t = (
    t.0,
    settled_bare m (Started n) told (ap is_process call) ∙ t.1,
    activate_bare m (Started n) told (ap is_activate call) ∙ t.2,
  )
  told_called Progress.Transfer Done calling fits call t = absurd (cc fits)
  told_called Progress.Transfer (Synced x) calling fits call t = absurd (cc fits)
  told_called (Progress.Data id counter left) Done calling fits call t =
      let place = (size_at d.steps (length d.ids)).index in
      let settled = settled_bare m Done told (ap is_process call ∙ data_bare packages (left == 0) id place counter)
      ∙ t.1 in
      let none = activate_bare m Done told (ap is_activate call ∙ data_no_activate packages (left == 0) id place
      counter)
      ∙ t.2 in
      told_if k epoch (left == 0) (next_transfer d) (Progress.Data id (counter + 1) (left - block_limit))
      (Answered m Done ∷ told)
      (told_if k epoch (nat_lt (suc (length d.ids)) (length d.steps)) Progress.Transfer (Progress.Process 0 true)
      (Answered m Done ∷ told) (t.0, settled, none) (t.0, settled, none))
      (t.0, settled, none)
  told_called (Progress.Data id counter left) (Started n) calling fits call t =
      let place = (size_at d.steps (length d.ids)).index in
      absurd (cc (sym (data_answers (left == 0) id place counter (Started n)) ∙ fits))
  told_called (Progress.Data id counter left) (Synced x) calling fits call t =
      let place = (size_at d.steps (length d.ids)).index in
      absurd (cc (sym (data_answers (left == 0) id place counter (Synced x)) ∙ fits))
  told_called (Progress.Process taken settled) Done calling fits call t =
      process_told taken settled (nat_lt taken (length d.ids)) (slice_index_or d.ids taken 0) d.campaign call t
  told_called (Progress.Process taken settled) (Started n) calling fits call t =
      absurd
      (cc (sym (not_process (nat_lt taken (length d.ids)) (slice_index_or d.ids taken 0) d.campaign (Started n))
      ∙ fits))
  told_called (Progress.Process taken settled) (Synced x) calling fits call t =
      absurd
      (cc (sym (not_process (nat_lt taken (length d.ids)) (slice_index_or d.ids taken 0) d.campaign (Synced x)) ∙ fits))
  told_called Progress.Activating Done calling fits call t = absurd calling
  told_called Progress.Activating (Started n) calling fits call t = absurd calling
  told_called Progress.Activating (Synced x) calling fits call t = absurd calling
  told_called (Progress.Voted finding) Done calling fits call t = absurd calling
  told_called (Progress.Voted finding) (Started n) calling fits call t = absurd calling
  told_called (Progress.Voted finding) (Synced x) calling fits call t = absurd calling
  told_called (Progress.Ending commit at) Done calling fits call t = absurd calling
  told_called (Progress.Ending commit at) (Started n) calling fits call t = absurd calling
  told_called (Progress.Ending commit at) (Synced x) calling fits call t = absurd calling

module _ (packages : List (List ℕ)) (d : DriverState) (told : List Told) (sound : IsSound d) where
  abbrev sent_at : Progress → SendStep → Message
  sent_at p asked =
      record { at = next_no d; call = call_of packages asked; campaign = d.campaign; decided = is_ending p }

  round_replied : (p : Progress) (reply : Reply) (asked : SendStep) → IsCalling p × (round_step d p ≡ asked)
      → is_answer asked reply ≡ true → ToldAt d.campaign d.epoch p told
      → ToldAt d.campaign d.epoch (round_after d p reply) (Answered (sent_at p asked) reply ∷ told)
  round_replied p reply asked call fits t =
      told_called packages d.campaign d.epoch d (sent_at p asked) told refl p reply call.0
      (subst (λ s. is_answer s reply ≡ true) (sym call.1) fits)
      (ap (call_of packages) (sym call.1))
      t

  pub told_replied : (p : Progress) (reply : Reply) (asked : SendStep) → IsPlaced d.steps d.ids p
      → wish_at d p ≡ Wish.Send asked → is_answer asked reply ≡ true → ToldAt d.campaign d.epoch p told
      → ToldAt d.campaign d.epoch (progress_after d p reply) (Answered (sent_at p asked) reply ∷ told)
  told_replied Progress.Sync reply asked placed is fits t =
      round_replied Progress.Sync reply asked (calls_of_wish d Progress.Sync asked is (λ e. e)) fits t
  told_replied Progress.Transfer reply asked placed is fits t =
      round_replied Progress.Transfer reply asked (calls_of_wish d Progress.Transfer asked is (λ e. e)) fits t
  told_replied (Progress.Data id counter left) reply asked placed is fits t =
      let p = Progress.Data id counter left in
      round_replied p reply asked (calls_of_wish d p asked is (λ e. e)) fits t
  told_replied (Progress.Process taken settled) reply asked placed is fits t =
      let p = Progress.Process taken settled in
      round_replied p reply asked (calls_of_wish d p asked is (λ e. e)) fits t
  told_replied Progress.Activating reply asked placed is fits t = absurd (cc is)
  told_replied (Progress.Voted finding) reply asked placed is fits t = absurd (cc is)
  told_replied (Progress.Ending commit at) reply asked placed is fits t =
      end_replied packages d told commit at reply asked placed is fits t

pub at_of_todo : (d : DriverState) (w : Wish) (at : CallNo) (asked : SendStep) → todo_for d w ≡ Todo.Send at asked
    → next_no d ≡ at
at_of_todo d w at asked is = grind arith

pub unit_of_todo : (d : DriverState) (w : Wish) → todo_for d w ≡ Todo.Unit → w ≡ Wish.Unit
unit_of_todo d w is = grind arith

pub told_begun : (d : DriverState) (told : List Told) (round : Round) → IsTold d told → IsTold (begun round d) told
told_begun d told round t = grind arith

pub early_at : (k epoch : ℕ) (d : DriverState) (p : Progress) (told : List Told) (asked : SendStep) → ToldAt k epoch p
    told
    → (IsEnding p → ⊥) → wish_at d p ≡ Wish.Send asked → (has_refusal told ≡ false) × (is_settled told ≡ true)
early_at k epoch d p told asked t early is = grind arith

or_second : (a b c : Bool) → b ≡ true → (a || (b || c)) ≡ true
or_second a b c is = grind arith

or_third : (a b c : Bool) → c ≡ true → (a || (b || c)) ≡ true
or_third a b c is = grind arith

has_place : (ids : List ℕ) (place : ℕ) → place < length ids
    → list_any (λ there. nat_eq (slice_index_or ids place 0) there) ids ≡ true
has_place [] place less = absurd (omega (arith, less))
has_place (id ∷ ids) zero less =
    ap (λ b. b || list_any (λ there. nat_eq id there) ids) (same_number id)
has_place (id ∷ ids) (suc place) less = or_last _ _ (has_place ids place (omega (arith, less)))
  where
    or_last : (a b : Bool) → b ≡ true → (a || b) ≡ true
    or_last true b is = refl
    or_last false b is = is

module _ (packages : List (List ℕ)) (k epoch : ℕ) (commit : Bool) (cause : Cause) (told : List Told) where
  -- a call that may be sent after the decision
  abbrev pub IsLate : SendStep → Type 0
  IsLate asked =
      (is_sync (call_of packages asked)
      || (end_call_at (decision_of commit cause) (last_status k epoch told) (call_of packages asked)
      || delete_at (last_shown k epoch told) (call_of packages asked)))
      ≡ true

  late_by : (asked : SendStep)
      → end_call_at (decision_of commit cause) (last_status k epoch told) (call_of packages asked) ≡ true → IsLate asked
  late_by asked is =
      or_second (is_sync (call_of packages asked)) _ (delete_at (last_shown k epoch told) (call_of packages asked)) is

  late_call : (a : SendStep) → IsPlacedEnd (EndProgress.Call a) → EndTold k epoch commit (EndProgress.Call a) told
      → IsLate a
  late_call a placed t = grind arith

  late_delete : (listed : List ℕ) (place : ℕ) → place < length listed
      → EndTold k epoch commit (EndProgress.Delete listed place) told
      → IsLate (SendStep.Delete (slice_index_or listed place 0))
  late_delete listed place less t =
      let id = slice_index_or listed place 0 in
      or_third (is_sync (Call.DeleteTransfer id))
      (end_call_at (decision_of commit cause) (last_status k epoch told) (Call.DeleteTransfer id))
      (delete_at (last_shown k epoch told) (Call.DeleteTransfer id))
      (ap (lists_free id) t.last
      ∙ (ap (λ b. not b && list_any (λ there. nat_eq id there) t.shown.transfers) t.session
      ∙ (ap (λ ids. list_any (λ there. nat_eq id there) ids) t.transfers ∙ has_place listed place less)))

  late_at : (at : EndProgress) (asked : SendStep) → IsPlacedEnd at → EndTold k epoch commit at told
      → end_wish at ≡ Wish.Send asked → IsLate asked
  late_at (EndProgress.Call a) asked placed t is =
      let same : a ≡ asked = cc is in subst IsLate same (late_call a placed t)
  late_at EndProgress.Units asked placed t is = absurd (cc is)
  late_at (EndProgress.Delete listed place) asked placed t is =
      let same : SendStep.Delete (slice_index_or listed place 0) ≡ asked = cc is in
      subst IsLate same (late_delete listed place placed t)
  late_at (EndProgress.Rest call_no) asked placed t is = absurd (cc is)

pub late_told : (packages : List (List ℕ)) (d : DriverState) (told : List Told) (commit : Bool) (end : EndProgress)
    → d.progress ≡ Progress.Ending commit end → IsSound d → IsTold d told
    → (asked : SendStep) → wish d ≡ Wish.Send asked
    → IsEndCall commit d.campaign d.epoch told (call_of packages asked)
late_told packages d told commit end here sound is_told asked is cause =
    late_at packages d.campaign d.epoch commit cause told end asked
    (subst (IsPlaced d.steps d.ids) here sound.placed)
    (subst (λ p. ToldAt d.campaign d.epoch p told) here is_told)
    (subst (λ p. wish_at d p ≡ Wish.Send asked) here is)

module _ (k epoch : ℕ) (told : List Told) where
  pub found_for : (d : DriverState) (p : Progress) (w : Wish) (f : Finding) → wish_at d p ≡ w → ToldAt k epoch p told
      → todo_for d w ≡ Todo.Rest f → Found k epoch f told
  found_for d p w f here t is = grind arith
