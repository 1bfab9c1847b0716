-- The laws of drivers, over whatever they are given.
use Rattle.std.proofs.Common.{◌≡◌, ℕ, ◌<◌, Bool, true, false, if◌then◌else◌, List, [], ◌∷◌, ◌++◌, Some, None, is_some, refl, sym, ap, subst, ◌∙◌, arith}
use Rattle.std.proofs.lemmas.Bool.Decides.{nat_tests}
use Rattle.world.specs.Attempts.{Attempt, Tried, Worked}
use Rattle.world.specs.Messages.{Message}
use Rattle.world.specs.RoundsBySize.{GoesBySize}
use Rattle.sub_core.specs.declared.answers.Got.{Got}
use Rattle.sub_core.specs.declared.answers.SendStep.{SendStep}
use Rattle.sub_core.specs.declared.answers.Todo.{Todo}
use Rattle.sub_core.specs.declared.progress.Wish.{Wish}
use Rattle.pm_types.specs.declared.replies.Reply.{Reply}
use Rattle.sub_core.specs.Driving.{after_send, after_todo, after_unit, begun, fresh, has_number, is_answer, is_missed, is_numbered, missed, next_no, opened, replied, status_of, step, todo, todo_for, unanswered, unanswered_at, unreached, wish, worked}
use Rattle.sub_core.specs.Evidence.{AreVain, IsVain, misses_in}
use Rattle.sub_core.specs.Given.{AreGiven, Begun, Gave, GaveNothing, Given, IsTask, MayBe, Task, after, attempts, given, is_asked, message_of, reply_got, status_got, with_answer, with_given, with_none}
use Rattle.sub_core.specs.States.{DriverState, IsSound, number_limit}
use Rattle.sub_core.proofs.Kept.{HasRow, IsKept, plain}
use Rattle.sub_core.proofs.Attempted.{kept_opened, kept_replied}
use Rattle.sub_core.proofs.Begins.{kept_begun, kept_fresh, kept_idle, kept_missed, kept_worked}

-- what a driver asks for, by what it wishes

-- a call, or a unit
pub data Wishes (d : DriverState) : Todo → Type 0 where
  ToSend : (asked : SendStep) → wish d ≡ Wish.Send asked → is_missed d ≡ false
      → Wishes d (Todo.Send (next_no d) asked)
  ToWork : wish d ≡ Wish.Unit → is_missed d ≡ false → Wishes d Todo.Unit

wishes_if : (d : DriverState) (w : Wish) (b : Bool) → wish d ≡ w → is_missed d ≡ b → is_asked (todo_for d w) ≡ true
    → Wishes d (todo_for d w)
wishes_if d (Wish.Rest finding) b here is asks = absurd (cc asks)
wishes_if d (Wish.Send asked) true here is asks =
    absurd (cc (sym (ap (λ b. is_asked (if b then Todo.Rest (unreached d.misses) else Todo.Send (next_no d) asked)) is)
    ∙ asks))
wishes_if d (Wish.Send asked) false here is asks =
    subst (λ b. Wishes d (if b then Todo.Rest (unreached d.misses) else Todo.Send (next_no d) asked)) (sym is)
    (ToSend asked here is)
wishes_if d Wish.Unit true here is asks =
    absurd (cc (sym (ap (λ b. is_asked (if b then Todo.Rest (unreached d.misses) else Todo.Unit)) is) ∙ asks))
wishes_if d Wish.Unit false here is asks =
    subst (λ b. Wishes d (if b then Todo.Rest (unreached d.misses) else Todo.Unit)) (sym is) (ToWork here is)

pub wishes_of : (d : DriverState) → is_asked (todo d) ≡ true → Wishes d (todo d)
wishes_of d asks = wishes_if d (wish d) (is_missed d) refl refl asks

plain_clean : (d : DriverState) (w : Wish) → d.misses ≡ [] → todo_for d w ≡ plain d w
plain_clean d w clean = grind arith

-- where the misses are emptied, a row begins
clean_row : (task : Task) (d : DriverState) (gs : List Given) → after task gs ≡ d → d.misses ≡ [] → HasRow task d gs
clean_row task d gs here clean = record {
  row = [];
  older = gs;
  split = refl;
  asked = ap todo here ∙ plain_clean d (wish d) clean;
  vain = tt;
  rises = sym clean;
}

-- what is kept of a driver and of its row of misses
pub record Stands (lent : List (List ℕ)) (task : Task) (gs : List Given) : Type 0 where
  pub kept : IsKept lent task (after task gs) (attempts lent task gs)
  pub row : HasRow task (after task gs) gs

module _ (by_size : GoesBySize) (lent : List (List ℕ)) (task : Task) (is : IsTask lent task) (gs : List Given)
    (so_far : Stands lent task gs) where
  abbrev d : DriverState
  d = after task gs

  abbrev tries : List Attempt
  tries = attempts lent task gs

  -- a driver that was given one thing more
  record IsNext (g : Given) (e : DriverState) (now : List Attempt) : Type 0 where
    kept : IsKept lent task e now
    row : HasRow task e (g ∷ gs)

  -- one more in the row
  vain_more : (g : Given) → todo d ≡ plain d (wish d) → IsVain (plain d (wish d)) g
      → AreVain task so_far.row.older (todo (after task so_far.row.older)) (g ∷ so_far.row.row)
  vain_more g asks vain = grind arith

  -- no answer, and no miss
  row_same : (g : Given) (e : DriverState) → plain e (wish e) ≡ plain d (wish d) → todo d ≡ plain d (wish d)
      → IsVain (plain d (wish d)) g → ((ms : List Given) → misses_in (g ∷ ms) ≡ misses_in ms) → e.misses ≡ d.misses
      → HasRow task e (g ∷ gs)
  row_same g e same asks vain none misses = record {
    row = g ∷ so_far.row.row;
    older = so_far.row.older;
    split = ap (λ l. g ∷ l) so_far.row.split;
    asked = so_far.row.asked ∙ sym same;
    vain = vain_more g asks vain;
    rises = none so_far.row.row ∙ (so_far.row.rises ∙ sym misses);
  }

  row_miss : (losses faults : ℕ) (e : DriverState) → plain e (wish e) ≡ plain d (wish d) → todo d ≡ plain d (wish d)
      → IsVain (plain d (wish d)) (Gave (Got.Miss losses faults))
      → e.misses ≡ d.misses ++ record { losses = losses; faults = faults } ∷ []
      → HasRow task e (Gave (Got.Miss losses faults) ∷ gs)
  row_miss losses faults e same asks vain misses =
      let g = Gave (Got.Miss losses faults) in
      record {
        row = g ∷ so_far.row.row;
        older = so_far.row.older;
        split = ap (λ l. g ∷ l) so_far.row.split;
        asked = so_far.row.asked ∙ sym same;
        vain = vain_more g asks vain;
        rises = ap (λ l. l ++ record { losses = losses; faults = faults } ∷ []) so_far.row.rises ∙ sym misses;
      }

  module _ (asked : SendStep) (wishes : wish d ≡ Wish.Send asked) (few : is_missed d ≡ false)
      (asks : todo d ≡ Todo.Send (next_no d) asked) (left : d.number < number_limit)
      (has_begun : is_some d.round ≡ true) where
    abbrev m : Message
    m = message_of lent d (next_no d) asked

    plain_send : todo d ≡ plain d (wish d)
    plain_send = asks ∙ ap (plain d) (sym wishes)

    vain_send : (g : Given) → IsVain (Todo.Send (next_no d) asked) g → IsVain (plain d (wish d)) g
    vain_send g vain = subst (λ w. IsVain (plain d w) g) (sym wishes) vain

    next_opened : (g : Given) → IsVain (Todo.Send (next_no d) asked) g
        → ((ms : List Given) → misses_in (g ∷ ms) ≡ misses_in ms) → IsNext g (opened d) (Tried m None ∷ tries)
    next_opened g vain none = record {
      kept = kept_opened lent task d tries so_far.kept asked wishes has_begun by_size is.there left;
      row = row_same g (opened d) refl plain_send (vain_send g vain) none refl;
    }

    next_reply : (reply : Reply) (b : Bool) → is_answer asked reply ≡ b
        → given (Gave (Got.Replied reply)) d ≡ (if b then replied reply d else opened d)
        → IsNext (Gave (Got.Replied reply)) (if b then replied reply d else opened d)
        (Tried m (if b then Some reply else None) ∷ tries)
    next_reply reply true fits here = record {
      kept = kept_replied lent task d tries so_far.kept asked wishes has_begun by_size is.there reply fits left;
      row = clean_row task (replied reply d) (Gave (Got.Replied reply) ∷ gs) here refl;
    }
    next_reply reply false fits here = next_opened (Gave (Got.Replied reply)) fits (λ ms. refl)

    next_send : (got : Got) → given (Gave got) d ≡ after_send asked got d
        → IsNext (Gave got) (after_send asked got d) (Tried m (reply_got asked got) ∷ tries)
    next_send (Got.Replied reply) here = next_reply reply (is_answer asked reply) refl here
    next_send (Got.UnitOf unit) here = next_opened (Gave (Got.UnitOf unit)) refl (λ ms. refl)
    next_send (Got.Miss losses faults) here = record {
      kept = kept_missed lent task (opened d) (Tried m None ∷ tries)
          (kept_opened lent task d tries so_far.kept asked wishes has_begun by_size is.there left) losses faults few;
      row = row_miss losses faults (missed losses faults (opened d)) refl plain_send
          (vain_send (Gave (Got.Miss losses faults)) refl) refl;
    }

  module _ (wishes : wish d ≡ Wish.Unit) (few : is_missed d ≡ false) (asks : todo d ≡ Todo.Unit) where
    plain_unit : todo d ≡ plain d (wish d)
    plain_unit = asks ∙ ap (plain d) (sym wishes)

    vain_unit : (g : Given) → IsVain Todo.Unit g → IsVain (plain d (wish d)) g
    vain_unit g vain = subst (λ w. IsVain (plain d w) g) (sym wishes) vain

    next_idle : (g : Given) → IsVain Todo.Unit g → ((ms : List Given) → misses_in (g ∷ ms) ≡ misses_in ms)
        → IsNext g d (Worked None ∷ tries)
    next_idle g vain none = record {
      kept = kept_idle lent task d tries so_far.kept wishes;
      row = row_same g d refl plain_unit (vain_unit g vain) none refl;
    }

    next_unit : (got : Got) → given (Gave got) d ≡ after_unit got d
        → IsNext (Gave got) (after_unit got d) (Worked (status_got got) ∷ tries)
    next_unit (Got.Replied reply) here = next_idle (Gave (Got.Replied reply)) refl (λ ms. refl)
    next_unit (Got.UnitOf unit) here = record {
      kept = kept_worked lent task d tries so_far.kept (status_of unit) wishes;
      row = clean_row task (worked (status_of unit) d) (Gave (Got.UnitOf unit) ∷ gs) here refl;
    }
    next_unit (Got.Miss losses faults) here = record {
      kept = kept_missed lent task d (Worked None ∷ tries) (kept_idle lent task d tries so_far.kept wishes) losses
          faults few;
      row = row_miss losses faults (missed losses faults d) refl plain_unit
          (vain_unit (Gave (Got.Miss losses faults)) refl) refl;
    }

  moved : (g : Given) (e f : DriverState) (now after_ : List Attempt) → e ≡ f → now ≡ after_ → IsNext g e now → IsNext g
      f after_
  moved g e f now after_ same attempts_same next =
      subst (λ x. IsNext g x after_) same (subst (IsNext g e) attempts_same next)

  number_left : (t : Todo) → has_number d ≡ true → todo d ≡ t → is_numbered t ≡ true
  number_left t has same = sym (ap is_numbered same) ∙ has

  gave : (t : Todo) (got : Got) → Wishes d t → todo d ≡ t → has_number d ≡ true → is_some d.round ≡ true
      → IsNext (Gave got) (step got d) (with_answer lent d (todo d) got tries)
  gave t got (ToSend asked wishes few) same has has_begun =
      let here : step got d ≡ after_send asked got d =
      ap (λ b. if b then after_todo (todo d) got d else d) has ∙ ap (λ x. after_todo x got d) same in
      moved (Gave got) (after_send asked got d) (step got d) _ _ (sym here)
      (ap (λ x. with_answer lent d x got tries) (sym same))
      (next_send asked wishes few same (grind (arith, nat_tests, number_left t has same)) has_begun got here)
  gave t got (ToWork wishes few) same has has_begun =
      let here : step got d ≡ after_unit got d =
      ap (λ b. if b then after_todo (todo d) got d else d) has ∙ ap (λ x. after_todo x got d) same in
      moved (Gave got) (after_unit got d) (step got d) _ _ (sym here)
      (ap (λ x. with_answer lent d x got tries) (sym same))
      (next_unit wishes few same got here)

  gave_nothing : (t : Todo) → Wishes d t → todo d ≡ t → has_number d ≡ true → is_some d.round ≡ true
      → IsNext GaveNothing (unanswered d) (with_none lent d (todo d) tries)
  gave_nothing t (ToSend asked wishes few) same has has_begun =
      let here : unanswered d ≡ opened d =
      ap (λ b. if b then unanswered_at (todo d) d else d) has ∙ ap (λ x. unanswered_at x d) same in
      moved GaveNothing (opened d) (unanswered d) _ _ (sym here) (ap (λ x. with_none lent d x tries) (sym same))
      (next_opened asked wishes few same (grind (arith, nat_tests, number_left t has same)) has_begun GaveNothing tt
      (λ ms. refl))
  gave_nothing t (ToWork wishes few) same has has_begun =
      let here : unanswered d ≡ d =
      ap (λ b. if b then unanswered_at (todo d) d else d) has ∙ ap (λ x. unanswered_at x d) same in
      moved GaveNothing d (unanswered d) _ _ (sym here) (ap (λ x. with_none lent d x tries) (sym same))
      (next_idle wishes few same GaveNothing tt (λ ms. refl))

  next : (g : Given) → MayBe g d → IsNext g (given g d) (with_given lent d g tries)
  next (Begun round) can = record {
    kept = kept_begun lent task d tries so_far.kept by_size is.there round can;
    row = clean_row task (begun round d) (Begun round ∷ gs) refl refl;
  }
  next (Gave got) asks = gave (todo d) got (wishes_of d asks.asked) refl asks.number asks.begun
  next GaveNothing asks = gave_nothing (todo d) (wishes_of d asks.asked) refl asks.number asks.begun

fresh_sound : (lent : List (List ℕ)) (task : Task) → IsTask lent task
    → IsSound (fresh task.epoch task.first task.campaign task.steps)
fresh_sound lent task is = record {
  some = is.some;
  numbers = omega (arith, is.numbers);
  misses = omega arith;
  placed = refl;
}

-- every driver stands for what it was given
pub stands : GoesBySize → (lent : List (List ℕ)) (task : Task) → IsTask lent task → (gs : List Given)
    → AreGiven task gs → Stands lent task gs
stands by_size lent task is [] given_ = record {
  kept = kept_fresh lent task (fresh_sound lent task is);
  row = clean_row task (after task []) [] refl refl;
}
stands by_size lent task is (g ∷ gs) given_ =
    let n = next by_size lent task is gs (stands by_size lent task is gs given_.1) g given_.0 in
    record { kept = n.kept; row = n.row }
