-- Which answers count, and when a driver has come to its end.
use Rattle.std.proofs.Common.{◌≡◌, inl, inr, ℕ, ◌+◌, ◌≤◌, Bool, true, false, if◌then◌else◌, List, [], ◌∷◌, length, Option, refl, subst, ap, arith}
use Rattle.std.proofs.lemmas.Bool.Decides.{nat_tests}
use Rattle.ucm_base.specs.declared.ids.CallNo.{CallNo}
use Rattle.world.specs.Messages.{Message, Told}
use Rattle.world.specs.RoundsBySize.{GoesBySize}
use Rattle.sub_core.specs.declared.answers.Round.{Round}
use Rattle.sub_core.specs.declared.answers.SendStep.{SendStep}
use Rattle.sub_core.specs.declared.answers.Todo.{Todo}
use Rattle.sub_core.specs.Counting.{AnswersAreOfKind, IsClosed, NumbersLast, RestsStay, UnitsTell}
use Rattle.sub_core.specs.declared.progress.Wish.{Wish}
use Rattle.sub_core.specs.Driving.{after_todo, has_number, is_missed, is_numbered, next_no, step, todo, todo_for, unreached, wish}
use Rattle.sub_core.specs.Given.{after, sent_of, told_of}
use Rattle.sub_core.specs.States.{DriverState, number_limit}
use Rattle.sub_core.proofs.Journeys.{stands}
use Rattle.sub_core.proofs.Kept.{FollowsAt, end_round}

pub answers_are_of_kind : AnswersAreOfKind
answers_are_of_kind lent asked reply n client = grind arith

pub units_tell : UnitsTell
units_tell n after_unit passed = (refl, refl)

rests_if : (b : Bool) (e d : DriverState) → e ≡ d → (if b then e else d) ≡ d
rests_if true e d same = same
rests_if false e d same = refl

pub rests_stay : RestsStay
rests_stay d finding got rests =
    rests_if (has_number d) (after_todo (todo d) got d) d (ap (λ t. after_todo t got d) rests)

-- only a call needs a number

wants_if : (d : DriverState) (asked : SendStep) (b : Bool)
    → is_numbered (if b then Todo.Rest (unreached d.misses) else Todo.Send (next_no d) asked) ≡ false
    → number_limit ≤ d.number
wants_if d asked true none = absurd (cc none)
wants_if d asked false none = grind (arith, nat_tests, none)

unit_wants_none : (d : DriverState) (b : Bool)
    → is_numbered (if b then Todo.Rest (unreached d.misses) else Todo.Unit) ≡ false → number_limit ≤ d.number
unit_wants_none d true none = absurd (cc none)
unit_wants_none d false none = absurd (cc none)

wants_number : (d : DriverState) (w : Wish) → is_numbered (todo_for d w) ≡ false → number_limit ≤ d.number
wants_number d (Wish.Rest finding) none = absurd (cc none)
wants_number d (Wish.Send asked) none = wants_if d asked (is_missed d) none
wants_number d Wish.Unit none = unit_wants_none d (is_missed d) none

sends_unnumbered : (asked : Todo) → is_numbered asked ≡ false
    → (call_no : CallNo) × (step : SendStep) × (asked ≡ Todo.Send call_no step)
sends_unnumbered (Todo.Send call_no step) none = (call_no, step, refl)
sends_unnumbered Todo.Unit none = absurd (cc none)
sends_unnumbered (Todo.Rest finding) none = absurd (cc none)

-- where the next number is too high, none is open
none_open : (number : ℕ) (is_open : Bool) → number + (if is_open then 1 else 0) ≤ number_limit → number_limit ≤ number
    → is_open ≡ false
none_open number true most high = absurd (omega (arith, most, high))
none_open number false most high = refl

all_used : (number sent : ℕ) (is_open : Bool) → number + (if is_open then 1 else 0) ≡ sent
    → number + (if is_open then 1 else 0) ≤ number_limit → number_limit ≤ number → sent ≡ number_limit
all_used number sent is_open count most high = grind (arith, count, most, high)

sent_early : (round : Option Round) (m : Message) (told : List Told) (sent : List Message)
    → FollowsAt false round told (m ∷ sent) → IsClosed round told (m ∷ sent)
sent_early round m told sent (inl answered) = inl answered
sent_early round m told sent (inr early) = inr (early.0, end_round round early.1)

closed_by : (round : Option Round) (told : List Told) (sent : List Message) → FollowsAt false round told sent
    → IsClosed round told sent
closed_by round told [] follows = tt
closed_by round told (m ∷ sent) follows = sent_early round m told sent follows

pub numbers_last : GoesBySize → NumbersLast
numbers_last by_size lent task gs is given_ none =
    let d = after task gs in
    let kept = (stands by_size lent task is gs given_).kept in
    let high = wants_number d (wish d) none in
    let sends = sends_unnumbered (todo d) none in
    record {
      call_no = sends.0;
      asked = sends.1;
      asks = sends.2;
      all = all_used d.number (task.first + length (sent_of lent task gs)) d.is_open kept.count kept.sound.numbers high;
      closed = closed_by d.round (told_of lent task gs) (sent_of lent task gs)
          (subst (λ b. FollowsAt b d.round (told_of lent task gs) (sent_of lent task gs))
          (none_open d.number d.is_open kept.sound.numbers high) kept.follows);
    }
