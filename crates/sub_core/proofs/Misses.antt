-- Eight misses in a row are found.
use Rattle.std.proofs.Common.{◌≡◌, ◌≤◌, Bool, true, false, if◌then◌else◌, nat_le, List, [], ◌∷◌, ◌++◌, length, min, refl, sym, ap, subst, ◌∙◌, arith, append-nil, append_assoc, length-append}
use Rattle.std.proofs.lemmas.Bool.Decides.{nat_tests}
use Rattle.ucm_base.specs.Limits.{attempt_limit}
use Rattle.world.specs.RoundsBySize.{GoesBySize}
use Rattle.sub_core.specs.declared.answers.Finding.{Finding}
use Rattle.sub_core.specs.declared.answers.Got.{Got}
use Rattle.sub_core.specs.declared.answers.Rises.{Rises}
use Rattle.sub_core.specs.declared.answers.SendStep.{SendStep}
use Rattle.sub_core.specs.declared.answers.Todo.{Todo}
use Rattle.sub_core.specs.Driving.{after_todo, is_answer, is_missed, opened, replied, todo, unanswered_at, unreached, wish}
use Rattle.sub_core.specs.Evidence.{AreVain, IsVain, UnreachedIsFound, is_answer_to, misses_in}
use Rattle.sub_core.specs.Failures.{faults_in, last_count}
use Rattle.sub_core.specs.Given.{AreGiven, Begun, Gave, GaveNothing, Given, MayBe, Task, after, given, is_asked}
use Rattle.sub_core.specs.States.{DriverState}
use Rattle.sub_core.proofs.Journeys.{Wishes, stands, wishes_of}

-- no answer leaves what is asked, and a miss is kept
record Waits (d e : DriverState) (ms : List Rises) : Type 0 where
  wish : wish e ≡ wish d
  misses : e.misses ≡ d.misses ++ ms

waits_same : (d e : DriverState) → wish e ≡ wish d → e.misses ≡ d.misses → Waits d e []
waits_same d e wishes misses = record { wish = wishes; misses = misses ∙ sym (append-nil d.misses) }

waits_reply : (d : DriverState) (asked : SendStep) (b : Bool) (e : DriverState) → b ≡ false
    → Waits d (if b then e else opened d) []
waits_reply d asked true e is = absurd (cc is)
waits_reply d asked false e is = waits_same d (opened d) refl refl

waits_got : (d : DriverState) (t : Todo) (got : Got) → is_asked t ≡ true → is_answer_to t got ≡ false
    → Waits d (after_todo t got d) (misses_in (Gave got ∷ []))
waits_got d (Todo.Send call_no asked) (Got.Replied reply) asks vain =
    waits_reply d asked (is_answer asked reply) (replied reply d) vain
waits_got d (Todo.Send call_no asked) (Got.UnitOf unit) asks vain = waits_same d (opened d) refl refl
waits_got d (Todo.Send call_no asked) (Got.Miss losses faults) asks vain = record { wish = refl; misses = refl }
waits_got d Todo.Unit (Got.Replied reply) asks vain = waits_same d d refl refl
waits_got d Todo.Unit (Got.UnitOf unit) asks vain = absurd (cc vain)
waits_got d Todo.Unit (Got.Miss losses faults) asks vain = record { wish = refl; misses = refl }
waits_got d (Todo.Rest finding) got asks vain = absurd (cc asks)

waits_none : (d : DriverState) (t : Todo) → is_asked t ≡ true → Waits d (unanswered_at t d) []
waits_none d (Todo.Send call_no asked) asks = waits_same d (opened d) refl refl
waits_none d Todo.Unit asks = waits_same d d refl refl
waits_none d (Todo.Rest finding) asks = absurd (cc asks)

waits : (d : DriverState) (g : Given) → MayBe g d → IsVain (todo d) g → Waits d (given g d) (misses_in (g ∷ []))
waits d (Begun round) may vain = absurd vain
waits d (Gave got) may vain =
    subst (λ b. Waits d (if b then after_todo (todo d) got d else d) (misses_in (Gave got ∷ []))) (sym may.number)
    (waits_got d (todo d) got may.asked vain)
waits d GaveNothing may vain =
    subst (λ b. Waits d (if b then unanswered_at (todo d) d else d) []) (sym may.number)
    (waits_none d (todo d) may.asked)

misses_more : (g : Given) (row : List Given) → misses_in (g ∷ row) ≡ misses_in row ++ misses_in (g ∷ [])
misses_more (Begun round) row = sym (append-nil (misses_in row))
misses_more (Gave (Got.Replied reply)) row = sym (append-nil (misses_in row))
misses_more (Gave (Got.UnitOf unit)) row = sym (append-nil (misses_in row))
misses_more (Gave (Got.Miss losses faults)) row = refl
misses_more GaveNothing row = sym (append-nil (misses_in row))

waits_row : (task : Task) (older row : List Given) → AreGiven task (row ++ older)
    → AreVain task older (todo (after task older)) row
    → Waits (after task older) (after task (row ++ older)) (misses_in row)
waits_row task older [] are vain = waits_same (after task older) (after task older) refl refl
waits_row task older (g ∷ row) are vain =
    let so_far = waits_row task older row are.1 vain.2 in
    let now = waits (after task (row ++ older)) g are.0 (subst (λ t. IsVain t g) (sym vain.1) vain.0) in
    record {
      wish = now.wish ∙ so_far.wish;
      misses = now.misses
          ∙ (ap (λ l. l ++ misses_in (g ∷ [])) so_far.misses
          ∙ (append_assoc (after task older).misses (misses_in row) (misses_in (g ∷ []))
          ∙ ap (λ l. (after task older).misses ++ l) (sym (misses_more g row))));
    }

none_before : (ms rises : List Rises) → length (ms ++ rises) ≤ 8 → length rises ≡ attempt_limit → ms ++ rises ≡ rises
none_before [] rises few eight = refl
none_before (m ∷ ms) rises few eight = absurd (omega (arith, few, eight, length-append ms rises))

missed_eight : (misses rises : List Rises) → misses ≡ rises → length rises ≡ attempt_limit
    → nat_le attempt_limit (length misses) ≡ true
missed_eight misses rises same eight =
    let all : attempt_limit ≤ length misses = omega (arith, eight, ap length same) in grind (arith, nat_tests, all)

rests_missed : (d : DriverState) (t : Todo) (e : DriverState) → Wishes e t → wish d ≡ wish e → is_missed d ≡ true
    → todo d ≡ Todo.Rest (unreached d.misses)
rests_missed d t e is same missed = grind arith

-- where eight misses came in a row, it rests
pub unreached_is_found : GoesBySize → UnreachedIsFound
unreached_is_found by_size lent task gs is given_ losses faults eight =
    let d = after task gs in
    let older = eight.missed.older in
    let row = eight.missed.row in
    let waited = subst (λ l. Waits (after task older) (after task l) (misses_in row)) (sym eight.missed.split)
    (waits_row task older row (subst (AreGiven task) eight.missed.split given_) eight.missed.vain) in
    let all : d.misses ≡ (after task older).misses ++ eight.rises =
    waited.misses ∙ ap (λ l. (after task older).misses ++ l) eight.missed.rises in
    let few : length d.misses ≤ 8 = (stands by_size lent task is gs given_).kept.sound.misses in
    let same : d.misses ≡ eight.rises =
    all ∙ none_before (after task older).misses eight.rises (subst (λ l. length l ≤ 8) all few) eight.eight in
    rests_missed d (todo (after task older)) (after task older) (wishes_of (after task older) eight.missed.asked)
    waited.wish (missed_eight d.misses eight.rises same eight.eight)
    ∙ ap Todo.Rest
    (ap unreached same
    ∙ (ap (λ n. Finding.Unreached n (min last_count (faults_in eight.rises))) (sym eight.losses)
    ∙ ap (λ n. Finding.Unreached losses n) (sym eight.faults)))
