-- The calls that were answered: first those of the rounds, then those of the end phase.
use Rattle.std.proofs.Common.{◌≡◌, ◌≢◌, ℕ, zero, suc, ◌+◌, ◌<◌, ◌≤◌, Bool, true, false, not, ◌&&◌, ◌||◌, if◌then◌else◌, IsTrue, List, [], ◌∷◌, ◌++◌, map, length, take, Option, Some, refl, sym, ap, subst, ◌∙◌, arith, append-nil}
use Rattle.std.proofs.lemmas.List.{length-map, map-append}
use Rattle.std.specs.List.{AllByRecursion, slice_get}
use Rattle.pm_types.specs.declared.calls.Call.{Call}
use Rattle.pm_types.specs.declared.replies.Reply.{Reply}
use Rattle.pm_types.specs.declared.replies.Reply.TheVariants.{Done, Started, Synced, Refused}
use Rattle.std.specs.Ordering.{is_eq}
use Rattle.pm_types.specs.Steps.{call_no_cmp}
use Rattle.world.specs.Attempts.{Attempt, Tried, Worked, AreInOrder, sent_by, with_sent}
use Rattle.world.specs.Messages.{Message, Told, Answered, Showed, is_refusal}
use Rattle.world.specs.RoundCalls.{AllFit, ids_of, round_calls}
use Rattle.world.specs.Rounds.{Stage, AtSync, call_at, onward, stage_of}
use Rattle.world.specs.Sends.{has_refusal}
use Rattle.world.proofs.Names.{append_assoc}
use Rattle.world.proofs.RoundList.{IsReached, one-on, processed-is, reached-on, rest_of}
use Rattle.sub_core.specs.declared.answers.PackageSize.{PackageSize}
use Rattle.sub_core.specs.Calls.{step_bytes}
use Rattle.sub_core.specs.Ending.{has_end_answer}
use Rattle.sub_core.specs.Made.{IsOfEnd, IsOfRounds, Made, ids_given, is_permitted, made_early, made_in, made_late, made_of, numbers_from, only_last_refused, sent_early}

-- lists that grow at their end

pub all_snoc : {X : Type 0} (P : X → Type 0) (xs : List X) (x : X) → AllByRecursion P xs → P x
    → AllByRecursion P (xs ++ x ∷ [])
all_snoc P [] x all one = (one, tt)
all_snoc P (y ∷ ys) x all one = (all.0, all_snoc P ys x all.1 one)

pub length_snoc : {X : Type 0} (xs : List X) (x : X) → length (xs ++ x ∷ []) ≡ suc (length xs)
length_snoc [] x = refl
length_snoc (y ∷ ys) x = ap suc (length_snoc ys x)

take_next : {X : Type 0} (xs : List X) (n : ℕ) (x : X) → slice_get xs n ≡ Some x
    → take (suc n) xs ≡ take n xs ++ x ∷ []
take_next [] n x is = absurd (cc is)
take_next (y ∷ ys) zero x is = let same : y ≡ x = cc is in ap (λ z. z ∷ []) same
take_next (y ∷ ys) (suc n) x is = ap (λ l. y ∷ l) (take_next ys n x is)

numbers_snoc : (epoch number count : ℕ)
    → numbers_from epoch number (suc count)
    ≡ numbers_from epoch number count ++ record { epoch = epoch; number = number + count } ∷ []
numbers_snoc epoch number zero =
    let same : number ≡ number + 0 = omega arith in ap (λ n. record { epoch = epoch; number = n } ∷ []) same
numbers_snoc epoch number (suc count) =
    let same : (number + 1) + count ≡ number + suc count = omega arith in
    ap (λ l. record { epoch = epoch; number = number } ∷ l)
    (numbers_snoc epoch (number + 1) count
    ∙ ap (λ n. numbers_from epoch (number + 1) count ++ record { epoch = epoch; number = n } ∷ []) same)

-- a task brings some package
pub some_bytes : (lent : List (List ℕ)) (steps : List PackageSize) → 0 < length steps → step_bytes lent steps ≢ []
some_bytes lent [] some is = omega (arith, some)
some_bytes lent (s ∷ steps) some is = cc is

-- refusals

abbrev pub AreAccepted : List Made → Type 0
AreAccepted made = AllByRecursion (λ m. is_refusal m.reply ≡ false) made

last_alone : (made : List Made) (x : Made) → AreAccepted made → only_last_refused (made ++ x ∷ []) ≡ true
last_alone [] x accepted = refl
last_alone (m ∷ []) x accepted = ap (λ b. not b && true) accepted.0
last_alone (m ∷ n ∷ ms) x accepted =
    ap (λ b. not b && only_last_refused ((n ∷ ms) ++ x ∷ [])) accepted.0 ∙ last_alone (n ∷ ms) x accepted.1

pub neither : (a b : Bool) → (a || b) ≡ false → (a ≡ false) × (b ≡ false)
neither true b is = absurd (cc is)
neither false b is = (refl, is)

pub are_accepted : (told : List Told) → has_refusal told ≡ false → AreAccepted (made_in told)
are_accepted [] accepted = tt
are_accepted (Answered m reply ∷ told) accepted =
    let both = neither (is_refusal reply) (has_refusal told) accepted in
    all_snoc (λ x. is_refusal x.reply ≡ false) (made_in told) (made_of m reply) (are_accepted told both.1) both.0
are_accepted (Showed status ∷ told) accepted = are_accepted told accepted

-- messages before the decision

pub all_early : (told : List Told) → has_end_answer told ≡ false
    → (made_early told ≡ made_in told) × (made_late told ≡ [])
all_early [] early = (refl, refl)
all_early (Answered m reply ∷ told) early =
    let both = neither m.decided (has_end_answer told) early in
    let older = all_early told both.1 in
    let x = made_of m reply in (
      ap (λ b. if b then made_early told else made_early told ++ x ∷ []) both.0 ∙ ap (λ l. l ++ x ∷ []) older.0,
      ap (λ b. if b then made_late told ++ x ∷ [] else made_late told) both.0 ∙ older.1,
    )
all_early (Showed status ∷ told) early = all_early told early

early_if : (m newest : Message) (sent : List Message) (b : Bool) → m.decided ≡ false
    → sent_early (newest ∷ sent) ≡ suc (length sent)
    → sent_early (if b then newest ∷ sent else m ∷ newest ∷ sent) ≡ length
    (if b then newest ∷ sent else m ∷ newest ∷ sent)
early_if m newest sent b early all = grind arith

with_early : (m : Message) (sent : List Message) → m.decided ≡ false → sent_early sent ≡ length sent
    → sent_early (with_sent m sent) ≡ length (with_sent m sent)
with_early m [] early all = ap (λ b. if b then 0 else 1) early
with_early m (newest ∷ sent) early all = early_if m newest sent (is_eq (call_no_cmp newest.at m.at)) early all

pub all_sent_early : (k : ℕ) (attempts : List Attempt) → AreInOrder k attempts
    → sent_early (sent_by attempts) ≡ length (sent_by attempts)
all_sent_early k [] order = refl
all_sent_early k (Tried m reply ∷ attempts) order =
    with_early m (sent_by attempts) order.1 (all_sent_early k attempts order.3)
all_sent_early k (Worked status ∷ attempts) order = all_sent_early k attempts order

late_if : (m newest : Message) (sent : List Message) (b : Bool) → m.decided ≡ true
    → sent_early (if b then newest ∷ sent else m ∷ newest ∷ sent) ≡ sent_early (newest ∷ sent)
late_if m newest sent b late = grind arith

-- one after it is no message of the rounds
pub with_late : (m : Message) (sent : List Message) → m.decided ≡ true
    → sent_early (with_sent m sent) ≡ sent_early sent
with_late m [] late = ap (λ b. if b then 0 else 1) late
with_late m (newest ∷ sent) late = late_if m newest sent (is_eq (call_no_cmp newest.at m.at)) late

-- ids, whatever replies come later

abbrev giving : List ℕ → List Reply
giving [] = []
giving (id ∷ ids) = Started id ∷ giving ids

ids_giving : (ids : List ℕ) → ids_of (giving ids) ≡ ids
ids_giving [] = refl
ids_giving (id ∷ ids) = ap (λ l. id ∷ l) (ids_giving ids)

ids_append : (rs later : List Reply) → ids_of (rs ++ later) ≡ ids_of rs ++ ids_of later
ids_append [] later = refl
ids_append (Done ∷ rs) later = ids_append rs later
ids_append (Started id ∷ rs) later = ap (λ l. id ∷ l) (ids_append rs later)
ids_append (Synced x ∷ rs) later = ids_append rs later
ids_append (Refused why ∷ rs) later = ids_append rs later

module _ (k epoch first : ℕ) (ps : List (List ℕ)) where
  first_any : (stage : Stage) (later : List ℕ) → IsReached k ps stage
      → call_at k stage ≡ slice_get (rest_of k ps stage later) 0
  first_any stage later reached = grind arith

  call_next : (stage : Stage) (rs later : List Reply) → ps ≢ [] → IsReached k ps stage → AllFit ps stage rs
      → call_at k (stage_of ps stage rs) ≡ slice_get (rest_of k ps stage (ids_of (rs ++ later))) (length rs)
  call_next stage [] later some reached fit = first_any stage (ids_of later) reached
  call_next stage (r ∷ rs) later some reached fit =
      let one = one-on k ps stage r (rs ++ later) some fit.0 in
      call_next (onward ps stage r) rs later some (reached-on k ps stage r some fit.0) fit.1
      ∙ sym (ap (λ l. slice_get l (length (r ∷ rs))) one.2)

  rounds_are : (ids : List ℕ) → round_calls k ids ps ≡ rest_of k ps AtSync ids
  rounds_are ids = grind (arith, processed-is, append_assoc)

  -- before the end each call that was answered is one of the rounds
  pub record AreRounds (number : ℕ) (made : List Made) (replies : List Reply) : Type 0 where
    pub same : map (λ m. m.reply) made ≡ replies
    pub count : number ≡ first + length made
    pub calls : (later : List ℕ)
        → map (λ m. m.call) made ≡ take (length made) (round_calls k (ids_given made ++ later) ps)
    pub numbers : map (λ m. m.at) made ≡ numbers_from epoch first (length made)
    pub accepted : IsTrue (only_last_refused made)

  pub none_made : AreRounds first [] []
  none_made = record {
    same = refl;
    count = omega arith;
    calls = λ later. refl;
    numbers = refl;
    accepted = refl;
  }

  pub of_rounds : (number : ℕ) (made : List Made) (replies : List Reply) → AreRounds number made replies
      → IsOfRounds k epoch first ps made
  of_rounds number made replies are = record {
    calls = are.calls [] ∙ ap (λ ids. take (length made) (round_calls k ids ps)) (append-nil (ids_given made));
    numbers = are.numbers;
    accepted = are.accepted;
  }

  module _ (number : ℕ) (made : List Made) (replies : List Reply) (are : AreRounds number made replies) (some : ps ≢ [])
      (fit : AllFit ps AtSync replies) (accepted : AreAccepted made) where
    ids_here : ids_given made ≡ ids_of replies
    ids_here = ap ids_of are.same

    many_here : length made ≡ length replies
    many_here = sym (length-map made (λ m. m.reply)) ∙ ap length are.same

    -- the next one of the calls of all rounds, whatever ids come later
    call_here : (later : List ℕ)
        → call_at k (stage_of ps AtSync replies)
        ≡ slice_get (round_calls k (ids_given made ++ later) ps) (length made)
    call_here later =
        call_next AtSync replies (giving later) some tt fit
        ∙ (ap (λ ids. slice_get (rest_of k ps AtSync ids) (length replies))
        (ids_append replies (giving later)
        ∙ (ap (λ l. ids_of replies ++ l) (ids_giving later) ∙ ap (λ l. l ++ later) (sym ids_here)))
        ∙ (ap (λ l. slice_get l (length replies)) (sym (rounds_are (ids_given made ++ later)))
        ∙ ap (slice_get (round_calls k (ids_given made ++ later) ps)) (sym many_here)))

    -- with one more call, which isn't answered yet
    pub next_taken : (call : Call) → call_at k (stage_of ps AtSync replies) ≡ Some call
        → map (λ m. m.call) made ++ call ∷ [] ≡ take (suc (length made)) (round_calls k (ids_given made) ps)
    next_taken call next =
        ap (λ l. l ++ call ∷ []) (are.calls [])
        ∙ (sym (take_next (round_calls k (ids_given made ++ []) ps) (length made) call (sym (call_here []) ∙ next))
        ∙ ap (λ l. take (suc (length made)) (round_calls k l ps)) (append-nil (ids_given made)))

    module _ (m : Message) (at : m.at ≡ record { epoch = epoch; number = number })
        (next : call_at k (stage_of ps AtSync replies) ≡ Some m.call) (reply : Reply) where
      abbrev x : Made
      x = made_of m reply

      calls_more : (later : List ℕ)
          → map (λ m. m.call) (made ++ x ∷ [])
          ≡ take (length (made ++ x ∷ [])) (round_calls k (ids_given (made ++ x ∷ []) ++ later) ps)
      calls_more later =
          let more = ids_of (reply ∷ []) ++ later in
          let ids : ids_given (made ++ x ∷ []) ++ later ≡ ids_given made ++ more =
          ap (λ l. ids_of l ++ later) (map-append (λ m. m.reply) made (x ∷ []))
          ∙ (ap (λ l. l ++ later) (ids_append (map (λ m. m.reply) made) (reply ∷ []))
          ∙ append_assoc (ids_given made) (ids_of (reply ∷ [])) later) in
          let there = sym (call_here more) ∙ next in
          map-append (λ m. m.call) made (x ∷ [])
          ∙ (ap (λ l. l ++ m.call ∷ []) (are.calls more)
          ∙ (sym (take_next (round_calls k (ids_given made ++ more) ps) (length made) m.call there)
          ∙ (ap (λ n. take n (round_calls k (ids_given made ++ more) ps)) (sym (length_snoc made x))
          ∙ ap (λ l. take (length (made ++ x ∷ [])) (round_calls k l ps)) (sym ids))))

      -- with the reply to the next call
      pub one_more : AreRounds (number + 1) (made ++ x ∷ []) (replies ++ reply ∷ [])
      one_more = record {
        same = map-append (λ m. m.reply) made (x ∷ []) ∙ ap (λ l. l ++ reply ∷ []) are.same;
        count = omega (arith, are.count, length_snoc made x);
        calls = calls_more;
        numbers = map-append (λ m. m.at) made (x ∷ [])
            ∙ (ap (λ l. l ++ m.at ∷ []) are.numbers
            ∙ (ap (λ a. numbers_from epoch first (length made) ++ a ∷ [])
            (at ∙ ap (λ n. record { epoch = epoch; number = n }) are.count)
            ∙ (sym (numbers_snoc epoch first (length made))
            ∙ ap (numbers_from epoch first) (sym (length_snoc made x)))));
        accepted = last_alone made x accepted;
      }

  -- in the end phase the calls of the rounds are those that there were
  pub record AreTurned (decision : Option Bool) (number : ℕ) (all early late : List Made) (sent : ℕ) : Type 0 where
    pub split : all ≡ early ++ late
    pub of_rounds : IsOfRounds k epoch first ps early
    pub within : length early ≤ sent
    pub of_end : AllByRecursion (IsOfEnd decision epoch (first + sent)) late
    pub below : first + sent ≤ number

  pub turned : (decision : Option Bool) (number sent : ℕ) (told : List Told) (replies : List Reply) → AreRounds number
      (made_in told) replies
      → has_end_answer told ≡ false → length (made_in told) ≤ sent → (now : ℕ) → first + sent ≤ now
      → AreTurned decision now (made_in told) (made_early told) (made_late told) sent
  turned decision number sent told replies are early within now below =
      let before = all_early told early in
      record {
        split = sym (append-nil (made_in told))
            ∙ (ap (λ l. made_in told ++ l) (sym before.1) ∙ ap (λ l. l ++ made_late told) (sym before.0));
        of_rounds = subst (IsOfRounds k epoch first ps) (sym before.0) (of_rounds number (made_in told) replies are);
        within = subst (λ l. length l ≤ sent) (sym before.0) within;
        of_end = subst (AllByRecursion (IsOfEnd decision epoch (first + sent))) (sym before.1) tt;
        below = below;
      }

  pub end_more : (decision : Option Bool) (number sent : ℕ) (told : List Told)
      → AreTurned decision number (made_in told) (made_early told) (made_late told) sent
      → (m : Message) → m.decided ≡ true → m.at ≡ record { epoch = epoch; number = number }
      → is_permitted decision m.call ≡ true → (reply : Reply)
      → AreTurned decision (number + 1) (made_in (Answered m reply ∷ told)) (made_early (Answered m reply ∷ told))
      (made_late (Answered m reply ∷ told)) sent
  end_more decision number sent told are m decided at is reply =
      let x = made_of m reply in
      let early : made_early (Answered m reply ∷ told) ≡ made_early told =
      ap (λ b. if b then made_early told else made_early told ++ x ∷ []) decided in
      let late : made_late (Answered m reply ∷ told) ≡ made_late told ++ x ∷ [] =
      ap (λ b. if b then made_late told ++ x ∷ [] else made_late told) decided in
      record {
        split = ap (λ l. l ++ x ∷ []) are.split
            ∙ (append_assoc (made_early told) (made_late told) (x ∷ [])
            ∙ (ap (λ l. made_early told ++ l) (sym late)
            ∙ ap (λ l. l ++ made_late (Answered m reply ∷ told)) (sym early)));
        of_rounds = subst (IsOfRounds k epoch first ps) (sym early) are.of_rounds;
        within = subst (λ l. length l ≤ sent) (sym early) are.within;
        of_end = subst (AllByRecursion (IsOfEnd decision epoch (first + sent))) (sym late)
            (all_snoc (IsOfEnd decision epoch (first + sent)) (made_late told) x are.of_end (record {
              call = is;
              of_epoch = ap (λ a. a.epoch) at;
              later = subst (λ n. first + sent ≤ n) (sym (ap (λ a. a.number) at)) are.below;
            }));
        below = omega (arith, are.below);
      }
