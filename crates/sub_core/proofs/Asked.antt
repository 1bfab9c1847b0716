-- All messages that were sent: those of the rounds, and then those of the end phase.
use Rattle.std.proofs.Common.{◌≡◌, ℕ, suc, Bool, true, false, if◌then◌else◌, take, List, [], ◌∷◌, ◌++◌, map, length, Option, refl, sym, ap, ◌∙◌}
use Rattle.std.proofs.lemmas.List.{map-append}
use Rattle.std.specs.List.{AllByRecursion}
use Rattle.std.specs.Ordering.{is_eq}
use Rattle.pm_types.specs.Steps.{call_no_cmp}
use Rattle.pm_types.specs.declared.replies.Reply.{Reply}
use Rattle.pm_types.specs.declared.status.Status.{Status}
use Rattle.world.specs.Attempts.{Attempt, Tried, Worked, AreInOrder, sent_by, with_sent}
use Rattle.world.specs.Messages.{Message, Told, Answered, Showed}
use Rattle.world.specs.RoundCalls.{round_calls}
use Rattle.sub_core.specs.Made.{AreSentInTurn, calls_in, ids_given, is_permitted, made_early, made_in, made_of}
use Rattle.sub_core.proofs.Making.{length_snoc}

-- the messages that were answered, the newest first
abbrev pub answered_in : List Told → List Message
answered_in [] = []
answered_in (Answered m reply ∷ told) = m ∷ answered_in told
answered_in (Showed status ∷ told) = answered_in told

-- the messages without the newest one, where this is open
abbrev pub closed_of : Bool → List Message → List Message
closed_of false sent = sent
closed_of true [] = []
closed_of true (m ∷ sent) = sent

pub calls_answered : (told : List Told) → calls_in (answered_in told) ≡ map (λ m. m.call) (made_in told)
calls_answered [] = refl
calls_answered (Answered m reply ∷ told) =
    ap (λ l. l ++ m.call ∷ []) (calls_answered told) ∙ sym (map-append (λ x. x.call) (made_in told)
    (made_of m reply ∷ []))
calls_answered (Showed status ∷ told) = calls_answered told

pub count_answered : (told : List Told) → length (answered_in told) ≡ length (made_in told)
count_answered [] = refl
count_answered (Answered m reply ∷ told) =
    ap suc (count_answered told) ∙ sym (length_snoc (made_in told) (made_of m reply))
count_answered (Showed status ∷ told) = count_answered told

-- messages before the decision

undecided_if : (m newest : Message) (sent : List Message) (b : Bool) → m.decided ≡ false
    → AllByRecursion (λ x. x.decided ≡ false) (newest ∷ sent)
    → AllByRecursion (λ x. x.decided ≡ false) (if b then newest ∷ sent else m ∷ newest ∷ sent)
undecided_if m newest sent true early all = all
undecided_if m newest sent false early all = (early, all)

with_undecided : (m : Message) (sent : List Message) → m.decided ≡ false
    → AllByRecursion (λ x. x.decided ≡ false) sent → AllByRecursion (λ x. x.decided ≡ false) (with_sent m sent)
with_undecided m [] early all = (early, tt)
with_undecided m (newest ∷ sent) early all =
    undecided_if m newest sent (is_eq (call_no_cmp newest.at m.at)) early all

pub all_undecided : (k : ℕ) (attempts : List Attempt) → AreInOrder k attempts
    → AllByRecursion (λ m. m.decided ≡ false) (sent_by attempts)
all_undecided k [] order = tt
all_undecided k (Tried m reply ∷ attempts) order =
    with_undecided m (sent_by attempts) order.1 (all_undecided k attempts order.3)
all_undecided k (Worked status ∷ attempts) order = all_undecided k attempts order

-- messages of the end phase

module _ (decision : Option Bool) (k : ℕ) (ps : List (List ℕ)) (told : List Told) (m : Message)
    (decided : m.decided ≡ true) (is : is_permitted decision m.call ≡ true) where
  one_late : (sent : List Message) → AreSentInTurn decision k ps told sent → AreSentInTurn decision k ps told (m ∷ sent)
  one_late sent turn = record {
    early = turn.early;
    late = m ∷ turn.late;
    split = ap (λ l. m ∷ l) turn.split;
    of_rounds = turn.of_rounds;
    calls = turn.calls;
    of_end = ((decided, is), turn.of_end);
  }

  late_if : (newest : Message) (sent : List Message) (b : Bool) → AreSentInTurn decision k ps told (newest ∷ sent)
      → AreSentInTurn decision k ps told (if b then newest ∷ sent else m ∷ newest ∷ sent)
  late_if newest sent true turn = turn
  late_if newest sent false turn = one_late (newest ∷ sent) turn

  -- one more of them was sent, or the newest one again
  pub sent_late : (sent : List Message) → AreSentInTurn decision k ps told sent → AreSentInTurn decision k ps told
      (with_sent m sent)
  sent_late [] turn = one_late [] turn
  sent_late (newest ∷ sent) turn = late_if newest sent (is_eq (call_no_cmp newest.at m.at)) turn

  -- and answered
  pub answered_late : (reply : Reply) (sent : List Message) → AreSentInTurn decision k ps told sent
      → AreSentInTurn decision k ps (Answered m reply ∷ told) (with_sent m sent)
  answered_late reply sent turn =
      let now = sent_late sent turn in
      let same : made_early (Answered m reply ∷ told) ≡ made_early told =
      ap (λ b. if b then made_early told else made_early told ++ made_of m reply ∷ []) decided in
      record {
        early = now.early;
        late = now.late;
        split = now.split;
        of_rounds = now.of_rounds;
        calls = now.calls
            ∙ ap (λ made. take (length now.early) (round_calls k (ids_given made) ps)) (sym same);
        of_end = now.of_end;
      }

-- a status is no message
pub shown_late : (decision : Option Bool) (k : ℕ) (ps : List (List ℕ)) (told : List Told) (sent : List Message) (status
    : Status)
    → AreSentInTurn decision k ps told sent → AreSentInTurn decision k ps (Showed status ∷ told) sent
shown_late decision k ps told sent status turn = record {
  early = turn.early;
  late = turn.late;
  split = turn.split;
  of_rounds = turn.of_rounds;
  calls = turn.calls;
  of_end = turn.of_end;
}
