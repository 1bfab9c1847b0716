-- What holds of every driver is kept by what it is given.
use Rattle.std.proofs.Common.{◌≡◌, ℕ, suc, ◌+◌, ◌-◌, ◌<◌, ◌≤◌, Bool, true, false, if◌then◌else◌, ◌==◌, nat_lt, List, [], ◌∷◌, ◌++◌, length, Option, Some, None, refl, ap, arith, length-append}
use Rattle.std.proofs.lemmas.Bool.Decides.{nat_tests}
use Rattle.ucm_base.specs.Limits.{block_limit}
use Rattle.ucm_base.specs.declared.ids.CallNo.{CallNo}
use Rattle.pm_types.specs.declared.replies.Reply.{Reply}
use Rattle.pm_types.specs.declared.replies.Reply.TheVariants.{Done, Started, Synced, Refused}
use Rattle.pm_types.specs.declared.replies.SessionMark.{SessionMark}
use Rattle.pm_types.specs.declared.status.Status.{Status}
use Rattle.sub_core.specs.declared.answers.PackageSize.{PackageSize}
use Rattle.sub_core.specs.declared.answers.Round.{Round}
use Rattle.sub_core.specs.declared.answers.SendStep.{SendStep}
use Rattle.sub_core.specs.declared.progress.EndProgress.{EndProgress}
use Rattle.sub_core.specs.declared.progress.Progress.{Progress}
use Rattle.sub_core.specs.Driving.{at_session, begun, end_after, is_missed, missed, next_no, next_transfer, opened, progress_after, replied, settled_after, whole_by, with_whole, worked}
use Rattle.sub_core.specs.States.{DriverState, IsPlaced, IsPlacedEnd, IsSound, number_limit, size_at}

end_if : (b : Bool) (p q : EndProgress) → IsPlacedEnd p → IsPlacedEnd q → IsPlacedEnd (if b then p else q)
end_if true p q one other = one
end_if false p q one other = other

end_session : (commit : Bool) (call_no : CallNo) (session : Option SessionMark) (ids : List ℕ)
    → IsPlacedEnd (at_session commit call_no session ids)
end_session commit call_no session ids = grind arith

end_deleted : (listed : List ℕ) (place : ℕ) (b : Bool) → nat_lt (suc place) (length listed) ≡ b
    → IsPlacedEnd (if b then EndProgress.Delete listed (suc place) else EndProgress.Call SendStep.Sync)
end_deleted listed place true is = grind (arith, nat_tests)
end_deleted listed place false is = tt

end_placed : (commit : Bool) (call_no : CallNo) (at : EndProgress) (reply : Reply) → IsPlacedEnd at
    → IsPlacedEnd (end_after commit call_no at reply)
end_placed commit call_no at (Refused why) placed = tt
end_placed commit call_no at (Synced x) placed = end_session commit call_no x.session x.transfers
end_placed commit call_no (EndProgress.Delete listed place) Done placed =
    end_deleted listed place (nat_lt (suc place) (length listed)) refl
end_placed commit call_no (EndProgress.Call step) Done placed = tt
end_placed commit call_no EndProgress.Units Done placed = tt
end_placed commit call_no (EndProgress.Rest n) Done placed = tt
end_placed commit call_no at (Started id) placed = placed

module _ (steps : List PackageSize) (ids : List ℕ) where
  first_placed : ids ≡ [] → 0 < length steps → length ids < length steps
  first_placed none some = omega (arith, ap length none, some)

  start_placed : (id : ℕ) → length ids < length steps
      → IsPlaced steps ids (Progress.Data id 1 (size_at steps (length ids)).length)
  start_placed id less = (less, omega arith, omega arith, omega arith)

  whole_placed : (id : ℕ) (b : Bool) → nat_lt (suc (length ids)) (length steps) ≡ b → length ids < length steps
      → IsPlaced steps (ids ++ id ∷ []) (if b then Progress.Transfer else Progress.Process 0 true)
  whole_placed id true is less =
      let more : length (ids ++ id ∷ []) ≡ suc (length ids) = omega (arith, length-append ids (id ∷ [])) in
      grind (arith, nat_tests, more)
  whole_placed id false is less =
      let more : length (ids ++ id ∷ []) ≡ suc (length ids) = omega (arith, length-append ids (id ∷ [])) in
      let end : length steps ≤ suc (length ids) = grind (arith, nat_tests) in
      (omega arith, omega (arith, more, end, less))

  block_placed : (id counter left : ℕ) (b : Bool) (next : Progress) → (left == 0) ≡ b
      → IsPlaced steps ids (Progress.Data id counter left)
      → (left ≡ 0 → IsPlaced steps (ids ++ id ∷ []) next)
      → IsPlaced steps (with_whole ids (if b then Some id else None))
      (if b then next else Progress.Data id (counter + 1) (left - block_limit))
  block_placed id counter left b next is placed end = grind arith

  process_placed : (taken : ℕ) (b : Bool) → nat_lt taken (length ids) ≡ b → length ids ≡ length steps
      → IsPlaced steps ids (if b then Progress.Process (suc taken) false else Progress.Activating)
  process_placed taken true is all = (grind (arith, nat_tests), all)
  process_placed taken false is all = tt

-- a reply to its call
pub placed_after : (d : DriverState) (p : Progress) (reply : Reply) → 0 < length d.steps → IsPlaced d.steps d.ids p
    → IsPlaced d.steps (with_whole d.ids (whole_by p reply)) (progress_after d p reply)
placed_after d Progress.Sync (Refused why) some placed = tt
placed_after d Progress.Sync (Synced x) some placed = first_placed d.steps d.ids placed some
placed_after d Progress.Sync Done some placed = placed
placed_after d Progress.Sync (Started id) some placed = placed
placed_after d Progress.Transfer (Refused why) some placed = tt
placed_after d Progress.Transfer (Started id) some placed = start_placed d.steps d.ids id placed
placed_after d Progress.Transfer Done some placed = placed
placed_after d Progress.Transfer (Synced x) some placed = placed
placed_after d (Progress.Data id counter left) (Refused why) some placed = tt
placed_after d (Progress.Data id counter left) (Started n) some placed = placed
placed_after d (Progress.Data id counter left) (Synced x) some placed = placed
placed_after d (Progress.Data id counter left) Done some placed =
    block_placed d.steps d.ids id counter left (left == 0) (next_transfer d) refl placed
    (λ end. whole_placed d.steps d.ids id (nat_lt (suc (length d.ids)) (length d.steps)) refl placed.0)
placed_after d (Progress.Process taken settled) (Refused why) some placed = tt
placed_after d (Progress.Process taken settled) (Started id) some placed = placed
placed_after d (Progress.Process taken settled) (Synced x) some placed = placed
placed_after d (Progress.Process taken settled) Done some placed =
    process_placed d.steps d.ids taken (nat_lt taken (length d.ids)) refl placed.1
placed_after d Progress.Activating (Refused why) some placed = tt
placed_after d Progress.Activating (Started id) some placed = tt
placed_after d Progress.Activating (Synced x) some placed = tt
placed_after d Progress.Activating Done some placed = tt
placed_after d (Progress.Voted finding) (Refused why) some placed = tt
placed_after d (Progress.Voted finding) (Started id) some placed = tt
placed_after d (Progress.Voted finding) (Synced x) some placed = tt
placed_after d (Progress.Voted finding) Done some placed = tt
placed_after d (Progress.Ending commit at) Done some placed = end_placed commit (next_no d) at Done placed
placed_after d (Progress.Ending commit at) (Started id) some placed =
    end_placed commit (next_no d) at (Started id) placed
placed_after d (Progress.Ending commit at) (Synced x) some placed = end_placed commit (next_no d) at (Synced x) placed
placed_after d (Progress.Ending commit at) (Refused why) some placed =
    end_placed commit (next_no d) at (Refused why) placed

-- a status
pub placed_worked : (steps : List PackageSize) (ids : List ℕ) (p : Progress) (status : Status) → IsPlaced steps ids p
    → IsPlaced steps ids (settled_after p status)
placed_worked steps ids p status placed = grind arith

-- a round
placed_begun : (round : Round) (d : DriverState) → IsPlaced d.steps d.ids d.progress
    → IsPlaced (begun round d).steps (begun round d).ids (begun round d).progress
placed_begun round d placed = grind arith

number_begun : (b : Bool) (n : ℕ) → n + (if b then 1 else 0) ≤ number_limit
    → (if b then n + 1 else n) + 0 ≤ number_limit
number_begun true n below = omega (arith, below)
number_begun false n below = below

module _ (d : DriverState) (sound : IsSound d) where
  pub sound_replied : (reply : Reply) → d.number < number_limit → IsSound (replied reply d)
  sound_replied reply left = record {
    some = sound.some;
    numbers = omega (arith, left);
    misses = omega arith;
    placed = placed_after d d.progress reply sound.some sound.placed;
  }

  pub sound_opened : d.number < number_limit → IsSound (opened d)
  sound_opened left = record {
    some = sound.some;
    numbers = omega (arith, left);
    misses = sound.misses;
    placed = sound.placed;
  }

  pub sound_missed : (losses faults : ℕ) → is_missed d ≡ false → IsSound (missed losses faults d)
  sound_missed losses faults few = record {
    some = sound.some;
    numbers = sound.numbers;
    misses =
        let less : length d.misses < 8 = grind (arith, nat_tests, few) in
        omega (arith, length-append d.misses (record { losses = losses; faults = faults } ∷ []), less);
    placed = sound.placed;
  }

  pub sound_worked : (status : Status) → IsSound (worked status d)
  sound_worked status = record {
    some = sound.some;
    numbers = sound.numbers;
    misses = omega arith;
    placed = placed_worked d.steps d.ids d.progress status sound.placed;
  }

  pub sound_begun : (round : Round) → IsSound (begun round d)
  sound_begun round = record {
    some = sound.some;
    numbers = number_begun d.is_open d.number sound.numbers;
    misses = omega arith;
    placed = placed_begun round d sound.placed;
  }
