-- A driver goes by the stages of the rounds.
use Rattle.std.proofs.Common.{◌≡◌, ℕ, zero, suc, ◌+◌, ◌-◌, ◌<◌, ◌≤◌, Bool, true, false, if◌then◌else◌, ◌==◌, nat_lt, nat_le, List, [], ◌∷◌, ◌++◌, length, map, drop, slice_index_or, Some, None, refl, sym, ap, subst, ◌∙◌, arith, length-append}
use Rattle.std.proofs.Math.ListN.{drop_of_length-le}
use Rattle.std.proofs.lemmas.Bool.Decides.{nat_tests}
use Rattle.std.specs.Prelude.{option_map}
use Rattle.ucm_base.specs.Limits.{block_limit}
use Rattle.ucm_base.specs.declared.ids.CallNo.{CallNo}
use Rattle.pm_types.specs.declared.calls.Call.{Call}
use Rattle.pm_types.specs.declared.replies.Reply.{Reply}
use Rattle.pm_types.specs.declared.replies.Reply.TheVariants.{Done, Started, Synced, Refused}
use Rattle.pm_types.specs.declared.status.Status.{Status}
use Rattle.campaign_core.specs.declared.events.Phase.{Phase}
use Rattle.world.specs.RoundCalls.{is_past}
use Rattle.world.specs.Rounds.{StageOf, AtSync, AtStart, AtData, AtProcess, call_at, next_package, next_processed, stage_of}
use Rattle.world.specs.RoundsBySize.{GoesBySize, block_of, onward_by_size, stage_by_size, step_at}
use Rattle.world.specs.RoundsBySize.{call_of as world_call}
use Rattle.sub_core.specs.declared.answers.Finding.{Finding}
use Rattle.sub_core.specs.declared.answers.PackageSize.{PackageSize}
use Rattle.sub_core.specs.declared.answers.Round.{Round}
use Rattle.sub_core.specs.declared.answers.SendStep.{SendStep}
use Rattle.sub_core.specs.declared.answers.Todo.{Todo}
use Rattle.sub_core.specs.declared.progress.EndProgress.{EndProgress}
use Rattle.sub_core.specs.declared.progress.Progress.{Progress}
use Rattle.sub_core.specs.declared.progress.Wish.{Wish}
use Rattle.sub_core.specs.Calls.{AreThere, bytes_at, call_of, step_bytes}
use Rattle.sub_core.specs.States.{DriverState, IsPlaced, IsSound, size_at}
use Rattle.sub_core.specs.Driving.{begun, call_wish, end_wish, is_answer, is_over, next_transfer, progress_after, round_after, round_step, settled_after, todo_for, whole_by, wish, wish_at, with_whole, IsEnding}
use Rattle.sub_core.specs.Sends.{phase_of}
use Rattle.sub_core.proofs.Rounds.{StandsAt, StandsFor, sizes_of, stage_seen}

-- the package that comes next, and those behind it
first_left : (steps : List PackageSize) (n : ℕ) → n < length steps
    → drop n (sizes_of steps) ≡ (size_at steps n).length ∷ drop (suc n) (sizes_of steps)
first_left [] n less = absurd (omega (arith, less))
first_left (s ∷ steps) zero less = refl
first_left (s ∷ steps) (suc n) less = first_left steps n (omega (arith, less))

first_id : (ids : List ℕ) (n : ℕ) → n < length ids → drop n ids ≡ slice_index_or ids n 0 ∷ drop (suc n) ids
first_id [] n less = absurd (omega (arith, less))
first_id (id ∷ ids) zero less = refl
first_id (id ∷ ids) (suc n) less = first_id ids n (omega (arith, less))

length_sizes : (steps : List PackageSize) → length (sizes_of steps) ≡ length steps
length_sizes [] = refl
length_sizes (s ∷ steps) = ap suc (length_sizes steps)

pub lt_true : (a b : ℕ) → nat_lt a b ≡ true → a < b
lt_true a b is = grind (arith, nat_tests)

lt_false : (a b : ℕ) → nat_lt a b ≡ false → b ≤ a
lt_false a b is = grind (arith, nat_tests)

pub le_true : (a b : ℕ) → nat_le a b ≡ true → a ≤ b
le_true a b is = grind (arith, nat_tests)

synced_seen : (steps : List PackageSize) → 0 < length steps
    → next_package [] (sizes_of steps) ≡ AtStart [] (sizes_of steps)
synced_seen [] less = absurd (omega (arith, less))
synced_seen (s ∷ steps) less = refl

process_seen : (xs : List ℕ) (x : ℕ) → AtProcess (xs ++ x ∷ []) 0 ≡ next_processed {B = ℕ} (xs ++ x ∷ []) 0
process_seen [] x = refl
process_seen (y ∷ xs) x = refl

-- a transfer is whole: the next one starts, or the first package is processed
whole_seen : (d : DriverState) (id : ℕ) (b : Bool) → nat_lt (suc (length d.ids)) (length d.steps) ≡ b
    → next_package (d.ids ++ id ∷ []) (drop (suc (length d.ids)) (sizes_of d.steps))
    ≡ stage_seen d.steps (d.ids ++ id ∷ []) (if b then Progress.Transfer else Progress.Process 0 true)
whole_seen d id true is =
    let first = first_left d.steps (suc (length d.ids)) (lt_true _ _ is) in
    let more : length (d.ids ++ id ∷ []) ≡ suc (length d.ids) = omega (arith, length-append d.ids (id ∷ [])) in
    ap (next_package (d.ids ++ id ∷ [])) first
    ∙ (ap (AtStart (d.ids ++ id ∷ [])) (sym first)
    ∙ ap (λ n. AtStart (d.ids ++ id ∷ []) (drop n (sizes_of d.steps))) (sym more))
whole_seen d id false is =
    let end : length (sizes_of d.steps) ≤ suc (length d.ids) = omega (arith, length_sizes d.steps, lt_false _ _ is) in
    let none : drop (suc (length d.ids)) (sizes_of d.steps) ≡ [] = drop_of_length-le (sizes_of d.steps) end in
    ap (next_package (d.ids ++ id ∷ [])) none ∙ process_seen d.ids id

more_left : (n : ℕ) → (suc n == 0) ≡ false
more_left n = grind (arith, nat_tests)

-- a block was sent, and bytes were left
block_seen : (d : DriverState) (id counter left : ℕ) (b : Bool) → b ≡ false
    → AtData d.ids id (counter + 1) (suc left - block_limit) (drop (suc (length d.ids)) (sizes_of d.steps))
    ≡ stage_seen d.steps (with_whole d.ids (if b then Some id else None))
    (if b then next_transfer d else Progress.Data id (counter + 1) (suc left - block_limit))
block_seen d id counter left true is = absurd (cc is)
block_seen d id counter left false is = refl

not_exit : (b : Bool) (id p counter : ℕ) (r : Reply) → b ≡ false
    → is_answer (if b then SendStep.Exit id else SendStep.Data p id counter) r
    ≡ is_answer (SendStep.Data p id counter) r
not_exit true id p counter r is = absurd (cc is)
not_exit false id p counter r is = refl

processed_seen : (d : DriverState) (taken : ℕ) (b : Bool) → nat_lt taken (length d.ids) ≡ b
    → onward_by_size (sizes_of d.steps) (next_processed (drop taken d.ids) taken) Done
    ≡ stage_seen d.steps d.ids (if b then Progress.Process (suc taken) false else Progress.Activating)
processed_seen d taken true is =
    ap (λ l. onward_by_size (sizes_of d.steps) (next_processed l taken) Done) (first_id d.ids taken (lt_true _ _ is))
processed_seen d taken false is =
    ap (λ l. onward_by_size (sizes_of d.steps) (next_processed l taken) Done)
    (drop_of_length-le d.ids (lt_false _ _ is))

pub not_process : (b : Bool) (id tag : ℕ) (r : Reply)
    → is_answer (if b then SendStep.Process id tag else SendStep.Activate) r ≡ is_answer SendStep.Activate r
not_process b id tag r = grind arith

-- the progress asks for calls of the rounds
abbrev pub IsCalling : Progress → Type 0
IsCalling Progress.Sync = Unit {0}
IsCalling Progress.Transfer = Unit {0}
IsCalling (Progress.Data id counter left) = Unit {0}
IsCalling (Progress.Process taken settled) = Unit {0}
IsCalling _ = ⊥

-- the reply to its call leads to the next stage
onward_seen : (d : DriverState) (p : Progress) (r : Reply) → 0 < length d.steps → IsPlaced d.steps d.ids p → IsCalling p
    → is_answer (round_step d p) r ≡ true
    → onward_by_size (sizes_of d.steps) (stage_seen d.steps d.ids p) r
    ≡ stage_seen d.steps (with_whole d.ids (whole_by p r)) (round_after d p r)
onward_seen d Progress.Sync Done some placed calling fits = absurd (cc fits)
onward_seen d Progress.Sync (Started id) some placed calling fits = absurd (cc fits)
onward_seen d Progress.Sync (Synced x) some placed calling fits =
    subst
    (λ ids. next_package [] (sizes_of d.steps) ≡ AtStart ids (drop (length ids) (sizes_of d.steps)))
    (sym placed)
    (synced_seen d.steps some)
onward_seen d Progress.Sync (Refused why) some placed calling fits = refl
onward_seen d Progress.Transfer Done some placed calling fits = absurd (cc fits)
onward_seen d Progress.Transfer (Started id) some placed calling fits =
    ap (λ l. onward_by_size (sizes_of d.steps) (AtStart d.ids l) (Started id))
    (first_left d.steps (length d.ids) placed)
onward_seen d Progress.Transfer (Synced x) some placed calling fits = absurd (cc fits)
onward_seen d Progress.Transfer (Refused why) some placed calling fits = refl
onward_seen d (Progress.Data id counter zero) Done some placed calling fits =
    whole_seen d id (nat_lt (suc (length d.ids)) (length d.steps)) refl
onward_seen d (Progress.Data id counter (suc left)) Done some placed calling fits =
    block_seen d id counter left (suc left == 0) (more_left left)
onward_seen d (Progress.Data id counter zero) (Started n) some placed calling fits = absurd (cc fits)
onward_seen d (Progress.Data id counter (suc left)) (Started n) some placed calling fits =
    absurd
    (cc
    (sym
    (not_exit (suc left == 0) id (size_at d.steps (length d.ids)).index counter (Started n) (more_left left))
    ∙ fits))
onward_seen d (Progress.Data id counter zero) (Synced x) some placed calling fits = absurd (cc fits)
onward_seen d (Progress.Data id counter (suc left)) (Synced x) some placed calling fits =
    absurd
    (cc
    (sym
    (not_exit (suc left == 0) id (size_at d.steps (length d.ids)).index counter (Synced x) (more_left left))
    ∙ fits))
onward_seen d (Progress.Data id counter left) (Refused why) some placed calling fits = refl
onward_seen d (Progress.Process taken settled) Done some placed calling fits =
    processed_seen d taken (nat_lt taken (length d.ids)) refl
onward_seen d (Progress.Process taken settled) (Started n) some placed calling fits =
    absurd
    (cc (sym (not_process (nat_lt taken (length d.ids)) (slice_index_or d.ids taken 0) d.campaign (Started n)) ∙ fits))
onward_seen d (Progress.Process taken settled) (Synced x) some placed calling fits =
    absurd
    (cc (sym (not_process (nat_lt taken (length d.ids)) (slice_index_or d.ids taken 0) d.campaign (Synced x)) ∙ fits))
onward_seen d (Progress.Process taken settled) (Refused why) some placed calling fits = refl
onward_seen d Progress.Activating r some placed calling fits = absurd calling
onward_seen d (Progress.Voted finding) r some placed calling fits = absurd calling
onward_seen d (Progress.Ending commit at) r some placed calling fits = absurd calling

-- the stage after one reply more
stage_snoc : (sizes : List ℕ) (stage : StageOf ℕ) (rs : List Reply) (r : Reply)
    → stage_by_size sizes stage (rs ++ r ∷ []) ≡ onward_by_size sizes (stage_by_size sizes stage rs) r
stage_snoc sizes stage [] r = refl
stage_snoc sizes stage (x ∷ rs) r = stage_snoc sizes (onward_by_size sizes stage x) rs r

pub calls_of_wish : (d : DriverState) (p : Progress) (asked : SendStep) → wish_at d p ≡ Wish.Send asked
    → (IsEnding p → ⊥) → IsCalling p × (round_step d p ≡ asked)
calls_of_wish d p asked is early = grind arith

pub wish_of_todo : (d : DriverState) (w : Wish) (at : CallNo) (asked : SendStep) → todo_for d w ≡ Todo.Send at asked
    → w ≡ Wish.Send asked
wish_of_todo d w at asked is = grind arith

-- what a driver stands for, as an equation of stages
pub stands_calling : (steps : List PackageSize) (ids : List ℕ) (p : Progress) (replies : List Reply) → (IsEnding p → ⊥)
    → StandsAt steps ids p replies → stage_by_size (sizes_of steps) AtSync replies ≡ stage_seen steps ids p
stands_calling steps ids p replies early stands = grind arith

stands_by : (steps : List PackageSize) (ids : List ℕ) (p : Progress) (replies : List Reply)
    → stage_by_size (sizes_of steps) AtSync replies ≡ stage_seen steps ids p → StandsAt steps ids p replies
stands_by steps ids p replies is = grind arith

is_early : (p : Progress) → IsCalling p → IsEnding p → ⊥
is_early p calling ending = grind arith

module _ (d : DriverState) (replies : List Reply) (sound : IsSound d) where
  -- a reply to a call of the rounds
  stands_called : (p : Progress) (reply : Reply) (asked : SendStep) → IsPlaced d.steps d.ids p
      → StandsAt d.steps d.ids p replies → IsCalling p × (round_step d p ≡ asked) → is_answer asked reply ≡ true
      → StandsAt d.steps (with_whole d.ids (whole_by p reply)) (round_after d p reply) (replies ++ reply ∷ [])
  stands_called p reply asked placed stands call fits =
      stands_by d.steps (with_whole d.ids (whole_by p reply)) (round_after d p reply) (replies ++ reply ∷ [])
      (stage_snoc (sizes_of d.steps) AtSync replies reply
      ∙ (ap (λ s. onward_by_size (sizes_of d.steps) s reply)
      (stands_calling d.steps d.ids p replies (is_early p call.0) stands)
      ∙ onward_seen d p reply sound.some placed call.0 (subst (λ a. is_answer a reply ≡ true) (sym call.1) fits)))

  pub stands_replied : (p : Progress) (reply : Reply) (asked : SendStep) → IsPlaced d.steps d.ids p
      → StandsAt d.steps d.ids p replies → wish_at d p ≡ Wish.Send asked → is_answer asked reply ≡ true
      → StandsAt d.steps (with_whole d.ids (whole_by p reply)) (progress_after d p reply) (replies ++ reply ∷ [])
  stands_replied Progress.Sync reply asked placed stands is fits =
      stands_called Progress.Sync reply asked placed stands (calls_of_wish d Progress.Sync asked is (λ e. e)) fits
  stands_replied Progress.Transfer reply asked placed stands is fits =
      stands_called Progress.Transfer reply asked placed stands
      (calls_of_wish d Progress.Transfer asked is (λ e. e)) fits
  stands_replied (Progress.Data id counter left) reply asked placed stands is fits =
      let p = Progress.Data id counter left in
      stands_called p reply asked placed stands (calls_of_wish d p asked is (λ e. e)) fits
  stands_replied (Progress.Process taken settled) reply asked placed stands is fits =
      let p = Progress.Process taken settled in
      stands_called p reply asked placed stands (calls_of_wish d p asked is (λ e. e)) fits
  stands_replied Progress.Activating reply asked placed stands is fits = absurd (cc is)
  stands_replied (Progress.Voted finding) reply asked placed stands is fits = absurd (cc is)
  stands_replied (Progress.Ending commit at) reply asked placed stands is fits = tt

-- a status changes no stage
pub stands_worked : (steps : List PackageSize) (ids : List ℕ) (p : Progress) (status : Status) (replies : List Reply)
    → StandsAt steps ids p replies → StandsAt steps ids (settled_after p status) replies
stands_worked steps ids p status replies stands = grind arith

pub stands_begun : (d : DriverState) (replies : List Reply) (round : Round) → StandsFor d replies
    → StandsFor (begun round d) replies
stands_begun d replies round stands = grind arith

-- the bytes of the step at a place
at_bytes : (packages : List (List ℕ)) (steps : List PackageSize) (n : ℕ) → n < length steps
    → slice_index_or (step_bytes packages steps) n [] ≡ bytes_at packages (size_at steps n).index
at_bytes packages [] n less = absurd (omega (arith, less))
at_bytes packages (s ∷ steps) zero less = refl
at_bytes packages (s ∷ steps) (suc n) less = at_bytes packages steps n (omega (arith, less))

pub sizes_same : (packages : List (List ℕ)) (steps : List PackageSize) → AreThere packages steps
    → map length (step_bytes packages steps) ≡ sizes_of steps
sizes_same packages [] there = refl
sizes_same packages (s ∷ steps) there =
    ap (λ n. n ∷ map length (step_bytes packages steps)) there.0.size
    ∙ ap (λ ns. s.length ∷ ns) (sizes_same packages steps there.1)

process_call : (packages : List (List ℕ)) (d : DriverState) (taken : ℕ) (b : Bool) → nat_lt taken (length d.ids) ≡ b
    → option_map (world_call d.campaign (step_bytes packages d.steps))
    (step_at (next_processed (drop taken d.ids) taken))
    ≡ Some
    (call_of packages
    (if b then SendStep.Process (slice_index_or d.ids taken 0) d.campaign else SendStep.Activate))
process_call packages d taken true is =
    ap
    (λ l. option_map (world_call d.campaign (step_bytes packages d.steps)) (step_at (next_processed l taken)))
    (first_id d.ids taken (lt_true _ _ is))
process_call packages d taken false is =
    ap
    (λ l. option_map (world_call d.campaign (step_bytes packages d.steps)) (step_at (next_processed l taken)))
    (drop_of_length-le d.ids (lt_false _ _ is))

block_call : (packages : List (List ℕ)) (p id counter : ℕ) (b : Bool) → b ≡ false
    → Some (Call.TransferData id counter (block_of counter (bytes_at packages p)))
    ≡ Some (call_of packages (if b then SendStep.Exit id else SendStep.Data p id counter))
block_call packages p id counter true is = absurd (cc is)
block_call packages p id counter false is = refl

-- the call that comes next in the rounds is the driver's
call_seen : (packages : List (List ℕ)) (d : DriverState) (p : Progress) → IsCalling p → IsPlaced d.steps d.ids p
    → option_map (world_call d.campaign (step_bytes packages d.steps)) (step_at (stage_seen d.steps d.ids p))
    ≡ Some (call_of packages (round_step d p))
call_seen packages d Progress.Sync calling placed = refl
call_seen packages d Progress.Transfer calling placed =
    ap
    (λ l. option_map (world_call d.campaign (step_bytes packages d.steps)) (step_at (AtStart d.ids l)))
    (first_left d.steps (length d.ids) placed)
    ∙ ap (λ b. Some (Call.TransferStart (length b))) (at_bytes packages d.steps (length d.ids) placed)
call_seen packages d (Progress.Data id counter zero) calling placed = refl
call_seen packages d (Progress.Data id counter (suc left)) calling placed =
    ap
    (λ b. Some (Call.TransferData id counter (block_of counter b)))
    (at_bytes packages d.steps (length d.ids) placed.0)
    ∙ block_call packages (size_at d.steps (length d.ids)).index id counter (suc left == 0) (more_left left)
call_seen packages d (Progress.Process taken settled) calling placed =
    process_call packages d taken (nat_lt taken (length d.ids)) refl
call_seen packages d Progress.Activating calling placed = absurd calling
call_seen packages d (Progress.Voted finding) calling placed = absurd calling
call_seen packages d (Progress.Ending commit at) calling placed = absurd calling

pub asks_next : GoesBySize → (packages : List (List ℕ)) (d : DriverState) (replies : List Reply) → IsSound d
    → StandsFor d replies → AreThere packages d.steps → (IsEnding d.progress → ⊥)
    → (asked : SendStep) → wish d ≡ Wish.Send asked
    → call_at d.campaign (stage_of (step_bytes packages d.steps) AtSync replies) ≡ Some (call_of packages asked)
asks_next by_size packages d replies sound stands there early asked is =
    let call = calls_of_wish d d.progress asked is early in
    by_size.calls d.campaign (step_bytes packages d.steps) replies
    ∙ (ap
    (λ s. option_map (world_call d.campaign (step_bytes packages d.steps)) (step_at s))
    (ap (λ sizes. stage_by_size sizes AtSync replies) (sizes_same packages d.steps there)
    ∙ stands_calling d.steps d.ids d.progress replies early stands)
    ∙ (call_seen packages d d.progress call.0 sound.placed ∙ ap (λ a. Some (call_of packages a)) call.1))

done_if : (b : Bool) (f : Finding) (t : Todo) → (t ≡ Todo.Rest Finding.RoundDone → ⊥) → (f ≡ Finding.RoundDone → ⊥)
    → (if b then Todo.Rest f else t) ≡ Todo.Rest Finding.RoundDone → ⊥
done_if true f t other missed is = missed (cc is)
done_if false f t other missed is = other is

pub done_of_todo : (d : DriverState) (w : Wish) → todo_for d w ≡ Todo.Rest Finding.RoundDone
    → w ≡ Wish.Rest Finding.RoundDone
done_of_todo d w is = grind arith

over_of : (b : Bool) (asked : SendStep)
    → (if b then Wish.Rest Finding.RoundDone else Wish.Send asked) ≡ Wish.Rest Finding.RoundDone → b ≡ true
over_of true asked is = refl
over_of false asked is = absurd (cc is)

processing_is_past : (ids : List ℕ) (taken : ℕ) → is_past {B = ℕ} None (next_processed ids taken) ≡ true
processing_is_past [] taken = refl
processing_is_past (id ∷ ids) taken = refl

processing_is_past_transfers : (ids : List ℕ) (taken : ℕ)
    → is_past {B = ℕ} (Some Phase.Transferring) (next_processed ids taken) ≡ true
processing_is_past_transfers [] taken = refl
processing_is_past_transfers (id ∷ ids) taken = refl

-- where the round is over, its stage is past
past_seen : (round : Round) (steps : List PackageSize) (ids : List ℕ) (p : Progress) → IsCalling p
    → is_over (Some round) ids p ≡ true → is_past (phase_of round) (stage_seen steps ids p) ≡ true
past_seen Round.Sync steps ids Progress.Sync calling is = absurd (cc is)
past_seen Round.Sync steps ids Progress.Transfer calling is = refl
past_seen Round.Sync steps ids (Progress.Data id counter left) calling is = refl
past_seen Round.Sync steps ids (Progress.Process taken settled) calling is = processing_is_past (drop taken ids) taken
past_seen Round.Transfer steps ids (Progress.Process taken settled) calling is =
    processing_is_past_transfers (drop taken ids) taken
past_seen Round.Transfer steps ids Progress.Sync calling is = absurd (cc is)
past_seen Round.Transfer steps ids Progress.Transfer calling is = absurd (cc is)
past_seen Round.Transfer steps ids (Progress.Data id counter left) calling is = absurd (cc is)
past_seen Round.Process steps ids (Progress.Process taken settled) calling is =
    ap
    (λ l. is_past {B = ℕ} (Some Phase.Processing) (next_processed l taken))
    (drop_of_length-le ids (le_true _ _ is))
past_seen Round.Process steps ids Progress.Sync calling is = absurd (cc is)
past_seen Round.Process steps ids Progress.Transfer calling is = absurd (cc is)
past_seen Round.Process steps ids (Progress.Data id counter left) calling is = absurd (cc is)
past_seen Round.Activate steps ids p calling is = grind (arith, calling, is)
past_seen (Round.End commit) steps ids p calling is = grind (arith, calling, is)
past_seen round steps ids Progress.Activating calling is = absurd calling
past_seen round steps ids (Progress.Voted finding) calling is = absurd calling
past_seen round steps ids (Progress.Ending commit at) calling is = absurd calling

rest_end : (at : EndProgress) → end_wish at ≡ Wish.Rest Finding.RoundDone → ⊥
rest_end at is = grind arith

voted_done : (steps : List PackageSize) (ids : List ℕ) (round : Round) (finding : Finding) → finding ≡ Finding.RoundDone
    → is_past (phase_of round) (stage_seen steps ids (Progress.Voted finding)) ≡ true
voted_done steps ids round finding is =
    ap (λ f. is_past (phase_of round) (stage_seen steps ids (Progress.Voted f))) is

calling_done : (d : DriverState) (replies : List Reply) (round : Round) (p : Progress) → IsCalling p
    → StandsAt d.steps d.ids p replies → d.round ≡ Some round
    → call_wish d p ≡ Wish.Rest Finding.RoundDone
    → is_past (phase_of round) (stage_by_size (sizes_of d.steps) AtSync replies) ≡ true
calling_done d replies round p calling stands here is =
    ap (is_past (phase_of round)) (stands_calling d.steps d.ids p replies (is_early p calling) stands)
    ∙ past_seen round d.steps d.ids p calling
    (subst (λ r. is_over r d.ids p ≡ true) here (over_of (is_over d.round d.ids p) (round_step d p) is))

pub done_at : (d : DriverState) (replies : List Reply) (round : Round) (p : Progress) → StandsAt d.steps d.ids p replies
    → d.round ≡ Some round → wish_at d p ≡ Wish.Rest Finding.RoundDone
    → is_past (phase_of round) (stage_by_size (sizes_of d.steps) AtSync replies) ≡ true
done_at d replies round Progress.Sync stands here is = calling_done d replies round Progress.Sync tt stands here is
done_at d replies round Progress.Transfer stands here is =
    calling_done d replies round Progress.Transfer tt stands here is
done_at d replies round (Progress.Data id counter left) stands here is =
    calling_done d replies round (Progress.Data id counter left) tt stands here is
done_at d replies round (Progress.Process taken true) stands here is =
    calling_done d replies round (Progress.Process taken true) tt stands here is
done_at d replies round (Progress.Process taken false) stands here is = absurd (cc is)
done_at d replies round Progress.Activating stands here is = absurd (cc is)
done_at d replies round (Progress.Voted finding) stands here is =
    ap (is_past (phase_of round)) stands ∙ voted_done d.steps d.ids round finding (cc is)
done_at d replies round (Progress.Ending commit at) stands here is = absurd (rest_end at is)
