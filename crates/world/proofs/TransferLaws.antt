-- Laws of the real node: work units.
use Rattle.world.proofs.Names.{inl, inr, ◌≡◌, ◌⊎◌, ℕ, List, [], ◌∷◌, Option, Some, None, Bool, refl, ◌∙◌, ap, subst}
use Rattle.world.proofs.Names.{arith, IfSome, map, eqb-true, get_or-set_same, Bytes, Outcome, New, Old, UnitAfter}
use Rattle.world.proofs.Names.{Status, Idle, Processing, Activating, Verifying, Activated, RollingBack, RolledBack}
use Rattle.world.proofs.Names.{CleaningUp, NodeState, Session, with_entry, unit_of, IsConsistent, should_run}
use Rattle.world.proofs.Names.{id_in_processing, ◌≢◌, zero, suc, ◌+◌, ◌<◌, ◌++◌, length, get_or, true, ◌==◌, ◌||◌, not}
use Rattle.world.proofs.Names.{find, nat_lt, filter, AllByRecursion, Contains, eq-eqb, map-append, filter-append}
use Rattle.world.proofs.Names.{find-append, block_limit, Call, Refusal, OperationNotPermitted, IncorrectBlock}
use Rattle.world.proofs.Names.{IncorrectSize, Header, Transferring, Transferred, BeingProcessed, Processed, Cluster}
use Rattle.world.proofs.Names.{Ready, Transfer, some_passes, is_in, led_by, begin_processing, is_of, ids_of, parts_read}
use Rattle.world.proofs.Names.{in_phase, exited, parts_of_id, Reading, verdict_for, IsSound, IsFit, TransferStart}
use Rattle.world.proofs.Names.{TransferData, TransferExit, ProcessSwPackage, Done, Started}
use Rattle.world.proofs.WordLaws.{run_parts, planned-run, runs-new}
use Rattle.world.proofs.Instance.{last_in, kept_in, mine_in, planned_in, outcome_in, ended_in, unit_in, BringsIn}
use Rattle.world.proofs.Instance.{LeavesIn, tag_if, received_in, judged_in, real}
use Rattle.node_laws.proofs.Lists.{changed, KeepsNames, found-is, found-changed}
use Rattle.world.proofs.Rules.{KeepsTransfers}
use Rattle.node_laws.proofs.NameLists.{names-of-parts}
use Rattle.node_laws.proofs.KeptProcessing.{names-kept, parts-of-changes}
use Rattle.world.proofs.Basics.{judged-by, done-none, not-refused}
use Rattle.world.proofs.Names.{InvalidTransferId, after_reply, grown, is_none, header_of, option_map_or, refusal, refused_or, sym, transfer_of}
use Rattle.pm_types.specs.declared.calls.Call.TheVariants as call

pub unit-is : (s : NodeState) (passed : Bool) (x : Session) (t : NodeState) → s.session ≡ Some x
    → unit_of s x passed s.status ≡ Some t → unit_in s passed ≡ with_entry (UnitAfter t.status) t
unit-is s passed x t e q = grind arith

pub unit_last : (s : NodeState) (passed : Bool)
    → (last_in (unit_in s passed) ≡ last_in s) × (kept_in (unit_in s passed) ≡ kept_in s)
unit_last s passed = grind arith

-- client 0's session under a unit
abbrev pub GoesTo : NodeState → NodeState → ℕ → (Status → Type 0) → Type 0
GoesTo s t tag To = (mine_in t ≡ Some tag) × To t.status × (planned_in t ≡ planned_in s) × (ended_in t ≡ ended_in s)

at-status : (s : NodeState) (x : Session) (passed : Bool) (st : Status) (t : NodeState) → s.status ≡ st
    → unit_of s x passed st ≡ Some t → unit_of s x passed s.status ≡ Some t
at-status s x passed st t e q = ap (λ y. unit_of s x passed y) e ∙ q

pub unit_activating : (s : NodeState) (passed : Bool) (tag : ℕ) → mine_in s ≡ Some tag → s.status ≡ Activating
    → GoesTo s (unit_in s passed) tag (λ to. to ≡ Verifying)
unit_activating s passed tag mine st = grind arith

pub unit_rolling : (s : NodeState) (passed : Bool) (tag : ℕ) → mine_in s ≡ Some tag → s.status ≡ RollingBack
    → GoesTo s (unit_in s passed) tag (λ to. to ≡ RolledBack)
unit_rolling s passed tag mine st = grind arith

pub unit_verifying : (s : NodeState) (passed : Bool) (tag : ℕ) → mine_in s ≡ Some tag → s.status ≡ Verifying
    → GoesTo s (unit_in s passed) tag (λ to. (to ≡ Verifying) ⊎ ((to ≡ Activated) ⊎ (to ≡ RollingBack)))
unit_verifying s passed tag mine st = grind arith

-- the end of a session of client 0
pub unit_cleaning : (s : NodeState) (passed : Bool) (tag : ℕ) (o : Outcome) → IsConsistent s → mine_in s ≡ Some tag
    → s.status ≡ CleaningUp → outcome_in s ≡ Some o
    → (mine_in (unit_in s passed) ≡ None) × ((unit_in s passed).status ≡ Idle)
    × (ended_in (unit_in s passed) ≡ Some (record { tag = tag; outcome = o }))
unit_cleaning s passed tag o v mine st out =
    grind (arith, unit-is, at-status, eqb-true, get_or-set_same, mine_in, ended_in)

-- what it leaves
runs : (s : NodeState) (x : Session) → IsConsistent s → s.session ≡ Some x → s.running ≡ should_run x s.status x.outcome
runs s x v e = subst (λ o. IfSome o (λ (y : Session). s.running ≡ should_run y s.status y.outcome)) e v.running

pub cleaning_new : (s : NodeState) (passed : Bool) (tag : ℕ) → IsConsistent s → mine_in s ≡ Some tag
    → s.status ≡ CleaningUp → outcome_in s ≡ Some New → BringsIn (planned_in s) s (unit_in s passed)
cleaning_new s passed tag v mine st out =
    grind (arith, unit-is, at-status, runs, planned_in, names-of-parts, unit_in, runs-new, planned-run, run_parts)

pub cleaning_old : (s : NodeState) (passed : Bool) (tag : ℕ) → IsConsistent s → mine_in s ≡ Some tag
    → s.status ≡ CleaningUp → outcome_in s ≡ Some Old → LeavesIn s (unit_in s passed)
cleaning_old s passed tag v mine st out = grind arith

pub processing_id : (s : NodeState) (tag : ℕ) → IsConsistent s → s.status ≡ Processing
    → (id : ℕ) × (id_in_processing s ≡ Some id)
processing_id s tag v st = grind arith

pub cleaning_outcome : (s : NodeState) (tag : ℕ) → IsConsistent s → mine_in s ≡ Some tag → s.status ≡ CleaningUp
    → (o : Outcome) × (outcome_in s ≡ Some o)
cleaning_outcome s tag v mine st = grind arith

-- Laws of the real node: client 0's transfers under its own calls and under units.
ids-changed : (c id : ℕ) (f : Transfer → Transfer) → KeepsNames f → (ts : List Transfer)
    → map (λ (t : Transfer). t.header.id) (filter (λ (t : Transfer). t.header.client == c) (map (changed id f) ts))
    ≡ map (λ (t : Transfer). t.header.id) (filter (λ (t : Transfer). t.header.client == c) ts)
ids-changed c id f k [] = refl
ids-changed c id f k (t ∷ ts) = grind (arith, ids-changed c id f k ts)

pub find-all : (P : Transfer → Type 0) (p : Transfer → Bool) (ts : List Transfer) (t : Transfer) → AllByRecursion P ts
    → find p ts ≡ Some t → P t
find-all P p [] t a e = absurd (cc e)
find-all P p (y ∷ ys) t a e = grind (arith, find-all P p ys t a.1)

abbrev pub data-rest : Option Header → ℕ → ℕ → List (Bool × Refusal)
data-rest found counter size =
    (some_passes (λ h. not (is_in Transferring h)) found, OperationNotPermitted)
    ∷ (
      (size == 0) || nat_lt block_limit size || some_passes (λ h. not (h.next_counter == counter)) found,
      IncorrectBlock,
    )
    ∷ (some_passes (λ h. nat_lt h.size (h.received + size)) found, IncorrectSize)
    ∷ []

module _ (read : Reading) (clusters : List (Cluster Bytes)) where
  pub keeps-all : (s t : NodeState) → t.transfers ≡ s.transfers → KeepsTransfers (real read clusters) s t
  keeps-all s t e = grind arith

  pub keeps-changed : (s t : NodeState) (id : ℕ) (f : Transfer → Transfer) → KeepsNames f
      → ((y : Transfer) → (f y).bytes ≡ y.bytes) → t.transfers ≡ map (changed id f) s.transfers
      → KeepsTransfers (real read clusters) s t
  keeps-changed s t id f k b e = grind (arith, ids-changed, found-changed)

  -- TransferExit and ProcessSwPackage
  pub exit_received : (s : NodeState) (id : ℕ)
      → KeepsTransfers (real read clusters) s (judged_in read s (TransferExit id)).0
  exit_received s id =
      judged-by s 0 (call.TransferExit id) (verdict_for read s 0 (call.TransferExit id))
      (λ t. KeepsTransfers (real read clusters) s t) (keeps-all s s refl)
      (keeps-changed s (exited s id (verdict_for read s 0 (call.TransferExit id))) id
      (λ t. record t {
        header = in_phase Transferred t.header;
        parts = parts_read
            (verdict_for read s 0 (call.TransferExit id));
      }) (record { id = λ t. refl; client = λ t. refl }) (λ t. refl)
      refl)

  led-transfers : (c : Call) (s : NodeState) → (led_by c s).transfers ≡ s.transfers
  led-transfers c s = grind arith

  pub process_received : (s : NodeState) (id tag : ℕ)
      → KeepsTransfers (real read clusters) s (judged_in read s (ProcessSwPackage id tag)).0
  process_received s id tag =
      judged-by s 0 (call.ProcessSwPackage id tag) (verdict_for read s 0 (call.ProcessSwPackage id tag))
      (λ t. KeepsTransfers (real read clusters) s t) (keeps-all s s refl)
      (keeps-changed s (led_by (call.ProcessSwPackage id tag) (begin_processing s 0 id tag)) id
      (λ t. record t { header = in_phase BeingProcessed t.header }) (names-kept BeingProcessed) (λ t. refl)
      (led-transfers (call.ProcessSwPackage id tag) (begin_processing s 0 id tag)))

  pub data_transfers : (s : NodeState) (id counter : ℕ) (bytes : List ℕ)
      → ids_of (judged_in read s (TransferData id counter bytes)).0 0 ≡ ids_of s 0
  data_transfers s id counter bytes =
      judged-by s 0 (call.TransferData id counter bytes) (verdict_for read s 0 (call.TransferData id counter bytes))
      (λ t. ids_of t 0 ≡ ids_of s 0) refl
      (ids-changed 0 id (λ t. record t { header = grown (length bytes) t.header; bytes = t.bytes ++ bytes })
      (record { id = λ t. refl; client = λ t. refl }) s.transfers)

  pub data_received : (s : NodeState) (id counter : ℕ) (bytes : List ℕ)
      → (judged_in read s (TransferData id counter bytes)).1 ≡ Done
      → (received_in (judged_in read s (TransferData id counter bytes)).0 id ≡ received_in s id ++ bytes)
      × ((other : ℕ) → other ≢ id
      → received_in (judged_in read s (TransferData id counter bytes)).0 other ≡ received_in s other)
  data_received s id counter bytes d =
      subst (λ t. (received_in t id ≡ received_in s id ++ bytes)
      × ((other : ℕ) → other ≢ id → received_in t other ≡ received_in s other))
      (sym (ap (λ o. after_reply s 0 (call.TransferData id counter bytes)
      (verdict_for read s 0 (call.TransferData id counter bytes)) (refused_or Done o)) none)) longer
    where
      none : refusal s 0 (call.TransferData id counter bytes)
          (verdict_for read s 0 (call.TransferData id counter bytes)) ≡ None
      none = done-none Done _ d

      grows : Transfer → Transfer
      grows t = record t { header = grown (length bytes) t.header; bytes = t.bytes ++ bytes }

      longer : (received_in (record s { transfers = map (changed id grows) s.transfers }) id
          ≡ received_in s id ++ bytes)
          × ((other : ℕ) → other ≢ id
          → received_in (record s { transfers = map (changed id grows) s.transfers }) other ≡ received_in s other)
      longer =
          let h = header_of (transfer_of s 0 id) in
          let there = (not-refused (is_none h, InvalidTransferId) (data-rest h counter (length bytes)) none).0 in
          grind (arith, found-changed, received_in, found-is, there)

  ids-below : (next : ℕ) (ts : List Transfer) → AllByRecursion (IsSound next) ts
      → AllByRecursion (λ (n : ℕ). n < next)
      (map (λ (t : Transfer). t.header.id) (filter (λ (t : Transfer). t.header.client == 0) ts))
  ids-below next [] a = tt
  ids-below next (t ∷ ts) a = grind (arith, ids-below next ts a.1)

  not-below : (b : ℕ) (l : List ℕ) → AllByRecursion (λ (n : ℕ). n < b) l → Contains l b → ⊥
  not-below b l a h = at l a h.0 h.1 h.2
    where
      at : (ys : List ℕ) → AllByRecursion (λ (n : ℕ). n < b) ys → (i : ℕ) → i < length ys → get_or ys i b ≡ b → ⊥
      at [] q i lt e = omega arith
      at (y ∷ ys) q zero lt e = let z : y < b = q.0 in omega (arith, e)
      at (y ∷ ys) q (suc i) lt e = at ys q.1 i (omega arith) e

  pub start_transfers : (s : NodeState) (size id : ℕ) → IsConsistent s
      → (judged_in read s (TransferStart size)).1 ≡ Started id
      → (Contains (ids_of s 0) id → ⊥) × (ids_of (judged_in read s (TransferStart size)).0 0 ≡ ids_of s 0 ++ id ∷ [])
  start_transfers s size id v e = grind (arith, not-below, ids-below, filter-append, map-append)

  none-found : (next : ℕ) (ts : List Transfer) → AllByRecursion (IsSound next) ts
      → find (λ (t : Transfer). is_of 0 next t.header) ts ≡ None
  none-found next [] a = refl
  none-found next (t ∷ ts) a = grind (arith, none-found next ts a.1)

  pub start_received : (s : NodeState) (size id : ℕ) → IsConsistent s
      → (judged_in read s (TransferStart size)).1 ≡ Started id
      → (received_in (judged_in read s (TransferStart size)).0 id ≡ [])
      × ((other : ℕ) → other ≢ id → received_in (judged_in read s (TransferStart size)).0 other ≡ received_in s other)
  start_received s size id v e = grind (arith, received_in, find-append, none-found, eqb-true)

  -- a unit changes at most the phase of the transfer in processing
  in-process : (s : NodeState) (passed : Bool) (id : ℕ) → id_in_processing s ≡ Some id → s.status ≢ CleaningUp
      → ((unit_in s passed).transfers ≡ s.transfers)
      ⊎ ((unit_in s passed).transfers
      ≡ map (changed id (λ t. record t { header = in_phase Processed t.header })) s.transfers)
  in-process s passed id p n = grind arith

  pub unit_received : (s : NodeState) (passed : Bool) → s.status ≢ CleaningUp
      → KeepsTransfers (real read clusters) s (unit_in s passed)
  unit_received s passed n = go (id_in_processing s) refl
    where
      go : (o : Option ℕ) → id_in_processing s ≡ o → KeepsTransfers (real read clusters) s (unit_in s passed)
      go None p = keeps-all s (unit_in s passed) (grind arith)
      go (Some id) p =
          elim (in-process s passed id p n)
          [ inl e ↦ keeps-all s _ e | inr e ↦ keeps-changed s _ id _ (names-kept Processed) (λ t. refl) e ]

  -- a package in processing
  parts-are : (s : NodeState) (x : Session) (id : ℕ) → IsFit read s → s.session ≡ Some x → (x.owner == 0) ≡ true
      → x.processing ≡ Some id → parts_of_id s x id ≡ parts_read (read (received_in s id))
  parts-are s x id fit e owner p = grind (arith, received_in, find-all, found-is, eq-eqb)

  pub unit_processing : (s : NodeState) (passed : Bool) (tag id : ℕ) → IsFit read s → mine_in s ≡ Some tag
      → s.status ≡ Processing → id_in_processing s ≡ Some id
      → (mine_in (unit_in s passed) ≡ Some tag) × (ended_in (unit_in s passed) ≡ ended_in s)
      × ((((unit_in s passed).status ≡ Processing) × (planned_in (unit_in s passed) ≡ planned_in s)
      × (id_in_processing (unit_in s passed) ≡ Some id))
      ⊎ (((unit_in s passed).status ≡ Ready)
      × (planned_in (unit_in s passed) ≡ planned_in s ++ parts_read (read (received_in s id)))))
  unit_processing s passed tag id fit mine st p =
      grind (
        arith,
        unit-is,
        mine_in,
        ended_in,
        planned_in,
        received_in,
        tag_if,
        map-append,
        parts-of-changes,
        parts-are,
      )
