-- A stage comes after a round exactly where each call of this round and those before it is answered.
use Rattle.world.proofs.Names.{◌≡◌, ◌≢◌, ◌⊎◌, inl, inr, ℕ, zero, suc, ◌+◌, List, [], ◌∷◌, ◌++◌, length, drop, Option}
use Rattle.world.proofs.Names.{Some, None, refl, sym, ◌∙◌, ap, arith, nat_le, length-drop, block_limit, Call, Reply, Done}
use Rattle.world.proofs.Names.{Started, Synced, TransferExit, Activate, slice_index_or, Fits, AllFit, blocks_from, all_transfers, all_processed}
use Rattle.world.proofs.Names.{Stage, AtSync, AtStart, AtData, AtProcess, AtActivate, Over, RefusedOnce, onward}
use Rattle.world.proofs.Names.{next_package, next_processed, stage_of, nat_tests}
use Rattle.std.proofs.Common.{length-append}
use Rattle.campaign_core.specs.declared.events.Phase.{Phase}
use Rattle.campaign_core.specs.declared.events.Phase.TheVariants as phase
use Rattle.world.proofs.RoundList.{IsReached, reached-on, blocks-room}
use Rattle.world.specs.RoundCalls.{is_past, calls_until, ids_of, RoundsEnd}

blocks-length : (n id c id' c' : ℕ) (bytes : List ℕ)
    → length (blocks_from n id c bytes) ≡ length (blocks_from n id' c' bytes)
blocks-length zero id c id' c' bytes = refl
blocks-length (suc n) id c id' c' [] = refl
blocks-length (suc n) id c id' c' (b ∷ bs) =
    ap suc (blocks-length n id (c + 1) id' (c' + 1) (drop block_limit (b ∷ bs)))

-- how many blocks there are
abbrev block_count : List ℕ → ℕ
block_count bytes = length (blocks_from (length bytes) 0 1 bytes)

block-less : (b : ℕ) (bs : List ℕ) → block_count (b ∷ bs) ≡ suc (block_count (drop block_limit (b ∷ bs)))
block-less b bs =
    let rest = drop block_limit (b ∷ bs) in
    let d = length-drop block_limit (b ∷ bs) in
    ap (λ (l : List Call). suc (length l))
    (blocks-room (length bs) (length rest) 0 2 rest (omega (arith, d)) (omega arith))
    ∙ ap suc (blocks-length (length rest) 0 2 0 1 rest)

-- how many calls the transfers of these packages have
abbrev transfer_count : List (List ℕ) → ℕ
transfer_count [] = 0
transfer_count (p ∷ ps) = suc (block_count p + 1 + transfer_count ps)

transfers-length : (ids : List ℕ) (ps : List (List ℕ)) → length (all_transfers ids ps) ≡ transfer_count ps
transfers-length ids [] = refl
transfers-length ids (p ∷ ps) =
    let id = slice_index_or ids 0 0 in
    let blocks = blocks_from (length p) id 1 p in
    let rest = transfers-length (drop 1 ids) ps in
    let same = blocks-length (length p) id 1 0 1 p in
    let inner = length-append blocks (TransferExit id ∷ []) in
    let outer = length-append (blocks ++ TransferExit id ∷ []) (all_transfers (drop 1 ids) ps) in
    ap suc (omega (arith, rest, same, inner, outer))

processed-length : (k : ℕ) (ids : List ℕ) (ps : List (List ℕ)) → length (all_processed k ids ps) ≡ length ps
processed-length k ids [] = refl
processed-length k ids (p ∷ ps) = ap suc (processed-length k (drop 1 ids) ps)

-- how many calls the rounds behind the transfers have, up to that of this phase
abbrev later_count : Phase → ℕ → ℕ
later_count phase.Transferring n = 0
later_count phase.Processing n = n
later_count phase.Activating n = suc n

-- how many calls are left from a stage on, up to the round of this phase
abbrev left_in : Phase → List (List ℕ) → Stage → ℕ
left_in p ps AtSync = suc (transfer_count ps + later_count p (length ps))
left_in p ps (AtStart ids left) = transfer_count left + later_count p (length ids + length left)
left_in p ps (AtData ids id counter bytes left) =
    suc (block_count bytes + transfer_count left + later_count p (length ids + suc (length left)))
left_in p ps (AtProcess ids taken) = later_count p (length ids)
left_in p ps AtActivate = later_count p 0
left_in p ps Over = 0
left_in p ps RefusedOnce = 0

abbrev left_count : Option Phase → List (List ℕ) → Stage → ℕ
left_count None ps AtSync = 1
left_count None ps stage = 0
left_count (Some p) ps stage = left_in p ps stage

-- one call less is left, or none was and none is
abbrev IsLess : ℕ → ℕ → Type 0
IsLess before after = (before ≡ suc after) ⊎ ((before ≡ 0) × (after ≡ 0))

one-more : (a b c : ℕ) → suc (suc a + b + c) ≡ suc (suc (a + b + c))
one-more a b c = omega arith

zero-plus : (n : ℕ) → n ≡ 0 + n
zero-plus n = omega arith

plus-zero : (n : ℕ) → n + 0 ≡ n
plus-zero n = omega arith

left-package : (p : Phase) (ps : List (List ℕ)) (ids : List ℕ) (left : List (List ℕ))
    → left_in p ps (next_package ids left) ≡ transfer_count left + later_count p (length ids + length left)
left-package p ps ids [] = ap (later_count p) (sym (plus-zero (length ids))) ∙ zero-plus _
left-package p ps ids (q ∷ left) = refl

left-processed : (p : Phase) (ps : List (List ℕ)) (ids : List ℕ) (taken : ℕ)
    → left_in p ps (next_processed ids taken) ≡ later_count p (length ids)
left-processed p ps [] taken = refl
left-processed p ps (id ∷ ids) taken = refl

later-less : (p : Phase) (n m : ℕ) → m ≡ later_count p n → IsLess (later_count p (suc n)) m
later-less phase.Transferring n m is = inr (refl, is)
later-less phase.Processing n m is = inl (ap suc (sym is))
later-less phase.Activating n m is = inl (ap suc (sym is))

left-on : (p : Phase) (ps : List (List ℕ)) (stage : Stage) (r : Reply) → Fits stage r
    → IsLess (left_in p ps stage) (left_in p ps (onward ps stage r))
left-on p ps AtSync (Synced x) fits =
    let same = ap (λ n. transfer_count ps + later_count p n) (sym (zero-plus (length ps))) in
    inl (ap suc (sym (left-package p ps [] ps ∙ same)))
left-on p ps (AtStart ids (q ∷ left)) (Started id) fits =
    let n = later_count p (length ids + suc (length left)) in
    inl (let e : suc (block_count q + 1 + transfer_count left) + n
    ≡ suc (suc (block_count q + transfer_count left + n)) = omega arith in e)
left-on p ps (AtData ids id counter [] left) Done fits =
    let more : length (ids ++ id ∷ []) + length left ≡ length ids + suc (length left) =
    (let l = length-append ids (id ∷ []) in omega (arith, l)) in
    let same = left-package p ps (ids ++ id ∷ []) left ∙ ap (λ n. transfer_count left + later_count p n) more in
    inl (ap (λ n. suc (n + later_count p (length ids + suc (length left)))) (sym (zero-plus (transfer_count left)))
    ∙ ap suc (sym same))
left-on p ps (AtData ids id counter (b ∷ bs) left) Done fits =
    let later = later_count p (length ids + suc (length left)) in
    inl (ap (λ n. suc (n + transfer_count left + later)) (block-less b bs)
    ∙ one-more (block_count (drop block_limit (b ∷ bs))) (transfer_count left) later)
left-on p ps (AtProcess (id ∷ ids) taken) Done fits =
    later-less p (length ids) (left_in p ps (next_processed ids (suc taken))) (left-processed p ps ids (suc taken))
left-on phase.Transferring ps AtActivate Done fits = inr (refl, refl)
left-on phase.Processing ps AtActivate Done fits = inr (refl, refl)
left-on phase.Activating ps AtActivate Done fits = inl refl
left-on p ps stage r fits = absurd fits

none-left : (ps : List (List ℕ)) (stage : Stage) (r : Reply) → Fits stage r
    → IsLess (left_count None ps stage) (left_count None ps (onward ps stage r))
none-left ps AtSync (Synced x) fits = inl (ap suc (none-package [] ps))
  where
    none-package : (ids : List ℕ) (left : List (List ℕ)) → 0 ≡ left_count None ps (next_package ids left)
    none-package ids [] = refl
    none-package ids (p ∷ left) = refl
none-left ps stage r fits = grind arith

less : (round : Option Phase) (ps : List (List ℕ)) (stage : Stage) (r : Reply) → Fits stage r
    → IsLess (left_count round ps stage) (left_count round ps (onward ps stage r))
less None ps stage r fits = none-left ps stage r fits
less (Some p) ps stage r fits = left-on p ps stage r fits

-- with no further reply the round is past exactly where nothing of it is left
past-here : (round : Option Phase) (ps : List (List ℕ)) (stage : Stage) → IsReached 0 ps stage
    → is_past round stage ≡ nat_le (left_count round ps stage) 0
past-here round ps stage reached = grind arith

le-less : (before after n : ℕ) → IsLess before after → nat_le after n ≡ nat_le before (suc n)
le-less before after n less = grind (arith, nat_tests)

ends : (round : Option Phase) (ps : List (List ℕ)) (stage : Stage) (rs : List Reply) → ps ≢ [] → IsReached 0 ps stage
    → AllFit ps stage rs → is_past round (stage_of ps stage rs) ≡ nat_le (left_count round ps stage) (length rs)
ends round ps stage [] some reached fit = past-here round ps stage reached
ends round ps stage (r ∷ rs) some reached fit =
    ends round ps (onward ps stage r) rs some (reached-on 0 ps stage r some fit.0) fit.1
    ∙ le-less (left_count round ps stage) (left_count round ps (onward ps stage r)) (length rs)
    (less round ps stage r fit.0)

all-left : (round : Option Phase) (k : ℕ) (ids : List ℕ) (ps : List (List ℕ))
    → length (calls_until round k ids ps) ≡ left_count round ps AtSync
all-left None k ids ps = refl
all-left (Some phase.Transferring) k ids ps =
    let t = transfers-length ids ps in ap suc (omega (arith, t))
all-left (Some phase.Processing) k ids ps =
    let t = transfers-length ids ps in
    let p = processed-length k ids ps in
    let l = length-append (all_transfers ids ps) (all_processed k ids ps) in
    ap suc (omega (arith, t, p, l))
all-left (Some phase.Activating) k ids ps =
    let t = transfers-length ids ps in
    let p = processed-length k ids ps in
    let l = length-append (all_transfers ids ps) (all_processed k ids ps) in
    let m = length-append (all_transfers ids ps ++ all_processed k ids ps) (Activate ∷ []) in
    ap suc (omega (arith, t, p, l, m))

pub rounds-end : RoundsEnd
rounds-end k ps some rs fit round =
    ends round ps AtSync rs some tt fit ∙ ap (λ n. nat_le n (length rs)) (sym (all-left round k (ids_of rs) ps))
