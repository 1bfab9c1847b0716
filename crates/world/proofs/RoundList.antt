-- The stages ask for the calls of the list of all rounds, in its order: while each reply fits its call,
-- the stage's call is the list's call at the number of replies.
use Rattle.world.proofs.Names.{block_limit}
use Rattle.world.proofs.Names.{append-nil, ◌≡◌, ◌≢◌, ℕ, zero, suc, ◌+◌, ◌≤◌, List, [], ◌∷◌, ◌++◌, length, take, drop}
use Rattle.world.proofs.Names.{Some, refl, sym, ◌∙◌, ap, append_assoc, length-drop, arith, Call, Reply, Sync}
use Rattle.world.proofs.Names.{TransferStart, TransferData, TransferExit, ProcessSwPackage, Activate, Done, Started}
use Rattle.world.proofs.Names.{Synced, Fits, AllFit, blocks_from, slice_index_or, all_transfers, all_processed}
use Rattle.world.proofs.Names.{round_calls, slice_get, Stage, AtSync, AtStart, AtData, AtProcess, AtActivate, Over}
use Rattle.world.proofs.Names.{RefusedOnce, call_at, onward, next_package, next_processed, stage_of}
use Rattle.world.specs.RoundCalls.{ids_of}

-- the processing of these ids, and Activate
abbrev pub processed : ℕ → List ℕ → List Call
processed k [] = Activate ∷ []
processed k (id ∷ ids) = ProcessSwPackage id k ∷ processed k ids

-- as many ids as there are packages: those that were given, then those of later replies, then 0
abbrev pub with_later : List ℕ → List ℕ → List (List ℕ) → List ℕ
with_later [] later [] = []
with_later [] later (p ∷ ps) = slice_index_or later 0 0 ∷ with_later [] (drop 1 later) ps
with_later (id ∷ ids) later [] = id ∷ ids
with_later (id ∷ ids) later (p ∷ ps) = id ∷ with_later ids later ps

pub processed-is : (k : ℕ) (ids : List ℕ) (ps : List (List ℕ))
    → all_processed k ids ps ++ Activate ∷ [] ≡ processed k (with_later [] ids ps)
processed-is k ids [] = refl
processed-is k ids (p ∷ ps) =
    ap (λ (l : List Call). ProcessSwPackage (slice_index_or ids 0 0) k ∷ l) (processed-is k (drop 1 ids) ps)

-- what is still to be sent from a stage on, where later replies give these ids
abbrev pub rest_of : ℕ → List (List ℕ) → Stage → List ℕ → List Call
rest_of k ps AtSync later = Sync ∷ (all_transfers later ps ++ processed k (with_later [] later ps))
rest_of k ps (AtStart ids left) later = all_transfers later left ++ processed k (ids ++ with_later [] later left)
rest_of k ps (AtData ids id counter bytes left) later =
    blocks_from (length bytes) id counter bytes ++ TransferExit id ∷
    (all_transfers later left ++ processed k (ids ++ id ∷ with_later [] later left))
rest_of k ps (AtProcess ids taken) later = processed k ids
rest_of k ps AtActivate later = Activate ∷ []
rest_of k ps _ later = []

-- more room than blocks changes nothing
pub blocks-room : (n m id counter : ℕ) (bytes : List ℕ) → length bytes ≤ n → length bytes ≤ m
    → blocks_from n id counter bytes ≡ blocks_from m id counter bytes
blocks-room zero (suc m) id counter (b ∷ bs) h g = absurd (omega arith)
blocks-room (suc n) zero id counter (b ∷ bs) h g = absurd (omega arith)
blocks-room (suc n) (suc m) id counter (b ∷ bs) h g =
    let d = length-drop block_limit (b ∷ bs) in
    let x : length (drop block_limit (b ∷ bs)) ≤ n = omega (arith, d) in
    let y : length (drop block_limit (b ∷ bs)) ≤ m = omega (arith, d) in
    ap (λ (l : List Call). TransferData id counter (take block_limit (b ∷ bs)) ∷ l)
    (blocks-room n m id (counter + 1) (drop block_limit (b ∷ bs)) x y)
blocks-room _ _ id counter _ h g = refl

not-empty : (l : List ℕ) (x : ℕ) → l ++ x ∷ [] ≢ []
not-empty [] x e = cc e
not-empty (y ∷ ys) x e = cc e

module _ (k : ℕ) (ps : List (List ℕ)) where
  -- after the last package its processing begins
  next-rest : (ids : List ℕ) (left : List (List ℕ)) (later : List ℕ) → (left ≡ [] → ids ≢ [])
      → all_transfers later left ++ processed k (ids ++ with_later [] later left)
      ≡ rest_of k ps (next_package ids left) later
  next-rest ids [] later some = ap (processed k) (append-nil ids)
  next-rest ids (p ∷ left) later some = refl

  processed-later : (ids : List ℕ) (taken : ℕ) (later : List ℕ)
      → processed k ids ≡ rest_of k ps (next_processed ids taken) later
  processed-later x taken later = grind arith

  -- a fitting reply takes the first call away
  pub one-on : (stage : Stage) (r : Reply) (rs : List Reply) → ps ≢ [] → Fits stage r
      → (call : Call) × (call_at k stage ≡ Some call)
      × (rest_of k ps stage (ids_of (r ∷ rs)) ≡ call ∷ rest_of k ps (onward ps stage r) (ids_of rs))
  one-on AtSync (Synced x) rs some h =
      (Sync, refl, ap (λ (l : List Call). Sync ∷ l) (next-rest [] ps (ids_of rs) (λ e. absurd (some e))))
  one-on (AtStart ids (p ∷ left)) (Started id) rs some h = (
    TransferStart (length p),
    refl,
    ap (λ (l : List Call). TransferStart (length p) ∷ l)
        (append_assoc (blocks_from (length p) id 1 p ++ TransferExit id ∷ []) (all_transfers (ids_of rs) left)
        (processed k (ids ++ id ∷ with_later [] (ids_of rs) left))
        ∙ append_assoc (blocks_from (length p) id 1 p) (TransferExit id ∷ [])
        (all_transfers (ids_of rs) left ++ processed k (ids ++ id ∷ with_later [] (ids_of rs) left))),
  )
  one-on (AtData ids id counter [] left) Done rs some h = (
    TransferExit id,
    refl,
    ap (λ (l : List Call). TransferExit id ∷ l)
        (ap (λ (l : List ℕ). all_transfers (ids_of rs) left ++ processed k l)
        (sym (append_assoc ids (id ∷ []) (with_later [] (ids_of rs) left)))
        ∙ next-rest (ids ++ id ∷ []) left (ids_of rs) (λ e. not-empty ids id)),
  )
  one-on (AtData ids id counter (b ∷ bs) left) Done rs some h = (
    TransferData id counter (take block_limit (b ∷ bs)),
    refl,
    ap (λ (l : List Call). TransferData id counter (take block_limit (b ∷ bs)) ∷
        (l ++ TransferExit id ∷
        (all_transfers (ids_of rs) left ++ processed k (ids ++ id ∷ with_later [] (ids_of rs) left))))
        (blocks-room (length bs) (length (drop block_limit (b ∷ bs))) id (counter + 1) (drop block_limit (b ∷ bs))
        (let d = length-drop block_limit (b ∷ bs) in omega (arith, d)) (omega arith)),
  )
  one-on (AtProcess (id ∷ ids) taken) Done rs some h = (
    ProcessSwPackage id k,
    refl,
    ap (λ (l : List Call). ProcessSwPackage id k ∷ l) (processed-later ids (suc taken) (ids_of rs)),
  )
  one-on AtActivate Done rs some h = (Activate, refl, refl)
  one-on Over r rs some h = grind arith
  one-on RefusedOnce r rs some h = grind arith
  one-on _ _ rs some h = absurd h

  -- the stages that are reached ask for a call, or all is done
  abbrev pub IsReached : Stage → Type 0
  IsReached (AtStart ids []) = ⊥
  IsReached (AtProcess [] taken) = ⊥
  IsReached RefusedOnce = ⊥
  IsReached _ = Unit {0}

  reached-next : (ids : List ℕ) (left : List (List ℕ)) → (left ≡ [] → ids ≢ []) → IsReached (next_package ids left)
  reached-next x y some = grind arith

  reached-processed : (ids : List ℕ) (taken : ℕ) → IsReached (next_processed ids taken)
  reached-processed x taken = grind arith

  pub reached-on : (stage : Stage) (r : Reply) → ps ≢ [] → Fits stage r → IsReached (onward ps stage r)
  reached-on AtSync (Synced x) some h = reached-next [] ps (λ e. absurd (some e))
  reached-on (AtStart ids (p ∷ left)) (Started id) some h = tt
  reached-on (AtData ids id counter [] left) Done some h = reached-next (ids ++ id ∷ []) left (λ e. not-empty ids id)
  reached-on (AtData ids id counter (b ∷ bs) left) Done some h = tt
  reached-on (AtProcess (id ∷ ids) taken) Done some h = reached-processed ids (suc taken)
  reached-on AtActivate Done some h = tt
  reached-on _ _ some h = absurd h

  -- with no further reply the first call of the rest comes
  first-is : (stage : Stage) → IsReached stage → call_at k stage ≡ slice_get (rest_of k ps stage []) 0
  first-is x h = grind arith

  from-stage : (stage : Stage) (rs : List Reply) → ps ≢ [] → IsReached stage → AllFit ps stage rs
      → call_at k (stage_of ps stage rs) ≡ slice_get (rest_of k ps stage (ids_of rs)) (length rs)
  from-stage stage [] some h fit = first-is stage h
  from-stage stage (r ∷ rs) some h fit =
      let one = one-on stage r rs some fit.0 in
      from-stage (onward ps stage r) rs some (reached-on stage r some fit.0) fit.1
      ∙ sym (ap (λ (l : List Call). slice_get l (length (r ∷ rs))) one.2)

  -- the stage's call is the list's call at the number of replies
  pub stages-list : (rs : List Reply) → ps ≢ [] → AllFit ps AtSync rs
      → call_at k (stage_of ps AtSync rs) ≡ slice_get (round_calls k (ids_of rs) ps) (length rs)
  stages-list rs some fit = grind (arith, from-stage, processed-is, append_assoc)
