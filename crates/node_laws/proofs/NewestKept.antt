-- What is kept of a client is its newest entry's number and reply.
use Rattle.node_laws.proofs.Names.{◌≡◌, refl, ap, ◌∙◌, ℕ, ◌<◌, ◌==◌, Bool, true, false, if◌then◌else◌, List, []}
use Rattle.node_laws.proofs.Names.{◌∷◌, length, filter, Option, Some, arith, length-set, eqb-true, client_limit}
use Rattle.node_laws.proofs.Names.{Entry, Numbered, UnitDone, Kept, NodeState, of_client, Reading, after_entry}
use Rattle.node_laws.proofs.Names.{state_after, Call, Reply, Verdict, verdict_for, accepted, after_reply, worked}
use Rattle.node_laws.proofs.Names.{unwrap_or, slice_set}
use Rattle.std.proofs.lemmas.List.{get_or-set_other, get_or-set_same}
use Rattle.node_laws.specs.NewestKept.{is_by, newest_kept, KeepsNewest}

pub accepted-last : (s : NodeState) (client : ℕ) (c : Call) (v : Verdict) → (accepted s client c v).last ≡ s.last
accepted-last s client c v = grind arith

after_reply-last : (s : NodeState) (client : ℕ) (c : Call) (v : Verdict) (r : Reply)
    → (after_reply s client c v r).last ≡ s.last
after_reply-last s client c v r = grind (arith, accepted-last)

unit-last : (s : NodeState) (passed : Bool) → (unwrap_or (worked s passed) s).last ≡ s.last
unit-last s passed = grind arith

-- what a call keeps in a list for a client
set-kept : (last : List (Option Kept)) (by client : ℕ) (kept : Kept) → length last ≡ client_limit
    → client < client_limit
    → of_client (slice_set last by (Some kept)) client ≡ (if by == client then Some kept else of_client last client)
set-kept last by client kept long low = grind (arith, get_or-set_other, get_or-set_same, eqb-true)

-- a client's own entries alone tell what is kept
own-alone : (client : ℕ) (before : Option Kept) (entries : List Entry)
    → newest_kept client before (filter (is_by client) entries) ≡ newest_kept client before entries
own-alone client before [] = refl
own-alone client before (Numbered by at call reply ∷ entries) =
    go (by == client) refl (own-alone client (Some (record { no = at; reply = reply })) entries)
    (own-alone client before entries)
  where
    kept : Kept
    kept = record { no = at; reply = reply }

    own : List Entry
    own = filter (is_by client) entries

    go : (b : Bool) → (by == client) ≡ b → newest_kept client (Some kept) own ≡ newest_kept client (Some kept) entries
        → newest_kept client before own ≡ newest_kept client before entries
        → newest_kept client before (if b then Numbered by at call reply ∷ own else own)
        ≡ newest_kept client (if b then Some kept else before) entries
    go true e some none = ap (λ c. newest_kept client (if c then Some kept else before) own) e ∙ some
    go false e some none = none
own-alone client before (UnitDone passed after ∷ entries) = own-alone client before entries

module _ (read : Reading) where
  kept : (s : NodeState) (entries : List Entry) (client : ℕ) → length s.last ≡ client_limit → client < client_limit
      → of_client (state_after read s entries).last client ≡ newest_kept client (of_client s.last client) entries
  kept s [] client long low = refl
  kept s (Numbered by at call reply ∷ entries) client long low =
      let same = after_reply-last s by call (verdict_for read s by call) reply in
      let next = after_entry read s (Numbered by at call reply) in
      let pair : Kept = record { no = at; reply = reply } in
      let set : next.last ≡ slice_set s.last by (Some pair) = ap (λ l. slice_set l by (Some pair)) same in
      kept next entries client (ap (λ (l : List (Option Kept)). length l) set
      ∙ (length-set s.last by (Some pair) ∙ long)) low
      ∙ ap (λ o. newest_kept client o entries) (ap (λ l. of_client l client) set
      ∙ set-kept s.last by client pair long low)
  kept s (UnitDone passed after ∷ entries) client long low =
      let same = unit-last s passed in
      kept (unwrap_or (worked s passed) s) entries client (ap (λ (l : List (Option Kept)). length l) same ∙ long) low
      ∙ ap (λ l. newest_kept client (of_client l client) entries) same

  pub keeps-newest : KeepsNewest read
  keeps-newest = record { kept = kept; own = own-alone }
