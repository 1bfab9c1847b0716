-- Before the decision: what client 0's own entries of a node are, what the node is at each stage of them,
-- and what every event keeps.
use Rattle.world.proofs.Names.{block_limit}
use Rattle.world.proofs.Names.{◌≡◌, ◌≢◌, ◌⊎◌, ℕ, zero, suc, List, [], ◌∷◌, ◌++◌, Option, Some, None, Bool, true, false}
use Rattle.world.proofs.Names.{not, ◌&&◌, nat_eq, Ready, Processing, Activating, Verifying, Activated, RollingBack}
use Rattle.world.proofs.Names.{RolledBack, Fold, Current, vote_of, Reply, Reached, Sync, Fresh, IsBelow, Message, Told}
use Rattle.world.proofs.Names.{IsIn, told_reply, Stage, AtSync, AtStart, AtData, AtProcess, AtActivate, Over}
use Rattle.world.proofs.Names.{RefusedOnce, call_at, onward, Packages, activate_done, showed_after_activate, arith}
use Rattle.world.proofs.Names.{inl, inr, length, take, drop, refl, sym, ◌∙◌, ap, subst, append_assoc, Contains}
use Rattle.world.proofs.Names.{flat_map, take-append-drop, append-nil, Contains-push, Contains-append_left}
use Rattle.world.proofs.Names.{flat_map-append, Refusal, Call, TransferStart, TransferData, TransferExit}
use Rattle.world.proofs.Names.{ProcessSwPackage, Activate, Done, Started, Refused, next_package, next_processed}
use Rattle.world.proofs.Rules.{NodeRules, reached, Move, Delivered, Foreign, Unit_done, NodeWorld, after, state_of}
use Rattle.world.proofs.Rules.{Span, spans, NodeLaws, KeepsSession, KeepsTransfers}
use Rattle.world.proofs.Invariant.{InPresent}
use Rattle.campaign_core.specs.declared.events.Vote.TheVariants as Vote

-- an entry of client 0: a message that was judged, and the reply
pub record ClientEntry : Type 0 where
  pub message : Message
  pub reply : Reply

abbrev pub judged : Reached → Option Reply
judged (Fresh r) = Some r
judged _ = None

abbrev pub with_entry : Option Reply → Bool → Message → List ClientEntry → List ClientEntry
with_entry (Some r) true m es = record { message = m; reply = r } ∷ es
with_entry _ _ m es = es

-- client 0's entries of the rounds of campaign k, the newest first
abbrev pub round_entries : (N : NodeRules) → ℕ → List (Move N) → List ClientEntry
round_entries N k [] = []
round_entries N k (Delivered m ∷ ms) =
    with_entry (judged (reached N (after N ms) m.at m.call)) (nat_eq m.campaign k && not m.decided) m
    (round_entries N k ms)
round_entries N k (Foreign call ∷ ms) = round_entries N k ms
round_entries N k (Unit_done passed ∷ ms) = round_entries N k ms

-- the stage after these entries
abbrev pub stage_after : List (List ℕ) → List ClientEntry → Stage
stage_after ps [] = AtSync
stage_after ps (e ∷ es) = onward ps (stage_after ps es) e.reply

-- each entry is the call of its stage: so they are a prefix of the rounds' calls, none refused but possibly the last
abbrev pub Follows : ℕ → List (List ℕ) → List ClientEntry → Type 0
Follows k ps [] = Unit {0}
Follows k ps (e ∷ es) = (call_at k (stage_after ps es) ≡ Some e.message.call) × Follows k ps es

-- these transfers hold these packages, one each
abbrev pub Hold : (N : NodeRules) → N.State → List ℕ → List (List ℕ) → Type 0
Hold N s [] [] = Unit {0}
Hold N s (id ∷ ids) (p ∷ ps) = Contains (N.transfers s) id × (N.received s id ≡ p) × Hold N s ids ps
Hold N s _ _ = ⊥

-- the id is none of these
abbrev pub Apart : ℕ → List ℕ → Type 0
Apart id [] = Unit {0}
Apart id (x ∷ xs) = (x ≢ id) × Apart id xs

-- the session of campaign k has these changes, or is about to have the last of them
pub record Has (N : NodeRules) (s : N.State) (k : ℕ) (changes : List N.Change) : Type 0 where
  pub mine : N.mine s ≡ Some k
  pub planned : ((N.status s ≡ Ready) × (N.planned s ≡ changes))
      ⊎ ((N.status s ≡ Processing) × (id : ℕ) × (N.in_process s ≡ Some id)
      × (N.planned s ++ N.changes_of (N.received s id) ≡ changes))

-- there is no session of client 0, and these transfers hold the first packages
pub record Sends (N : NodeRules) (s : N.State) (ids : List ℕ) (left ps : List (List ℕ)) : Type 0 where
  pub done : List (List ℕ)
  pub all : done ++ left ≡ ps
  pub none : N.mine s ≡ None
  pub hold : Hold N s ids done

-- and one more has received all but these bytes of the next
pub record Fills (N : NodeRules) (s : N.State) (ids : List ℕ) (id : ℕ) (bytes : List ℕ) (left ps : List (List ℕ))
    : Type 0 where
  pub done : List (List ℕ)
  pub whole : List ℕ
  pub all : done ++ whole ∷ left ≡ ps
  pub none : N.mine s ≡ None
  pub hold : Hold N s ids done
  pub there : Contains (N.transfers s) id
  pub apart : Apart id ids
  pub so_far : N.received s id ++ bytes ≡ whole

-- the session has the changes of the first packages, and these transfers hold the others
pub record Processes (N : NodeRules) (s : N.State) (k : ℕ) (ids : List ℕ) (ps : List (List ℕ)) : Type 0 where
  pub done : List (List ℕ)
  pub left : List (List ℕ)
  pub all : done ++ left ≡ ps
  pub has : Has N s k (flat_map N.changes_of done)
  pub hold : Hold N s ids left

-- the session has all changes and goes on by itself
pub record Activates (N : NodeRules) (s : N.State) (k : ℕ) (ps : List (List ℕ)) : Type 0 where
  pub mine : N.mine s ≡ Some k
  pub planned : N.planned s ≡ flat_map N.changes_of ps
  pub status : (N.status s ≡ Activating)
      ⊎ ((N.status s ≡ Verifying)
      ⊎ ((N.status s ≡ Activated) ⊎ ((N.status s ≡ RollingBack) ⊎ (N.status s ≡ RolledBack))))

-- what the node is at each stage of campaign k with packages ps
abbrev pub IsAt : (N : NodeRules) → N.State → ℕ → List (List ℕ) → Stage → Type 0
IsAt N s k ps AtSync = N.mine s ≡ None
IsAt N s k ps (AtStart ids left) = Sends N s ids left ps
IsAt N s k ps (AtData ids id counter bytes left) = Fills N s ids id bytes left ps
IsAt N s k ps (AtProcess ids zero) = Sends N s ids [] ps
IsAt N s k ps (AtProcess ids (suc taken)) = Processes N s k ids ps
IsAt N s k ps AtActivate = Has N s k (flat_map N.changes_of ps)
IsAt N s k ps Over = Activates N s k ps
IsAt N s k ps RefusedOnce = ⊥

-- the messages of the campaign are the newest of those that were sent, and these are their entries
abbrev pub AllDone : ℕ → List ClientEntry → List Message → Type 0
AllDone k [] sent = (m : Message) → IsIn m sent → m.campaign ≢ k
AllDone k (e ∷ es) [] = ⊥
AllDone k (e ∷ es) (m ∷ ms) = (m ≡ e.message) × (m.campaign ≡ k) × (m.decided ≡ false) × AllDone k es ms

-- the newest message has not been judged: it has the next call
abbrev pub OneWaits : (N : NodeRules) → N.State → ℕ → List (List ℕ) → List ClientEntry → List Message → Type 0
OneWaits N s k ps es [] = ⊥
OneWaits N s k ps es (m ∷ ms) =
    (m.campaign ≡ k) × (m.decided ≡ false) × (call_at k (stage_after ps es) ≡ Some m.call) × IsBelow (N.last s) m.at
    × AllDone k es ms

-- the replies of these entries were told
abbrev pub AllTold : List Told → List ClientEntry → Type 0
AllTold ts [] = Unit {0}
AllTold ts (e ∷ es) = (told_reply ts e.message.at ≡ Some e.reply) × AllTold ts es

abbrev pub OlderTold : List Told → List ClientEntry → Type 0
OlderTold ts [] = Unit {0}
OlderTold ts (e ∷ es) = AllTold ts es

-- one node before the decision of campaign k that brings it ps: its state, the entries of the rounds,
-- the spans of k that ended, what was sent to it and told of it
pub record EarlyAt (N : NodeRules) (epoch k : ℕ) (ps : List (List ℕ)) (s : N.State) (es : List ClientEntry)
    (ended : List (Span N)) (sent : List Message) (told : List Told) : Type 0 where
  pub epochs : (m : Message) → IsIn m sent → m.campaign ≡ k → m.at.epoch ≡ epoch
  pub follows : Follows k ps es
  pub sends : (AllDone k es sent × OlderTold told es) ⊎ (OneWaits N s k ps es sent × AllTold told es)
  pub last : (e : ClientEntry) → IsIn e es
      → IsBelow e.message.at (N.last s) ⊎ ((e.message.at ≡ N.last s) × (e.reply ≡ N.kept s))
  pub told_entry : (e : ClientEntry) → IsIn e es → (r : Reply) → told_reply told e.message.at ≡ Some r → r ≡ e.reply
  pub is_on : (stage_after ps es ≡ RefusedOnce) ⊎ (IsAt N s k ps (stage_after ps es) × (ended ≡ []))
  pub over : activate_done told ≡ true → stage_after ps es ≡ Over
  pub activated : showed_after_activate Activated told ≡ true → N.status s ≡ Activated

-- what is kept of each node before the decision, where no restart came
pub record KeptEarly (N : NodeRules) (packages : Packages) (f : Fold) (n : ℕ) (x : NodeWorld N) : Type 0 where
  pub at : (c : Current) → f.current ≡ Some c → c.decision ≡ None → c.restart ≡ false
      → EarlyAt N f.epoch c.campaign (packages c.campaign n) (state_of N x) (round_entries N c.campaign x.moves)
      (spans N c.campaign x.moves).ended x.sent x.told
  pub yes : (c : Current) → f.current ≡ Some c → c.decision ≡ None → c.restart ≡ false → vote_of c n ≡ Some Vote.Yes
      → showed_after_activate Activated x.told ≡ true

-- and always
pub record KeptLive (N : NodeRules) (f : Fold) (n : ℕ) (x : NodeWorld N) : Type 0 where
  -- the last number is that of a message, or nothing was called
  pub last_sent : (N.last (state_of N x) ≡ record { epoch = 0; number = 0 })
      ⊎ ((m : Message) × IsIn m x.sent × (m.at ≡ N.last (state_of N x)))
  -- a message from the last number on, which isn't a Sync, is of the present campaign
  pub live : (m : Message) → IsIn m x.sent → m.call ≢ Sync
      → (IsBelow (N.last (state_of N x)) m.at) ⊎ (m.at ≡ N.last (state_of N x))
      → InPresent f n (λ c. m.campaign ≡ c.campaign)
  pub entry_sent : (k : ℕ) (e : ClientEntry) → IsIn e (round_entries N k x.moves)
      → IsIn e.message x.sent × (e.message.campaign ≡ k)

-- What the node is at each stage of the rounds: kept by foreign calls and units, and led on by the stage's call.
-- From the laws of a node alone.
module _ (N : NodeRules) (laws : NodeLaws N) where
  hold-same : (s t : N.State) → KeepsTransfers N s t → (ids : List ℕ) (ps : List (List ℕ)) → Hold N s ids ps
      → Hold N t ids ps
  hold-same s t keeps [] [] h = tt
  hold-same s t keeps (id ∷ ids) (p ∷ ps) h = grind (arith, hold-same s t keeps ids ps h.2)
  hold-same s t keeps _ _ h = absurd h

  -- all that these transfers need is that they stay, and that no other than id changes
  hold-apart : (s t : N.State) (id : ℕ) → ((x : ℕ) → Contains (N.transfers s) x → Contains (N.transfers t) x)
      → ((x : ℕ) → x ≢ id → N.received t x ≡ N.received s x) → (ids : List ℕ) (ps : List (List ℕ)) → Apart id ids
      → Hold N s ids ps → Hold N t ids ps
  hold-apart s t id stay same [] [] a h = tt
  hold-apart s t id stay same (x ∷ ids) (p ∷ ps) a h =
      (stay x h.0, same x a.0 ∙ h.1, hold-apart s t id stay same ids ps a.1 h.2)
  hold-apart s t id stay same _ _ a h = absurd h

  -- an id that isn't among the transfers is none of these
  fresh-apart : (s : N.State) (id : ℕ) → (Contains (N.transfers s) id → ⊥) → (ids : List ℕ) (ps : List (List ℕ))
      → Hold N s ids ps → Apart id ids
  fresh-apart s id fresh [] [] h = tt
  fresh-apart s id fresh (x ∷ ids) (p ∷ ps) h =
      (λ e. fresh (subst (λ y. Contains (N.transfers s) y) e h.0), fresh-apart s id fresh ids ps h.2)
  fresh-apart s id fresh _ _ h = absurd h

  hold-push : (s : N.State) (ids : List ℕ) (ps : List (List ℕ)) (id : ℕ) (p : List ℕ) → Hold N s ids ps
      → Contains (N.transfers s) id → N.received s id ≡ p → Hold N s (ids ++ id ∷ []) (ps ++ p ∷ [])
  hold-push s [] [] id p h there e = (there, e, tt)
  hold-push s (x ∷ ids) (q ∷ ps) id p h there e = (h.0, h.1, hold-push s ids ps id p h.2 there e)
  hold-push s _ _ id p h there e = absurd h

  -- a step that keeps client 0's transfers, and its session or that it has none
  pub at-same : (s t : N.State) → KeepsTransfers N s t → (N.mine s ≡ None → N.mine t ≡ None)
      → ((tag : ℕ) → N.mine s ≡ Some tag → KeepsSession N s t) → (k : ℕ) (ps : List (List ℕ)) (stage : Stage)
      → IsAt N s k ps stage → IsAt N t k ps stage
  at-same s t transfers none session k ps x h = grind (arith, hold-same)

  pub at-foreign : (s : N.State) (call : N.ForeignCall) (k : ℕ) (ps : List (List ℕ)) (stage : Stage)
      → IsAt N s k ps stage → IsAt N (N.foreign s call) k ps stage
  at-foreign s call =
      at-same s (N.foreign s call) (laws.foreign_transfers s call) (laws.foreign_none s call)
      (laws.foreign_session s call)

  pub at-keep : (s : N.State) (at : _) (call : Call) (r : Reply) (k : ℕ) (ps : List (List ℕ)) (stage : Stage)
      → IsAt N s k ps stage → IsAt N (N.keep s at call r) k ps stage
  at-keep s at call r =
      at-same s (N.keep s at call r) (laws.keep_transfers s at call r) (λ e. (laws.keep_session s at call r).mine ∙ e)
      (λ tag e. laws.keep_session s at call r)

  -- a unit
  has-unit : (s : N.State) (passed : Bool) (k : ℕ) (changes : List N.Change) → Has N s k changes
      → Has N (N.unit s passed) k changes × KeepsTransfers N s (N.unit s passed)
  has-unit s passed k changes h =
      grind (arith, laws.unit_still s passed, laws.unit_received s passed k, laws.unit_processing s passed k)

  at-none_unit : (s : N.State) (passed : Bool) (k : ℕ) (ps : List (List ℕ)) (stage : Stage) → N.mine s ≡ None
      → IsAt N s k ps stage → IsAt N (N.unit s passed) k ps stage
  at-none_unit s passed k ps stage none = grind (arith, at-same)

  pub at-unit : (s : N.State) (passed : Bool) (k : ℕ) (ps : List (List ℕ)) (stage : Stage) → IsAt N s k ps stage
      → IsAt N (N.unit s passed) k ps stage
  at-unit s passed k ps stage h =
      grind (
        arith,
        at-none_unit,
        has-unit,
        hold-same,
        laws.unit_activating,
        laws.unit_verifying,
        laws.unit_still,
        laws.unit_rolling,
      )

  -- the stage's call: refused, or the node is at the next stage
  abbrev IsLed : N.State → Call → ℕ → List (List ℕ) → Stage → Type 0
  IsLed s call k ps stage =
      (onward ps stage (N.judge s call).1 ≡ RefusedOnce)
      ⊎ IsAt N (N.judge s call).0 k ps (onward ps stage (N.judge s call).1)

  led-refused : (s : N.State) (call : Call) (k : ℕ) (ps : List (List ℕ)) (stage : Stage) (why : Refusal)
      → (N.judge s call).1 ≡ Refused why → IsLed s call k ps stage
  led-refused s call k ps stage why e = grind arith

  led-to : (s : N.State) (call : Call) (k : ℕ) (ps : List (List ℕ)) (stage : Stage) (r : Reply) → (N.judge s call).1 ≡ r
      → IsAt N (N.judge s call).0 k ps (onward ps stage r) → IsLed s call k ps stage
  led-to s call k ps stage r e h = inr (subst (λ y. IsAt N (N.judge s call).0 k ps (onward ps stage y)) (sym e) h)

  led-sync : (s : N.State) (k : ℕ) (ps : List (List ℕ)) → IsAt N s k ps AtSync → IsLed s Sync k ps AtSync
  led-sync s k ps h = grind arith

  led-start : (s : N.State) (k : ℕ) (ps : List (List ℕ)) (ids : List ℕ) (p : List ℕ) (left : List (List ℕ))
      → IsAt N s k ps (AtStart ids (p ∷ left)) → IsLed s (TransferStart (length p)) k ps (AtStart ids (p ∷ left))
  led-start s k ps ids p left h =
      elim (laws.start_replies s (length p)) [
        | inl d ↦ led-to s (TransferStart (length p)) k ps (AtStart ids (p ∷ left)) (Started d.0) d.1 (begun d.0 d.1)
        | inr r ↦ led-refused s (TransferStart (length p)) k ps (AtStart ids (p ∷ left)) r.0 r.1
      ]
    where
      begun : (id : ℕ) → (N.judge s (TransferStart (length p))).1 ≡ Started id
          → Fills N (N.judge s (TransferStart (length p))).0 ids id p left ps
      begun id e =
          let t = laws.start_transfers s (length p) id e in
          let r = laws.start_received s (length p) id e in
          let apart = fresh-apart s id t.0 ids h.done h.hold in
          record {
            done = h.done;
            whole = p;
            all = h.all;
            none = (laws.start_session s (length p)).mine ∙ h.none;
            hold =
                hold-apart s (N.judge s (TransferStart (length p))).0 id
                (λ x c. subst (λ l. Contains l x) (sym t.1) (Contains-append_left (N.transfers s) (id ∷ []) x c))
                r.1 ids h.done apart h.hold;
            there = subst (λ l. Contains l id) (sym t.1) (Contains-push (N.transfers s) id);
            apart = apart;
            so_far = ap (λ l. l ++ p) r.0;
          }

  led-data : (s : N.State) (k : ℕ) (ps : List (List ℕ)) (ids : List ℕ) (id counter b : ℕ) (bs : List ℕ)
      (left : List (List ℕ)) → IsAt N s k ps (AtData ids id counter (b ∷ bs) left)
      → IsLed s (TransferData id counter (take block_limit (b ∷ bs))) k ps (AtData ids id counter (b ∷ bs) left)
  led-data s k ps ids id counter b bs left h =
      go (take block_limit (b ∷ bs)) (drop block_limit (b ∷ bs)) (take-append-drop block_limit (b ∷ bs)) refl
    where
      go : (block rest : List ℕ) → block ++ rest ≡ b ∷ bs → rest ≡ drop block_limit (b ∷ bs)
          → IsLed s (TransferData id counter block) k ps (AtData ids id counter (b ∷ bs) left)
      go block rest e is =
          grind (
            arith,
            led-to,
            led-refused,
            laws.data_transfers,
            laws.data_received,
            laws.data_session,
            hold-apart,
            append_assoc,
          )

  led-exit : (s : N.State) (k : ℕ) (ps : List (List ℕ)) (ids : List ℕ) (id counter : ℕ) (left : List (List ℕ))
      → IsAt N s k ps (AtData ids id counter [] left) → IsLed s (TransferExit id) k ps (AtData ids id counter [] left)
  led-exit s k ps ids id counter left h = grind (arith, go, laws.exit_replies, led-to, led-refused)
    where
      sends : (qs : List (List ℕ)) → left ≡ qs → Sends N (N.judge s (TransferExit id)).0 (ids ++ id ∷ []) qs ps
      sends qs e =
          record {
            done = h.done ++ h.whole ∷ [];
            all = append_assoc h.done (h.whole ∷ []) qs ∙ (ap (λ l. h.done ++ h.whole ∷ l) (sym e) ∙ h.all);
            none = (laws.exit_session s id).mine ∙ h.none;
            hold = grind (arith, hold-same, laws.exit_received, hold-push, append-nil);
          }

      go : (qs : List (List ℕ)) → left ≡ qs
          → IsAt N (N.judge s (TransferExit id)).0 k ps (next_package (ids ++ id ∷ []) qs)
      go [] e = sends [] e
      go (q ∷ qs) e = sends (q ∷ qs) e

  -- a package comes into processing
  led-process : (s : N.State) (k : ℕ) (ps : List (List ℕ)) (id : ℕ) (ids : List ℕ) (taken : ℕ)
      → IsAt N s k ps (AtProcess (id ∷ ids) taken) → IsLed s (ProcessSwPackage id k) k ps (AtProcess (id ∷ ids) taken)
  led-process s k ps id ids taken h = grind (arith, from, laws.process_replies, led-to, led-refused)
    where
      next : (done left : List (List ℕ)) → done ++ left ≡ ps
          → Has N (N.judge s (ProcessSwPackage id k)).0 k (flat_map N.changes_of done) → (js : List ℕ)
          → Hold N (N.judge s (ProcessSwPackage id k)).0 js left
          → IsAt N (N.judge s (ProcessSwPackage id k)).0 k ps (next_processed js (suc taken))
      next done [] all has [] hold =
          subst (λ l. Has N (N.judge s (ProcessSwPackage id k)).0 k (flat_map N.changes_of l)) (sym (append-nil done)
          ∙ all) has
      next done (p ∷ left) all has [] hold = absurd hold
      next done left all has (j ∷ js) hold = record { done = done; left = left; all = all; has = has; hold = hold }

      goes : (done : List (List ℕ)) (p : List ℕ) (left : List (List ℕ)) → done ++ p ∷ left ≡ ps
          → Hold N s (id ∷ ids) (p ∷ left) → N.planned s ≡ flat_map N.changes_of done ⊎ (done ≡ [])
          → (N.judge s (ProcessSwPackage id k)).1 ≡ Done
          → (N.mine (N.judge s (ProcessSwPackage id k)).0 ≡ Some k)
          × (N.status (N.judge s (ProcessSwPackage id k)).0 ≡ Processing)
          × (N.planned (N.judge s (ProcessSwPackage id k)).0 ≡ flat_map N.changes_of done)
          × (N.in_process (N.judge s (ProcessSwPackage id k)).0 ≡ Some id)
          → IsAt N (N.judge s (ProcessSwPackage id k)).0 k ps (next_processed ids (suc taken))
      goes done p left all hold planned d u =
          let keeps = laws.process_received s id k in
          let received : N.received (N.judge s (ProcessSwPackage id k)).0 id ≡ p = keeps.received id ∙ hold.1 in
          next (done ++ p ∷ []) left (append_assoc done (p ∷ []) left ∙ all)
          (record {
            mine = u.0;
            planned = grind (arith, append-nil, flat_map-append);
          }) ids (hold-same s (N.judge s (ProcessSwPackage id k)).0 keeps ids left hold.2)

      first : (done : List (List ℕ)) → done ++ [] ≡ ps → N.mine s ≡ None → Hold N s (id ∷ ids) done
          → (N.judge s (ProcessSwPackage id k)).1 ≡ Done
          → IsAt N (N.judge s (ProcessSwPackage id k)).0 k ps (next_processed ids (suc taken))
      first [] all none hold d = absurd hold
      first (p ∷ left) all none hold d =
          let u = laws.process_idle s id k none d in
          goes [] p left (sym (append-nil (p ∷ left)) ∙ all) hold (inr refl) d (u.1, u.2, u.3, u.4)

      later : (done left : List (List ℕ)) → done ++ left ≡ ps → Has N s k (flat_map N.changes_of done)
          → Hold N s (id ∷ ids) left → (N.judge s (ProcessSwPackage id k)).1 ≡ Done
          → IsAt N (N.judge s (ProcessSwPackage id k)).0 k ps (next_processed ids (suc taken))
      later done [] all has hold d = absurd hold
      later done (p ∷ left) all has hold d = grind (arith, laws.process_ready, flat_map, goes)

      from : (n : ℕ) → IsAt N s k ps (AtProcess (id ∷ ids) n) → (N.judge s (ProcessSwPackage id k)).1 ≡ Done
          → IsAt N (N.judge s (ProcessSwPackage id k)).0 k ps (next_processed ids (suc taken))
      from zero g d = first g.done g.all g.none g.hold d
      from (suc n) g d = later g.done g.left g.all g.has g.hold d

  led-activate : (s : N.State) (k : ℕ) (ps : List (List ℕ)) → IsAt N s k ps AtActivate
      → IsLed s Activate k ps AtActivate
  led-activate s k ps h = grind arith

  pub at-judge : (s : N.State) (k : ℕ) (ps : List (List ℕ)) (stage : Stage) (call : Call) → call_at k stage ≡ Some call
      → IsAt N s k ps stage → IsLed s call k ps stage
  at-judge s k ps AtSync call e h =
      let q : Sync ≡ call = cc e in subst (λ c. IsLed s c k ps AtSync) q (led-sync s k ps h)
  at-judge s k ps (AtStart ids (p ∷ left)) call e h =
      let q : TransferStart (length p) ≡ call = cc e in
      subst (λ c. IsLed s c k ps (AtStart ids (p ∷ left))) q (led-start s k ps ids p left h)
  at-judge s k ps (AtData ids id counter [] left) call e h =
      let q : TransferExit id ≡ call = cc e in
      subst (λ c. IsLed s c k ps (AtData ids id counter [] left)) q (led-exit s k ps ids id counter left h)
  at-judge s k ps (AtData ids id counter (b ∷ bs) left) call e h =
      let q : TransferData id counter (take block_limit (b ∷ bs)) ≡ call = cc e in
      subst (λ c. IsLed s c k ps (AtData ids id counter (b ∷ bs) left)) q (led-data s k ps ids id counter b bs left h)
  at-judge s k ps (AtProcess (id ∷ ids) taken) call e h =
      let q : ProcessSwPackage id k ≡ call = cc e in
      subst (λ c. IsLed s c k ps (AtProcess (id ∷ ids) taken)) q (led-process s k ps id ids taken h)
  at-judge s k ps AtActivate call e h =
      let q : Activate ≡ call = cc e in subst (λ c. IsLed s c k ps AtActivate) q (led-activate s k ps h)
  at-judge s k ps RefusedOnce call e h = absurd h
  at-judge s k ps _ call e h = absurd (cc e)
