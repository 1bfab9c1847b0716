-- What a send keeps of the invariant.
use Rattle.world.proofs.Names.{◌≡◌, ◌≢◌, inl, inr, if◌then◌else◌, ◌||◌, ◌+◌, ℕ, ◌≤◌, List, [], ◌∷◌, Option, Some, None}
use Rattle.world.proofs.Names.{Bool, true, false, is_some, nat_eq, refl, sym, ◌∙◌, ap, subst, arith, eqb-true}
use Rattle.world.proofs.Names.{eqb_tells, RolledBack, Cause, Decision, Abort, Fold, Current, end_of, Call}
use Rattle.world.proofs.Names.{ProcessSwPackage, Finish, IsBelow, Message, IsIn, is_sync, Packages, last_status}
use Rattle.world.proofs.Names.{last_shown, end_call_at, delete_at, next_number, MaySend, MaySendBy, MaySendLate}
use Rattle.world.proofs.Rules.{NodeRules, NodeLaws, NodeWorld, state_of}
use Rattle.world.proofs.Invariant.{NoneEarly, KeptOld, KeptFold, Falling}
use Rattle.world.proofs.Events.{below-trans, none-early-status}

-- a call of the rounds of campaign k
abbrev pub IsRoundCall : ℕ → Call → Type 0
IsRoundCall k call = (call ≢ Finish) × ((id tag : ℕ) → call ≡ ProcessSwPackage id tag → tag ≡ k)

-- the next number is above all that were sent
pub next-above : (epoch : ℕ) (sent : List Message) → Falling sent → ((m : Message) → IsIn m sent → m.at.epoch ≤ epoch)
    → (older : Message) → IsIn older sent → IsBelow older.at (next_number epoch sent)
next-above epoch [] falling epochs older h = absurd h
next-above epoch (m ∷ ms) falling epochs older h = grind (arith, first, next_number, below-trans)
  where
    first : IsBelow m.at (next_number epoch (m ∷ ms))
    first = go (nat_eq m.at.epoch epoch) refl
      where
        go : (b : Bool) → nat_eq m.at.epoch epoch ≡ b
            → IsBelow m.at (record { epoch = epoch; number = if b then m.at.number + 1 else 1 })
        go true q = let e = eqb-true m.at.epoch epoch q in inr (e, omega arith)
        go false q =
            let le : m.at.epoch ≤ epoch = epochs m (inl refl) in
            elim (eqb_tells m.at.epoch epoch)
            [ inl h2 ↦ absurd (cc (h2.0, q)) | inr h2 ↦ inl (let ne : m.at.epoch ≢ epoch = h2.1 in omega arith) ]

pub next-epoch : (epoch : ℕ) (sent : List Message) → (next_number epoch sent).epoch ≡ epoch
next-epoch epoch x = grind arith

none-of : (o : Option Decision) → is_some o ≡ false → o ≡ None
none-of x e = grind arith

or-false : (b : Bool) → (b || false) ≡ true → b ≡ true
or-false true e = refl
or-false false e = e

module _ (N : NodeRules) (laws : NodeLaws N) (packages : Packages) (f : Fold) (n : ℕ) where
  pub event-send : (x : NodeWorld N) (c : Current) (call : Call) → f.current ≡ Some c
      → MaySend packages f.epoch n c x.told x.sent call → KeptFold f → KeptOld N f n x
      → KeptOld N f n
      (record {
        moves = x.moves;
        sent = record
            { at = next_number f.epoch x.sent; call = call; campaign = c.campaign; decided = is_some c.decision }
            ∷ x.sent;
        told = x.told;
      })
  event-send x c call current may fold kept =
      record {
        falling = (above, kept.falling);
        epochs = λ m h. elim h [ inl e ↦ (rw e at_epoch) | inr h' ↦ kept.epochs m h' ];
        tags = λ m h id tag q. elim h [ inl e ↦ new_tag m e id tag q | inr h' ↦ kept.tags m h' id tag q ];
        early = λ m h d. elim h [ inl e ↦ new_early m e d | inr h' ↦ kept.early m h' d ];
        decided =
            λ m h d c' current' same. elim h
            [ inl e ↦ new_decided m e d c' current' | inr h' ↦ kept.decided m h' d c' current' same ];
        ordered = λ m older h g same d undecided.
            elim h [
              | inl e ↦ elim g [ inl e' ↦ absurd (cc (e, e', d, undecided)) | inr g' ↦ rw e (above older g') ]
              | inr h' ↦ elim g [
                | inl e' ↦ absurd
                    (kept.decided m h' d c current (same ∙ ap (λ y. y.campaign) e') (undecided_of older e' undecided))
                | inr g' ↦ kept.ordered m older h' g' same d undecided
              ]
            ];
        begun =
            λ m h k fresh. elim h [
              | inl e ↦ (λ q. fresh.other c current (sym (ap (λ y. y.campaign) e) ∙ q))
              | inr h' ↦ kept.begun m h' k fresh
            ];
        present =
            λ m h exec. elim h [
              | inl e ↦ (c, current, may.named, not_ended, ap (λ y. y.campaign) e)
              | inr h' ↦ kept.present m h' exec
            ];
        told_sent = λ m r told. let h = kept.told_sent m r told in (inr h.0, h.1);
        told_none = kept.told_none;
        told_rolled = kept.told_rolled;
        kept_holds = kept.kept_holds;
        finish = λ c' cause current' abort m h call' exec.
            elim h [
              | inl e ↦
                  (let rolled = last_rolled c' cause current' abort (sym (ap (λ y. y.call) e) ∙ call') in (
                    none_early c' cause current' abort
                        (none-early-status N laws f n x kept c' current' RolledBack rolled),
                    kept.told_rolled c' current' rolled,
                  ))
              | inr h' ↦ (let old = kept.finish c' cause current' abort m h' call' exec in
                  (none_early c' cause current' abort old.0, old.1))
            ];
        ends_old = kept.ends_old;
        session = kept.session;
        open_span = kept.open_span;
        old_so_far = kept.old_so_far;
        fresh = kept.fresh;
        entered = kept.entered;
      }
    where
      above : (older : Message) → IsIn older x.sent → IsBelow older.at (next_number f.epoch x.sent)
      above = next-above f.epoch x.sent kept.falling kept.epochs

      at_epoch : (next_number f.epoch x.sent).epoch ≤ f.epoch
      at_epoch = let e = next-epoch f.epoch x.sent in omega (arith, e)

      same_current : (c' : Current) → f.current ≡ Some c' → c' ≡ c
      same_current c' current' = let e : Some c' ≡ Some c = sym current' ∙ current in cc e

      undecided_of : (m : Message)
          → m ≡ record
          { at = next_number f.epoch x.sent; call = call; campaign = c.campaign; decided = is_some c.decision }
          → m.decided ≡ false → c.decision ≡ None
      undecided_of m e d = none-of c.decision (sym (ap (λ y. y.decided) e) ∙ d)

      round : c.decision ≡ None → IsRoundCall c.campaign call
      round q = grind arith

      late : (d : Decision) → c.decision ≡ Some d → MaySendLate f.epoch n c d x.told call
      late d q = subst (λ o. MaySendBy packages f.epoch n c o x.told x.sent call) q may.by

      new_tag : (m : Message)
          → m ≡ record
          { at = next_number f.epoch x.sent; call = call; campaign = c.campaign; decided = is_some c.decision }
          → (id tag : ℕ) → m.call ≡ ProcessSwPackage id tag → (tag ≡ m.campaign) × (m.decided ≡ false)
      new_tag m e id tag q =
          grind (arith, round, is_some, last_status, last_shown, is_sync, end_call_at, delete_at, late)

      new_early : (m : Message)
          → m ≡ record
          { at = next_number f.epoch x.sent; call = call; campaign = c.campaign; decided = is_some c.decision }
          → m.decided ≡ false → m.call ≢ Finish
      new_early m e d q = (round (undecided_of m e d)).0 (sym (ap (λ y. y.call) e) ∙ q)

      new_decided : (m : Message)
          → m ≡ record
          { at = next_number f.epoch x.sent; call = call; campaign = c.campaign; decided = is_some c.decision }
          → m.decided ≡ true → (c' : Current) → f.current ≡ Some c' → c'.decision ≢ None
      new_decided m e d c' current' q = grind arith

      not_ended : end_of c n ≡ None
      not_ended = grind arith

      last_rolled : (c' : Current) (cause : Cause) → f.current ≡ Some c' → c'.decision ≡ Some (Abort cause)
          → call ≡ Finish → last_status c'.campaign f.epoch x.told ≡ Some RolledBack
      last_rolled c' cause current' abort q = grind arith

      none_early : (c' : Current) (cause : Cause) → f.current ≡ Some c' → c'.decision ≡ Some (Abort cause)
          → NoneEarly N (state_of N x) x.sent
          → NoneEarly N (state_of N x)
          (record { at = next_number f.epoch x.sent; call = call; campaign = c.campaign; decided = is_some c.decision }
          ∷ x.sent)
      none_early c' cause current' abort old m h d exec =
          elim h [
            | inl e ↦ (let w = undecided_of m e d in let q = same_current c' current' in
                cc (ap (λ y. y.decision) q, w, abort))
            | inr h' ↦ old m h' d exec
          ]
