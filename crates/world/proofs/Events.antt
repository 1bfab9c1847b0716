-- What deliveries, foreign calls and units keep of the invariant.
use Rattle.pm_types.specs.declared.replies.Synced.{Synced as Shown}
use Rattle.world.specs.Sends.{is_masters}
use Rattle.world.proofs.Names.{◌≡◌, ◌≢◌, ◌⊎◌, inl, inr, if◌then◌else◌, ◌&&◌, ◌||◌, ℕ, List, [], ◌∷◌, Option, Some}
use Rattle.world.proofs.Names.{None, Bool, true, false, is_some, refl, sym, ◌∙◌, ap, subst, arith}
use Rattle.world.proofs.Names.{nat_tests, CallNo, Status, Idle, Processing, RolledBack, CleaningUp, Decision, Commit}
use Rattle.world.proofs.Names.{Abort, Fold, Current, Call, Reply, ProcessSwPackage, Finish, Synced, IsBelow, no_lt}
use Rattle.world.proofs.Names.{no_eq, is_status, Message, Told, Answered, Showed, IsIn, session_status}
use Rattle.world.proofs.Names.{is_end_sync, shown_if, option_or, status_if, status_of_shown, last_shown, last_status}
use Rattle.world.proofs.Names.{has_tag, nothing_yet}
use Rattle.world.proofs.Rules.{NodeRules, NodeLaws, delivered, reached, Move, Delivered, Foreign, Unit_done, NodeWorld}
use Rattle.world.proofs.Rules.{step, state_of, Span, Spans, spans, is_fresh_done, begins_span, EachEnded, after}
use Rattle.node_laws.proofs.NameLists.{or-right}
use Rattle.world.proofs.Invariant.{begins, IsRolledBack, EndsOld, KeptHolds, Executable, NoneEarly, InPresent}
use Rattle.world.proofs.Invariant.{NotCommit, KeptOld, KeptFold, rolled-keeps, ends_old-keeps, rolled-foreign}
use Rattle.world.proofs.Invariant.{ends_old-foreign, rolled-unit, ends_old-unit, kept-foreign, kept-unit}
use Rattle.world.proofs.Invariant.{kept-delivered, delivered-cases, none-judge, some-judge, some-delivered}
use Rattle.world.proofs.Invariant.{rolled-judge, ends_old-judge, cleaned, none-delivered}

pub or-true : (a b : Bool) → (a || b) ≡ true → (a ≡ true) ⊎ (b ≡ true)
or-true true b e = inl refl
or-true false b e = inr e

-- order of numbers
pub below-trans : (a b c : CallNo) → IsBelow a b → IsBelow b c → IsBelow a c
below-trans a b c x y = grind arith

pub below-irrefl : (a : CallNo) → IsBelow a a → ⊥
below-irrefl a x = grind arith

pub above-last : (a b : CallNo) → no_lt a b ≡ false → no_eq a b ≡ false → IsBelow b a
above-last a b p q = grind arith

-- what was told
abbrev pub SyncTold : ℕ → ℕ → List Told → Type 0
SyncTold k epoch ts = (m : Message) × (r : Reply) × IsIn (Answered m r) ts × (is_end_sync k epoch m ≡ true)

told-later : (k epoch : ℕ) (t : Told) (ts : List Told) → SyncTold k epoch ts → SyncTold k epoch (t ∷ ts)
told-later k epoch t ts h = (h.0, h.1, inr h.2, h.3)

pub shown-told : (k epoch : ℕ) (ts : List Told) → is_some (last_shown k epoch ts) ≡ true → SyncTold k epoch ts
shown-told k epoch [] e = absurd (cc e)
shown-told k epoch (Showed s ∷ ts) e = told-later k epoch (Showed s) ts (shown-told k epoch ts e)
shown-told k epoch (Answered m r ∷ ts) e = go (is_end_sync k epoch m) refl (λ q. shown-told k epoch ts q) e
  where
    go : (b : Bool) → is_end_sync k epoch m ≡ b → (is_some (last_shown k epoch ts) ≡ true → SyncTold k epoch ts)
        → is_some (option_or (shown_if b r) (last_shown k epoch ts)) ≡ true → SyncTold k epoch (Answered m r ∷ ts)
    go true q rec e' = (m, r, inl refl, q)
    go false q rec e' = told-later k epoch (Answered m r) ts (rec e')

pub status-told : (k epoch : ℕ) (ts : List Told) (x : Status) → last_status k epoch ts ≡ Some x → SyncTold k epoch ts
status-told k epoch [] x e = absurd (cc e)
status-told k epoch (Showed s ∷ ts) x e = grind (arith, told-later, shown-told, status-told k epoch ts x)
status-told k epoch (Answered m r ∷ ts) x e = go (is_end_sync k epoch m) refl (λ q. status-told k epoch ts x q) e
  where
    go : (b : Bool) → is_end_sync k epoch m ≡ b → (last_status k epoch ts ≡ Some x → SyncTold k epoch ts)
        → option_or (status_of_shown (shown_if b r)) (last_status k epoch ts) ≡ Some x
        → SyncTold k epoch (Answered m r ∷ ts)
    go true q rec e' = (m, r, inl refl, q)
    go false q rec e' = told-later k epoch (Answered m r) ts (rec e')

pub end-sync-decided : (k epoch : ℕ) (m : Message) → is_end_sync k epoch m ≡ true
    → (m.decided ≡ true) × (m.campaign ≡ k)
end-sync-decided k epoch m e = grind arith

module _ (N : NodeRules) (laws : NodeLaws N) (f : Fold) (n : ℕ) where
  -- after an answer to a message of the decided campaign nothing from before the decision is executable
  pub none-early : (x : NodeWorld N) → KeptOld N f n x → (c : Current) → f.current ≡ Some c → (m : Message) (r : Reply)
      → IsIn (Answered m r) x.told → m.decided ≡ true → m.campaign ≡ c.campaign → NoneEarly N (state_of N x) x.sent
  none-early x kept c current m r told decided campaign m' sent' early exec =
      let here = kept.present m' sent' exec in
      let c_is : here.0 ≡ c = let e : Some here.0 ≡ Some c = sym here.1 ∙ current in cc e in
      let same : m.campaign ≡ m'.campaign = campaign ∙ (sym (ap (λ y. y.campaign) c_is) ∙ sym here.4) in
      let known = kept.told_sent m r told in
      known.1 (below-trans (N.last (state_of N x)) m'.at m.at exec (kept.ordered m m' known.0 sent' same decided early))

  pub none-early-status : (x : NodeWorld N) → KeptOld N f n x → (c : Current) → f.current ≡ Some c → (s : Status)
      → last_status c.campaign f.epoch x.told ≡ Some s → NoneEarly N (state_of N x) x.sent
  none-early-status x kept c current s e =
      let h = status-told c.campaign f.epoch x.told s e in
      let d = end-sync-decided c.campaign f.epoch h.0 h.3 in
      none-early x kept c current h.0 h.1 h.2 d.0 d.1

  -- one step of the node, with what is asked of it
  record Steps (x : NodeWorld N) (move : Move N) : Type 0 where
    back : (m : Message) → IsIn m x.sent → Executable N (step N (state_of N x) move) m → Executable N (state_of N x) m
    none : NoneEarly N (state_of N x) x.sent → N.mine (state_of N x) ≡ None → N.mine (step N (state_of N x) move) ≡ None
    rolled : NoneEarly N (state_of N x) x.sent → IsRolledBack N (state_of N x)
        → IsRolledBack N (step N (state_of N x) move)
    kept_holds : KeptHolds N (step N (state_of N x) move)
    ends_old : (c : Current) → f.current ≡ Some c → NotCommit c.decision → EndsOld N (step N (state_of N x) move)
    session : (tag : ℕ) → N.mine (step N (state_of N x) move) ≡ Some tag → InPresent f n (λ c. tag ≡ c.campaign)
    open_span : (k : ℕ) → (spans N k (move ∷ x.moves)).is_open ≡ true → N.mine (step N (state_of N x) move) ≡ Some k
    ended : (k : ℕ)
        → ((spans N k (move ∷ x.moves)).ended ≡ (spans N k x.moves).ended)
        ⊎ ((c : Current) × (f.current ≡ Some c) × (k ≡ c.campaign)
        × (NotCommit c.decision → EachEnded N (λ y. N.Leaves y.before y.left) (spans N k (move ∷ x.moves)).ended))

  moved : NodeWorld N → Move N → NodeWorld N
  moved x move = record { moves = move ∷ x.moves; sent = x.sent; told = x.told }

  kept-step : (x : NodeWorld N) (move : Move N) → KeptFold f → KeptOld N f n x → Steps x move
      → KeptOld N f n (record { moves = move ∷ x.moves; sent = x.sent; told = x.told })
  kept-step x move fold kept steps =
      record {
        falling = kept.falling;
        epochs = kept.epochs;
        tags = kept.tags;
        early = kept.early;
        decided = kept.decided;
        ordered = kept.ordered;
        begun = kept.begun;
        present = λ m sent exec. kept.present m sent (steps.back m sent exec);
        told_sent = λ m r told. let h = kept.told_sent m r told in (h.0, λ exec. h.1 (steps.back m h.0 exec));
        told_none =
            λ m y told d c current campaign free. steps.none (none-early x kept c current m (Synced y) told d campaign)
            (kept.told_none m y told d c current campaign free);
        told_rolled =
            λ c current e. steps.rolled (none-early-status x kept c current RolledBack e)
            (kept.told_rolled c current e);
        kept_holds = steps.kept_holds;
        finish = λ c cause current abort m sent call exec.
            let h = kept.finish c cause current abort m sent call (steps.back m sent exec) in
            (λ m' sent' early exec'. h.0 m' sent' early (steps.back m' sent' exec'), steps.rolled h.0 h.1);
        ends_old = steps.ends_old;
        session = steps.session;
        open_span = steps.open_span;
        old_so_far = λ c current d. grind arith;
        fresh = λ k is_fresh. grind arith;
        entered = λ k result earlier r.
            elim (steps.ended k) [
              | inl e ↦ subst (λ l. EachEnded N (λ y. N.Leaves y.before y.left) l) (sym e)
                  (kept.entered k result earlier r)
              | inr h ↦ absurd (fold.above h.0 h.1 k result earlier h.2)
            ];
      }

  pub event-foreign : (x : NodeWorld N) (call : N.ForeignCall) → KeptFold f → KeptOld N f n x
      → KeptOld N f n (record { moves = Foreign call ∷ x.moves; sent = x.sent; told = x.told })
  event-foreign x call fold kept = kept-step x (Foreign call) fold kept steps
    where
      mine-back : (tag : ℕ) → N.mine (N.foreign (state_of N x) call) ≡ Some tag → N.mine (state_of N x) ≡ Some tag
      mine-back tag e = grind arith

      steps : Steps x (Foreign call)
      steps =
          record {
            back = λ m sent exec. subst (λ l. IsBelow l m.at) (laws.foreign_last (state_of N x) call).0 exec;
            none = λ early e. laws.foreign_none (state_of N x) call e;
            rolled = λ early r. rolled-foreign N laws (state_of N x) call r;
            kept_holds = kept-foreign N laws (state_of N x) call kept.kept_holds;
            ends_old = λ c current d. ends_old-foreign N laws (state_of N x) call (kept.ends_old c current d);
            session = λ tag e. kept.session tag (mine-back tag e);
            open_span =
                λ k e. let mine = kept.open_span k e in (laws.foreign_session (state_of N x) call k mine).mine ∙ mine;
            ended = λ k. inl refl;
          }

  -- a unit
  pub unit-mine : (s : N.State) (passed : Bool) (tag : ℕ) → N.mine s ≡ Some tag
      → (N.mine (N.unit s passed) ≡ Some tag) ⊎ ((N.status s ≡ CleaningUp) × (N.mine (N.unit s passed) ≡ None))
  unit-mine s passed tag e = at_status (N.status s) refl
    where
      at_status : (x : Status) → N.status s ≡ x
          → (N.mine (N.unit s passed) ≡ Some tag) ⊎ ((N.status s ≡ CleaningUp) × (N.mine (N.unit s passed) ≡ None))
      at_status Processing i =
          let id = laws.processing_id s tag e i in inl (laws.unit_processing s passed tag id.0 e i id.1).0
      at_status x i =
          grind (arith, laws.unit_still, laws.unit_activating, laws.unit_verifying, laws.unit_rolling, cleaned)

  pub unit-back : (s : N.State) (passed : Bool) (tag : ℕ) → N.mine (N.unit s passed) ≡ Some tag → N.mine s ≡ Some tag
  unit-back s passed tag e = grind (arith, unit-mine)

  pub is-cleaning : (x : Status) → is_status x CleaningUp ≡ true → x ≡ CleaningUp
  is-cleaning x e = grind arith

  pub span-ended : (y : Spans N) (b : Bool) (z : List (Span N))
      → ((if (y.is_open && b) then record { is_open = false; ended = z } else y).ended ≡ y.ended)
      ⊎ ((y.is_open ≡ true) × (b ≡ true)
      × ((if (y.is_open && b) then record { is_open = false; ended = z } else y).ended ≡ z))
  span-ended y b z = grind arith

  pub event-unit : (x : NodeWorld N) (passed : Bool) → KeptFold f → KeptOld N f n x
      → KeptOld N f n (record { moves = Unit_done passed ∷ x.moves; sent = x.sent; told = x.told })
  event-unit x passed fold kept = kept-step x (Unit_done passed) fold kept steps
    where
      steps : Steps x (Unit_done passed)
      steps =
          record {
            back = λ m sent exec. subst (λ l. IsBelow l m.at) (laws.unit_last (state_of N x) passed).0 exec;
            none = λ early e. (laws.unit_none (state_of N x) passed e).0;
            rolled = λ early r. rolled-unit N laws (state_of N x) passed r;
            kept_holds = kept-unit N laws (state_of N x) passed kept.kept_holds;
            ends_old = λ c current d. ends_old-unit N laws (state_of N x) passed (kept.ends_old c current d);
            session = λ tag e. kept.session tag (unit-back (state_of N x) passed tag e);
            open_span = λ k e. grind (arith, spans, state_of, unit-mine);
            ended = λ k.
                elim (span-ended (spans N k x.moves) (is_status (N.status (state_of N x)) CleaningUp)
                (record {
                  outcome = N.outcome (state_of N x);
                  before = state_of N x;
                  left = N.unit (state_of N x)
                      passed;
                } ∷ (spans N k x.moves).ended)) [
                  | inl e ↦ inl e
                  | inr h ↦
                      (let mine = kept.open_span k h.0 in
                      let here = kept.session k mine in
                      let cleaning = is-cleaning (N.status (state_of N x)) h.1 in
                      inr (
                        here.0,
                        here.1,
                        here.4,
                        λ d.
                            subst (λ l. EachEnded N (λ y. N.Leaves y.before y.left) l) (sym h.2) (
                              laws.cleaning_old (state_of N x) passed k mine cleaning
                                  (kept.ends_old here.0 here.1 d k mine cleaning),
                              subst (λ j. EachEnded N (λ y. N.Leaves y.before y.left) (spans N j x.moves).ended)
                                  (sym here.4) (kept.old_so_far here.0 here.1 d),
                            ),
                      ))
                ];
          }

  pub begins-mine : (k : ℕ) (s : N.State) (at : CallNo) (call : Call)
      → (has_tag k call && (is_status (N.status s) Idle && is_fresh_done (reached N s at call))) ≡ true
      → N.mine (delivered N s at call) ≡ Some k
  begins-mine k s at x e = grind arith

  pub event-deliver : (x : NodeWorld N) (m : Message) → IsIn m x.sent → KeptFold f → KeptOld N f n x
      → KeptOld N f n (record { moves = Delivered m ∷ x.moves; sent = x.sent; told = x.told })
  event-deliver x m sent fold kept = kept-step x (Delivered m) fold kept steps
    where
      fresh_exec : no_lt m.at (N.last (state_of N x)) ≡ false → no_eq m.at (N.last (state_of N x)) ≡ false
          → Executable N (state_of N x) m
      fresh_exec a b = above-last m.at (N.last (state_of N x)) a b

      -- while nothing early is executable, what is executed begins no session
      no_process : NoneEarly N (state_of N x) x.sent → no_lt m.at (N.last (state_of N x)) ≡ false
          → no_eq m.at (N.last (state_of N x)) ≡ false → (id tag : ℕ) → m.call ≢ ProcessSwPackage id tag
      no_process early a b id tag e = early m sent (kept.tags m sent id tag e).1 (fresh_exec a b)

      back : (m' : Message) → IsIn m' x.sent → Executable N (delivered N (state_of N x) m.at m.call) m'
          → Executable N (state_of N x) m'
      back m' s' exec = grind (arith, nat_tests)

      none : NoneEarly N (state_of N x) x.sent → N.mine (state_of N x) ≡ None
          → N.mine (delivered N (state_of N x) m.at m.call) ≡ None
      none early e = grind (arith, delivered-cases, state_of, laws.keep_session, none-judge, no_process)

      rolled : NoneEarly N (state_of N x) x.sent → IsRolledBack N (state_of N x)
          → IsRolledBack N (delivered N (state_of N x) m.at m.call)
      rolled early r =
          delivered-cases N laws (state_of N x) m.at m.call (λ t. IsRolledBack N t) r (λ a b.
          rolled-keeps N laws (N.judge (state_of N x) m.call).0 _
          (laws.keep_session (N.judge (state_of N x) m.call).0 m.at m.call (N.judge (state_of N x) m.call).1)
          (rolled-judge N laws (state_of N x) m.call (no_process early a b) r))

      -- an executable Finish is of a decided campaign
      finish_rolled : (c : Current) → f.current ≡ Some c → NotCommit c.decision → Executable N (state_of N x) m
          → m.call ≡ Finish → IsRolledBack N (state_of N x)
      finish_rolled c current d exec call = at_decided m.decided refl
        where
          at_decision : (o : Option Decision) → c.decision ≡ o → m.decided ≡ true → IsRolledBack N (state_of N x)
          at_decision None q yes' =
              absurd (let here = kept.present m sent exec in
              let c_is : here.0 ≡ c = (let e : Some here.0 ≡ Some c = sym here.1 ∙ current in cc e) in
              kept.decided m sent yes' c current (here.4 ∙ ap (λ y. y.campaign) c_is) q)
          at_decision (Some Commit) q yes' = absurd (d q)
          at_decision (Some (Abort cause)) q yes' = (kept.finish c cause current q m sent call exec).1

          at_decided : (b : Bool) → m.decided ≡ b → IsRolledBack N (state_of N x)
          at_decided true q = at_decision c.decision refl q
          at_decided false q = absurd (kept.early m sent q call)

      ends_old : (c : Current) → f.current ≡ Some c → NotCommit c.decision
          → EndsOld N (delivered N (state_of N x) m.at m.call)
      ends_old c current d =
          delivered-cases N laws (state_of N x) m.at m.call (λ t. EndsOld N t) (kept.ends_old c current d) (λ a b.
          ends_old-keeps N laws (N.judge (state_of N x) m.call).0 _
          (laws.keep_session (N.judge (state_of N x) m.call).0 m.at m.call (N.judge (state_of N x) m.call).1)
          (ends_old-judge N laws (state_of N x) m.call (λ call. finish_rolled c current d (fresh_exec a b) call)
          (kept.ends_old c current d)))

      session_judge : Executable N (state_of N x) m → (tag : ℕ) → N.mine (N.judge (state_of N x) m.call).0 ≡ Some tag
          → InPresent f n (λ c. tag ≡ c.campaign)
      session_judge exec tag e = at_mine (N.mine (state_of N x)) refl
        where
          of_call : (call : Call) → N.mine (state_of N x) ≡ None → N.mine (N.judge (state_of N x) call).0 ≡ Some tag
              → (id : ℕ) × (call ≡ ProcessSwPackage id tag)
          of_call (ProcessSwPackage id t) none' e' =
              (id, grind (arith, begins N laws (state_of N x) id t, laws.process_idle (state_of N x) id t))
          of_call y none' e' = absurd (cc (none-judge N laws (state_of N x) y (λ i t z. cc) none', e'))

          at_mine : (o : Option ℕ) → N.mine (state_of N x) ≡ o → InPresent f n (λ c. tag ≡ c.campaign)
          at_mine (Some old) q =
              let same : old
              ≡ tag = (let g : Some old ≡ Some tag = sym (some-judge N laws (state_of N x) m.call old q) ∙ e in
              cc g) in
              kept.session tag (q ∙ ap Some same)
          at_mine None q =
              let p = of_call m.call q e in
              let here = kept.present m sent exec in
              (here.0, here.1, here.2, here.3, (kept.tags m sent p.0 tag p.1).0 ∙ here.4)

      session : (tag : ℕ) → N.mine (delivered N (state_of N x) m.at m.call) ≡ Some tag
          → InPresent f n (λ c. tag ≡ c.campaign)
      session =
          delivered-cases N laws (state_of N x) m.at m.call (λ t. (tag : ℕ) → N.mine t ≡ Some tag
          → InPresent f n (λ c. tag ≡ c.campaign)) kept.session (λ a b tag e.
          session_judge (fresh_exec a b) tag
          (sym (laws.keep_session (N.judge (state_of N x) m.call).0 m.at m.call
          (N.judge (state_of N x) m.call).1).mine ∙ e))

      steps : Steps x (Delivered m)
      steps =
          record {
            back = back;
            none = none;
            rolled = rolled;
            kept_holds = kept-delivered N laws (state_of N x) m.at m.call kept.kept_holds;
            ends_old = ends_old;
            session = session;
            open_span = λ k e.
                grind (arith, or-true, spans, begins_span, state_of, some-delivered, begins-mine);
            ended = λ k. inl refl;
          }

  -- what is told anew leaves the rest
  retold : (x : NodeWorld N) (told : List Told) → KeptOld N f n x
      → ((m : Message) (r : Reply) → IsIn (Answered m r) told → IsIn m x.sent × (Executable N (state_of N x) m → ⊥))
      → ((m : Message) (y : Shown) → IsIn (Answered m (Synced y)) told → m.decided ≡ true → (c : Current)
      → f.current ≡ Some c → m.campaign ≡ c.campaign → is_masters y.session ≡ false → N.mine (state_of N x) ≡ None)
      → ((c : Current) → f.current ≡ Some c → last_status c.campaign f.epoch told ≡ Some RolledBack
      → IsRolledBack N (state_of N x))
      → KeptOld N f n (record { moves = x.moves; sent = x.sent; told = told })
  retold x told kept told_sent told_none told_rolled = grind arith

  -- an answer that is told: it is the node's kept reply, and its message is executed
  pub event-answered : (x : NodeWorld N) (m : Message) (r : Reply) → IsIn m x.sent → (Executable N (state_of N x) m → ⊥)
      → N.kept (state_of N x) ≡ r → KeptOld N f n x
      → KeptOld N f n (record { moves = x.moves; sent = x.sent; told = Answered m r ∷ x.told })
  event-answered x m r sent done kept_is kept =
      retold x (Answered m r ∷ x.told) kept
      (λ m' r' told. elim told [ inl e ↦ newest m' r' e | inr h ↦ kept.told_sent m' r' h ])
      (λ m' y told d c current campaign free. elim told
      [ inl e ↦ shown m' y e free | inr h ↦ kept.told_none m' y h d c current campaign free ])
      (λ c current e. rolled c current (is_end_sync c.campaign f.epoch m) r kept_is e)
    where
      newest : (m' : Message) (r' : Reply) → Answered m' r' ≡ Answered m r
          → IsIn m' x.sent × (Executable N (state_of N x) m' → ⊥)
      newest m' r' e =
          let q : m' ≡ m = cc e in
          (subst (λ y. IsIn y x.sent) (sym q) sent, subst (λ y. Executable N (state_of N x) y → ⊥) (sym q) done)

      shown : (m' : Message) (y : Shown) → Answered m' (Synced y) ≡ Answered m r → is_masters y.session ≡ false
          → N.mine (state_of N x) ≡ None
      shown m' y e free = let q : Synced y ≡ r = cc e in kept.kept_holds.none y (kept_is ∙ sym q) free

      rolled : (c : Current) → f.current ≡ Some c → (b : Bool) (r' : Reply) → N.kept (state_of N x) ≡ r'
          → option_or (status_of_shown (shown_if b r')) (last_status c.campaign f.epoch x.told) ≡ Some RolledBack
          → IsRolledBack N (state_of N x)
      rolled c current true (Synced y) k e =
          kept.kept_holds.rolled y k (let e' : Some (session_status y.session) ≡ Some RolledBack = e in cc e')
      rolled c current _ _ k e = kept.told_rolled c current e

  -- a status that is told
  pub event-showed : (x : NodeWorld N) (s : Status) → N.status (state_of N x) ≡ s → KeptOld N f n x
      → KeptOld N f n (record { moves = x.moves; sent = x.sent; told = Showed s ∷ x.told })
  event-showed x s status kept =
      retold x (Showed s ∷ x.told) kept
      (λ m r told. elim told [
        | inl e ↦ absurd (let e' : Answered m r ≡ Showed s = e in cc e')
        | inr h ↦ kept.told_sent m r h
      ])
      (λ m y told d c current campaign free. elim told [
        | inl e ↦ absurd (let e' : Answered m (Synced y)
            ≡ Showed s = e in cc e')
        | inr h ↦ kept.told_none m y h d c current campaign free
      ])
      (λ c current e. rolled c current (is_some (last_shown c.campaign f.epoch x.told)) e)
    where
      rolled : (c : Current) → f.current ≡ Some c → (b : Bool)
          → option_or (status_if b s) (last_status c.campaign f.epoch x.told) ≡ Some RolledBack
          → IsRolledBack N (state_of N x)
      rolled c current true e = λ tag mine. inl (status ∙ (let e' : Some s ≡ Some RolledBack = e in cc e'))
      rolled c current false e = kept.told_rolled c current e

-- A session of client 0 is an open span of its tag.
module _ (N : NodeRules) (laws : NodeLaws N) where
  none-begins : (s : N.State) (at : CallNo) (call : Call) (k : ℕ) → N.mine s ≡ None
      → N.mine (delivered N s at call) ≡ Some k
      → (has_tag k call && (is_status (N.status s) Idle && is_fresh_done (reached N s at call))) ≡ true
  none-begins s at (ProcessSwPackage id tag) k none e =
      grind (arith, begins N laws s id tag, laws.process_idle s id tag, laws.keep_session, nat_tests)
  none-begins s at x k none e = absurd (cc (none-delivered N laws s at x (λ i t z. cc) none, e))

  stays-open : (y : Spans N) (b : Bool) (z : List (Span N)) → y.is_open ≡ true → (b ≡ true → ⊥)
      → (if (y.is_open && b) then record { is_open = false; ended = z } else y).is_open ≡ true
  stays-open y b z open_ shut = grind arith

  pub open-mine : (moves : List (Move N)) (k : ℕ) → N.mine (after N moves) ≡ Some k → (spans N k moves).is_open ≡ true
  open-mine [] k e = absurd (cc (laws.formatted_mine, e))
  open-mine (Delivered m ∷ ms) k e = go (N.mine (after N ms)) refl (open-mine ms k)
    where
      go : (o : Option ℕ) → N.mine (after N ms) ≡ o → (N.mine (after N ms) ≡ Some k → (spans N k ms).is_open ≡ true)
          → ((spans N k ms).is_open || begins_span N k (after N ms) m) ≡ true
      go None q rec =
          or-right (spans N k ms).is_open (begins_span N k (after N ms) m) (none-begins (after N ms) m.at m.call k q e)
      go (Some t) q rec = grind (arith, some-delivered, after, spans, begins_span)
  open-mine (Foreign call ∷ ms) k e = grind (arith, spans, laws.foreign_none, laws.foreign_session, open-mine ms k)
  open-mine (Unit_done passed ∷ ms) k e =
      let mine = unit-back N laws nothing_yet 0 (after N ms) passed k e in
      stays-open (spans N k ms) (is_status (N.status (after N ms)) CleaningUp) _ (open-mine ms k mine) (λ c.
      cc (cleaned N laws (after N ms) passed k mine (is-cleaning N laws nothing_yet 0 (N.status (after N ms)) c), e))
