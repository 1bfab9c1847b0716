-- A node that no Finish of the master ended as new, and whose last call of the master showed it at rest, is old.
use Rattle.std.specs.List.{AllByRecursion}
use Rattle.std.proofs.lemmas.Bool.Decides.{nat_tests}
use Rattle.world.proofs.Names.{◌≡◌, ◌⊎◌, inl, inr, ℕ, zero, suc, ◌<◌, Bool, true, false, not, ◌&&◌, ◌||◌, if◌then◌else◌, nat_eq, List, [], ◌∷◌, Option, Some, None, IfSome}
use Rattle.world.proofs.Names.{and_parts, eqb-true, ◌==◌, refl, sym, ap, subst, ◌∙◌, arith, CallNo, Bytes, Cluster, Call, Reply, Status, Entry, NodeState}
use Rattle.world.proofs.Names.{ProcessSwPackage, Finish, Done, Synced}
use Rattle.world.proofs.Names.{Idle, Activated, RolledBack, CleaningUp, Verdict, Reading, formatted, verdict_for, after_entry, state_after, step, after_call}
use Rattle.world.proofs.Names.{IsFit, IsReading, IsInstalled, is_status, is_done, is_sync, is_masters, has_tag, Spans, spans, span_step, span_of, IsOld, Shown}
use Rattle.pm_types.specs.declared.history.Entry.TheVariants.{Numbered, Unit as UnitDone}
use Rattle.pm_types.specs.declared.replies.Reached.TheVariants.{Done as Executed}
use Rattle.pm_types.specs.Histories.{IsLegal, IsNext}
use Rattle.pm_types.specs.NodeState.{has_status, status_code}
use Rattle.world.specs.Spans.{spans_from}
use Rattle.world.proofs.Rules.{NodeRules, NodeLaws}
use Rattle.world.proofs.Instance.{Outside, Opens, Calls, ForeignCall, mine_in, kept_in, judged_in, kept_after, saved_in, outside_in}
use Rattle.world.proofs.FitLaws.{KeepsNode, FitState, fit, fit-laws, state-is, unit-is}
use Rattle.world.proofs.Invariant.{EndsOld, KeptHolds, ends_old-none, ends_old-foreign, ends_old-unit, ends_old-judge, ends_old-keeps, some-judge, kept-fresh, kept-foreign, kept-unit}
use Rattle.world.proofs.Events.{unit-mine, is-cleaning}
use Rattle.node_laws.proofs.Kept.{keeps-fit, kept-fit, entry-fit, opened-fit}
use Rattle.node_laws.specs.Fit as fits
use Rattle.campaign_core.specs.Campaign.{nothing_yet}
use Rattle.run_claim.specs.Masters.{made_by, is_finish, finishes_new}
use Rattle.sub_core.specs.Made.{Made, ends_at_rest, shows_rest}

-- what a call that was carried out leaves
pub stepped : (s : NodeState) (client : ℕ) (at : CallNo) (c : Call) (v : Verdict) (r : Reply)
    → (step s client at c v).1 ≡ Executed r → (step s client at c v).0 ≡ after_call s client at c v r
stepped s client at c v r e = grind arith

-- and what it replied
pub replied : (read : Reading) (s : NodeState) (at : CallNo) (c : Call) (r : Reply)
    → (step s 0 at c (verdict_for read s 0 c)).1 ≡ Executed r → (judged_in read s c).1 ≡ r
replied read s at c r e = grind arith

or-parts : (a b : Bool) → (a || b) ≡ false → (a ≡ false) × (b ≡ false)
or-parts false false e = (refl, refl)
or-parts false true e = absurd (cc e)
or-parts true b e = absurd (cc e)

is-done : (r : Reply) → is_done r ≡ true → r ≡ Done
is-done r e = grind arith

is-idle : (s : Status) → is_status s Idle ≡ true → s ≡ Idle
is-idle s e = grind arith

-- the last reply is kept on
pub last-on : (o : Option Reply) (a b : NodeState) → kept_in b ≡ kept_in a → IfSome o (λ r. kept_in a ≡ r)
    → IfSome o (λ r. kept_in b ≡ r)
last-on None a b e h = h
last-on (Some r) a b e h = e ∙ h

-- the tables keep a state fit
pub keeps_node : (read : Reading) → IsReading read → KeepsNode read []
keeps_node read reading =
    let k : fits.KeepsFit read = keeps-fit read reading in
    record {
      formatted = k.formatted [] (record { rise = refl; few = omega arith });
      judge = λ s c f. k.judge s 0 c (omega arith) f;
      keep = λ s at c r f. entry-fit read _ _ (kept-fit read s 0 at r f);
      foreign = λ s o f. outside s o f;
      unit = λ s passed f. k.unit s passed f;
    }
  where
    outside : (s : NodeState) (o : Outside) → IsFit read s → IsFit read (outside_in read s o)
    outside s (Opens clusters installed) f = opened-fit read s clusters installed f
    outside s (Calls c) f = let k : fits.KeepsFit read = keeps-fit read reading in
        k.step s (suc c.other) c.at c.call (let b = c.bound in omega (arith, b)) f

-- the reply to the last call of client 0, where there is one
abbrev pub next_reply : Option Reply → Entry → Option Reply
next_reply o (UnitDone passed after) = o
next_reply o (Numbered zero at call reply) = Some reply
next_reply o (Numbered (suc c) at call reply) = o

abbrev pub last_reply : Option Reply → List Entry → Option Reply
last_reply o [] = o
last_reply o (e ∷ es) = last_reply (next_reply o e) es

-- another client's entry is none of client 0's
pub others : (c : ℕ) (at : CallNo) (call : Call) (r : Reply) (es : List Entry)
    → made_by 0 (Numbered (suc c) at call r ∷ es) ≡ made_by 0 es
others c at call r es = go (nat_eq (suc c) 0) (grind (arith, nat_tests))
  where
    go : (b : Bool) → b ≡ false
        → (if b then record { at = at; call = call; reply = r } ∷ made_by 0 es else made_by 0 es) ≡ made_by 0 es
    go true e = absurd (cc e)
    go false e = refl

module _ (read : Reading) (keeps : KeepsNode read []) (k : ℕ) where
  abbrev N : NodeRules
  N = fit read [] keeps

  laws : NodeLaws (fit read [] keeps)
  laws = fit-laws read [] keeps

  -- what every entry keeps: an open span is client 0's session, none ends as new, and those that have ended left what
  -- they saved
  record KeptOld (x : FitState read) (o : Option Reply) (sp : Spans) : Type 0 where
    opens : sp.is_open ≡ true → mine_in x.state ≡ Some k
    ends : EndsOld (fit read [] keeps) x
    same : AllByRecursion (λ z. z.left ≡ z.saved) sp.ended
    kept : KeptHolds (fit read [] keeps) x
    last : IfSome o (λ r. kept_in x.state ≡ r)

  -- a unit
  unit-kept : (x : FitState read) (passed : Bool) (after : Status) (o : Option Reply) (sp : Spans) → KeptOld x o sp
      → (y : FitState read) × (y.state ≡ after_entry read x.state (UnitDone passed after))
      × KeptOld y o (span_step k x.state (after_entry read x.state (UnitDone passed after)) (UnitDone passed after)
      sp)
  unit-kept x passed after o sp h = (y, at, go (is_status x.state.status CleaningUp) sp.is_open refl refl)
    where
      y : FitState read
      y = N.unit x passed

      at : y.state ≡ after_entry read x.state (UnitDone passed after)
      at = unit-is read [] keeps x passed

      ends : EndsOld (fit read [] keeps) y
      ends = ends_old-unit N laws x passed h.ends

      kept : KeptHolds (fit read [] keeps) y
      kept = kept-unit N laws x passed h.kept

      last : IfSome o (λ r. kept_in y.state ≡ r)
      last = last-on o x.state y.state (laws.unit_last x passed).1 h.last

      head : is_status x.state.status CleaningUp ≡ true → sp.is_open ≡ true
          → (after_entry read x.state (UnitDone passed after)).running ≡ saved_in x.state
      head p q =
          let mine = h.opens q in
          let cleaning = is-cleaning N laws nothing_yet 0 x.state.status p in
          sym (ap (λ (s : NodeState). s.running) at)
          ∙ laws.cleaning_old x passed k mine cleaning (h.ends k mine cleaning)

      still : is_status x.state.status CleaningUp ≡ false → sp.is_open ≡ true → mine_in y.state ≡ Some k
      still p q = elim (unit-mine N laws nothing_yet 0 x passed k (h.opens q)) [
        | inl m ↦ m
        | inr g ↦ absurd (let no : true ≡ false = subst (λ (s : Status). is_status s CleaningUp ≡ false) g.0 p in cc no)
      ]

      go : (b c : Bool) → is_status x.state.status CleaningUp ≡ b → sp.is_open ≡ c
          → KeptOld y o (if b && c then record {
            is_open = false;
            ended =
                span_of x.state (after_entry read x.state (UnitDone passed after)) ∷ sp.ended;
          }
          else record { is_open = c || false; ended = sp.ended })
      go true true p q =
          record { opens = λ e. absurd (cc e); ends = ends; same = (head p q, h.same); kept = kept; last = last }
      go true false p q = record { opens = λ e. absurd (cc e); ends = ends; same = h.same; kept = kept; last = last }
      go false true p q = record { opens = λ e. still p q; ends = ends; same = h.same; kept = kept; last = last }
      go false false p q = record { opens = λ e. absurd (cc e); ends = ends; same = h.same; kept = kept; last = last }

  -- another client's call
  foreign-kept : (x : FitState read) (c : ℕ) (at : CallNo) (call : Call) (r : Reply) (o : Option Reply) (sp : Spans)
      → IsNext read x.state (Numbered (suc c) at call r) → KeptOld x o sp
      → (y : FitState read) × (y.state ≡ after_entry read x.state (Numbered (suc c) at call r))
      × KeptOld y o (span_step k x.state (after_entry read x.state (Numbered (suc c) at call r))
      (Numbered (suc c) at call r) sp)
  foreign-kept x c at call r o sp next h = (y, there, go (nat_eq (suc c) 0) (omega-false c))
    where
      bound : suc c < 32
      bound = next.0

      f : ForeignCall
      f = record { other = c; bound = omega (arith, bound); at = at; call = call }

      y : FitState read
      y = N.foreign x (Calls f)

      there : y.state ≡ after_entry read x.state (Numbered (suc c) at call r)
      there = stepped x.state (suc c) at call (verdict_for read x.state (suc c) call) r next.1

      omega-false : (n : ℕ) → nat_eq (suc n) 0 ≡ false
      omega-false n = grind (arith, nat_tests)

      mine : (b : Bool) → sp.is_open ≡ b → (b || false) ≡ true → mine_in y.state ≡ Some k
      mine false e q = absurd (cc q)
      mine true e q = let m = h.opens e in (laws.foreign_session x (Calls f) k m).mine ∙ m

      go : (b : Bool) → b ≡ false
          → KeptOld y o (record {
            is_open =
                sp.is_open || (b && (has_tag k call && (is_status x.state.status Idle && is_done r)));
            ended = sp.ended;
          })
      go true e = absurd (cc e)
      go false e = record {
        opens = mine sp.is_open refl;
        ends = ends_old-foreign N laws x (Calls f) h.ends;
        same = h.same;
        kept = kept-foreign N laws x (Calls f) h.kept;
        last = last-on o x.state y.state (laws.foreign_last x (Calls f)).1 h.last;
      }

  -- an accepted ProcessSwPackage in Idle begins client 0's session
  pub begun : (x : FitState read) (call : Call) (r : Reply) → (judged_in read x.state call).1 ≡ r
      → (has_tag k call && (is_status x.state.status Idle && is_done r)) ≡ true
      → mine_in (N.judge x call).0.state ≡ Some k
  begun x (ProcessSwPackage id tag) r e q = by-mine (mine_in x.state) refl
    where
      tags : tag ≡ k
      tags = eqb-true tag k (and_parts (nat_eq tag k) _ q).0

      rest : (is_status x.state.status Idle ≡ true) × (is_done r ≡ true)
      rest = and_parts (is_status x.state.status Idle) (is_done r) (and_parts (nat_eq tag k) _ q).1

      done : (judged_in read x.state (ProcessSwPackage id tag)).1 ≡ Done
      done = e ∙ is-done r rest.1

      by-mine : (o : Option ℕ) → mine_in x.state ≡ o → mine_in (N.judge x (ProcessSwPackage id tag)).0.state ≡ Some k
      by-mine None m = (laws.process_idle x id tag m done).1 ∙ ap Some tags
      by-mine (Some other) m = absurd (laws.session_status x other m (is-idle x.state.status rest.0))
  begun x _ r e q = absurd (cc q)

  -- a Finish that isn't accepted in Activated ends no session as new
  finish-old : (x : FitState read) (r : Reply) → (judged_in read x.state Finish).1 ≡ r
      → (is_done r && has_status Activated x.state) ≡ false → EndsOld (fit read [] keeps) x
      → EndsOld (fit read [] keeps) (N.judge x Finish).0
  finish-old x r e q old = elim (laws.six_replies x Finish (inr (inl refl))) [
    | inl d ↦ done d (laws.finish_mine x d)
    | inr f ↦ subst (EndsOld (fit read [] keeps)) (sym (laws.refused x Finish f.0 f.1)) old
  ]
    where
      done : (d : (judged_in read x.state Finish).1 ≡ Done)
          → ((tag : ℕ) × (mine_in x.state ≡ Some tag) × ((x.state.status ≡ Activated) ⊎ (x.state.status ≡ RolledBack)))
          → EndsOld (fit read [] keeps) (N.judge x Finish).0
      done d m = elim m.2 [
        | inl a ↦ absurd (let no : (true && true) ≡ false =
            subst (λ (y : Reply). (is_done y && true) ≡ false) (sym e ∙ d)
            (subst (λ (s : Status). (is_done r && (status_code s == status_code Activated)) ≡ false) a q) in cc no)
        | inr b ↦ (λ tag mine status. (laws.finish_old.only x m.0 m.1 d b).3)
      ]

  finish-is : (at : CallNo) (r : Reply) (b : Bool) → (is_finish (Numbered 0 at Finish r) && b) ≡ false
      → (is_done r && b) ≡ false
  finish-is at Done b e = e
  finish-is at _ b e = refl

  judged-old : (x : FitState read) (at : CallNo) (call : Call) (r : Reply) → (judged_in read x.state call).1 ≡ r
      → (is_finish (Numbered 0 at call r) && has_status Activated x.state) ≡ false → EndsOld (fit read [] keeps) x
      → EndsOld (fit read [] keeps) (N.judge x call).0
  judged-old x at Finish r e fin old = finish-old x r e (finish-is at r (has_status Activated x.state) fin) old
  judged-old x at call r e fin old = ends_old-judge N laws x call (λ f. absurd (cc f)) old

  -- client 0's call
  own-kept : (x : FitState read) (at : CallNo) (call : Call) (r : Reply) (o : Option Reply) (sp : Spans)
      → IsNext read x.state (Numbered 0 at call r)
      → (is_finish (Numbered 0 at call r) && has_status Activated x.state) ≡ false → KeptOld x o sp
      → (y : FitState read) × (y.state ≡ after_entry read x.state (Numbered 0 at call r))
      × KeptOld y (Some r) (span_step k x.state (after_entry read x.state (Numbered 0 at call r))
      (Numbered 0 at call r) sp)
  own-kept x at call r o sp next fin h = (
    y,
    there,
    record {
      opens = mine sp.is_open refl (has_tag k call && (is_status x.state.status Idle && is_done r)) refl;
      ends =
          ends_old-keeps N laws (N.judge x call).0 y
          (laws.keep_session (N.judge x call).0 at call (judged_in read x.state call).1)
          (judged-old x at call r gave fin h.ends);
      same = h.same;
      kept = kept-fresh N laws x at call;
      last = laws.keep_kept (N.judge x call).0 at call (judged_in read x.state call).1 ∙ gave;
    },
  )
    where
      gave : (judged_in read x.state call).1 ≡ r
      gave = replied read x.state at call r next.1

      y : FitState read
      y = N.keep (N.judge x call).0 at call (N.judge x call).1

      there : y.state ≡ after_entry read x.state (Numbered 0 at call r)
      there =
          ap (λ s. kept_after s at call (judged_in read x.state call).1) (state-is read [] keeps x call)
          ∙ ap (after_call x.state 0 at call (verdict_for read x.state 0 call)) gave

      mine : (b : Bool) → sp.is_open ≡ b → (c : Bool)
          → (has_tag k call && (is_status x.state.status Idle && is_done r)) ≡ c → (b || c) ≡ true
          → mine_in y.state ≡ Some k
      mine true e c f q =
          (laws.keep_session (N.judge x call).0 at call (judged_in read x.state call).1).mine
          ∙ some-judge N laws x call k (h.opens e)
      mine false e true f q =
          (laws.keep_session (N.judge x call).0 at call (judged_in read x.state call).1).mine ∙ begun x call r gave f
      mine false e false f q = absurd (cc q)

  -- one entry, and so all
  entry-kept : (x : FitState read) (e : Entry) (o : Option Reply) (sp : Spans) → IsNext read x.state e
      → (is_finish e && has_status Activated x.state) ≡ false → KeptOld x o sp
      → (y : FitState read) × (y.state ≡ after_entry read x.state e)
      × KeptOld y (next_reply o e) (span_step k x.state (after_entry read x.state e) e sp)
  entry-kept x (UnitDone passed after) o sp next fin h = unit-kept x passed after o sp h
  entry-kept x (Numbered zero at call r) o sp next fin h = own-kept x at call r o sp next fin h
  entry-kept x (Numbered (suc c) at call r) o sp next fin h = foreign-kept x c at call r o sp next h

  all-kept : (es : List Entry) (s : NodeState) (x : FitState read) (o : Option Reply) (sp : Spans) → x.state ≡ s
      → IsLegal read s es → finishes_new read s es ≡ false → KeptOld x o sp
      → (y : FitState read) × (y.state ≡ state_after read s es)
      × KeptOld y (last_reply o es) (spans_from read k s es sp)
  all-kept [] s x o sp at legal fin h = (x, at, h)
  all-kept (e ∷ es) s x o sp at legal fin h =
      let parts = or-parts (is_finish e && has_status Activated s) (finishes_new read (after_entry read s e) es) fin in
      let one : (y : FitState read) × (y.state ≡ after_entry read s e)
      × KeptOld y (next_reply o e) (span_step k s (after_entry read s e) e sp) =
      subst Claim at (λ next f. entry-kept x e o sp next f h) legal.0 parts.0 in
      all-kept es (after_entry read s e) one.0 (next_reply o e) (span_step k s (after_entry read s e) e sp) one.1
      legal.1 parts.1 one.2
    where
      Claim : NodeState → Type 0
      Claim z =
          IsNext read z e → (is_finish e && has_status Activated z) ≡ false
          → (y : FitState read) × (y.state ≡ after_entry read z e)
          × KeptOld y (next_reply o e) (span_step k z (after_entry read z e) e sp)

-- without calls of client 0 the last reply stays
none-made : (es : List Entry) (o : Option Reply) → made_by 0 es ≡ [] → last_reply o es ≡ o
none-made [] o e = refl
none-made (UnitDone passed after ∷ es) o e = none-made es o e
none-made (Numbered zero at call r ∷ es) o e = absurd (cc e)
none-made (Numbered (suc c) at call r ∷ es) o e = none-made es o (sym (others c at call r es) ∙ e)

-- a reply that shows the node at rest
shown : (r : Reply) → shows_rest r ≡ true → (x : Shown) × (r ≡ Synced x) × (is_masters x.session ≡ false)
shown (Synced x) e = (x, refl, not-true (is_masters x.session) (and_parts (not (is_masters x.session)) _ e).0)
  where
    not-true : (b : Bool) → not b ≡ true → b ≡ false
    not-true true e = absurd (cc e)
    not-true false e = refl
shown _ e = absurd (cc e)

-- the last reply of entries that end at rest
pub rest-reply : (es : List Entry) (o : Option Reply) → ends_at_rest (made_by 0 es) ≡ true
    → (x : Shown) × (last_reply o es ≡ Some (Synced x)) × (is_masters x.session ≡ false)
rest-reply [] o e = absurd (cc e)
rest-reply (UnitDone passed after ∷ es) o e = rest-reply es o e
rest-reply (Numbered (suc c) at call r ∷ es) o e = rest-reply es o (ap ends_at_rest (sym (others c at call r es)) ∙ e)
rest-reply (Numbered zero at call r ∷ es) o e = go (made_by 0 es) refl (rest-reply es (Some r)) e
  where
    go : (ms : List Made) → made_by 0 es ≡ ms
        → (ends_at_rest (made_by 0 es) ≡ true
        → (x : Shown) × (last_reply (Some r) es ≡ Some (Synced x)) × (is_masters x.session ≡ false))
        → ends_at_rest (record { at = at; call = call; reply = r } ∷ ms) ≡ true
        → (x : Shown) × (last_reply (Some r) es ≡ Some (Synced x)) × (is_masters x.session ≡ false)
    go [] m rec f = let s = shown r (and_parts (is_sync call) (shows_rest r) f).1 in
        (s.0, none-made es (Some r) m ∙ ap Some s.1, s.2)
    go (n ∷ ns) m rec f = rec (ap ends_at_rest m ∙ f)

-- the node is old
pub old-left : (read : Reading) → IsReading read → (clusters : List (Cluster Bytes)) → IsInstalled clusters
    → (k : ℕ) (es : List Entry) → IsLegal read (formatted clusters) es
    → finishes_new read (formatted clusters) es ≡ false → ends_at_rest (made_by 0 es) ≡ true
    → IsOld read k (formatted clusters) es
old-left read reading clusters installed k es legal fin rest =
    record { closed = shut (spans read k (formatted clusters) es).is_open refl; same = end.2.same }
  where
    keeps : KeepsNode read []
    keeps = keeps_node read reading

    x : FitState read
    x =
        record {
          state = formatted clusters;
          fit =
              (let f : fits.KeepsFit read = keeps-fit read reading in f.formatted clusters installed);
        }

    start : KeptOld read keeps k x None (record { is_open = false; ended = [] })
    start = record {
      opens = λ e. absurd (cc e);
      ends = ends_old-none (fit read [] keeps) (fit-laws read [] keeps) x refl;
      same = tt;
      kept = record { none = λ y e f. absurd (cc e); rolled = λ y e f. absurd (cc e) };
      last = tt;
    }

    end : (y : FitState read) × (y.state ≡ state_after read (formatted clusters) es)
        × KeptOld read keeps k y (last_reply None es) (spans read k (formatted clusters) es)
    end =
        all-kept read keeps k es (formatted clusters) x None (record { is_open = false; ended = [] }) refl legal fin
        start

    last : (x : Shown) × (last_reply None es ≡ Some (Synced x)) × (is_masters x.session ≡ false)
    last = rest-reply es None rest

    none : mine_in end.0.state ≡ None
    none =
        end.2.kept.none last.0 (subst (λ (o : Option Reply). IfSome o (λ r. kept_in end.0.state ≡ r)) last.1 end.2.last)
        last.2

    shut : (b : Bool) → (spans read k (formatted clusters) es).is_open ≡ b
        → (spans read k (formatted clusters) es).is_open ≡ false
    shut false e = e
    shut true e = absurd (let mine = end.2.opens e in cc (none, mine))
