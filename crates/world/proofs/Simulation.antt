-- What a call and a unit make of a node's history is what they make of its state and of its spans.
use Rattle.world.proofs.Names.{◌≡◌, refl, ap, ℕ, suc, Bool, true, false, List, ◌∷◌, arith, ◌&&◌, ◌||◌, if◌then◌else◌}
use Rattle.world.proofs.Names.{CallNo, Call, Entry, Reached, Idle, CleaningUp, NodeState, UnitAfter as UnitLine}
use Rattle.world.proofs.Names.{with_entry, step, unit, Reading, verdict_for, state_after, IsConsistent, is_status}
use Rattle.world.proofs.Names.{Spans, has_tag, span_of, spans, reached, worked_on, shown_by, ◌∙◌, ◌<◌, [], map, Some}
use Rattle.world.proofs.Names.{AllByRecursion, Current, Message, Showed, no_lt, no_eq, Span, NodeWorld, World, fold_of}
use Rattle.world.proofs.Names.{state_of, called, delivered}
use Rattle.world.proofs.Appended.{after-append, spans-append}
use Rattle.world.proofs.Instance.{unit_in, ForeignCall, Calls, judged_in, kept_after, saved_in, delivered-is}
use Rattle.world.proofs.Rules.{is_fresh_done}
use Rattle.world.specs.World.{entered, worked}
use Rattle.world.proofs.FitLaws.{KeepsNode, FitState, fit, state-is, unit-is}
use Rattle.world.proofs.Rules as rules

module _ (read : Reading) (o : NodeState) (es : List Entry) where
  abbrev now : NodeState
  now = state_after read o es

  -- the state after a call
  pub entered-state : (client : ℕ) (at : CallNo) (c : Call)
      → state_after read o (entered es client at c (reached read now client at c))
      ≡ (step now client at c (verdict_for read now client c)).0
  entered-state client at c = grind (arith, after-append)

  or-false : (b : Bool) → (b || false) ≡ b
  or-false true = refl
  or-false false = refl

  abbrev same : Spans → Bool → Spans
  same x b = record { is_open = x.is_open || b; ended = x.ended }

  unchanged : (x : Spans) → same x false ≡ x
  unchanged x = ap (λ b. let y : Spans = record { is_open = b; ended = x.ended } in y) (or-false x.is_open)

  -- the spans after a call of client 0
  pub entered-spans : (k : ℕ) (at : CallNo) (c : Call) (r : Reached)
      → spans read k o (entered es 0 at c r)
      ≡ same (spans read k o es) (has_tag k c && (is_status now.status Idle && is_fresh_done r))
  entered-spans k at c x = grind (arith, spans-append, unchanged)

  -- another client's calls begin and end none
  pub foreign-spans : (k other : ℕ) (at : CallNo) (c : Call) (r : Reached)
      → spans read k o (entered es (suc other) at c r) ≡ spans read k o es
  foreign-spans k other at c x = grind (arith, spans-append, unchanged)

  abbrev entry : NodeState → NodeState
  entry t = with_entry (UnitLine t.status) t

  -- the state after a unit
  pub worked-state : (passed : Bool) → state_after read o (worked_on es passed (unit now passed)) ≡ unit_in now passed
  worked-state passed = grind (arith, after-append)

  pub worked-status : (passed : Bool) → shown_by now (unit now passed) ≡ (unit_in now passed).status
  worked-status passed = grind arith

  joined : (b c : Bool) (a x y : Spans) → x ≡ y → (if c && b then a else x) ≡ (if b && c then a else y)
  joined b c a x y e = grind arith

  -- the spans after a unit
  pub worked-spans : (k : ℕ) (passed : Bool) → IsConsistent now
      → spans read k o (worked_on es passed (unit now passed))
      ≡ (if (spans read k o es).is_open
      && is_status now.status CleaningUp then record {
        is_open = false;
        ended = span_of now (unit_in now passed) ∷
            (spans read k o es).ended;
      } else spans read k o es)
  worked-spans k passed v = grind (arith, spans-append, unchanged)

-- A world of the tables is one of the rules: what its events make, the rules' events make too.
module _ (read : Reading) (keeps : KeepsNode read []) where
  abbrev pub N : rules.NodeRules
  N = fit read [] keeps

  -- a span as the tables say it
  abbrev pub told_span : rules.Span (fit read [] keeps) → Span
  told_span x = record { outcome = x.outcome; saved = saved_in x.before.state; left = x.left.state.running }

  abbrev pub told_spans : rules.Spans (fit read [] keeps) → Spans
  told_spans x = record { is_open = x.is_open; ended = map told_span x.ended }

  -- one node of the tables, and one of the rules
  pub record SameNode (x : NodeWorld) (y : rules.NodeWorld (fit read [] keeps)) : Type 0 where
    pub state : (rules.state_of (fit read [] keeps) y).state ≡ state_of read x
    pub sent : y.sent ≡ x.sent
    pub told : y.told ≡ x.told
    pub spans_told : (k : ℕ) → told_spans (rules.spans (fit read [] keeps) k y.moves) ≡ spans read k x.opening x.history
    pub epochs : AllByRecursion (λ m. 0 < m.at.epoch) y.sent

  pub record SameWorld (w : World) (v : rules.World (fit read [] keeps)) : Type 0 where
    pub fold : v.fold ≡ fold_of w
    pub node : (n : ℕ) → SameNode (w.node n) (v.node n)
    pub started : (c : Current) → v.fold.current ≡ Some c → 0 < v.fold.epoch

  -- the rules' delivery is the node's step
  delivered-state : (x : FitState read) (at : CallNo) (c : Call) → 0 < at.epoch
      → (rules.delivered (fit read [] keeps) x at c).state ≡ (step x.state 0 at c (verdict_for read x.state 0 c)).0
  delivered-state x at c low =
      go (no_lt at (rules.NodeRules.last N x)) (no_eq at (rules.NodeRules.last N x))
      ∙ (delivered-is read [] x.state at c low).0
    where
      after : NodeState
      after = kept_after (judged_in read x.state c).0 at c (judged_in read x.state c).1

      go : (a b : Bool)
          → (if a then x else
          (if b then x else rules.NodeRules.keep N (rules.NodeRules.judge N x c).0 at c
          (rules.NodeRules.judge N x c).1)).state ≡ (if a then x.state else (if b then x.state else after))
      go false false = ap (λ s. kept_after s at c (judged_in read x.state c).1) (state-is read [] keeps x c)
      go _ _ = refl

  delivered-reached : (x : FitState read) (at : CallNo) (c : Call) → 0 < at.epoch
      → rules.reached (fit read [] keeps) x at c ≡ reached read x.state 0 at c
  delivered-reached x at c low = (delivered-is read [] x.state at c low).1

  -- a message of the master arrives
  pub same-deliver : (x : NodeWorld) (y : rules.NodeWorld (fit read [] keeps)) (m : Message) (told : Bool)
      → 0 < m.at.epoch → SameNode x y
      → SameNode (delivered read x (Some m) told) (rules.deliver_to (fit read [] keeps) y (Some m) told)
  same-deliver x y m told low h = grind (arith, delivered-state, entered-state, entered-spans, fit, delivered-reached)

  pub same-foreign : (x : NodeWorld) (y : rules.NodeWorld (fit read [] keeps)) (f : ForeignCall) → SameNode x y
      → SameNode (called read x (suc f.other) f.at f.call)
      (record { moves = rules.Foreign (Calls f) ∷ y.moves; sent = y.sent; told = y.told })
  same-foreign x y f h = grind (arith, entered-state, foreign-spans)

  pub same-work : (x : NodeWorld) (y : rules.NodeWorld (fit read [] keeps)) (passed told : Bool) → SameNode x y
      → SameNode (worked read x passed told)
      (record {
        moves = rules.Unit_done passed ∷ y.moves;
        sent = y.sent;
        told = if told then Showed
            (rules.NodeRules.status N (rules.NodeRules.unit N (rules.state_of (fit read [] keeps) y) passed))
            ∷ y.told else y.told;
      })
  same-work x y passed told h = grind (arith, worked-state, worked-status, unit-is, unit_in, worked-spans, fit)
