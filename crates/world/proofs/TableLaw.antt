-- Whole worlds: every event of the tables is one of the rules.
use Rattle.world.proofs.Names.{IsIn}
use Rattle.world.proofs.Names.{◌≡◌, refl, sym, ap, subst, ◌∙◌, ℕ, zero, suc, ◌+◌, ◌<◌, ◌≤◌, Bool, List, [], ◌∷◌, length}
use Rattle.world.proofs.Names.{arith, Option, Some, None, AllByRecursion, Bytes, CallNo, Call, Cluster, Reading}
use Rattle.world.proofs.Names.{MasterEvent, Start, Current, Fold, refusal_of, after_event, IsInstalled, Message}
use Rattle.world.proofs.Names.{slice_get, Packages, MaySend, next_number, campaign_of, decided_of, InCurrent, NodeWorld}
use Rattle.world.proofs.Names.{World, fold_of, Event, Deliver, Foreign, Work, Send, Record, Restart, HasEvidence}
use Rattle.world.proofs.Names.{IsAllowed, delivered, message, with_node, recorded, happens, opened, Makes, map}
use Rattle.world.proofs.Names.{NodeState, CampaignResult, Successful, IsReading, IsFit, Span, IsNew, IsOld, CampaignLaw}
use Rattle.world.proofs.Names.{IsLeft, parts_in}
use Rattle.world.proofs.Appended.{fold-append, entered-earlier}
use Rattle.world.proofs.Instance.{ForeignCall, Opens, Calls, Outside, saved_in, outside_in}
use Rattle.world.proofs.FitLaws.{KeepsNode, fit, fit-laws}
use Rattle.world.proofs.Sends.{next-epoch}
use Rattle.world.proofs.Simulation.{SameNode, SameWorld, same-deliver, same-foreign, same-work, told_span, told_spans}
use Rattle.node_laws.proofs.Kept.{keeps-fit, kept-fit, entry-fit, opened-fit}
use Rattle.world.proofs.EveryEvent.{world-law}
use Rattle.world.proofs.Rules as rules
use Rattle.node_laws.specs.Fit as fits

-- a campaign is current only once the master has started
abbrev HasStarted : Fold → Type 0
HasStarted f = (c : Current) → f.current ≡ Some c → 0 < f.epoch

started-after : (f : Fold) (e : MasterEvent) → refusal_of f e ≡ None → HasStarted f → HasStarted (after_event f e)
started-after f y r h = grind arith

nth-has : (P : Message → Type 0) (ms : List Message) (i : ℕ) (m : Message) → AllByRecursion P ms
    → slice_get ms i ≡ Some m → P m
nth-has P [] i m h e = absurd (cc)
nth-has P (x ∷ ms) zero m h e = let same : x ≡ m = cc e in subst P same h.0
nth-has P (x ∷ ms) (suc i) m h e = nth-has P ms i m h.1 e

module _ (read : Reading) (keeps : KeepsNode read []) (packages : Packages) (numbers : List ℕ) where
  -- an event of the rules that does what one of the tables does
  abbrev pub Follows : World → rules.World (fit read [] keeps) → Event → Type 0
  Follows w v e =
      (f : rules.Event (fit read [] keeps)) × rules.Allowed (fit read [] keeps) packages numbers v f
      × SameWorld read keeps (happens read w e) (rules.happens (fit read [] keeps) v f)

  same-with : (w : World) (v : rules.World (fit read [] keeps)) (n : ℕ) (x : NodeWorld)
      (y : rules.NodeWorld (fit read [] keeps)) → SameWorld read keeps w v → SameNode read keeps x y
      → SameWorld read keeps (with_node w n x) (rules.with_node (fit read [] keeps) v n y)
  same-with w v n x y h k = grind arith

  deliver : (w : World) (v : rules.World (fit read [] keeps)) (n which : ℕ) (told : Bool) → SameWorld read keeps w v
      → which < length (w.node n).sent → Follows w v (Deliver n which told)
  deliver w v n which told h allowed = (
    rules.Deliver n which told,
    subst (λ ms. which < length ms) (sym (h.node n).sent) allowed,
    same-with w v n _ _ h
        (subst (λ ms. SameNode read keeps (delivered read (w.node n) (slice_get ms which) told)
        (rules.deliver_to (fit read [] keeps) (v.node n) (slice_get (v.node n).sent which) told)) (h.node n).sent
        (go (slice_get (v.node n).sent which) refl)),
  )
    where
      go : (o : Option Message) → slice_get (v.node n).sent which ≡ o
          → SameNode read keeps (delivered read (w.node n) o told)
          (rules.deliver_to (fit read [] keeps) (v.node n) o told)
      go None e = h.node n
      go (Some m) e =
          same-deliver read keeps (w.node n) (v.node n) m told
          (nth-has (λ m. 0 < m.at.epoch) (v.node n).sent which m (h.node n).epochs e) (h.node n)

  foreign : (w : World) (v : rules.World (fit read [] keeps)) (n client : ℕ) (at : CallNo) (call : Call)
      → SameWorld read keeps w v → (1 ≤ client) × (client < 32) → Follows w v (Foreign n client at call)
  foreign w v n zero at call h allowed = absurd (omega (arith, allowed.0))
  foreign w v n (suc other) at call h allowed =
      let f : ForeignCall = record { other = other; bound = omega (arith, allowed.1); at = at; call = call } in (
        rules.ForeignCalls n (Calls f),
        tt,
        same-with w v n _ _ h (same-foreign read keeps (w.node n) (v.node n) f (h.node n)),
      )

  work : (w : World) (v : rules.World (fit read [] keeps)) (n : ℕ) (passed told : Bool) → SameWorld read keeps w v
      → Follows w v (Work n passed told)
  work w v n passed told h = (
    rules.Unit_comes n passed told,
    tt,
    same-with w v n _ _ h (same-work read keeps (w.node n) (v.node n) passed told (h.node n)),
  )

  -- the next message, by the fold and what was sent
  abbrev with_next : Fold → Call → List Message → List Message
  with_next f call ms =
      record {
        at = next_number f.epoch ms;
        call = call;
        campaign = campaign_of f.current;
        decided = decided_of
            f.current;
      } ∷ ms

  send : (w : World) (v : rules.World (fit read [] keeps)) (n : ℕ) (call : Call) → SameWorld read keeps w v
      → IsAllowed read packages numbers w (Send n call) → Follows w v (Send n call)
  send w v n call h allowed = (
    rules.Send n call,
    may,
    same-with w v n (record (w.node n) { sent = message w n call ∷ (w.node n).sent }) _ h (record {
      state = (h.node n).state;
      sent = ap (λ f. with_next f call (v.node n).sent) h.fold ∙ ap (with_next (fold_of w) call) (h.node n).sent;
      told = (h.node n).told;
      spans_told = (h.node n).spans_told;
      epochs = (
        subst (λ i. 0 < i) (sym (next-epoch v.fold.epoch (v.node n).sent)) (positive v.fold.current refl may),
        (h.node n).epochs,
      );
    }),
  )
    where
      may : InCurrent v.fold.current (λ c. MaySend packages v.fold.epoch n c (v.node n).told (v.node n).sent call)
      may = grind arith

      positive : (o : Option Current) → v.fold.current ≡ o
          → InCurrent o (λ c. MaySend packages v.fold.epoch n c (v.node n).told (v.node n).sent call) → 0 < v.fold.epoch
      positive None e m = absurd m
      positive (Some c) e m = h.started c e

  evidence : (w : World) (v : rules.World (fit read [] keeps)) (e : MasterEvent) → SameWorld read keeps w v
      → HasEvidence packages numbers w e → rules.Evidence (fit read [] keeps) packages numbers v e
  evidence w v x h has = grind arith

  same-recorded : (w : World) (v : rules.World (fit read [] keeps)) (e : MasterEvent) → SameWorld read keeps w v
      → HasStarted (after_event v.fold e) → SameWorld read keeps (recorded w e) (rules.recorded (fit read [] keeps) v e)
  same-recorded w v e h started = grind (arith, fold-append, fit)

  follows : (w : World) (v : rules.World (fit read [] keeps)) (e : Event) → SameWorld read keeps w v
      → IsAllowed read packages numbers w e → Follows w v e
  follows w v (Deliver n which told) h allowed = deliver w v n which told h allowed
  follows w v (Foreign n client at call) h allowed = foreign w v n client at call h allowed
  follows w v (Work n passed told) h allowed = work w v n passed told h
  follows w v (Send n call) h allowed = send w v n call h allowed
  follows w v (Record e) h allowed =
      let permitted : refusal_of v.fold e ≡ None = ap (λ f. refusal_of f e) h.fold ∙ allowed.0 in (
        rules.Record e,
        (permitted, evidence w v e h allowed.1),
        same-recorded w v e h (started-after v.fold e permitted h.started),
      )
  follows w v Restart h allowed = (
    rules.Restart,
    tt,
    subst (λ (f : Fold). SameWorld read keeps (recorded w (Start (f.epoch + 1)))
        (rules.recorded (fit read [] keeps) v (Start (v.fold.epoch + 1)))) h.fold
        (same-recorded w v (Start (v.fold.epoch + 1)) h (λ c q. omega arith)),
  )

  -- and so every list of events
  pub all-follow : (events : List Event) (w u : World) (v : rules.World (fit read [] keeps)) → SameWorld read keeps w v
      → Makes read packages numbers w events u
      → (fs : List (rules.Event (fit read [] keeps))) × (z : rules.World (fit read [] keeps))
      × rules.Makes (fit read [] keeps) packages numbers v fs z × SameWorld read keeps u z
  all-follow [] w u v h made = ([], v, refl, subst (λ x. SameWorld read keeps x v) (sym made) h)
  all-follow (e ∷ es) w u v h made =
      let one = follows w v e h made.0 in
      let rest = all-follow es (happens read w e) u (rules.happens (fit read [] keeps) v one.0) one.2 made.1 in
      (one.0 ∷ rest.0, rest.1, (one.1, rest.2), rest.3)

  -- a world in which nothing has happened yet
  pub same-opened : (clusters : ℕ → List (Cluster Bytes)) (installed : (n : ℕ) → IsInstalled (clusters n))
      → SameWorld read keeps (opened clusters)
      (rules.opened_world (fit read [] keeps) (λ n. Opens (clusters n) (installed n)))
  same-opened clusters installed =
      record {
        fold = refl;
        node = λ n. record
            { state = refl; sent = refl; told = refl; spans_told = λ k. refl; epochs = tt };
        started = λ c q. absurd (cc);
      }

-- The campaign law at the node of the tables.
-- the tables keep a state fit
keeps-node : (read : Reading) → IsReading read → KeepsNode read []
keeps-node read reading =
    let k : fits.KeepsFit read = keeps-fit read reading in
    record {
      formatted = k.formatted [] (record { rise = refl; few = omega arith });
      judge = λ s c f. k.judge s 0 c (omega arith) f;
      keep = λ s at c r f. entry-fit read _ _ (kept-fit read s 0 at r f);
      foreign = λ s o f. outside s o f;
      unit = λ s passed f. k.unit s passed f;
    }
  where
    outside : (s : NodeState) (o : Outside) → IsFit read s → IsFit read (outside_in read s o)
    outside s (Opens clusters installed) f = opened-fit read s clusters installed f
    outside s (Calls c) f =
        let k : fits.KeepsFit read = keeps-fit read reading in
        k.step s (suc c.other) c.at c.call (let b = c.bound in omega (arith, b)) f

module _ (read : Reading) (keeps : KeepsNode read []) (k : ℕ) (packages : List (List ℕ)) (x : NodeWorld)
    (y : rules.NodeWorld (fit read [] keeps)) (same : SameNode read keeps x y) where
  left-old : rules.IsOld (fit read [] keeps) k y.moves → IsOld read k x.opening x.history
  left-old h = grind (arith, each, fit)
    where
      each : (zs : List (rules.Span (fit read [] keeps)))
          → rules.EachEnded (fit read [] keeps) (λ z. z.left.state.running ≡ saved_in z.before.state) zs
          → AllByRecursion (λ (z : Span). z.left ≡ z.saved) (map (told_span read keeps) zs)
      each [] e = tt
      each (z ∷ zs) e = (e.0, each zs e.1)

  left-new : rules.IsNew (fit read [] keeps) k (parts_in read packages) y.moves
      → IsNew read k (parts_in read packages) x.opening x.history
  left-new h =
      record {
        span = told_span read keeps h.span;
        only = sym (same.spans_told k)
            ∙ ap (told_spans read keeps) h.only;
        outcome = h.outcome;
        runs = h.brings;
      }

pub campaign-law : CampaignLaw
campaign-law read reading packages numbers clusters installed events w made k result entered n low high steps =
    let keeps = keeps-node read reading in
    let f = all-follow read keeps packages numbers events _ w _
    (same-opened read keeps packages numbers clusters installed) made in
    let earlier : IsIn (k, result) f.1.fold.earlier = subst (λ (g : Fold). IsIn (k, result) g.earlier) (sym f.3.fold)
    (entered-earlier k result w.list entered) in
    go keeps (f.1.node n) (f.3.node n) result
    (world-law (fit read [] keeps) (fit-laws read [] keeps) packages numbers (λ i. Opens (clusters i) (installed i))
    f.0 f.1 f.2 k result earlier n low high steps)
  where
    go : (keeps : KeepsNode read []) (y : rules.NodeWorld (fit read [] keeps)) → SameNode read keeps (w.node n) y
        → (r : CampaignResult) → rules.IsLeft (fit read [] keeps) r k (parts_in read (packages k n)) y.moves
        → IsLeft read r k (packages k n) (w.node n)
    go keeps y same Successful h = left-new read keeps k (packages k n) (w.node n) y same h
    go keeps y same _ h = left-old read keeps k (packages k n) (w.node n) y same h
