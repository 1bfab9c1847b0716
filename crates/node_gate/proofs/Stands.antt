-- How a list of entries goes on standing for the node.
use Rattle.std.proofs.Common.{◌≡◌, ◌⊎◌, inl, inr, ⊎_elim, ℕ, ◌+◌, Bool, true, false, List, [], ◌∷◌, ◌++◌, refl, sym, ◌∙◌, ap, subst, Option, Some, None}
use Rattle.std.specs.Prelude.{IfSome, option_map, unwrap_or}
use Rattle.std.proofs.Common.{arith}
use Rattle.std.proofs.lemmas.List.{append-nil}
use mathlib.Core.List.{IsPrefix}
use Rattle.turn_gate.specs.Mine.{Settles}
use Rattle.turn_gate.proofs.Prefixes.{prefix_same, prefix_trans}
use Rattle.disk_core.specs.Images.{EachImage, Within}
use Rattle.disk_core.specs.declared.disk.Disk.{Ghosts}
use Rattle.disk_core.specs.Moments.{LeavesOnly}
use Rattle.disk_core.proofs.Moments.{joined, started, weaker}
use Rattle.pm_types.specs.declared.history.Entry.{Entry}
use Rattle.pm_types.specs.declared.calls.Call.{Call}
use Rattle.pm_types.specs.declared.replies.Reply.{Reply}
use Rattle.pm_types.specs.declared.history.Entry.TheVariants.{Numbered, Unit as UnitDone}
use Rattle.pm_types.specs.declared.history.Happened.TheVariants.{Unit as UnitAfter}
use Rattle.pm_types.specs.NodeState.{NodeState}
use Rattle.pm_types.specs.Steps.{accepted, after_reply, with_entry}
use Rattle.pm_types.specs.Transfers.{Verdict}
use Rattle.pm_types.specs.Work.{unit}
use Rattle.pm_types.specs.Stored.{State}
use Rattle.pm_types.specs.Histories.{IsLegal, IsTrueTo, after_entry, verdict_for}
use Rattle.node_core.specs.Packages.{package_reading}
use Rattle.node_laws.specs.Fit.{IsFit}
use Rattle.node_laws.proofs.GoingOn.{goes-on}
use Rattle.node_store.specs.Open.{IsOpen}
use Rattle.node_store.specs.Serving.{Serves, ServesEither, ServesSome, node_on}
use Rattle.node_store.specs.declared.node.Node.{Node}
use Rattle.node_store.proofs.Entered.{open_serves}
use Rattle.node_gate.specs.declared.opening.Opening.{Opening}
use Rattle.node_gate.specs.declared.shared.SharedNode.{SharedNode}
use Rattle.node_gate.specs.Stands.{Knows, StandsFor, WasLeft, node_after, node_at, opening, pending_list, with_pending}

true-not-false : (b : Bool) → b ≡ true → b ≡ false → ⊥
true-not-false b p q = let z : true ≡ false = sym p ∙ q in cc

-- an image that serves for the node, or for it with what is pending
pub either_some : (n m : NodeState) (image : List ℕ) → ServesEither n m image → ServesSome image
either_some n m image either = ⊎_elim (λ a. (n, a)) (λ b. (m, b)) either

module _ {D : Type 0} (moment : D → ℕ) (left_since : D → ℕ → List ℕ → Type 0) (seen : D → List ℕ)
    (images : D → List ℕ → Type 0) (fails : List (List ℕ)) (o : Opening D) where
  abbrev Stands : Node D → List Entry → Option Entry → Type 0
  Stands node es p = StandsFor moment left_since seen images fails o node es p

  abbrev N : List Entry → NodeState
  N es = node_after seen o es

  abbrev MayGo : NodeState → List Entry → Type 0
  MayGo n es = IsLegal package_reading n es × IsTrueTo fails package_reading n es

  abbrev Since : Node D → List Entry → Type 0
  Since node es = LeavesOnly moment left_since o.disk node.extents.disk (WasLeft (node_at seen o) es)

  abbrev Run : Node D → Node D → NodeState → Option Entry → Type 0
  Run a b n p = LeavesOnly moment left_since a.extents.disk b.extents.disk (ServesEither n (with_pending n p))

  -- a call's moments go on from those since the making
  pub moments_on : (a b : Node D) (es later : List Entry) (p : Option Entry) → IsPrefix es later → Since a es
      → Run a b (N es) p → Since b later
  moments_on a b es later p begins since run =
      joined moment left_since o.disk a.extents.disk b.extents.disk (WasLeft (node_at seen o) later)
      (ServesEither (N es) (with_pending (N es) p))
      (weaker moment left_since o.disk a.extents.disk (WasLeft (node_at seen o) es) (WasLeft (node_at seen o) later)
      (λ image was. record {
        beginning = was.beginning;
        begins = prefix_trans was.beginning es later was.begins begins;
        pending = was.pending;
        serves = was.serves;
      }) since) run
      (λ image either. record { beginning = es; begins = begins; pending = p; serves = either })

  -- the node is open, and is that after the entries
  pub open_stands : (b : Node D) (es : List Entry) → IsFit package_reading (node_at seen o)
      → MayGo (node_at seen o) es → b.is_closed ≡ false
      → IsOpen b.log b.ready (seen b.extents.disk) (images b.extents.disk)
      → node_on b.ready.state (seen b.extents.disk) ≡ N es → Since b es → Stands b es None
  open_stands b es fit may is_open opened node since = record {
    known = record {
      open_is = λ e. opened;
      closed_is = λ closed. absurd (true-not-false b.is_closed closed is_open);
    };
    fit = fit;
    legal = may.0;
    true_to = may.1;
    may_pend = (tt, tt);
    count = ap (λ (n : NodeState). n.entries) node;
    status = ap (λ (n : NodeState). n.status) node;
    is_open = λ e. (node, refl);
    images_serve = λ image now. inl (subst (λ (n : NodeState). Serves n image) node
        (open_serves b.log b.ready (seen b.extents.disk) (images b.extents.disk) opened image now));
    moments = since;
  }

  -- the node is closed, with its stored state as it was, and this may be pending
  pub shut_stands : (a b : Node D) (es : List Entry) (q p : Option Entry) → Stands a es q
      → b.ready.state ≡ a.ready.state → b.is_closed ≡ true → MayGo (N es) (pending_list p)
      → EachImage (images b.extents.disk) (ServesEither (N es) (with_pending (N es) p)) → Since b es → Stands b es p
  shut_stands a b es q p stands state closed may serve since = record {
    known = record {
      open_is = λ opened. absurd (true-not-false b.is_closed closed opened);
      closed_is = λ e image now. either_some (N es) (with_pending (N es) p) image (serve image now);
    };
    fit = stands.fit;
    legal = stands.legal;
    true_to = stands.true_to;
    may_pend = may;
    count = ap (λ (s : State). s.entries) state ∙ stands.count;
    status = ap (λ (s : State). s.status) state ∙ stands.status;
    is_open = λ opened. absurd (true-not-false b.is_closed closed opened);
    images_serve = serve;
    moments = since;
  }

  -- one entry more
  pub one_more : (es : List Entry) (e : Entry) → MayGo (node_at seen o) es → MayGo (N es) (e ∷ [])
      → MayGo (node_at seen o) (es ++ e ∷ [])
  one_more es e may next =
      let on = goes-on package_reading in (
        (on.legal (node_at seen o) es (e ∷ [])).1 (may.0, next.0),
        (on.true_to fails (node_at seen o) es (e ∷ [])).1 (may.1, next.1),
      )

  pub after_one : (es : List Entry) (e : Entry) → N (es ++ e ∷ []) ≡ after_entry package_reading (N es) e
  after_one es e = (goes-on package_reading).state (node_at seen o) es (e ∷ [])

  -- an entry more stands
  pub grows : (a b : Node D) (es : List Entry) (e : Entry) → IsFit package_reading (node_at seen o)
      → MayGo (node_at seen o) es → Since a es
      → MayGo (N es) (e ∷ []) → b.is_closed ≡ false
      → IsOpen b.log b.ready (seen b.extents.disk) (images b.extents.disk)
      → node_on b.ready.state (seen b.extents.disk) ≡ after_entry package_reading (N es) e
      → Run a b (N es) (Some e) → Stands b (es ++ e ∷ []) None
  grows a b es e fit may since next is_open opened node run =
      open_stands b (es ++ e ∷ []) fit (one_more es e may next) is_open opened (node ∙ sym (after_one es e))
      (moments_on a b es (es ++ e ∷ []) (Some e) (e ∷ [], refl) since run)

  -- the node was opened again, and what was pending was lost
  pub lost : (a b : Node D) (es : List Entry) (p : Option Entry) → Stands a es p → b.is_closed ≡ false
      → IsOpen b.log b.ready (seen b.extents.disk) (images b.extents.disk)
      → node_on b.ready.state (seen b.extents.disk) ≡ N es → Run a b (N es) p → Stands b es None
  lost a b es p stands is_open opened node run =
      open_stands b es stands.fit (stands.legal, stands.true_to) is_open opened node
      (moments_on a b es es p (prefix_same es es refl) stands.moments run)

  -- or it stood
  pub stood : (a b : Node D) (es : List Entry) (p : Option Entry) → Stands a es p → b.is_closed ≡ false
      → IsOpen b.log b.ready (seen b.extents.disk) (images b.extents.disk)
      → node_on b.ready.state (seen b.extents.disk) ≡ with_pending (N es) p
      → Run a b (N es) p → Stands b (es ++ pending_list p) None
  stood a b es None stands is_open opened node run =
      subst (λ (l : List Entry). Stands b l None) (sym (append-nil es))
      (lost a b es None stands is_open opened node run)
  stood a b es (Some e) stands is_open opened node run =
      grows a b es e stands.fit (stands.legal, stands.true_to) stands.moments stands.may_pend is_open opened node run

  -- what a crash leaves in a call that writes nothing
  pub run_of : (a b : Node D) (es : List Entry) (p : Option Entry) → Stands a es p
      → LeavesOnly moment left_since a.extents.disk b.extents.disk (images a.extents.disk) → Run a b (N es) p
  run_of a b es p stands run =
      weaker moment left_since a.extents.disk b.extents.disk (images a.extents.disk)
      (ServesEither (N es) (with_pending (N es) p)) stands.images_serve run

  -- a call that leaves the node closed, as it was, and writes nothing
  pub stays_shut : (a b : Node D) (es : List Entry) (p : Option Entry) → Stands a es p
      → b.ready.state ≡ a.ready.state → b.is_closed ≡ true
      → Within (images a.extents.disk) (images b.extents.disk)
      → LeavesOnly moment left_since a.extents.disk b.extents.disk (images a.extents.disk) → Stands b es p
  stays_shut a b es p stands state closed within run =
      shut_stands a b es p p stands state closed stands.may_pend
      (λ image now. stands.images_serve image (within image now))
      (moments_on a b es es p (prefix_same es es refl) stands.moments (run_of a b es p stands run))

  -- what was pending is among the entries now
  pub settles_stood : (es : List Entry) (p : Option Entry) → Settles p es (es ++ pending_list p)
  settles_stood es None = append-nil es
  settles_stood es (Some e) = inr refl

pub settles_lost : (es : List Entry) (p : Option Entry) → Settles p es es
settles_lost es None = refl
settles_lost es (Some e) = inl refl

accepted-entries : (s : NodeState) (client : ℕ) (c : Call) (v : Verdict)
    → (accepted s client c v).entries ≡ s.entries
accepted-entries s client c v = grind arith

after_reply-entries : (s : NodeState) (client : ℕ) (c : Call) (v : Verdict) (r : Reply)
    → (after_reply s client c v r).entries ≡ s.entries
after_reply-entries s client c v r = grind (arith, accepted-entries)

unit-entries : (s : NodeState) (passed : Bool) → IfSome (unit s passed) (λ t. t.entries ≡ s.entries)
unit-entries s passed = grind arith

-- the node with what is pending is as it was, or has one entry more
pub counts : (n : NodeState) (p : Option Entry)
    → (with_pending n p ≡ n) ⊎ ((with_pending n p).entries ≡ n.entries + 1)
counts n None = inl refl
counts n (Some (Numbered client at call reply)) =
    inr (ap (λ (k : ℕ). k + 1) (after_reply-entries n client call (verdict_for package_reading n client call) reply))
counts n (Some (UnitDone passed after)) = go (unit n passed) refl (unit-entries n passed)
  where
    line : NodeState → NodeState
    line t = with_entry (UnitAfter t.status) t

    go : (u : Option NodeState) → unit n passed ≡ u → IfSome u (λ t. t.entries ≡ n.entries)
        → (with_pending n (Some (UnitDone passed after)) ≡ n)
        ⊎ ((with_pending n (Some (UnitDone passed after))).entries ≡ n.entries + 1)
    go None e same = inl (ap (λ (o : Option NodeState). unwrap_or (option_map line o) n) e)
    go (Some t) e same =
        inr (ap (λ (o : Option NodeState). (unwrap_or (option_map line o) n).entries) e
        ∙ ap (λ (k : ℕ). k + 1) same)

module _ {D : Type 0} (d : Ghosts D) where
  -- a machine stands for what it has
  pub same_stands : (o : Opening D) (names : List (List ℕ)) (a : Node D) (es : List Entry) (p : Option Entry)
      (end : SharedNode D d) → end.fails.items ≡ names → end.node ≡ a → end.entries.items ≡ es → end.pending ≡ p
      → StandsFor d.moment d.left_since d.seen d.images names o a es p
      → StandsFor d.moment d.left_since d.seen d.images end.fails.items o end.node end.entries.items end.pending
  same_stands o names a es p end names_are node_is entries_are pending_is stands =
      subst (λ l. StandsFor d.moment d.left_since d.seen d.images l o end.node end.entries.items end.pending)
      (sym names_are)
      (subst (λ n. StandsFor d.moment d.left_since d.seen d.images names o n end.entries.items end.pending)
      (sym node_is)
      (subst (λ l. StandsFor d.moment d.left_since d.seen d.images names o a l end.pending) (sym entries_are)
      (subst (λ q. StandsFor d.moment d.left_since d.seen d.images names o a es q) (sym pending_is) stands)))

  -- as the gate is made
  pub stands_first : (fails : List (List ℕ)) (node : Node D) (es : List Entry) → es ≡ [] → node.is_closed ≡ false
      → IsOpen node.log node.ready (d.seen node.extents.disk) (d.images node.extents.disk)
      → ((image : List ℕ) → d.left_since node.extents.disk (d.moment node.extents.disk) image
      → d.images node.extents.disk image)
      → StandsFor d.moment d.left_since d.seen d.images fails (opening node) node es None
  stands_first fails node es none is_open opened only_now =
      let n = node_on node.ready.state (d.seen node.extents.disk) in
      subst (λ (l : List Entry). StandsFor d.moment d.left_since d.seen d.images fails (opening node) node l None)
      (sym none)
      (open_stands d.moment d.left_since d.seen d.images fails (opening node) node [] opened.sound.fit (tt, tt) is_open
      opened refl
      (started d.moment d.left_since node.extents.disk (WasLeft n []) (λ image left. record {
        beginning = [];
        begins = prefix_same [] [] refl;
        pending = None;
        serves = inl (open_serves node.log node.ready (d.seen node.extents.disk) (d.images node.extents.disk) opened
            image (only_now image left));
      })))
