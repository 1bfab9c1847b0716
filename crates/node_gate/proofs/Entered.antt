-- What an event makes of an open node that stands for its entries.
use Rattle.std.proofs.Common.{◌≡◌, inl, inr, ℕ, ◌<◌, true, false, List, [], ◌∷◌, ◌++◌, refl, sym, ◌∙◌, ap, subst, Option, Some, None}
use Rattle.turn_gate.proofs.Prefixes.{prefix_same}
use Rattle.disk_core.specs.Images.{EachImage}
use Rattle.disk_core.specs.declared.disk.Disk.{Ghosts}
use Rattle.disk_core.specs.Moments.{LeavesOnly}
use Rattle.disk_core.proofs.Moments.{weaker}
use Rattle.pm_types.specs.declared.history.Entry.{Entry}
use Rattle.pm_types.specs.Histories.{IsLegal, IsTrueTo, after_entry}
use Rattle.pm_types.specs.NodeState.{NodeState}
use Rattle.node_core.specs.Packages.{package_reading}
use Rattle.node_store.specs.Open.{IsOpen}
use Rattle.node_store.specs.Serving.{Serves, ServesEither, node_on}
use Rattle.node_store.specs.declared.node.Node.{Node}
use Rattle.node_gate.specs.declared.opening.Opening.{Opening}
use Rattle.node_gate.specs.declared.shared.SharedNode.{SharedNode}
use Rattle.node_gate.specs.Stands.{StandsFor, WasLeft, node_after, node_at, with_pending}
use Rattle.node_gate.proofs.Stands.{grows, moments_on, open_stands, shut_stands}

-- a machine on an open node, which is this one after the event
module _ {D : Type 0} (d : Ghosts D) (o : Opening D) (old : SharedNode D d) (b : Node D)
    (stands : StandsFor d.moment d.left_since d.seen d.images old.fails.items o old.node old.entries.items old.pending)
    (open_a : old.node.is_closed ≡ false) where
  abbrev a : Node D
  a = old.node

  abbrev es : List Entry
  es = old.entries.items

  abbrev N : NodeState
  N = node_after d.seen o es

  abbrev Here : NodeState
  Here = node_on a.ready.state (d.seen a.extents.disk)

  abbrev Opened : Type 0
  Opened = IsOpen b.log b.ready (d.seen b.extents.disk) (d.images b.extents.disk)

  abbrev Runs : (List ℕ → Type 0) → Type 0
  Runs P = LeavesOnly d.moment d.left_since a.extents.disk b.extents.disk P

  abbrev Stands : List Entry → Option Entry → Type 0
  Stands fs q = StandsFor d.moment d.left_since d.seen d.images old.fails.items o b fs q

  pub here : Here ≡ N
  here = (stands.is_open open_a).0

  pub none_pending : old.pending ≡ None
  none_pending = (stands.is_open open_a).1

  on_from : (p : Option Entry) (P : List ℕ → Type 0)
      → ((image : List ℕ) → P image → ServesEither N (with_pending N p) image) → Runs P
      → LeavesOnly d.moment d.left_since o.disk b.extents.disk (WasLeft (node_at d.seen o) es)
  on_from p P on run =
      moments_on d.moment d.left_since d.seen d.images old.fails.items o a b es es p (prefix_same es es refl)
      stands.moments
      (weaker d.moment d.left_since a.extents.disk b.extents.disk P (ServesEither N (with_pending N p)) on run)

  -- it is open still, on the same node
  still : (p : Option Entry) (P : List ℕ → Type 0)
      → ((image : List ℕ) → P image → ServesEither N (with_pending N p) image) → b.is_closed ≡ false → Opened
      → node_on b.ready.state (d.seen b.extents.disk) ≡ Here → Runs P → Stands es old.pending
  still p P on is_open opened same run =
      subst (λ (q : Option Entry). Stands es q) (sym none_pending)
      (open_stands d.moment d.left_since d.seen d.images old.fails.items o b es stands.fit
      (stands.legal, stands.true_to) is_open opened (same ∙ here) (on_from p P on run))

  serves_here : (image : List ℕ) → Serves Here image → ServesEither N N image
  serves_here image serves = inl (subst (λ (n : NodeState). Serves n image) here serves)

  pub stays_open : b.is_closed ≡ false → Opened → node_on b.ready.state (d.seen b.extents.disk) ≡ Here
      → Runs (Serves Here) → Stands es old.pending
  stays_open is_open opened same run = still None (Serves Here) serves_here is_open opened same run

  -- a fault closed it before anything was recorded
  pub gives_up : b.ready.state ≡ a.ready.state → b.is_closed ≡ true
      → EachImage (d.images b.extents.disk) (Serves Here) → Runs (Serves Here) → Stands es None
  gives_up state closed serve run =
      shut_stands d.moment d.left_since d.seen d.images old.fails.items o a b es old.pending None stands state closed
      (tt, tt) (λ image now. serves_here image (serve image now)) (on_from None (Serves Here) serves_here run)

  -- it makes this entry, which leads to this node
  module _ (E : Entry) (M : NodeState) (leads : M ≡ after_entry package_reading N E)
      (may : IsLegal package_reading N (E ∷ []) × IsTrueTo old.fails.items package_reading N (E ∷ [])) where
    abbrev Either : List ℕ → Type 0
    Either = ServesEither Here M

    on_image : (image : List ℕ) → Either image → ServesEither N (after_entry package_reading N E) image
    on_image image either =
        subst (λ (n : NodeState). ServesEither N n image) leads
        (subst (λ (n : NodeState). ServesEither n M image) here either)

    -- it stands
    pub entered : b.is_closed ≡ false → Opened → node_on b.ready.state (d.seen b.extents.disk) ≡ M → Runs Either
        → Stands (es ++ E ∷ []) None
    entered is_open opened node run =
        grows d.moment d.left_since d.seen d.images old.fails.items o a b es E stands.fit
        (stands.legal, stands.true_to) stands.moments may is_open opened (node ∙ leads)
        (weaker d.moment d.left_since a.extents.disk b.extents.disk Either
        (ServesEither N (after_entry package_reading N E)) on_image run)

    -- or is pending
    pub pends : b.ready.state ≡ a.ready.state → b.is_closed ≡ true → EachImage (d.images b.extents.disk) Either
        → Runs Either → Stands es (Some E)
    pends state closed serve run =
        shut_stands d.moment d.left_since d.seen d.images old.fails.items o a b es old.pending (Some E) stands state
        closed may (λ image now. on_image image (serve image now)) (on_from (Some E) Either on_image run)

    -- or nothing was recorded for want of memory
    pub stays_without : b.is_closed ≡ false → Opened → node_on b.ready.state (d.seen b.extents.disk) ≡ Here
        → Runs Either → Stands es old.pending
    stays_without is_open opened same run = still (Some E) Either on_image is_open opened same run
