-- What is known of a node behind calls of its staging.
use Rattle.std.proofs.Common.{◌≡◌, ◌≢◌, inr, ℕ, ◌+◌, ◌*◌, ◌≤◌, List, [], ◌∷◌, Some, Ok, Err, refl, sym, ap, subst, arith}
use Rattle.std.specs.List.{AllByRecursion}
use Rattle.disk_core.specs.Images.{EachImage, From}
use Rattle.disk_core.specs.Moments.{LeavesOnly}
use Rattle.disk_core.specs.declared.plan.FaultPlan.{FaultPlan}
use Rattle.disk_core.proofs.Moments.{weaker}
use Rattle.checkpoint.specs.Halves.{layout_2, layout_of}
use Rattle.event_log.specs.Beside.{IsBeside}
use Rattle.event_log.specs.Holds.{Holds, StandsFor}
use Rattle.event_log.specs.declared.log.Log.{Log}
use Rattle.event_log.proofs.Beside.{still_holds}
use Rattle.event_log.proofs.Steps.{stands_for}
use Rattle.ucm_base.specs.Limits.{cluster_limit}
use Rattle.pm_types.specs.NodeState.{NodeState}
use Rattle.pm_types.specs.Stored.{Areas, State}
use Rattle.transfer_blocks.specs.Steps.{End, Step, puts, gets, Ran}
use Rattle.transfer_blocks.specs.declared.fault.StagingError.TheVariants.{Failed, OutOfMemory}
use Rattle.slot_store.specs.Extents.{HasExtents, held_in, node_places}
use Rattle.slot_store.specs.Leaves.{IsOnArea, TornBy}
use Rattle.slot_store.specs.declared.extents.Extents.{Extents}
use Rattle.slot_store.proofs.Apart.{node_sound}
use Rattle.slot_store.proofs.Runs.{Obeys, Spares as Sparing, ran_moments, ran_plan, ran_settles, spared, torn_behind}
use Rattle.event_codec.specs.DecidingStates.{state_told}
use Rattle.node_laws.specs.Fit.{IsFit}
use Rattle.node_core.specs.Core.{IsSound, Readied, StandsFor as HeldFor, over}
use Rattle.node_core.specs.Packages.{package_reading}
use Rattle.node_core.specs.Reserves.{Reserves, Spares}
use Rattle.node_recovery.specs.Images.{after_bytes}
use Rattle.node_store.specs.Open.{IsOpen}
use Rattle.node_store.specs.Serving.{HoldsNode, Serves, node_on}
use Rattle.node_store.proofs.Entered.{on-image}

-- what ended well, or for want of memory, met no fault
pub ended_well : (end : End) → end ≡ Ok tt → end ≢ Err Failed
ended_well (Ok given) is e = absurd (cc)
ended_well (Err fault) is e = absurd (cc)

pub ended_short : (end : End) → end ≡ Err OutOfMemory → end ≢ Err Failed
ended_short (Ok given) is e = absurd (cc)
ended_short (Err Failed) is e = absurd (cc)
ended_short (Err OutOfMemory) is e = absurd (cc)

-- the log goes on from the image with this state, and its areas hold what the state names
abbrev pub Keeps : Log → State → NodeState → List ℕ → Type 0
Keeps log s n image = Holds state_told after_bytes log (Some s) image × HoldsNode s n image

pub keeps_serves : (log : Log) (s : State) (n : NodeState) (image : List ℕ) → layout_of log.half ≡ layout_2
    → Keeps log s n image → Serves n image
keeps_serves log s n image pair k = (
  s,
  record {
    log = subst (λ l. StandsFor state_told after_bytes l (Some s) image) pair
        (stands_for state_told after_bytes log (Some s) image k.0);
    node = k.1;
  },
)

-- extents lie behind a node's halves
beside : (log : Log) (at n : ℕ) → layout_of log.half ≡ layout_2 → node_places.slots ≤ at
    → IsBeside (layout_of log.half) at n
beside log at n pair le = subst (λ l. IsBeside l at n) (sym pair) (inr (omega (arith, le)))

module _ (s : State) (n : NodeState) where
  on_areas : (steps : List Step) → AllByRecursion (Spares s n) steps → AllByRecursion IsOnArea steps
  on_areas [] spares = tt
  on_areas (puts area at bytes end ∷ steps) spares = (spares.0.0, on_areas steps spares.1)
  on_areas (gets end ∷ steps) spares = (tt, on_areas steps spares.1)

  sparing : (steps : List Step) → AllByRecursion (Spares s n) steps
      → AllByRecursion (Sparing (λ held. HeldFor held s n)) steps
  sparing [] spares = tt
  sparing (puts area at bytes end ∷ steps) spares = ((spares.0.0, spares.0.2), sparing steps spares.1)
  sparing (gets end ∷ steps) spares = (tt, sparing steps spares.1)

  -- what these calls may tear leaves the node
  torn_keeps : (log : Log) → layout_of log.half ≡ layout_2 → IsFit package_reading n → (steps : List Step)
      → AllByRecursion (Spares s n) steps → (x y : List ℕ) → TornBy node_places steps x y → Keeps log s n x
      → Keeps log s n y
  torn_keeps log pair fit steps spares x y torn k =
      let on = on_areas steps spares in
      let held = spared node_places node_sound (λ held. HeldFor held s n) steps (sparing steps spares) x y torn
      (record { node = k.1.node; order = k.1.sound.order; copied = k.1.sound.copied }) in (
        torn_behind node_places node_sound (Holds state_told after_bytes log (Some s))
            (λ at m x y le torn held. still_holds at m x y torn state_told after_bytes log (Some s)
            (beside log at m pair le) held) steps on x y torn k.0,
        record {
          extents = torn_behind node_places node_sound (HasExtents node_places)
              (λ at m x y le torn has. subst (λ l. node_places.sides + 2 * cluster_limit * node_places.len ≤ l)
              (sym torn.size) has) steps on x y torn k.1.extents;
          node = held.node;
          sound = record {
            fit = subst (IsFit package_reading) (sym held.node) fit;
            order = held.order;
            copied = held.copied;
          };
        },
      )

module _ {D : Type 0} (seen : D → List ℕ) (images : D → List ℕ → Type 0) (moment : D → ℕ)
    (left_since : D → ℕ → List ℕ → Type 0) (armed : D → FaultPlan)
    (counts_now : (d : D) (t : ℕ) (c : List ℕ) → t ≤ moment d → images d c → left_since d t c)
    (only_now : (d : D) (c : List ℕ) → left_since d (moment d) c → images d c)
    (log : Log) (s : State) (n : NodeState) (pair : layout_of log.half ≡ layout_2) (fit : IsFit package_reading n)
    (steps : List Step) (spares : AllByRecursion (Spares s n) steps) (old new : Extents D)
    (ran : Ran (Obeys (λ (x : Extents D). x.disk) seen images moment left_since armed node_places) steps old new)
    (before : EachImage (images old.disk) (Keeps log s n)) where
  -- at each moment of the calls the image is the node's
  pub staged_moments : LeavesOnly moment left_since old.disk new.disk (Keeps log s n)
  staged_moments =
      weaker moment left_since old.disk new.disk (From (images old.disk) (TornBy node_places steps)) (Keeps log s n)
      (λ c from. torn_keeps s n log pair fit steps spares from.0 c from.2 (before from.0 from.1))
      (ran_moments (λ (x : Extents D). x.disk) seen images moment left_since armed node_places only_now steps old new
      ran)

  pub staged_images : EachImage (images new.disk) (Keeps log s n)
  staged_images c now =
      staged_moments.each c (counts_now new.disk (moment old.disk) c staged_moments.later now)

  pub staged_serves : LeavesOnly moment left_since old.disk new.disk (Serves n)
  staged_serves = weaker moment left_since old.disk new.disk (Keeps log s n) (Serves n)
      (λ c k. keeps_serves log s n c pair k) staged_moments

-- the same of an open node for which a call or a unit was made ready
module _ {D : Type 0} (seen : D → List ℕ) (images : D → List ℕ → Type 0) (moment : D → ℕ)
    (left_since : D → ℕ → List ℕ → Type 0) (armed : D → FaultPlan)
    (counts_now : (d : D) (t : ℕ) (c : List ℕ) → t ≤ moment d → images d c → left_since d t c)
    (only_now : (d : D) (c : List ℕ) → left_since d (moment d) c → images d c)
    (reads_as_image : (d : D) → images d (seen d))
    (log : Log) (r : Readied) (old new : Extents D) (k : IsOpen log r (seen old.disk) (images old.disk))
    (Bring : Step → Type 0) (IsReadied : Areas → Type 0) (end : End)
    (made : Reserves (Obeys (λ (x : Extents D). x.disk) seen images moment left_since armed node_places)
    (λ (x : Extents D). held_in node_places (seen x.disk)) r.state Bring IsReadied end old new) where
  abbrev n : NodeState
  n = node_on r.state (seen old.disk)

  before : EachImage (images old.disk) (Keeps log r.state n)
  before c now = let same : c ≡ seen old.disk = k.durable c now in (
    k.holds c now,
    on-image (held_in node_places (seen old.disk)) r.prepared r.state n c
        (subst (HasExtents node_places) (sym same) k.extents) (ap (held_in node_places) same) k.sound refl,
  )

  images_now : EachImage (images new.disk) (Keeps log r.state n)
  images_now = staged_images seen images moment left_since armed counts_now only_now log r.state n k.pair k.sound.fit
      made.steps made.spares old new made.ran before

  pub reserved_serves : LeavesOnly moment left_since old.disk new.disk (Serves n)
  reserved_serves = staged_serves seen images moment left_since armed counts_now only_now log r.state n k.pair
      k.sound.fit made.steps made.spares old new made.ran before

  pub reserved_plan : armed new.disk ≡ armed old.disk
  reserved_plan = ran_plan (λ (x : Extents D). x.disk) seen images moment left_since armed node_places made.steps old
      new
      made.ran

  -- without a fault it is open
  pub reserved_open : (after : Readied) → after.state ≡ r.state
      → IsSound (over (held_in node_places (seen new.disk)) after)
      → end ≢ Err Failed → IsOpen log after (seen new.disk) (images new.disk)
  reserved_open after is sound ok = record {
    pair = k.pair;
    extents = (images_now (seen new.disk) (reads_as_image new.disk)).1.extents;
    sound = sound;
    holds = λ c now. subst (λ (s : State). Holds state_told after_bytes log (Some s) c) (sym is) (images_now c now).0;
    durable = ran_settles (λ (x : Extents D). x.disk) seen images moment left_since armed node_places made.steps old new
        made.ran (made.faultless ok) k.durable;
  }
