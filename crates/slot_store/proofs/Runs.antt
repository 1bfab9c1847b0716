-- Calls of extents, one after another: what a crash within them may leave, and what areas hold behind them.
use Rattle.std.proofs.Common.{◌≡◌, ℕ, ◌≤◌, Ok, Err, List, [], ◌∷◌, length, refl, sym, ◌∙◌, ap, subst}
use Rattle.std.specs.List.{AllByRecursion}
use Rattle.disk_core.specs.Bytes.{Torn}
use Rattle.disk_core.specs.Images.{EachImage, From, Only}
use Rattle.disk_core.specs.Moments.{LeavesOnly}
use Rattle.disk_core.specs.declared.plan.FaultPlan.{FaultPlan}
use Rattle.disk_core.proofs.Pieces.{torn_none}
use Rattle.disk_core.proofs.Moments.{started, joined, weaker}
use Rattle.disk_area.specs.Windows.{window, InArea}
use Rattle.disk_area.proofs.Steps.{stays}
use Rattle.pm_types.specs.Stored.{Areas}
use Rattle.transfer_blocks.specs.declared.area.Area.{Area}
use Rattle.transfer_blocks.specs.Areas.{IsArea, AreasFit, LeavesOutside}
use Rattle.transfer_blocks.specs.Steps.{Step, puts, gets, End, Ran, IsDone, HasNoFault, wrote}
use Rattle.transfer_blocks.specs.declared.fault.StagingError.TheVariants.{Failed, OutOfMemory}
use Rattle.slot_store.specs.Extents.{extent_in, held_in}
use Rattle.slot_store.specs.Laws.{held_fits}
use Rattle.slot_store.specs.Leaves.{Tears, Does, Settles, Leaves, TornBy, IsOnArea, Wrote}
use Rattle.slot_store.specs.declared.places.Places.{Places}
use Rattle.slot_store.proofs.Apart.{IsSound, extent_behind}
use Rattle.slot_store.proofs.Held.{torn_leaves, put_held}

module _ (places : Places) where
  untouched : (area : Area) (at : ℕ) (bytes image : List ℕ)
      → InArea (extent_in places area) (Torn at (length bytes)) image image
  untouched area at bytes image = stays (extent_in places area) (Torn at (length bytes)) image
      (torn_none at (length bytes) (window (extent_in places area) image))

  -- nothing is torn
  pub torn_nothing : (step : Step) (image : List ℕ) → Tears places step image image
  torn_nothing (puts area at bytes (Ok given)) image = untouched area at bytes image
  torn_nothing (puts area at bytes (Err Failed)) image = untouched area at bytes image
  torn_nothing (puts area at bytes (Err OutOfMemory)) image = refl
  torn_nothing (gets end) image = refl

  -- a put tears at most its range
  pub put_tears : (area : Area) (at : ℕ) (bytes : List ℕ) (end : End) (x y : List ℕ)
      → Tears places (puts area at bytes end) x y → InArea (extent_in places area) (Torn at (length bytes)) x y
  put_tears area at bytes (Ok given) x y torn = torn
  put_tears area at bytes (Err Failed) x y torn = torn
  put_tears area at bytes (Err OutOfMemory) x y same =
      subst (InArea (extent_in places area) (Torn at (length bytes)) x) (sym same) (untouched area at bytes x)

  pub untorn : (steps : List Step) (image : List ℕ) → TornBy places steps image image
  untorn [] image = refl
  untorn (step ∷ steps) image = (image, torn_nothing step image, untorn steps image)

module _ {S D : Type 0} (disk : S → D) (seen : D → List ℕ) (images : D → List ℕ → Type 0) (moment : D → ℕ)
    (left_since : D → ℕ → List ℕ → Type 0) (armed : D → FaultPlan) (places : Places) where
  -- what extents obey
  abbrev pub Obeys : S → Step → S → Type 0
  Obeys old step new = Leaves seen images moment left_since armed places step (disk old) (disk new)

  pub ran_moments : (only_now : (d : D) (c : List ℕ) → left_since d (moment d) c → images d c) (steps : List Step)
      (old new : S) → Ran Obeys steps old new
      → LeavesOnly moment left_since (disk old) (disk new) (From (images (disk old)) (TornBy places steps))
  ran_moments only_now [] old new ran =
      subst (λ (s : S). LeavesOnly moment left_since (disk old) (disk s) (From (images (disk old)) (TornBy places [])))
      (sym ran)
      (started moment left_since (disk old) (From (images (disk old)) (TornBy places []))
      (λ c left. (c, only_now (disk old) c left, refl)))
  ran_moments only_now (step ∷ steps) old new ran =
      let first : Obeys old step ran.0 = ran.1 in
      joined moment left_since (disk old) (disk ran.0) (disk new)
      (From (images (disk old)) (TornBy places (step ∷ steps)))
      (From (images (disk ran.0)) (TornBy places steps))
      (weaker moment left_since (disk old) (disk ran.0) (From (images (disk old)) (Tears places step))
      (From (images (disk old)) (TornBy places (step ∷ steps)))
      (λ c from. (from.0, from.1, (c, from.2, untorn places steps c))) first.moments)
      (ran_moments only_now steps ran.0 new ran.2)
      (λ c from.
      let before = first.after from.0 from.1 in
      (before.0, before.1, (from.0, before.2.0, from.2)))

  -- behind calls that all succeeded areas hold what was put, and nothing is pending
  pub ran_after : (sound : IsSound places) (steps : List Step) (old new : S) → Ran Obeys steps old new
      → AllByRecursion IsDone steps → AllByRecursion IsOnArea steps
      → EachImage (images (disk new)) (From (images (disk old)) (Wrote places steps))
  ran_after sound [] old new ran done on c now =
      (c, subst (λ (s : S). images (disk s) c) ran now, refl)
  ran_after sound (step ∷ steps) old new ran done on c now =
      let later = ran_after sound steps ran.0 new ran.2 done.1 on.1 c now in
      let before = ran.1.after later.0 later.1 in (
        before.0,
        before.1,
        later.2 ∙ step_wrote step before.0 later.0 done.0 on.0 before.2,
      )
    where
      step_wrote : (step : Step) (x y : List ℕ) → IsDone step → IsOnArea step → Does places step x y
          → wrote steps (held_in places y) ≡ wrote (step ∷ steps) (held_in places x)
      step_wrote (puts area at bytes (Ok given)) x y done is does =
          ap (wrote steps) (put_held places sound x y area at bytes is
          (record { outside = does.0.outside; inside = does.1 }))
      step_wrote (puts area at bytes (Err fault)) x y done is does = absurd (cc done)
      step_wrote (gets end) x y is_done is does = ap (λ (image : List ℕ). wrote steps (held_in places image)) does.0

  pub ran_settles : (steps : List Step) (old new : S) → Ran Obeys steps old new → AllByRecursion HasNoFault steps
      → Only (seen (disk old)) (images (disk old)) → Only (seen (disk new)) (images (disk new))
  ran_settles [] old new ran sound only =
      subst (λ (s : S). Only (seen (disk s)) (images (disk s))) (sym ran) only
  ran_settles (step ∷ steps) old new ran sound only =
      ran_settles steps ran.0 new ran.2 sound.1 (settled step ran.0 ran.1.settles sound.0 only)
    where
      settled : (step : Step) (mid : S) → Settles step (Only (seen (disk old)) (images (disk old)))
          (Only (seen (disk mid)) (images (disk mid))) → HasNoFault step → Only (seen (disk old)) (images (disk old))
          → Only (seen (disk mid)) (images (disk mid))
      settled (puts area at bytes (Ok given)) mid settles sound only = settles
      settled (puts area at bytes (Err Failed)) mid settles sound only = absurd (sound refl)
      settled (puts area at bytes (Err OutOfMemory)) mid settles sound only = settles only
      settled (gets end) mid settles sound only = settles only

  pub ran_plan : (steps : List Step) (old new : S) → Ran Obeys steps old new → armed (disk new) ≡ armed (disk old)
  ran_plan [] old new ran = ap (λ (s : S). armed (disk s)) ran
  ran_plan (step ∷ steps) old new ran = ran_plan steps ran.0 new ran.2 ∙ ran.1.plan

-- whatever keeps P of the areas, where only the ranges that are put may have changed, is kept by runs
abbrev pub Spares : (Areas → Type 0) → Step → Type 0
Spares P (puts area at bytes end) = IsArea area
    × ((held torn : Areas) → AreasFit held → P held → LeavesOutside area at (length bytes) held torn → P torn)
Spares P (gets end) = Unit {0}

pub spared : (places : Places) (sound : IsSound places) (P : Areas → Type 0) (steps : List Step)
    → AllByRecursion (Spares P) steps → (x y : List ℕ) → TornBy places steps x y
    → P (held_in places x) → P (held_in places y)
spared places sound P [] spares x y torn p = subst (λ (image : List ℕ). P (held_in places image)) (sym torn) p
spared places sound P (step ∷ steps) spares x y torn p =
    spared places sound P steps spares.1 torn.0 y torn.2 (one step spares.0 torn.0 torn.1)
  where
    one : (step : Step) → Spares P step → (mid : List ℕ) → Tears places step x mid → P (held_in places mid)
    one (puts area at bytes end) spare mid tears = spare.1 (held_in places x) (held_in places mid)
        (held_fits places sound.long x) p
        (torn_leaves places sound x mid area at (length bytes) spare.0 (put_tears places area at bytes end x mid tears))
    one (gets end) spare mid same = subst (λ (image : List ℕ). P (held_in places image)) (sym same) p

-- whatever holds of a disk's bytes before the extents is kept, too: of the halves, what a log stands for
pub torn_behind : (places : Places) (sound : IsSound places) (P : List ℕ → Type 0)
    → ((at n : ℕ) (x y : List ℕ) → places.slots ≤ at → Torn at n x y → P x → P y) → (steps : List Step)
    → AllByRecursion IsOnArea steps → (x y : List ℕ) → TornBy places steps x y → P x → P y
torn_behind places sound P keeps [] on x y torn p = subst P (sym torn) p
torn_behind places sound P keeps (step ∷ steps) on x y torn p =
    torn_behind places sound P keeps steps on.1 torn.0 y torn.2 (one step torn.0 torn.1)
  where
    one : (step : Step) → (mid : List ℕ) → Tears places step x mid → P mid
    one (puts area at bytes end) mid tears = keeps (extent_in places area).at (extent_in places area).len x mid
        (extent_behind places sound area) (put_tears places area at bytes end x mid tears).outside p
    one (gets end) mid same = subst P (sym same) p
