-- Where a call leads, a stored node stands for the node there, and stays in order.
use Rattle.node_core.proofs.Names.{AllByRecursion, AreCopied, Areas, Call, Change, CleanUp, CleaningUp, Cluster}
use Rattle.node_core.proofs.Names.{Extent, Goal, IfSome, IsCopied, IsCopiedIn, IsInOrder, List, NodeState, None, Old}
use Rattle.node_core.proofs.Names.{Option, Outcome, Ready, Resume, RunsWhatItShould, SessionOf, Some, StandsFor}
use Rattle.node_core.proofs.Names.{State, Status, StoredTransfer, To, arith, arrive, clean_up, each-imp, extents_of}
use Rattle.node_core.proofs.Names.{led_by, map, meaning, option_map_or, package_reading, places_in, refl, should_run}
use Rattle.node_core.proofs.Names.{status_table, subst, sym, transfer_meaning, units_done, ℕ, [], ◌∙◌, ◌∷◌, ◌≡◌}
use Rattle.node_core.proofs.Stored.{copied-when, order-of}

-- what is copied stays copied while as many units are done, and the same clusters run at the same places
pub copied-by : (areas : Areas) (s n : State) → units_done n ≡ units_done s → n.running ≡ s.running
    → places_in n ≡ places_in s
    → (ts : List StoredTransfer) → AllByRecursion (λ t. IsCopiedIn package_reading areas s t t.header.phase) ts
    → AllByRecursion (λ t. IsCopiedIn package_reading areas n t t.header.phase) ts
copied-by areas s n done ran places ts = each-imp _ _ (λ t copied. copied-when areas n t t.header.phase (λ e.
    subst (λ (k : ℕ × List (Cluster Extent) × List (List ℕ × ℕ)).
    AreCopied areas k.0 (transfer_meaning package_reading areas t).parts
    (extents_of k.1 (map (λ taken. taken.1) k.2) t.contents))
    (sym (λ i. (done i, ran i, places i))) (subst (IsCopiedIn package_reading areas s t) e copied))) ts

-- whatever a session has processed, verified and decided, it has the same plan
abbrev pub marked : Option ℕ → ℕ → ℕ → Option Outcome → SessionOf Extent → SessionOf Extent
marked processing done verified outcome x =
    record x { processing = processing; units_done = done; verified = verified; outcome = outcome }

module _ (areas : Areas) (s : State) where
  -- the state with another session
  abbrev withs : Status → Option (SessionOf Extent) → State
  withs status o = record s { status = status; session = o }

  -- the same plan under other marks is in order, where it should run
  pub marked-order : (status : Status) (x : SessionOf Extent) (processing : Option ℕ) (done verified : ℕ)
      (outcome : Option Outcome)
      → IsInOrder package_reading areas (withs s.status (Some x)) → s.running ≡ should_run x status outcome
      → IsInOrder package_reading areas (withs status (Some (marked processing done verified outcome x)))
  marked-order status x processing done verified outcome i runs =
      record {
        clusters = i.clusters;
        session = i.session;
        transfers = i.transfers;
        slots = i.slots;
        places = i.places;
        running = runs;
      }

-- what should run where a call leads
abbrev runs-at : SessionOf Extent → Goal → List (Cluster Extent)
runs-at x (To status) = should_run x status x.outcome
runs-at x (CleanUp outcome) = should_run x CleaningUp (Some outcome)
runs-at x Resume = x.saved

-- it is what should run before the call
same-runs : (x : SessionOf Extent) (a : Status) (c : Call)
    → IfSome (status_table a c) (λ goal. should_run x a x.outcome ≡ runs-at x goal)
same-runs x a c = grind arith

module _ (areas : Areas) (s : State) where
  abbrev means : State → NodeState
  means n = meaning package_reading areas n

  -- to a status
  to-there : (status : Status) (o : Option (SessionOf Extent))
      → IfSome o (λ x. s.running ≡ should_run x status x.outcome)
      → IsInOrder package_reading areas (record s { session = o })
      → IsCopied package_reading areas (record s { session = o })
      → StandsFor areas (record s { status = status; session = o })
      (record (means (record s { session = o })) { status = status })
  to-there status o runs i copied = record {
    node = refl;
    order = order-of (record s { status = status; session = o }) i.transfers i.slots runs i;
    copied = copied-by areas (record s { session = o })
        (record s { status = status; session = o }) refl refl refl s.transfers copied;
  }

  -- to cleaning up
  cleaning-there : (outcome : Outcome) (o : Option (SessionOf Extent))
      → IfSome o (λ x. s.running ≡ runs-at x (CleanUp outcome))
      → IsInOrder package_reading areas (record s { session = o })
      → IsCopied package_reading areas (record s { session = o })
      → StandsFor areas (clean_up outcome (record s { session = o }))
      (arrive (means (record s { session = o })) (CleanUp outcome))
  cleaning-there outcome None runs i copied = record {
    node = refl;
    order = order-of (clean_up outcome (record s { session = None })) i.transfers i.slots tt i;
    copied = copied-by areas (record s { session = None })
        (clean_up outcome (record s { session = None })) refl refl refl s.transfers copied;
  }
  cleaning-there outcome (Some x) runs i copied = record {
    node = refl;
    order = marked-order areas s CleaningUp x x.processing x.units_done x.verified (Some outcome) i runs;
    copied = copied-by areas (record s { session = Some x })
        (clean_up outcome (record s { session = Some x })) refl refl refl s.transfers copied;
  }

  -- where a call leads
  arrived-there : (goal : Goal) (o : Option (SessionOf Extent)) → IfSome o (λ x. s.running ≡ runs-at x goal)
      → IsInOrder package_reading areas (record s { session = o })
      → IsCopied package_reading areas (record s { session = o })
      → StandsFor areas (arrive (record s { session = o }) goal) (arrive (means (record s { session = o })) goal)
  arrived-there (To status) o = to-there status o
  arrived-there (CleanUp outcome) o = cleaning-there outcome o
  arrived-there Resume None = cleaning-there Old None
  arrived-there Resume (Some x) = by x.changes
    where
      with : List (Change Extent) → State
      with changes = record s { session = Some (record x { changes = changes }) }

      by : (changes : List (Change Extent)) → s.running ≡ x.saved → IsInOrder package_reading areas (with changes)
          → IsCopied package_reading areas (with changes)
          → StandsFor areas (arrive (with changes) Resume) (arrive (means (with changes)) Resume)
      by [] = cleaning-there Old (Some (record x { changes = [] }))
      by (change ∷ changes) = to-there Ready (Some (record x { changes = change ∷ changes }))

-- where the status table leads
pub led-stands : (areas : Areas) (s : State) (n : NodeState) (c : Call) → StandsFor areas s n
    → StandsFor areas (led_by c s) (led_by c n)
led-stands areas s n c stands =
    subst (λ m. StandsFor areas (led_by c s) (led_by c m)) stands.node (go (status_table s.status c) refl)
  where
    runs : (goal : Goal) → status_table s.status c ≡ Some goal → (o : Option (SessionOf Extent))
        → RunsWhatItShould (record s { session = o }) → IfSome o (λ x. s.running ≡ runs-at x goal)
    runs goal table None r = tt
    runs goal table (Some x) r =
        r ∙ subst (λ o. IfSome o (λ g. should_run x s.status x.outcome ≡ runs-at x g)) table (same-runs x s.status c)

    go : (o : Option Goal) → status_table s.status c ≡ o
        → StandsFor areas (option_map_or (arrive s) o s)
        (option_map_or (arrive (meaning package_reading areas s)) o (meaning package_reading areas s))
    go None table = record { node = refl; order = stands.order; copied = stands.copied }
    go (Some goal) table =
        arrived-there areas s goal s.session (runs goal table s.session stands.order.running) stands.order
        stands.copied
