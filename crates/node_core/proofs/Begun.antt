-- ProcessSwPackage is judged as the node's table says.
use Rattle.node_core.proofs.Names.{AllByRecursion, BeingProcessed, Bool, Extent, Holding, Idle}
use Rattle.node_core.proofs.Names.{InvalidTransferId, IsCopied, IsInOrder, IsPlaced, IsSound, List, None}
use Rattle.node_core.proofs.Names.{OperationNotPermitted, Option, ProcessSwPackage, Refusal, Session, SessionOf, Some}
use Rattle.node_core.proofs.Names.{StandsFor, State, StoredTransfer, Transfer, Transferred, activate_refusal, ap}
use Rattle.node_core.proofs.Names.{arith, begin_processing, both-none, change_meaning, changes_in, cluster_place}
use Rattle.node_core.proofs.Names.{contents_of, each-append, each-first, extents_in, false, first_refusal, found-has}
use Rattle.node_core.proofs.Names.{free-of, is-transferred, is_in, is_none, is_wrong_tag, led_by, map, meaning}
use Rattle.node_core.proofs.Names.{missing_dependencies, names_fit_places, new_session, node_of, not, not-false}
use Rattle.node_core.proofs.Names.{option_map, option_map_or, option_or, package_reading, package_refusals, parts_of}
use Rattle.node_core.proofs.Names.{parts_refusal, phase_code, planned, refl, refusal_by, rows-clear, session_meaning}
use Rattle.node_core.proofs.Names.{session_refusals, should_run, some_passes, stored_header, stored_of, subst, sym}
use Rattle.node_core.proofs.Names.{take_up, transfer_meaning, transfer_of, true, unmet_among, unwrap_or}
use Rattle.node_core.proofs.Names.{with_length, with_slots, ℕ, [], ◌++◌, ◌==◌, ◌∙◌, ◌∷◌, ◌≡◌}
use Rattle.node_core.proofs.Phased.{phased, phased-order, phased-means, phased-placed, phased-slots, session-refused}
use Rattle.node_core.proofs.Stored.{copied-when, found-means, some-stored}
use Rattle.node_core.proofs.Planned.{among-fit}
use Rattle.node_core.proofs.Lists.{every}
use Rattle.node_core.proofs.Pieces.{none-done}
use Rattle.node_core.proofs.Arrived.{led-stands}
use Rattle.node_core.proofs.Natural.{parts-mean, planned-means, unmet-means}

-- what a stored transfer brings is what its package has
contents-mean : (v : Holding) → IsSound v → (client id : ℕ) → contents_of (stored_of v.state.transfers client id)
    ≡ map with_length
    (parts_of (option_map (transfer_meaning package_reading v.areas) (stored_of v.state.transfers client id)))
contents-mean v sound client id = go (stored_of v.state.transfers client id) refl
  where
    go : (o : Option StoredTransfer) → stored_of v.state.transfers client id ≡ o
        → contents_of o ≡ map with_length (parts_of (option_map (transfer_meaning package_reading v.areas) o))
    go None e = refl
    go (Some u) e =
        (found-has _ (IsPlaced package_reading v.areas) v.state.transfers u sound.order.transfers e).1.contents

-- the rows before the parts
abbrev rows_of : Holding → ℕ → ℕ → Option Transfer → List (Bool × Refusal)
rows_of v client tag found =
    (is_wrong_tag (node_of v) client tag, OperationNotPermitted)
    ∷ (is_none found, InvalidTransferId)
    ∷ (some_passes (λ (t : Transfer). not (is_in Transferred t.header)) found, OperationNotPermitted)
    ∷ []

-- they are those of what is stored
rows-mean : (v : Holding) (client id tag : ℕ) → first_refusal (rows_of v client tag (transfer_of (node_of v) client id))
    ≡ first_refusal (package_refusals v.state client tag (stored_header v.state.transfers client id))
rows-mean v client id tag =
    ap (λ o. first_refusal (rows_of v client tag o)) (found-means package_reading v.areas client id v.state.transfers)
    ∙ go v.state.session (stored_of v.state.transfers client id)
  where
    go : (x : Option (SessionOf Extent)) (o : Option StoredTransfer)
        → first_refusal (rows_of (record v { state = record v.state { session = x } }) client tag
        (option_map (transfer_meaning package_reading v.areas) o))
        ≡ first_refusal (package_refusals (record v.state { session = x }) client tag (option_map (λ t. t.header) o))
    go x o = grind arith

-- the parts are refused as what is stored of them
parts-refused : (v : Holding) → IsSound v → (client id : ℕ)
    → parts_refusal (node_of v).running (changes_in (node_of v)) [] (parts_of (transfer_of (node_of v) client id))
    ≡ parts_refusal v.state.running (changes_in v.state) [] (contents_of (stored_of v.state.transfers client id))
parts-refused v sound client id =
    let meant = option_map (transfer_meaning package_reading v.areas) (stored_of v.state.transfers client id) in
    (λ i. parts_refusal (node_of v).running (changes-mean v.state.session i) []
    (parts_of (found-means package_reading v.areas client id v.state.transfers i)))
    ∙ parts-mean v.areas v.state.running (changes_in v.state) [] (parts_of meant)
    ∙ ap (parts_refusal v.state.running (changes_in v.state) []) (sym (contents-mean v sound client id))
  where
    changes-mean : (o : Option (SessionOf Extent))
        → option_map_or (λ (x : Session). x.changes) (option_map (session_meaning v.areas) o) []
        ≡ map (change_meaning v.areas) (option_map_or (λ (x : SessionOf Extent). x.changes) o [])
    changes-mean o = grind arith

-- ProcessSwPackage is refused by what is stored
pub process-refused : (v : Holding) → IsSound v → (client id tag : ℕ)
    → refusal_by v client (ProcessSwPackage id tag)
    ≡ option_or (first_refusal (session_refusals v.state client (ProcessSwPackage id tag)))
    (option_or (first_refusal (package_refusals v.state client tag (stored_header v.state.transfers client id)))
    (parts_refusal v.state.running (changes_in v.state) [] (contents_of (stored_of v.state.transfers client id))))
process-refused v sound client id tag = λ i.
    option_or (session-refused v client (ProcessSwPackage id tag) i)
    (option_or (rows-mean v client id tag i) (parts-refused v sound client id i))

-- names twice fit places where they do once
fit-twice : (pairs : List (List ℕ × ℕ)) → names_fit_places (pairs ++ []) ≡ true
    → names_fit_places (pairs ++ (pairs ++ [])) ≡ true
fit-twice pairs = among-fit (pairs ++ (pairs ++ [])) (pairs ++ []) (λ P each.
    each-append P pairs (pairs ++ []) (each-first P pairs [] each) each)

-- what taking up a package leaves
module _ (v : Holding) (sound : IsSound v) (client id tag : ℕ) (u : StoredTransfer)
    (e : stored_of v.state.transfers client id ≡ Some u)
    (phase : u.header.phase ≡ Transferred) where
  -- the session that takes it up
  abbrev takes_up : Option (SessionOf Extent) → SessionOf Extent
  takes_up o = unwrap_or o (new_session v.state client tag)

  abbrev begun : Option (SessionOf Extent) → State → State
  begun session s = record s {
    transfers = phased id BeingProcessed s.transfers;
    session = option_map (λ (x : SessionOf Extent). record x { processing = Some id; units_done = 0 }) session;
  }

  abbrev next : State
  next = begun (Some (takes_up v.state.session)) v.state

  was-whole : (phase_code u.header.phase == 0) ≡ false
  was-whole = ap (λ p. phase_code p == 0) phase

  begun-means : meaning package_reading v.areas next ≡ begin_processing (node_of v) client id tag
  begun-means =
      ap (λ ts. record (meaning package_reading v.areas next) { transfers = ts })
      (phased-means v sound client id u e BeingProcessed was-whole refl)
      ∙ ap (λ o. record (begin_processing (node_of v) client id tag) { session = Some o }) (go v.state.session)
    where
      go : (o : Option (SessionOf Extent)) → session_meaning v.areas (record (takes_up o)
          { processing = Some id; units_done = 0 })
          ≡ record (unwrap_or (option_map (session_meaning v.areas) o)
          (new_session (node_of v) client tag)) { processing = Some id; units_done = 0 }
      go o = grind arith

  begun-order : IsInOrder package_reading v.areas next
  begun-order = go v.state.session refl sound.order
    where
      go : (o : Option (SessionOf Extent)) → v.state.session ≡ o
          → IsInOrder package_reading v.areas (record v.state { session = o })
          → IsInOrder package_reading v.areas (begun (Some (takes_up o)) (record v.state { session = o }))
      go None none i = record {
        clusters = i.clusters;
        session = (i.clusters, tt, refl);
        transfers = phased-placed v sound client id u e BeingProcessed was-whole refl;
        slots = phased-slots v sound client id u e BeingProcessed was-whole refl;
        places = fit-twice (map cluster_place v.state.running) i.places;
        running = subst (λ st. v.state.running ≡ should_run (record (new_session v.state client tag)
            { processing = Some id; units_done = 0 }) st None)
            (sym idle) refl;
      }
        where
          idle : v.state.status ≡ Idle
          idle = (free-of (node_of v) (ap (option_map (session_meaning v.areas)) none) sound.fit.consistent).idle
      go (Some x) some i = phased-order v sound client id u e BeingProcessed was-whole refl x (Some id) 0 i

  begun-copied : IsCopied package_reading v.areas next
  begun-copied =
      every (λ t. copied-when v.areas next t t.header.phase (λ e. none-done v.areas _ (extents_in next t)))
      next.transfers

  pub begun-stands : StandsFor v.areas (take_up (with_slots [] []) v.state client id tag)
      (begin_processing (node_of v) client id tag)
  begun-stands = record { node = begun-means; order = begun-order; copied = begun-copied }

-- ProcessSwPackage
pub process-stands : (v : Holding) (client id tag : ℕ) → IsSound v → refusal_by v client (ProcessSwPackage id tag)
    ≡ None
    → StandsFor v.areas (led_by (ProcessSwPackage id tag) (take_up (with_slots [] []) v.state client id tag))
    (led_by (ProcessSwPackage id tag) (begin_processing (node_of v) client id tag))
process-stands v client id tag sound none =
    led-stands v.areas (take_up (with_slots [] []) v.state client id tag) (begin_processing (node_of v) client id tag)
    (ProcessSwPackage id tag) (begun-stands v sound client id tag there.0 there.1 phase)
  where
    rows : List (Bool × Refusal)
    rows = package_refusals v.state client tag (stored_header v.state.transfers client id)

    clear : AllByRecursion (λ row. row.0 ≡ false) rows
    clear = rows-clear rows (both-none (first_refusal rows) _
        (both-none (first_refusal (session_refusals v.state client (ProcessSwPackage id tag))) _
        (sym (process-refused v sound client id tag) ∙ none)).1).0

    there : (u : StoredTransfer) × (stored_of v.state.transfers client id ≡ Some u)
    there = some-stored (stored_of v.state.transfers client id) clear.1.0

    phase : there.0.header.phase ≡ Transferred
    phase = is-transferred there.0.header (not-false _
        (ap (λ o. some_passes (λ h. not (is_in Transferred h)) (option_map (λ t. t.header) o)) (sym there.1)
        ∙ clear.1.1.0))

-- what the planned clusters leave unmet is what the stored ones do
pub unmet-same : (v : Holding) → activate_refusal v.state ≡ activate_refusal (node_of v)
unmet-same v = ap (option_map missing_dependencies) (go v.state.session)
  where
    go : (o : Option (SessionOf Extent))
        → unmet_among (option_map_or (λ (x : SessionOf Extent). planned x.changes x.saved) o v.state.running)
        ≡ unmet_among (option_map_or (λ (x : Session). planned x.changes x.saved)
        (option_map (session_meaning v.areas) o) (node_of v).running)
    go None = sym (unmet-means v.areas v.state.running)
    go (Some x) = sym (unmet-means v.areas (planned x.changes x.saved))
        ∙ ap unmet_among (sym (planned-means v.areas x.changes x.saved))
