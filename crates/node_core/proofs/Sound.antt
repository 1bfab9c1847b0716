-- A sound node has a table, and each step leaves it sound.
use Rattle.node_core.proofs.Names.{Bytes, Call, CallNo, Err, Holding, IsBounded, IsFit, IsReading, IsSound, IsTable}
use Rattle.node_core.proofs.Names.{IsTrue, List, NodeState, None, Ok, PackageError, Part, Result, StandsFor, Transfer, Verdict}
use Rattle.node_core.proofs.Names.{after_call, all_differ, and_parts, arith, both_true, client_limit, cluster_of}
use Rattle.node_core.proofs.Names.{each-both, each-imp, each-unmap, ids-mean, ids_of, keeps-fit, length, length-map}
use Rattle.node_core.proofs.Names.{map, mark_of, nat_tests, node_of, not, numbers_rise, of_client, option_map}
use Rattle.node_core.proofs.Names.{package_limit, package_reading, refl, repeat_of, reply_to, rise-above}
use Rattle.node_core.proofs.Names.{rise-tail, slots_differ, step, step_by, stored_ids, subst, sym, synced, table_of}
use Rattle.node_core.proofs.Names.{transfer_limit, transfer_meaning, true, verdict_of, ℕ, [], ◌<◌, ◌==◌, ◌∷◌, ◌≡◌}
use Rattle.node_core.proofs.Names.{◌≤◌}
use Rattle.package_reader.specs.Reading.{are_parts, reading}
use Rattle.package_reader.proofs.Readings.{reading_are_parts}
use Rattle.std.proofs.lemmas.Bool.{leb-true}
use Rattle.pm_types.specs.declared.replies.Reached.TheVariants.{Done as Answered}
use Rattle.pm_types.specs.Validity.{IsSound as IsSoundTransfer}
use Rattle.node_core.proofs.Lists.{each-all}
use Rattle.node_core.proofs.Stored.{rise, ids}

-- a package has at least one part, and its parts are of different clusters
pub reading-is : IsReading package_reading
reading-is = record { parts_of = λ bytes parts e. of (reading bytes) parts e (λ ps q. reading_are_parts bytes ps q) }
  where
    of : (r : Result (List (Part Bytes)) PackageError) (parts : List (Part Bytes)) → verdict_of r ≡ Ok parts
        → ((ps : List (Part Bytes)) → r ≡ Ok ps → are_parts ps ≡ true)
        → (0 < length parts) × IsTrue (all_differ (map cluster_of parts))
    of (Ok ps) parts e are = let a = are ps refl in let same : ps ≡ parts = cc e in
        subst (λ qs. (0 < length qs) × (all_differ (map cluster_of qs) ≡ true)) same (parts-of ps a)
      where
        parts-of : (ps : List (Part Bytes)) → are_parts ps ≡ true
            → (0 < length ps) × (all_differ (map cluster_of ps) ≡ true)
        parts-of ps a =
            let both = and_parts _ _ a in
            (let some = leb-true 1 (length ps) (and_parts _ _ both.0).0 in omega (arith, some), both.1)
    of (Err f) parts e are = absurd (cc)

-- rising numbers differ
pub rising-differ : (ns : List ℕ) → numbers_rise ns ≡ true → slots_differ ns ≡ true
rising-differ [] r = refl
rising-differ (n ∷ ns) r =
    both_true (each-all (λ m. not (m == n)) ns (each-imp _ _ (λ m lt. apart m lt) ns (rise-above n ns r)))
    (rising-differ ns (rise-tail n ns r))
  where
    apart : (m : ℕ) → n < m → not (m == n) ≡ true
    apart m lt = grind (arith, nat_tests, lt)

-- the transfers of a sound node are a table
pub table-is : (v : Holding) → IsSound v → IsTable (table_of v.state)
table-is v sound =
    let ts = sound.fit.consistent.transfers in
    let limits = sound.fit.consistent.limits in
    let means = transfer_meaning package_reading v.areas in
    let each = each-unmap (IsSoundTransfer v.state.next_id) means v.state.transfers ts.each in
    let sizes = each-unmap (λ (t : Transfer). (t.header.size ≤ package_limit)
    × (t.header.client < client_limit)) means v.state.transfers limits.sizes in
    record {
      few = subst (λ n. n ≤ transfer_limit) (length-map v.state.transfers means) limits.transfers;
      each = each-both _ _ _ (λ t k rest. rest k) v.state.transfers each
          (each-both _ _ (λ t. IsSoundTransfer v.state.next_id (means t)
          → IsBounded v.state.next_id t) (λ t placed size k.
          record { id = k.id.1; received = k.size; size = size.0; counter = k.counter.1; slot = placed.slot })
          v.state.transfers sound.order.transfers sizes);
      ids = rising-differ (ids v.state.transfers) (rise v sound);
      slots = sound.order.slots;
    }

-- its areas stand for it
pub sound-stands : (v : Holding) → IsSound v → StandsFor v.areas v.state (node_of v)
sound-stands v sound = record { node = refl; order = sound.order; copied = sound.copied }

-- a newer call is executed
pub step-is : (s : NodeState) (client : ℕ) (at : CallNo) (call : Call) (w : Verdict)
    → repeat_of at (of_client s.last client) ≡ None
    → step s client at call w ≡ (
      after_call s client at call w (reply_to s client call w),
      Answered (reply_to s client call w),
    )
step-is s client at call w none = grind (arith)

-- a step leaves the node fit
pub step-fit : (v : Holding) (client : ℕ) (at : CallNo) (call : Call) → client < client_limit → IsSound v
    → IsFit package_reading (step_by v client at call).0
step-fit v client at call low sound =
    (keeps-fit package_reading reading-is).step (node_of v) client at call low sound.fit

-- the ids of a client's transfers are those of what they mean
pub ids-shown : (v : Holding) (client : ℕ) → stored_ids v.state.transfers client ≡ ids_of (node_of v) client
ids-shown v client = sym (ids-mean package_reading v.areas client v.state.transfers)

-- what Sync shows of a node
pub synced-means : (v : Holding) (client : ℕ) → record {
  session = option_map (mark_of v.state.status) v.state.session;
  ended = of_client v.state.ended client;
  transfers = stored_ids v.state.transfers client;
} ≡ synced (node_of v) client
synced-means v client = grind (arith, ids-shown v client)
