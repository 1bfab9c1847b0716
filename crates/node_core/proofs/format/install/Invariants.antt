use Rattle.node_core.proofs.Names.{into_iter_items, into_iter_len, length, map, placed_from, ◌++◌, ◌≡◌, ◌≤◌}
use Rattle.node_core.specs.Format.{installs, with_installed}
use Rattle.transfer_blocks.specs.Steps.{Ran}
use Rattle.node_core.proofs.format.install.Given as goal

abbrev pub invariant-loop-cluster : goal.invariant-loop-cluster
invariant-loop-cluster g l =
    let put = map (λ c. c.now) l.yielded in
    (l.yielded ++ into_iter_items l.cluster-iterator ≡ into_iter_items l.initial.cluster-iterator)
    × (l.running.items ≡ placed_from 0 put)
    × Ran g.S.Staging.obeys (installs 0 put) l.initial.staging l.staging
    × (g.S.Staging.areas l.staging ≡ with_installed put (g.S.Staging.areas l.initial.staging))
    × g.S.Staging.is_fit l.staging
    × (g.S.Staging.fault_count l.initial.staging ≤ g.S.Staging.fault_count l.staging)
    × (into_iter_len l.cluster-iterator ≡ length (into_iter_items l.cluster-iterator))
