use Rattle.std.proofs.Common.{◌≡◌, ◌≤◌, ◌-◌, ◌++◌, vec_len, option_map}
use Rattle.ucm_ports.proofs.source.read_all.Given as goal

abbrev pub invariant-pieces : goal.invariant-pieces
invariant-pieces g l = record {
  read : g.S.Source.left l.initial.source ≡ option_map (λ rest. l.bytes.items ++ rest) (g.S.Source.left l.source);
  within : vec_len l.bytes ≤ l.limit;
  count : g.S.Source.fault_count l.initial.source ≤ g.S.Source.fault_count l.source;
}

abbrev pub decreases-pieces : goal.decreases-pieces
decreases-pieces g l = l.limit - vec_len l.bytes
