-- The calls of a source or a sink in memory, and those that fail.
use Rattle.std.specs.Prelude.{Bool, if◌then◌else◌, ◌==◌}
use Rattle.std.specs.List.{list_any}
use Rattle.fault_count.specs.Faults.{one_more}
use Rattle.ucm_ports.specs.declared.calls.Calls.{Calls}

-- the plan names the next call, counted from 1
abbrev pub is_named : Calls → Bool
is_named c = list_any (λ n. n == one_more c.so_far) c.fails

-- the calls after one more, which failed or not
abbrev pub counted : Bool → Calls → Calls
counted failed c =
    record { so_far = one_more c.so_far; fails = c.fails; faults = if failed then one_more c.faults else c.faults }
