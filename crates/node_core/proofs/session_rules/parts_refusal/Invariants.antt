use Rattle.node_core.proofs.Names.{drop, parts_refusal, take, [], ◌≡◌}
use Rattle.node_core.proofs.session_rules.parts_refusal.Given as goal

abbrev pub invariant-loop-place : goal.invariant-loop-place
invariant-loop-place l =
    parts_refusal l.running l.changes (take l.place l.parts) (drop l.place l.parts)
    ≡ parts_refusal l.running l.changes [] l.parts
