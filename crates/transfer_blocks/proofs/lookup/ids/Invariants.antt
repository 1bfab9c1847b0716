use Rattle.std.proofs.Common.{◌≡◌, ◌≤◌, length, take}
use Rattle.transfer_blocks.specs.Table.{stored_ids}
use Rattle.transfer_blocks.proofs.lookup.ids.Given as goal

abbrev pub invariant-loop-transfer : goal.invariant-loop-transfer
invariant-loop-transfer l = record {
  found : l.ids ≡ stored_ids (take l.transfer-index l.transfer-items) l.client;
  few : length l.ids ≤ l.transfer-index;
}
