use Rattle.std.proofs.Common.{◌≡◌, Some, map, take, length}
use Rattle.serde_json.specs.View.{view}
use Rattle.manifest.specs.Trees.{all_of}
use Rattle.manifest.specs.Form.{need_of_tree}
use Rattle.manifest.proofs.read.all_needs.Given as goal

abbrev pub invariant-needs : goal.invariant-needs
invariant-needs l = (all_of need_of_tree (map view (take l.i l.values)) ≡ Some l.out.items) × (length l.out.items ≡ l.i)
