use Rattle.std.proofs.Common.{◌≡◌, map, take}
use Rattle.std.specs.List.{All}
use Rattle.serde_json.specs.View.{view}
use Rattle.manifest.specs.Valid.{IsNeed}
use Rattle.manifest.specs.Written.{need_tree}
use Rattle.manifest.proofs.print.needs_value.Given as goal

abbrev pub invariant-needs : goal.invariant-needs
invariant-needs l = record {
  trees : map view l.list.items ≡ map need_tree (take l.need-index l.needs);
  form : All IsNeed (take l.need-index l.needs);
}
