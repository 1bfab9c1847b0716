use Rattle.node_core.proofs.Names.{LieWithin, content_of, drop, length, parts_place, piece_of, Ok, ◌≡◌, ◌≤◌}
use Rattle.transfer_blocks.specs.declared.area.Area.TheVariants.{Transfer}
use Rattle.node_core.specs.Reserves.{Reads}
use Rattle.node_core.proofs.copying.find_piece.Given as goal

abbrev pub invariant-loop-extent : goal.invariant-loop-extent
invariant-loop-extent g l =
    let content = content_of (Transfer l.slot) (g.S.Staging.areas l.initial.staging) in record {
      piece : piece_of content l.place l.left (drop l.extent-index l.extents)
          ≡ piece_of content (parts_place (length l.extents)) l.fn.done l.extents;
      lie : LieWithin content l.place (drop l.extent-index l.extents);
      areas : g.S.Staging.areas l.staging ≡ g.S.Staging.areas l.initial.staging;
      reads : Reads g.S.Staging.obeys (Ok tt) l.initial.staging l.staging;
      fit : g.S.Staging.is_fit l.staging;
      faults : g.S.Staging.fault_count l.initial.staging ≤ g.S.Staging.fault_count l.staging;
    }
