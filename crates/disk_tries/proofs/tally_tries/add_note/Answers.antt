use Rattle.std.proofs.Common.{◌≡◌, ℕ, List, length, ap, arith}
use Rattle.checkpoint.specs.Halves.{layout_of}
use Rattle.disk_tries.proofs.FourHalves.{note_fits, text_fits}
use Rattle.disk_tries.proofs.tally_tries.add_note.Goals as goal

pub add-requires-clause-long : goal.add-requires-clause-long
add-requires-clause-long g c = text_fits (layout_of c.args.log.now.log.half) c.requires.pair

pub add-requires-clause-short : goal.add-requires-clause-short
add-requires-clause-short g c =
    let long : length c.of-note.result ≡ 900000 =
    omega (
      arith,
      ap (λ (xs : List ℕ). length xs) c.of-note.ensures,
      c.in_ok-vec.ensures.len,
      c.in_ok-vec.field-0.ok.0,
    ) in
    note_fits (layout_of c.args.log.now.log.half) (length c.of-note.result) c.requires.pair long
