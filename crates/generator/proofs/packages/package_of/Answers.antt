use Rattle.std.proofs.Common.{refl}
use Rattle.generator.proofs.Small.{bytes-short, is-carried, is-packed, is-read}
use Rattle.generator.proofs.packages.package_of.Goals as goal

pub of-requires : goal.of-requires
of-requires c =
    let e = c.in_ok-part.ensures in
    bytes-short c.args.number c.args.place c.in_ok-part.part e.part e.form c.in_ok-bytes.bytes.items
    c.in_ok-bytes.ensures.bytes

pub packed-requires : goal.packed-requires
packed-requires c =
    let e = c.in_ok-part.ensures in
    rw (is-read c.args.number c.args.place c.in_ok-part.part e.part e.form c.in_ok-bytes.bytes.items c.of.result
    c.of.ensures c.in_ok-bytes.ensures.«package») refl

pub returns-clause-made : goal.returns-clause-made
returns-clause-made c =
    let e = c.in_ok-part.ensures in
    is-packed c.args.number c.args.place c.in_ok-part.part e.part e.form c.in_ok-bytes.bytes.items c.of.result
    c.packed.result c.of.ensures c.in_ok-bytes.ensures.bytes
    (is-read c.args.number c.args.place c.in_ok-part.part e.part e.form c.in_ok-bytes.bytes.items c.of.result
    c.of.ensures c.in_ok-bytes.ensures.«package») c.packed.ensures.bytes c.packed.ensures.parts

pub returns-clause-carried : goal.returns-clause-carried
returns-clause-carried c =
    let e = c.in_ok-part.ensures in
    is-carried c.args.number c.args.place c.in_ok-part.part e.part e.form c.in_ok-bytes.bytes.items c.packed.result
    c.in_ok-bytes.ensures.bytes c.in_ok-bytes.ensures.«package» (returns-clause-made c)
