use Rattle.std.proofs.Common.{◌∙◌, ap, arith, sym}
use Rattle.package_reader.proofs.Sizes.{size-decides}
use Rattle.package_reader.proofs.print.is_too_large.Goals as goal

pub returns-else-sizes-texts_limit : goal.returns-else-sizes-texts_limit
returns-else-sizes-texts_limit c =
    let e = c.in_ok-sizes.ensures in
    size-decides c.args.parts.now c.size_of.result
    (omega (arith, e.texts, c.texts_limit.ensures, c.if-sizes-texts_limit.false))
    (omega (arith, c.size_of.ensures, e.texts, e.payloads))
