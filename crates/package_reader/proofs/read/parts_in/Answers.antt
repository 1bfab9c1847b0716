use Rattle.std.proofs.Common.{inl, inr}
use Rattle.std.proofs.lemmas.Result.{err_from_is_err_and}
use Rattle.package_reader.proofs.Manifests.{all-more, all-stop}
use Rattle.package_reader.specs.Reading.{part_in}
use Rattle.package_reader.proofs.read.parts_in.Goals as goal

pub returns-in_err-part-clause-err : goal.returns-in_err-part-clause-err
returns-in_err-part-clause-err c =
    let p = err_from_is_err_and c.from_residual.result c.from_residual.ensures.1 in
    rw (p.1, p.2) (elim c.in_err-part.ensures.err [
      | inl memory ↦ inl memory
      | inr none ↦
          inr (
            none.0,
            all-stop (part_in c.args.bytes.now) c.args.places.now c.places.place-index _ c.places-test.true none.1,
          )
    ])

pub places-preserved : goal.places-preserved
places-preserved c =
    rw c.in_ok-push.ensures.items
    (all-more (part_in c.args.bytes.now) c.args.places.now c.places.place-index _ c.places-test.true
    c.places.parts.items c.in_ok-part.part c.places.invariant c.in_ok-part.ensures.ok)
