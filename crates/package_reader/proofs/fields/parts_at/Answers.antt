use Rattle.std.proofs.Common.{◌≡◌, ◌+◌, ◌∙◌, arith, ap, length, sym, ◌∷◌, []}
use Rattle.std.proofs.lemmas.Result.{err_from_is_err_and}
use Rattle.std.proofs.lemmas.List.{length-append}
use Rattle.package_reader.proofs.Walk.{goes-on, is-done, stops}
use Rattle.package_reader.proofs.fields.parts_at.Goals as goal

pub returns-in_err-part-clause-parts : goal.returns-in_err-part-clause-parts
returns-in_err-part-clause-parts c =
    let p = err_from_is_err_and c.from_residual.result c.from_residual.ensures.1 in
    rw (p.1, p.2) (stops c.loop.places.items c.args.head.count c.loop.counter c.loop.room c.loop.place c.args.bytes.now
    _ c.loop.invariant.so_far c.in_err-part.field-0.0 c.loop-test.true (sym c.in_err-part.ensures.part))

pub loop-preserved : goal.loop-preserved
loop-preserved c =
    let one =
    goes-on c.loop.places.items c.args.head.count c.loop.counter c.loop.room c.loop.place c.args.bytes.now _
    c.loop.invariant.so_far c.in_ok-part.part c.loop-test.true (sym c.in_ok-part.ensures.part) in
    record {
      so_far = rw (c.push.ensures.items, c.from-room.ensures) one;
      within = c.in_ok-part.ensures.within.0;
      many = ap length c.push.ensures.items ∙ length-append c.loop.places.items (c.in_ok-part.part ∷ [])
          ∙ ap (λ n. n + 1) c.loop.invariant.many;
    }

pub returns-clause-parts : goal.returns-clause-parts
returns-clause-parts c =
    is-done c.loop.places.items c.args.head.count c.loop.counter c.loop.room c.loop.place c.args.bytes.now _
    c.loop.invariant.so_far c.loop-test.false
