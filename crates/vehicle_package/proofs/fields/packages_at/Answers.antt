use Rattle.std.proofs.Common.{◌≡◌, ◌+◌, ◌∙◌, arith, ap, length, sym, ◌∷◌, []}
use Rattle.std.proofs.lemmas.Result.{err_from_is_err_and}
use Rattle.std.proofs.lemmas.List.{length-append}
use Rattle.vehicle_package.proofs.Walk.{goes-on, is-done, stops}
use Rattle.vehicle_package.proofs.fields.packages_at.Goals as goal

pub returns-in_err-span-clause-packages : goal.returns-in_err-span-clause-packages
returns-in_err-span-clause-packages c =
    let p = err_from_is_err_and c.from_residual.result c.from_residual.ensures.1 in
    rw (p.1, p.2) (stops c.loop.places.items c.args.count c.loop.counter c.loop.place c.args.bytes.now _
    c.loop.invariant.so_far c.in_err-span.field-0.0 c.loop-test.true (sym c.in_err-span.ensures.block))

pub loop-preserved : goal.loop-preserved
loop-preserved c =
    let one =
    goes-on c.loop.places.items c.args.count c.loop.counter c.loop.place c.args.bytes.now _ c.loop.invariant.so_far
    c.in_ok-span.span c.loop-test.true (sym c.in_ok-span.ensures.block) in
    record {
      so_far = rw c.push.ensures.items one;
      within = c.in_ok-span.ensures.within;
      many =
          ap length c.push.ensures.items ∙ length-append c.loop.places.items (c.in_ok-span.span ∷ [])
          ∙ ap (λ n. n + 1) c.loop.invariant.many;
    }

pub returns-clause-packages : goal.returns-clause-packages
returns-clause-packages c =
    is-done c.loop.places.items c.args.count c.loop.counter c.loop.place c.args.bytes.now _ c.loop.invariant.so_far
    c.loop-test.false
