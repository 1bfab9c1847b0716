use Rattle.node_core.proofs.Names.{Ok, ap, append-nil, append_assoc, arith, into_iter_items, length, map, map-append, sym, [], ◌++◌, ◌∙◌, ◌∷◌}
use Rattle.std.proofs.lemmas.List.{nil_from_length}
use Rattle.node_core.proofs.Lists.{end-fault}
use Rattle.node_core.proofs.Runs.{ok-faultless}
use Rattle.transfer_blocks.specs.declared.fault.StagingError.TheVariants.{OutOfMemory}
use Rattle.node_core.proofs.Formatted.{all-formats, none-formats, next-failed, next-place, next-put, next-short, now, whole-lent}
use Rattle.node_core.proofs.format.install.Goals as goal

pub put-requires : goal.put-requires
put-requires g c =
    let at = c.loop-cluster in
    let x = c.in-Some.cluster in
    let whole = whole-lent at.yielded _ x c.in-Some.ensures.steps.0 at.invariant.0
    c.into_iter-cluster-iterator.ensures.into_iter_gives.0 in
    let short = next-short _ _ _ x.now whole c.requires.short in
    let same = ap length c.as_slice-bytes.ensures.bytes in
    record {
      fit = at.invariant.4;
      area = (
        next-place _ _ _ x.now whole c.requires.few at.running.items at.invariant.1
            c.len-place.result (c.len-place.ensures ∙ at.running.ok.0),
        omega arith,
      );
      at = omega arith;
      fits = omega (arith, short, same);
    }

pub overflow_cast-place : goal.overflow_cast-place
overflow_cast-place g c =
    let at = c.loop-cluster in
    let x = c.in-Some.cluster in
    let whole = whole-lent at.yielded _ x c.in-Some.ensures.steps.0 at.invariant.0
    c.into_iter-cluster-iterator.ensures.into_iter_gives.0 in
    let low =
    next-place _ _ _ x.now whole c.requires.few at.running.items at.invariant.1
    c.len-place.result (c.len-place.ensures ∙ at.running.ok.0) in
    omega (arith, low)

pub add-requires : goal.add-requires
add-requires g c =
    let at = c.loop-cluster in
    let x = c.in-Some.cluster in
    let whole = whole-lent at.yielded _ x c.in-Some.ensures.steps.0 at.invariant.0
    c.into_iter-cluster-iterator.ensures.into_iter_gives.0 in
    record { short = next-short _ _ _ x.now whole c.requires.short }

pub returns-in_err-put-clause-formats : goal.returns-in_err-put-clause-formats
returns-in_err-put-clause-formats g c =
    let at = c.loop-cluster in
    let x = c.in-Some.cluster in
    let whole = whole-lent at.yielded _ x c.in-Some.ensures.steps.0 at.invariant.0
    c.into_iter-cluster-iterator.ensures.into_iter_gives.0 in
    rw (end-fault _ _ c.from_residual-in_err-put.ensures.1)
    (next-failed g.S.Staging.obeys _ _ _ x.now whole c.requires.few c.requires.short
    c.args.staging.now at.staging c.put.new.self at.invariant.2 at.running.items at.invariant.1 c.len-place.result
    (c.len-place.ensures ∙ at.running.ok.0) c.as_slice-bytes.result.now c.as_slice-bytes.ensures.bytes
    _ _ (λ e. e) c.in_err-put.ensures.obeys)

pub returns-in_err-add-clause-formats : goal.returns-in_err-add-clause-formats
returns-in_err-add-clause-formats g c =
    let at = c.loop-cluster in
    let x = c.in-Some.cluster in
    let whole = whole-lent at.yielded _ x c.in-Some.ensures.steps.0 at.invariant.0
    c.into_iter-cluster-iterator.ensures.into_iter_gives.0 in
    rw (end-fault OutOfMemory _ c.from_residual-in_err-add.ensures.1)
    (next-failed g.S.Staging.obeys _ _ _ x.now whole c.requires.few c.requires.short
    c.args.staging.now at.staging c.put.new.self at.invariant.2 at.running.items at.invariant.1 c.len-place.result
    (c.len-place.ensures ∙ at.running.ok.0) c.as_slice-bytes.result.now c.as_slice-bytes.ensures.bytes
    (Ok tt) _ (λ e. ok-faultless) c.in_ok-put.ensures.obeys)

pub loop-cluster-preserved : goal.loop-cluster-preserved
loop-cluster-preserved g c =
    let at = c.loop-cluster in
    let x = c.in-Some.cluster in
    let whole = whole-lent at.yielded _ x c.in-Some.ensures.steps.0 at.invariant.0
    c.into_iter-cluster-iterator.ensures.into_iter_gives.0 in
    let put = next-put g.S.Staging.obeys _ _ _ x.now whole c.requires.few c.requires.short
    c.args.staging.now at.staging c.put.new.self at.invariant.2 at.running.items at.invariant.1 c.len-place.result
    (c.len-place.ensures ∙ at.running.ok.0) c.as_slice-bytes.result.now c.as_slice-bytes.ensures.bytes
    c.in_ok-put.ensures.obeys c.in_ok-add.ensures _ at.invariant.3 c.in_ok-put.ensures.put
    (sym (map-append now at.yielded (x ∷ []))) in
    let so_far = at.invariant.5 in
    let more = c.in_ok-put.ensures.faults in
    let was = at.invariant.6 in
    let gone = c.in-Some.ensures.steps.1 in
    let shorter = ap length c.in-Some.ensures.steps.0 in (
      append_assoc at.yielded (x ∷ []) _ ∙ ap (λ l. at.yielded ++ l) (sym c.in-Some.ensures.steps.0) ∙ at.invariant.0,
      put.0,
      put.1,
      put.2,
      c.in_ok-put.ensures.fit,
      omega (arith, so_far, more),
      omega (arith, was, gone, shorter),
    )

pub returns-clause-formats : goal.returns-clause-formats
returns-clause-formats g c =
    let at = c.loop-cluster in
    let none = nil_from_length (into_iter_items at.cluster-iterator) (sym at.invariant.6 ∙ c.in-None.ensures.steps.0) in
    all-formats g.S.Staging.obeys (map now at.yielded) (map now c.args.clusters.items) c.args.staging.now at.staging
    (ap (map now) (sym (append-nil at.yielded) ∙ ap (λ l. at.yielded ++ l) (sym none) ∙ at.invariant.0
    ∙ c.into_iter-cluster-iterator.ensures.into_iter_gives.0)) c.requires.few c.requires.short at.invariant.2

pub returns-in_err-running-clause-formats : goal.returns-in_err-running-clause-formats
returns-in_err-running-clause-formats g c =
    rw (end-fault OutOfMemory _ c.from_residual.ensures.1) (none-formats _ _ _)
