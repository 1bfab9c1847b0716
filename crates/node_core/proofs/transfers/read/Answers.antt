use Rattle.node_core.proofs.Names.{Holding, None, Ok, Some, State, ap, exit_refusals, first_refusal, found_of, holding, refl}
use Rattle.node_core.proofs.Names.{zero-add, stored_header, subst, sym, ◌∙◌, ◌≡◌, ◌≢◌}
use Rattle.node_core.specs.declared.prepared.Prepared.TheVariants.{Verdict as Judged}
use Rattle.node_core.specs.declared.node.ReserveError.TheVariants.{OutOfMemory}
use Rattle.node_core.proofs.Lists.{end-err, end-fault}
use Rattle.node_core.proofs.Reserved.{exit-ready, nothing-reserves, reads-handed, reads-reserve}
use Rattle.node_core.proofs.Sound.{sound-stands}
use Rattle.node_core.proofs.Runs.{reads-none, reads-one, reads-then}
use Rattle.node_core.proofs.Staging.{found-lies, found-slot, got-ready, refused-exit}
use Rattle.node_core.proofs.transfers.read.Goals as goal

pub returns-in_default-clause-reserves : goal.returns-in_default-clause-reserves
returns-in_default-clause-reserves g c =
    nothing-reserves g.S.Staging.obeys g.S.Staging.areas c.args.state.now _ (λ end. tt) c.requires.sound
    (λ held fit stand. refused-exit (holding held c.args.state.now) c.args.client c.args.id
    (subst (λ (s : State). first_refusal (exit_refusals (stored_header s.transfers c.args.client c.args.id)) ≢ None)
    c.state.view_is (c.in_default.ensures.refused.0 refl)))

pub get-requires : goal.get-requires
get-requires g c =
    let v : Holding = holding (g.S.Staging.areas c.args.staging.now) c.args.state.now in
    let is : found_of c.args.state.now.transfers c.args.client c.args.id ≡ Some c.in-Some.found =
    ap (λ (s : State). found_of s.transfers c.args.client c.args.id) (sym c.state.view_is) ∙ c.in-Some.ensures.found in
    record {
      fit = c.requires.fit;
      area = found-slot v c.requires.sound c.args.client c.args.id c.in-Some.found is;
      range = rw (zero-add c.in-Some.found.header.received)
          (found-lies v c.requires.sound c.args.client c.args.id c.in-Some.found is);
    }

pub returns-in_err-bytes-clause-reserves : goal.returns-in_err-bytes-clause-reserves
returns-in_err-bytes-clause-reserves g c =
    reads-handed g.S.Staging.obeys g.S.Staging.areas _ (end-fault _ _ c.from_residual.ensures.1) (λ ok. cc ok)
    (λ end. tt) c.requires.sound (reads-one _ _ _ _ c.in_err-bytes.ensures.obeys) c.in_err-bytes.ensures.areas

pub returns-in_err-verdict-clause-reserves : goal.returns-in_err-verdict-clause-reserves
returns-in_err-verdict-clause-reserves g c =
    reads-handed g.S.Staging.obeys g.S.Staging.areas _
    (end-err OutOfMemory _ c.from_residual-in_err-verdict.ensures.1) (λ ok. cc ok) (λ end. tt) c.requires.sound
    (reads-then g.S.Staging.obeys _ c.args.staging.now c.get.new.self c.get.new.self
    (reads-one _ (Ok tt) _ _ c.in_ok-bytes.ensures.obeys) (reads-none _ _ _)) c.in_ok-bytes.ensures.areas

pub returns-clause-reserves : goal.returns-clause-reserves
returns-clause-reserves g c =
    let s = c.args.state.now in
    let v : Holding = holding (g.S.Staging.areas c.args.staging.now) s in
    let is : found_of s.transfers c.args.client c.args.id ≡ Some c.in-Some.found =
    ap (λ (s : State). found_of s.transfers c.args.client c.args.id) (sym c.state.view_is) ∙ c.in-Some.ensures.found in
    let ready = got-ready v c.requires.sound c.args.client c.args.id c.in-Some.found is c.as_slice.result.now
    c.in_ok-verdict.field-0 (c.as_slice.ensures.value ∙ c.in_ok-bytes.ensures.bytes) c.in_ok-verdict.ensures in
    reads-reserve g.S.Staging.obeys g.S.Staging.areas s _ _ c.args.staging.now c.get.new.self (Ok tt) (λ end. tt)
    (reads-one _ (Ok tt) _ _ c.in_ok-bytes.ensures.obeys) c.in_ok-bytes.ensures.areas (sound-stands v c.requires.sound)
    (λ ok held fit stand. exit-ready (record v { prepared = Judged c.in_ok-verdict.field-0 }) held c.args.client
    c.args.id
    stand ready)
