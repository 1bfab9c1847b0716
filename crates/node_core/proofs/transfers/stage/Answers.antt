use Rattle.node_core.proofs.Lists.{end-fault}
use Rattle.node_core.proofs.Names.{Holding, None, Ok, Some, State, ap, arith, data_refusals, first_refusal, found_of, holding, length, refl}
use Rattle.node_core.proofs.Names.{stored_header, subst, sym, ◌∙◌, ◌≡◌, ◌≢◌}
use Rattle.node_core.proofs.Reserved.{block-reserves, none-unless, nothing-reserves}
use Rattle.node_core.proofs.Runs.{writes-one}
use Rattle.node_core.proofs.Staging.{found-fits, found-lies, found-slot, put-left, refused-block}
use Rattle.node_core.proofs.transfers.stage.Goals as goal

pub returns-in_default-clause-reserves : goal.returns-in_default-clause-reserves
returns-in_default-clause-reserves g c =
    nothing-reserves g.S.Staging.obeys g.S.Staging.areas c.args.state.now _ (λ end. tt) c.requires.sound
    (λ held fit stand. refused-block (holding held c.args.state.now) c.args.client c.args.id c.args.counter
    c.args.block.now (subst (λ (s : State). first_refusal (data_refusals
    (stored_header s.transfers c.args.client c.args.id) c.args.counter (length c.args.block.now)) ≢ None)
    c.state.view_is (c.in_default.ensures.refused.0 refl)))

pub put-requires : goal.put-requires
put-requires g c =
    let v : Holding = holding (g.S.Staging.areas c.args.staging.now) c.args.state.now in
    let is : found_of c.args.state.now.transfers c.args.client c.args.id ≡ Some c.in-Some.found =
    ap (λ (s : State). found_of s.transfers c.args.client c.args.id) (sym c.state.view_is) ∙ c.in-Some.ensures.found in
    record {
      fit = c.requires.fit;
      area = found-slot v c.requires.sound c.args.client c.args.id c.in-Some.found is;
      at = found-lies v c.requires.sound c.args.client c.args.id c.in-Some.found is;
      fits =
          let size = found-fits v c.requires.sound c.args.client c.args.id c.in-Some.found is in
          let room = c.in-Some.ensures.fits in
          omega (arith, size, room);
    }

pub returns-in_err-put-clause-reserves : goal.returns-in_err-put-clause-reserves
returns-in_err-put-clause-reserves g c =
    let s = c.args.state.now in
    let same = ap (λ (s : State). found_of s.transfers c.args.client c.args.id) (sym c.state.view_is) in
    let accepted = ap (λ (s : State). first_refusal (data_refusals (stored_header s.transfers c.args.client c.args.id)
    c.args.counter (length c.args.block.now))) (sym c.state.view_is)
    ∙ none-unless _ (λ some. absurd (cc (c.in-Some.ensures.refused.1 some))) in
    let is : found_of s.transfers c.args.client c.args.id ≡ Some c.in-Some.found = same ∙ c.in-Some.ensures.found in
    rw (end-fault _ _ c.from_residual.ensures.1)
    (block-reserves g.S.Staging.obeys g.S.Staging.areas s c.args.staging.now c.put.new.self c.requires.sound
    c.args.client
    c.args.id c.args.counter c.args.block.now c.in-Some.found is c.in-Some.ensures.fits accepted _
    (g.met.S.Staging.areas_fit c.args.staging.now) (writes-one _ _ _ _ _ _ _ c.in_err-put.ensures.obeys)
    (λ e. absurd (cc e)) c.in_err-put.ensures.outside)

pub returns-clause-reserves : goal.returns-clause-reserves
returns-clause-reserves g c =
    let s = c.args.state.now in
    let same = ap (λ (s : State). found_of s.transfers c.args.client c.args.id) (sym c.state.view_is) in
    let accepted = ap (λ (s : State). first_refusal (data_refusals (stored_header s.transfers c.args.client c.args.id)
    c.args.counter (length c.args.block.now))) (sym c.state.view_is)
    ∙ none-unless _ (λ some. absurd (cc (c.in-Some.ensures.refused.1 some))) in
    let is : found_of s.transfers c.args.client c.args.id ≡ Some c.in-Some.found = same ∙ c.in-Some.ensures.found in
    let fit = g.met.S.Staging.areas_fit c.args.staging.now in
    block-reserves g.S.Staging.obeys g.S.Staging.areas s c.args.staging.now c.put.new.self c.requires.sound
    c.args.client c.args.id c.args.counter c.args.block.now c.in-Some.found is c.in-Some.ensures.fits accepted (Ok tt)
    fit (writes-one _ _ _ _ _ _ _ c.in_ok-put.ensures.obeys) (λ e. c.in_ok-put.ensures.put)
    (rw c.in_ok-put.ensures.put (put-left (holding (g.S.Staging.areas c.args.staging.now) s) c.requires.sound
    c.args.client c.args.id c.in-Some.found is fit c.args.block.now))
