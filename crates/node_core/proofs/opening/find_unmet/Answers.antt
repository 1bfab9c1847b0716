use Rattle.node_core.proofs.Names.{Extent, SessionOf, State, ap, subst, sym, ◌∙◌}
use Rattle.node_core.proofs.Rising.{Rise, running-rises, saved-rises}
use Rattle.node_core.proofs.opening.find_unmet.Goals as goal

pub unmet_refusal-requires : goal.unmet_refusal-requires
unmet_refusal-requires c = record {
  rise = subst (λ (x : SessionOf Extent). Rise x.saved) (sym c.session.view_is)
      (saved-rises c.args.state.now c.in-Some.session c.requires.sound
      (ap (λ (s : State). s.session) (sym c.state.view_is) ∙ c.in-Some.is));
}

pub unmet_refusal-requires-in-None : goal.unmet_refusal-requires-in-None
unmet_refusal-requires-in-None c = record {
  rise = subst (λ (s : State). Rise s.running) (sym c.state.view_is)
      (running-rises c.args.state.now c.requires.sound);
}
