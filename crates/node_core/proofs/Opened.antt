-- What is stored and ready, where the state is open.
use Rattle.node_core.proofs.Names.{Areas, Readied, State, ap, holding, ◌∙◌, ◌≡◌}

pub within : {r w : Readied} {s : State} → s ≡ r.state → r ≡ w → record r { state = s } ≡ w
within {r = r} opened same = ap (λ s. record r { state = s }) opened ∙ same

-- and over areas
pub held : {r w : Readied} {s : State} → s ≡ r.state → r ≡ w → (areas : Areas) → holding areas s ≡ holding areas w.state
held opened same areas = ap (λ (r : Readied). holding areas r.state) (within opened same)
