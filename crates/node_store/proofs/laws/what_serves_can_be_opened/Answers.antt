use Rattle.std.proofs.Common.{◌≡◌, ℕ, List, Option, Some, None, refl, sym, ◌∙◌, ap, subst}
use Rattle.std.specs.Prelude.{IfSome, IsSome}
use Rattle.pm_types.specs.Stored.{State}
use Rattle.checkpoint.specs.Halves.{layout_2, layout_of}
use Rattle.event_log.specs.Holds.{StandsFor}
use Rattle.event_codec.specs.DecidingStates.{state_told}
use Rattle.slot_store.specs.Extents.{held_in, node_places}
use Rattle.node_core.specs.Core.{IsSound, holding}
use Rattle.node_recovery.specs.Images.{after_bytes, stored_in}
use Rattle.node_store.specs.Serving.{node_on}
use Rattle.node_store.proofs.laws.what_serves_can_be_opened.Goals as goal

any-some : {A : Type 0} (P : Type 0) (o : Option A) → P → IfSome o (λ a. P)
any-some P None p = tt
any-some P (Some a) p = p

-- halves 2 and 3
nodes_pair : layout_2 ≡ layout_of 2
unfolding layout_of
nodes_pair = refl

stands : (s : State) (image : List ℕ) → StandsFor state_told after_bytes layout_2 (Some s) image
    → StandsFor state_told after_bytes (layout_of 2) (Some s) image
stands s image is = subst (λ l. StandsFor state_told after_bytes l (Some s) image) nodes_pair is

pub returns-clause-can : goal.returns-clause-can
returns-clause-can c n image serves =
    let is = stands serves.0 image serves.1.log in
    let means : stored_in image ≡ Some serves.0 = is.means in record {
      recovers = record {
        opens = is.opens;
        allowed = any-some (IsSome (stored_in image)) _ (subst IsSome (sym means) refl);
      };
      extents = serves.1.node.extents;
      sound = subst (λ (o : Option State). IfSome o (λ s. IsSound (holding (held_in node_places image) s)))
          (sym means) serves.1.node.sound;
    }

pub returns-clause-node : goal.returns-clause-node
returns-clause-node c n image s serves found =
    let means : stored_in image ≡ Some serves.0 = (stands serves.0 image serves.1.log).means in
    let same : Some serves.0 ≡ Some s = sym means ∙ found in
    let one : serves.0 ≡ s = cc in
    ap (λ (t : State). node_on t image) (sym one) ∙ serves.1.node.node
