-- A state that fits has a spelling.
use Rattle.std.proofs.Common.{ℕ, ◌<◌, ◌≤◌, length, Option, Some, None}
use Rattle.std.specs.Prelude.{IfSome}
use Rattle.pm_types.specs.declared.clusters.Extent.{Extent}
use Rattle.pm_types.specs.NodeState.{SessionOf}
use Rattle.pm_types.specs.Stored.{State}
use Rattle.event_codec.specs.Spelling.{OptionFits}
use Rattle.event_codec.specs.States.{IsId, SessionFits, StateFits, HasSpelling}

id_is : (o : Option ℕ) → OptionFits IsId o → IfSome o (λ id. 0 < id)
id_is None f = tt
id_is (Some id) f = f.0

saved_few : (o : Option (SessionOf Extent)) → OptionFits SessionFits o → IfSome o (λ x. length x.saved ≤ 255)
saved_few None f = tt
saved_few (Some x) f = f.1.1.0.0

processing_is : (o : Option (SessionOf Extent)) → OptionFits SessionFits o
    → IfSome o (λ x. IfSome x.processing (λ id. 0 < id))
processing_is None f = tt
processing_is (Some x) f = id_is x.processing f.1.1.1.1.0

pub has_spelling : (s : State) → StateFits s → HasSpelling s
has_spelling s f = record {
  running = f.1.1.0.0;
  saved = saved_few s.session f.1.1.1.1.0;
  processing = processing_is s.session f.1.1.1.1.0;
  entries = f.1.1.1.1.1.1.1.0;
}
