-- What a node's history did to the sessions of one campaign.
use Rattle.std.specs.Prelude.{◌≡◌, ℕ, Bool, false, ◌&&◌, ◌||◌, if◌then◌else◌, nat_eq, option_and_then, List, [], ◌∷◌, Option, Some}
use Rattle.std.specs.List.{AllByRecursion}
use Rattle.std.specs.Option.{option_map_or}
use Rattle.ucm_base.specs.Parts.{Bytes}
use Rattle.pm_types.specs.declared.calls.Call.{Call}
use Rattle.pm_types.specs.declared.calls.Call.TheVariants.{ProcessSwPackage}
use Rattle.pm_types.specs.declared.clusters.Cluster.{Cluster}
use Rattle.ucm_base.specs.declared.parts.Part.{Part}
use Rattle.pm_types.specs.declared.history.Entry.{Entry}
use Rattle.pm_types.specs.declared.history.Entry.TheVariants.{Numbered, Unit as UnitDone}
use Rattle.pm_types.specs.declared.status.Outcome.{Outcome}
use Rattle.pm_types.specs.declared.status.Outcome.TheVariants.{New}
use Rattle.pm_types.specs.declared.status.Status.TheVariants.{Idle, CleaningUp}
use Rattle.pm_types.specs.NodeState.{NodeState}
use Rattle.pm_types.specs.Histories.{Reading, after_entry}
use Rattle.world.specs.Messages.{is_done, is_status}
use Rattle.world.specs.Words.{RunsNew}

-- a span that has ended: its outcome, the clusters that it saved as it began, and those that it left
pub record Span : Type 0 where
  pub outcome : Option Outcome
  pub saved : List (Cluster Bytes)
  pub left : List (Cluster Bytes)

-- the spans of one tag: whether one is open, and those that have ended, the newest first
pub record Spans : Type 0 where
  pub is_open : Bool
  pub ended : List Span

abbrev pub has_tag : ℕ → Call → Bool
has_tag k (ProcessSwPackage id tag) = nat_eq tag k
has_tag k _ = false

-- a span begins with an accepted ProcessSwPackage of client 0 with this tag in Idle
abbrev pub begins : ℕ → NodeState → Entry → Bool
begins k s (Numbered client at call reply) =
    nat_eq client 0 && (has_tag k call && (is_status s.status Idle && is_done reply))
begins k s (UnitDone passed after) = false

-- and ends with the unit in CleaningUp
abbrev pub ends : NodeState → Entry → Bool
ends s (Numbered client at call reply) = false
ends s (UnitDone passed after) = is_status s.status CleaningUp

-- the span of the session in a state, where this state follows
abbrev pub span_of : NodeState → NodeState → Span
span_of s t = record {
  outcome = option_and_then (λ x. x.outcome) s.session;
  saved = option_map_or (λ x. x.saved) s.session [];
  left = t.running;
}

abbrev pub span_step : ℕ → NodeState → NodeState → Entry → Spans → Spans
span_step k s t e x =
    if ends s e && x.is_open
    then record { is_open = false; ended = span_of s t ∷ x.ended }
    else record { is_open = x.is_open || begins k s e; ended = x.ended }

abbrev pub spans_from : Reading → ℕ → NodeState → List Entry → Spans → Spans
spans_from read k s [] x = x
spans_from read k s (e ∷ es) x = spans_from read k (after_entry read s e) es (span_step k s (after_entry read s e) e x)

-- the spans tagged k of a history
abbrev pub spans : Reading → ℕ → NodeState → List Entry → Spans
spans read k s es = spans_from read k s es (record { is_open = false; ended = [] })

-- exactly one span, which ended as New; after it each cluster of the parts is as they leave it,
-- and every other as it was saved
pub record IsNew (read : Reading) (k : ℕ) (parts : List (Part Bytes)) (s : NodeState) (es : List Entry) : Type 0 where
  pub span : Span
  pub only : spans read k s es ≡ record { is_open = false; ended = span ∷ [] }
  pub outcome : span.outcome ≡ Some New
  pub runs : RunsNew parts span.saved span.left

-- every span has ended and left the clusters that it saved
pub record IsOld (read : Reading) (k : ℕ) (s : NodeState) (es : List Entry) : Type 0 where
  pub closed : (spans read k s es).is_open ≡ false
  pub same : AllByRecursion (λ span. span.left ≡ span.saved) (spans read k s es).ended
