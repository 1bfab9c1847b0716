-- Where a campaign is cancelled, and what the cancel line says.
use Rattle.std.specs.Prelude.{◌≡◌, Bool, true, false, not, ◌&&◌, ◌||◌, if◌then◌else◌, IsTrue, ⊤, List, [], ◌∷◌, Option, Some, None, Ok, Err, Result, is_none}
use Rattle.std.specs.List.{list_any}
use Rattle.std.specs.Option.{option_map_or}
use Rattle.campaign_core.specs.declared.events.CampaignRefusal.{CampaignRefusal}
use Rattle.campaign_core.specs.declared.events.CampaignRefusal.TheVariants.{OperationNotPermitted}
use Rattle.campaign_core.specs.declared.events.MasterEvent.{MasterEvent}
use Rattle.campaign_core.specs.declared.events.MasterEvent.TheVariants.{Start, Begin, PhaseTo, VoteOf, CancelAsked, Decide, EndedAt}
use Rattle.campaign_core.specs.declared.events.Phase.{Phase}
use Rattle.campaign_core.specs.declared.fold.Current.{Current}
use Rattle.campaign_core.specs.declared.fold.Fold.{Fold}
use Rattle.campaign_core.specs.Campaign.{nothing_yet, after_event, is_activating}
use Rattle.campaign_core.specs.Nodes.{all_flagged}
use Rattle.run_script.specs.declared.lines.Point.{Point}
use Rattle.run_script.specs.declared.lines.Point.TheVariants.{Syncing, InPhase, Voted, Decided}
use Rattle.run_claim.specs.Masters.{has_decision}

-- whether both are the same phase
abbrev pub is_phase : Phase → Phase → Bool
is_phase Phase.Transferring Phase.Transferring = true
is_phase Phase.Processing Phase.Processing = true
is_phase Phase.Activating Phase.Activating = true
is_phase _ _ = false

-- every named node has voted, in Activating
abbrev pub all_voted : Current → Bool
all_voted c = is_activating c.phase && all_flagged (λ v. not (is_none v)) c.named.flags c.votes

-- whether an event, after which this is the fold, begins the point
abbrev pub begins_point : Point → Fold → MasterEvent → Bool
begins_point Syncing f (Begin _ _) = true
begins_point (InPhase p) f (PhaseTo q) = is_phase p q
begins_point Voted f (VoteOf _ _) = option_map_or all_voted f.current false
begins_point Decided f (Decide _) = true
begins_point _ f e = false

-- whether an event asks for the cancel
abbrev pub is_asked : MasterEvent → Bool
is_asked CancelAsked = true
is_asked _ = false

-- whether the cancel was asked
abbrev pub has_asked : List MasterEvent → Bool
has_asked list = list_any is_asked list

-- whether an event is a Start
abbrev pub is_start : MasterEvent → Bool
is_start (Start _) = true
is_start _ = false

-- whether the point is Decided
abbrev pub is_decided : Option Point → Bool
is_decided (Some Decided) = true
is_decided _ = false

-- whether the point, which isn't Decided, begins at this event
abbrev pub asks_after : Option Point → Fold → MasterEvent → Bool
asks_after None f e = false
asks_after (Some Decided) f e = false
asks_after (Some point) f e = begins_point point f e

-- after the record that begins the point comes CancelAsked or a Start, and CancelAsked comes nowhere else;
-- `due` tells whether the event before began the point
abbrev pub is_cancelled_from : Bool → Option Point → Fold → List MasterEvent → Bool
is_cancelled_from due point f [] = true
is_cancelled_from due point f (e ∷ es) =
    (if due then is_asked e || is_start e else not (is_asked e))
    && is_cancelled_from (asks_after point (after_event f e) e) point (after_event f e) es

-- the cancel is asked where the point begins, and nowhere else
abbrev pub is_cancelled_at : Option Point → List MasterEvent → Bool
is_cancelled_at point list = is_cancelled_from false point nothing_yet list

-- whether the cancel line says Done
abbrev pub says_done : Option (Result ⊤ CampaignRefusal) → Bool
says_done (Some (Ok _)) = true
says_done _ = false

-- whether it says OperationNotPermitted
abbrev pub says_refused : Option (Result ⊤ CampaignRefusal) → Bool
says_refused (Some (Err OperationNotPermitted)) = true
says_refused _ = false

-- what follows a Decide: nothing, an end of a node, or another record
abbrev pub ends_after_decision : List MasterEvent → Bool
ends_after_decision [] = false
ends_after_decision (Decide _ ∷ EndedAt _ _ ∷ es) = true
ends_after_decision (e ∷ es) = ends_after_decision es

-- whether Decide is the last record
abbrev pub decision_is_last : List MasterEvent → Bool
decision_is_last [] = false
decision_is_last (Decide _ ∷ []) = true
decision_is_last (e ∷ es) = decision_is_last es

-- the cancel of a campaign, by its list and by whether failed appends ended the run
pub record CancelFits (point : Option Point) (list : List MasterEvent) (ended_by_master : Bool)
    (line : Option (Result ⊤ CampaignRefusal)) : Type 0 where
  pub asked : IsTrue (is_cancelled_at point list)
  pub done : says_done line ≡ has_asked list
  pub kinds : IsTrue (is_none line || (says_done line || says_refused line))
  pub refused : IsTrue (says_refused line) → IsTrue (is_decided point && has_decision list)
  pub always : IsTrue (is_decided point && (ends_after_decision list || (decision_is_last list && not ended_by_master)))
      → IsTrue (says_refused line)
