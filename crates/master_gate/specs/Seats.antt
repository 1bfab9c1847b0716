-- Seats of the master's gate.
use Rattle.std.specs.Prelude.{◌≡◌, ℕ, List, [], ◌∷◌, length, Option, Some, None, IfSome, IsSome}
use mathlib.Core.List.{IsPrefix}
use Rattle.atomic_table.specs.Seated.{TableId}
use Rattle.turn_gate.specs.Known.{Known}
use Rattle.turn_gate.specs.Mine.{doubt_in}
use Rattle.turn_gate.specs.Parts.{numbers_of}
use Rattle.turn_gate.specs.declared.view.Fixed.{Fixed}
use Rattle.turn_gate.specs.declared.view.View.{View}
use Rattle.campaign_core.specs.declared.events.MasterEvent.{MasterEvent}
use Rattle.campaign_core.specs.declared.fold.Fold.{Fold}
use Rattle.campaign_core.specs.declared.views.CampaignState.{CampaignState}
use Rattle.campaign_core.specs.Campaign.{nothing_yet}
use Rattle.campaign_core.specs.Views.{state_of}
use Rattle.master_gate.specs.Adds.{Listing, listing}
use Rattle.master_gate.specs.Stands.{fold_after}
use Rattle.master_gate.specs.declared.opening.Opening.{Opening}

module _ {O : Type 0} where
  -- the seat is of this gate, which was made, and doesn't have the turn
  pub record IsSeat (gate : TableId) (s : Known MasterEvent O) : Type 0 where
    pub ours : s.gate ≡ gate
    pub rests : s.view.held ≡ None
    pub made : IsSome s.view.fixed

  -- the seat has the one part that the gate was made with
  pub record IsMasterSeat (gate : TableId) (s : Known MasterEvent O) : Type 0 where
    pub seat : IsSeat gate s
    pub all : IfSome s.view.fixed (λ f. f.all ≡ 0 ∷ [])
    pub part : numbers_of s.view.parts ≡ 0 ∷ []

  -- the seat may poll, and has no part
  pub record IsWatcher (gate : TableId) (s : Known MasterEvent O) : Type 0 where
    pub seat : IsSeat gate s
    pub no_part : s.view.parts ≡ []
    pub no_rises : s.view.rises ≡ 0

  -- what the seat has seen, and the event that may stand behind it or not
  abbrev pub listing_of : View MasterEvent O → Listing
  listing_of v = listing v.seen (doubt_in 0 v.parts)

abbrev pub fold_in : {D : Type 0} → Option (Fixed (Opening D)) → Fold
fold_in None = nothing_yet
fold_in (Some f) = f.opening.fold

-- the fold from which the list goes on; a seat's view always has one
abbrev pub opening_of : {D : Type 0} → View MasterEvent (Opening D) → Fold
opening_of v = fold_in v.fixed

-- some list that begins with all that was seen has this length, and shows this state
abbrev pub ShowsAt : {D : Type 0} → View MasterEvent (Opening D) → ℕ → CampaignState → Type 0
ShowsAt v place state =
    IfSome v.fixed (λ f. (list : List MasterEvent)
    × IsPrefix v.seen list × (length list ≡ place) × (state ≡ state_of (fold_after f.opening list)))
