-- The numbers of earlier campaigns.
use Rattle.std.specs.Prelude.{◌≡◌, ℕ, ◌≤◌, nat_lt, Bool, List, length, take}
use Rattle.std.specs.List.{list_all}
use Rattle.campaign_core.specs.declared.events.CampaignResult.{CampaignResult}

-- every earlier campaign has a lower number
abbrev pub all_below : ℕ → List (ℕ × CampaignResult) → Bool
all_below k earlier = list_all (λ e. nat_lt e.0 k) earlier

-- a number from 1 on is above those of all earlier campaigns exactly where it is above this one
abbrev pub IsHighest : ℕ → List (ℕ × CampaignResult) → Type 0
IsHighest highest earlier = (k : ℕ) → 1 ≤ k → all_below k earlier ≡ nat_lt highest k

-- the first of these campaigns
abbrev pub IsFront : List (ℕ × CampaignResult) → List (ℕ × CampaignResult) → Type 0
IsFront first all = first ≡ take (length first) all
