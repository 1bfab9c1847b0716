-- What messages leave of a client's calls on a node, in whatever order and however often they come.
use Rattle.std.specs.Prelude.{◌≡◌, ◌⊎◌, ⊤, List, [], ◌∷◌, ◌++◌, Option, Some, None}
use Rattle.std.specs.List.{AllByRecursion}
use Rattle.pm_types.specs.declared.replies.Reply.{Reply}
use Rattle.sub_core.specs.Made.{Made}
use Rattle.client_calls.specs.Calls.{AreBelow, Known, Posted, Rise, Settles, entry_of}

-- a message makes no entry, one, or one that is in doubt, under a number above all others
abbrev pub MayEnter : Posted → List Made → Known → Type 0
MayEnter p mine after =
    (after ≡ record { mine = mine; doubt = None })
    ⊎ ((reply : Reply) × AreBelow mine p.at × (after ≡ record { mine = mine ++ entry_of p reply ∷ []; doubt = None }))
    ⊎ ((reply : Reply) × AreBelow mine p.at × (after ≡ record { mine = mine; doubt = Some (entry_of p reply) }))

-- a message came, which settles what was in doubt, or it didn't come
abbrev pub MayArrive : Posted → Known → Known → Type 0
MayArrive p known after =
    (after ≡ known) ⊎ ((settled : List Made) × Settles known.doubt known.mine settled × MayEnter p settled after)

-- these came one after another
abbrev pub Arrived : List Posted → Known → Known → Type 0
Arrived [] known after = after ≡ known
Arrived (p ∷ ps) known after = (then : Known) × MayArrive p known then × Arrived ps then after

-- the message is one of these
abbrev pub IsAmong : Posted → List Posted → Type 0
IsAmong p [] = ⊥
IsAmong p (q ∷ qs) = (p ≡ q) ⊎ IsAmong p qs

-- messages among these came, in any order and any number of times
pub record MayCome (posts : List Posted) (known after : Known) : Type 0 where
  pub came : List Posted
  pub among : AllByRecursion (λ p. IsAmong p posts) came
  pub arrived : Arrived came known after

-- an entry is that of one of these messages
pub record IsOf (posts : List Posted) (m : Made) : Type 0 where
  pub post : Posted
  pub among : IsAmong post posts
  pub number : m.at ≡ post.at
  pub call : m.call ≡ post.call

-- the one in doubt is of one of these, and above all others
abbrev pub IsDoubtOf : List Posted → List Made → Option Made → Type 0
IsDoubtOf posts mine None = ⊤
IsDoubtOf posts mine (Some d) = IsOf posts d × AreBelow mine d.at

-- each entry is of one of these messages, at most one of each number, and so is the one in doubt
pub record AreOf (posts : List Posted) (known : Known) : Type 0 where
  pub each : AllByRecursion (IsOf posts) known.mine
  pub rise : Rise known.mine
  pub doubt : IsDoubtOf posts known.mine known.doubt
