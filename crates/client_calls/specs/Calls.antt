-- What a client knows of its calls on a node.
use Rattle.std.specs.Prelude.{◌≡◌, ◌⊎◌, ◌<◌, ⊤, List, [], ◌∷◌, ◌++◌, Option, Some, None}
use Rattle.std.specs.List.{AllByRecursion}
use Rattle.ucm_base.specs.declared.ids.CallNo.{CallNo}
use Rattle.pm_types.specs.declared.calls.Call.{Call}
use Rattle.pm_types.specs.declared.replies.Reply.{Reply}
use Rattle.sub_core.specs.Made.{Made}

-- the client's entries, the oldest first, and the entry of which isn't known yet whether it stands
pub record Known : Type 0 where
  pub mine : List Made
  pub doubt : Option Made

-- before its first call
abbrev pub nothing_known : Known
nothing_known = record { mine = []; doubt = None }

-- a call under its number, as it is posted to the node
pub record Posted : Type 0 where
  pub at : CallNo
  pub call : Call

-- the entry of a posted call that was replied to so
abbrev pub entry_of : Posted → Reply → Made
entry_of p reply = record { at = p.at; call = p.call; reply = reply }

-- a number is below another: by epoch, then by number
abbrev pub IsBelow : CallNo → CallNo → Type 0
IsBelow a b = (a.epoch < b.epoch) ⊎ ((a.epoch ≡ b.epoch) × (a.number < b.number))

-- all of these have numbers below this one
abbrev pub AreBelow : List Made → CallNo → Type 0
AreBelow mine at = AllByRecursion (λ m. IsBelow m.at at) mine

-- the numbers rise
abbrev pub Rise : List Made → Type 0
Rise [] = ⊤
Rise (m ∷ ms) = AllByRecursion (λ n. IsBelow m.at n.at) ms × Rise ms

-- what was in doubt is the newest of the entries, or isn't among them
abbrev pub Settles : Option Made → List Made → List Made → Type 0
Settles None mine after = after ≡ mine
Settles (Some d) mine after = (after ≡ mine) ⊎ (after ≡ mine ++ d ∷ [])

-- the newest entry has this number and this reply, and nothing is in doubt
pub record IsAnswered (at : CallNo) (reply : Reply) (known : Known) : Type 0 where
  pub older : List Made
  pub newest : Made
  pub split : known.mine ≡ older ++ newest ∷ []
  pub number : newest.at ≡ at
  pub answer : newest.reply ≡ reply
  pub settled : known.doubt ≡ None
