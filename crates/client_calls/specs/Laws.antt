-- What follows for a client's calls from the messages that were posted.
use Rattle.std.specs.Prelude.{◌≡◌, ◌⊎◌, List, ◌++◌}
use Rattle.std.specs.List.{AllByRecursion}
use Rattle.ucm_base.specs.declared.ids.CallNo.{CallNo}
use Rattle.pm_types.specs.declared.replies.Reply.{Reply}
use Rattle.client_calls.specs.Calls.{IsAnswered, IsBelow, Known, Posted, nothing_known}
use Rattle.client_calls.specs.Arrivals.{AreOf, MayCome}

-- before the first call, and whatever comes of the messages, all entries are theirs
abbrev pub EntriesArePosted : Type 0
EntriesArePosted =
    ((posts : List Posted) → AreOf posts nothing_known)
    × ((posts : List Posted) (known after : Known) → AreOf posts known → MayCome posts known after → AreOf posts after)

-- and they still are where more messages were posted
abbrev pub MoreMayBePosted : Type 0
MoreMayBePosted =
    (more posts : List Posted) (known : Known) → AreOf posts known → AreOf (more ++ posts) known

-- where the newest call is answered, nothing that isn't above it changes what is known
abbrev pub AnsweredStays : Type 0
AnsweredStays =
    (at : CallNo) (reply : Reply) (posts : List Posted) (known after : Known) → IsAnswered at reply known
    → AllByRecursion (λ p. (p.at ≡ at) ⊎ IsBelow p.at at) posts → MayCome posts known after → after ≡ known
