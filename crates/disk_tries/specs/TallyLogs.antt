-- What is known of a tally's disk, and what a call does.
use Rattle.std.specs.Prelude.{◌≡◌, ℕ, List, Option, Some, None, IsSome}
use Rattle.disk_core.specs.Images.{EachImage, Only}
use Rattle.event_log.specs.Holds.{Holds}
use Rattle.event_log.specs.Doubts.{InDoubt, of_event}
use Rattle.event_log.specs.declared.log.Log.{Log}
use Rattle.event_log.specs.declared.revive.Revived.{Revived}
use Rattle.event_log.specs.declared.revive.Revived.TheVariants.{Stood, Lost}
use Rattle.disk_tries.specs.Tallies.{tally_of, with_note}
use Rattle.disk_tries.specs.declared.tally.Tally.{Tally}
use Rattle.disk_tries.specs.declared.tally_log.Answer.{Answer}
use Rattle.disk_tries.specs.declared.tally_log.Answer.TheVariants.{Added, Refused, NoReply, OutOfMemory}

-- with nothing pending each image stands for the tally; else a note is in doubt behind it
abbrev pub Knows : List ℕ → (List ℕ → Type 0) → Log → Tally → Option (List ℕ) → Type 0
Knows seen images log tally None = EachImage images (Holds tally_of with_note log (Some tally)) × Only seen images
Knows seen images log tally (Some note) =
    IsSome (with_note tally note) × EachImage images (InDoubt tally_of with_note log (of_event with_note tally note))

-- the tally and the pending note after this answer to a note
abbrev pub Answers : Answer → Tally → List ℕ → Tally → Option (List ℕ) → Type 0
Answers Added tally note now pending = (Some now ≡ with_note tally note) × (pending ≡ None)
Answers Refused tally note now pending = (with_note tally note ≡ None) × (now ≡ tally) × (pending ≡ None)
Answers NoReply tally note now pending = IsSome (with_note tally note) × (now ≡ tally) × (pending ≡ Some note)
Answers OutOfMemory tally note now pending = IsSome (with_note tally note) × (now ≡ tally) × (pending ≡ None)

-- the tally that a doubt ended in
abbrev pub Ends : Revived → Tally → List ℕ → Tally → Type 0
Ends Stood tally note now = Some now ≡ with_note tally note
Ends Lost tally note now = now ≡ tally
