-- The stage of the rounds in which a driver is.
use Rattle.std.specs.Prelude.{◌≡◌, ℕ, suc, ⊤, List, length, map, drop, Option, None}
use Rattle.pm_types.specs.declared.replies.Reply.{Reply}
use Rattle.world.specs.Rounds.{StageOf, AtSync, AtStart, AtData, Over, RefusedOnce, next_processed}
use Rattle.world.specs.RoundsBySize.{stage_by_size}
use Rattle.sub_core.specs.declared.answers.Finding.{Finding}
use Rattle.sub_core.specs.declared.answers.Got.{Got}
use Rattle.sub_core.specs.declared.answers.PackageSize.{PackageSize}
use Rattle.sub_core.specs.declared.answers.Todo.{Todo}
use Rattle.sub_core.specs.declared.progress.Progress.{Progress}
use Rattle.sub_core.specs.Given.{reply_got}
use Rattle.sub_core.specs.States.{DriverState}

abbrev pub sizes_of : List PackageSize → List ℕ
sizes_of steps = map (λ s. s.length) steps

-- the stage of the rounds, over lengths, in which a driver is
abbrev pub stage_seen : List PackageSize → List ℕ → Progress → StageOf ℕ
stage_seen steps ids Progress.Sync = AtSync
stage_seen steps ids Progress.Transfer = AtStart ids (drop (length ids) (sizes_of steps))
stage_seen steps ids (Progress.Data id counter left) =
    AtData ids id counter left (drop (suc (length ids)) (sizes_of steps))
stage_seen steps ids (Progress.Process taken settled) = next_processed (drop taken ids) taken
stage_seen steps ids (Progress.Voted (Finding.Refused call_no why)) = RefusedOnce
stage_seen steps ids _ = Over

abbrev pub StandsAt : List PackageSize → List ℕ → Progress → List Reply → Type 0
StandsAt steps ids (Progress.Ending commit at) replies = ⊤
StandsAt steps ids p replies = stage_by_size (sizes_of steps) AtSync replies ≡ stage_seen steps ids p

-- until the end begins, a driver is in the stage to which these replies lead
abbrev pub StandsFor : DriverState → List Reply → Type 0
StandsFor d replies = StandsAt d.steps d.ids d.progress replies

abbrev pub reply_to : Todo → Got → Option Reply
reply_to (Todo.Send call_no asked) got = reply_got asked got
reply_to _ got = None
