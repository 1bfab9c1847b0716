-- How a doubt is settled.
use Rattle.std.specs.Prelude.{not, ◌==◌, ◌&&◌, if◌then◌else◌}
use Rattle.event_log.specs.declared.log.Log.{Log}
use Rattle.event_log.specs.declared.revive.Revived.{Revived}
use Rattle.event_log.specs.declared.revive.Revived.TheVariants.{Stood, Lost}

-- the event stood where the same half counts, with other records than before
abbrev pub settles : Log → Log → Revived
settles before found =
    if (found.generation == before.generation) && not (found.used == before.used) then Stood else Lost
