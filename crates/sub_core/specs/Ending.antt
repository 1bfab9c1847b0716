-- Where the end phase is, by what was told.
use Rattle.std.specs.Prelude.{Bool, false, ◌||◌, if◌then◌else◌, List, [], ◌∷◌}
use Rattle.world.specs.Messages.{Told, Answered, Showed}
use Rattle.sub_core.specs.declared.answers.SendStep.{SendStep}
use Rattle.sub_core.specs.declared.progress.EndProgress.{EndProgress}
use Rattle.sub_core.specs.Driving.{at_status, end_after}

-- whether a message of the end phase was answered
abbrev pub has_end_answer : List Told → Bool
has_end_answer [] = false
has_end_answer (Answered m reply ∷ told) = m.decided || has_end_answer told
has_end_answer (Showed status ∷ told) = has_end_answer told

-- it begins with a Sync, and goes on by the newest answer
abbrev pub end_at : Bool → List Told → EndProgress
end_at commit [] = EndProgress.Call SendStep.Sync
end_at commit (Answered m reply ∷ told) =
    if m.decided then end_after commit m.at (end_at commit told) reply else EndProgress.Call SendStep.Sync
end_at commit (Showed status ∷ told) =
    if has_end_answer told then at_status commit status else EndProgress.Call SendStep.Sync
