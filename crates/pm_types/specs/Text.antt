-- What is printed of a node's answers.
use Rattle.std.specs.Prelude.{ℕ, List, [], ◌∷◌, ◌++◌, codes, Option, Some, None}
use Rattle.std.specs.Fmt.{decimal}
use Rattle.ucm_base.specs.Text.{call_no_text}
use Rattle.pm_types.specs.declared.status.Status.{Status}
use Rattle.pm_types.specs.declared.status.Status.TheVariants.{Idle, Ready, Processing, Activating, Verifying, Activated, RollingBack, RolledBack, CleaningUp}
use Rattle.pm_types.specs.declared.status.Outcome.{Outcome}
use Rattle.pm_types.specs.declared.status.Outcome.TheVariants.{New, Old}
use Rattle.pm_types.specs.declared.replies.EndMark.{EndMark}
use Rattle.pm_types.specs.declared.replies.Reached.{Reached}
use Rattle.pm_types.specs.declared.replies.Reached.TheVariants.{Done as Answered, Again, Stale}
use Rattle.pm_types.specs.declared.replies.Refusal.{Refusal}
use Rattle.pm_types.specs.declared.replies.Refusal.TheVariants.{InsufficientMemory, IncorrectSize, InvalidTransferId, OperationNotPermitted, IncorrectBlock, InsufficientData, PackageInconsistent, InvalidManifest, ServiceBusy, OldVersion, MissingDependencies, ActionNotApplicable, TooManyClusters, ClusterAlreadyChanged}
use Rattle.pm_types.specs.declared.replies.Reply.{Reply}
use Rattle.pm_types.specs.declared.replies.Reply.TheVariants.{Done, Started, Synced as SyncedTo, Refused}
use Rattle.pm_types.specs.declared.replies.SessionMark.{SessionMark}
use Rattle.pm_types.specs.declared.replies.Synced.{Synced}
use Rattle.pm_types.specs.Refusals.{refusal_code}

-- the status, with a `k` before it
abbrev pub status_text : Status → List ℕ
status_text Idle = codes "kIdle"
status_text Ready = codes "kReady"
status_text Processing = codes "kProcessing"
status_text Activating = codes "kActivating"
status_text Verifying = codes "kVerifying"
status_text Activated = codes "kActivated"
status_text RollingBack = codes "kRollingBack"
status_text RolledBack = codes "kRolledBack"
status_text CleaningUp = codes "kCleaningUp"

abbrev pub outcome_text : Outcome → List ℕ
outcome_text New = codes "New"
outcome_text Old = codes "Old"

-- the refusal's name, and what it carries
abbrev pub refusal_text : Refusal → List ℕ
refusal_text InsufficientMemory = codes "InsufficientMemory"
refusal_text IncorrectSize = codes "IncorrectSize"
refusal_text InvalidTransferId = codes "InvalidTransferId"
refusal_text OperationNotPermitted = codes "OperationNotPermitted"
refusal_text IncorrectBlock = codes "IncorrectBlock"
refusal_text InsufficientData = codes "InsufficientData"
refusal_text (PackageInconsistent place) = codes "PackageInconsistent " ++ decimal place
refusal_text InvalidManifest = codes "InvalidManifest"
refusal_text ServiceBusy = codes "ServiceBusy"
refusal_text OldVersion = codes "OldVersion"
refusal_text (MissingDependencies cluster needed req) =
    codes "MissingDependencies " ++ cluster ++ codes " " ++ needed ++ codes "@" ++ req
refusal_text ActionNotApplicable = codes "ActionNotApplicable"
refusal_text TooManyClusters = codes "TooManyClusters"
refusal_text ClusterAlreadyChanged = codes "ClusterAlreadyChanged"

-- the session's owner, tag and status
abbrev pub session_text : SessionMark → List ℕ
session_text x = decimal x.owner ++ codes ":" ++ decimal x.tag ++ codes ":" ++ status_text x.status

-- the ended session's tag and outcome
abbrev pub ended_text : EndMark → List ℕ
ended_text e = decimal e.tag ++ codes ":" ++ outcome_text e.outcome

-- a dash where there is nothing
abbrev pub or_dash : {X : Type 0} → (X → List ℕ) → Option X → List ℕ
or_dash text None = codes "-"
or_dash text (Some x) = text x

-- the same, of what may have no known text
abbrev pub output_or_dash : {X : Type 0} → (X → Option (List ℕ)) → Option X → Option (List ℕ)
output_or_dash output None = Some (codes "-")
output_or_dash output (Some x) = output x

-- the ids, each behind a comma
abbrev pub more_ids_text : List ℕ → List ℕ
more_ids_text [] = []
more_ids_text (id ∷ ids) = codes "," ++ decimal id ++ more_ids_text ids

-- the ids, joined by commas, or a dash where there is none
abbrev pub ids_text : List ℕ → List ℕ
ids_text [] = codes "-"
ids_text (id ∷ ids) = decimal id ++ more_ids_text ids

abbrev pub synced_text : Synced → List ℕ
synced_text x = codes "Synced " ++ or_dash session_text x.session ++ codes " " ++ or_dash ended_text x.ended
    ++ codes " " ++ ids_text x.transfers

abbrev pub reply_text : Reply → List ℕ
reply_text Done = codes "Done"
reply_text (Started id) = codes "Started " ++ decimal id
reply_text (SyncedTo x) = synced_text x
reply_text (Refused refusal) = codes "Refused " ++ decimal (refusal_code refusal) ++ codes " " ++ refusal_text refusal

-- what a call gave
abbrev pub reached_text : Reached → List ℕ
reached_text (Answered reply) = reply_text reply
reached_text (Again reply) = codes "Again " ++ reply_text reply
reached_text (Stale last) = codes "Stale " ++ call_no_text last
