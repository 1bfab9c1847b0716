-- What is printed of the answer to a query.
use Rattle.std.specs.Prelude.{ℕ, ◌+◌, List, ◌++◌, codes}
use Rattle.std.specs.Fmt.{decimal}
use Rattle.std.specs.List.{flat_map}
use Rattle.pm_types.specs.declared.history.Line.{Line}
use Rattle.pm_types.specs.declared.queries.Answer.{Answer}
use Rattle.pm_types.specs.declared.queries.Answer.TheVariants.{Status as StatusIs, Clusters, Changes, Packages, Progress, Refused, History}
use Rattle.pm_types.specs.declared.replies.Reply.TheVariants.{Refused as RefusedReply}
use Rattle.pm_types.specs.Printed.{change_text, cluster_text, happened_text, package_text}
use Rattle.pm_types.specs.Text.{reply_text, status_text}

-- a text behind a blank
abbrev pub spaced : List ℕ → List ℕ
spaced text = codes " " ++ text

-- a line's time is the start time and its place
abbrev pub history_text : ℕ → Line → List ℕ
history_text start line = decimal (start + line.place) ++ codes "/" ++ happened_text line.happened

-- the answer to a query, where the first place has this time
abbrev pub answer_text : ℕ → Answer → List ℕ
answer_text start (StatusIs status) = codes "Status " ++ status_text status
answer_text start (Clusters clusters) = codes "Clusters" ++ flat_map (λ c. spaced (cluster_text c)) clusters
answer_text start (Changes changes) = codes "Changes" ++ flat_map (λ c. spaced (change_text c)) changes
answer_text start (Packages packages) = codes "Packages" ++ flat_map (λ p. spaced (package_text p)) packages
answer_text start (Progress percent) = codes "Progress " ++ decimal percent
answer_text start (Refused refusal) = reply_text (RefusedReply refusal)
answer_text start (History lines) = codes "History" ++ flat_map (λ line. spaced (history_text start line)) lines
