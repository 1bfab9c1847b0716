-- Calls and replies, as they are spelled.
use Rattle.std.specs.Prelude.{ℕ, ◌<◌, List, [], ⊤}
use Rattle.wire.specs.Fields.{u8_field, u32_field, u64_field}
use Rattle.ucm_base.specs.declared.ids.CallNo.{CallNo}
use Rattle.ucm_base.specs.Limits.{client_limit, transfer_limit}
use Rattle.pm_types.specs.declared.replies.EndMark.{EndMark}
use Rattle.pm_types.specs.declared.replies.Refusal.{Refusal}
use Rattle.pm_types.specs.declared.replies.Refusal.TheVariants.{PackageInconsistent, MissingDependencies}
use Rattle.pm_types.specs.declared.replies.Reply.{Reply}
use Rattle.pm_types.specs.declared.replies.Reply.TheVariants.{Done, Started, Synced as SyncedTo, Refused}
use Rattle.pm_types.specs.declared.replies.SessionMark.{SessionMark}
use Rattle.pm_types.specs.declared.replies.Synced.{Synced}
use Rattle.pm_types.specs.declared.status.Status.{Status}
use Rattle.pm_types.specs.declared.status.Outcome.{Outcome}
use Rattle.pm_types.specs.declared.status.Outcome.TheVariants.{New, Old}
use Rattle.pm_types.specs.NodeState.{status_code}
use Rattle.pm_types.specs.Refusals.{refusal_code}
use Rattle.event_codec.specs.Spelling.{◌⌢◌, ◌&◌, Any, HasBits, option_spelled, OptionFits, list_spelled, ListFits}
use Rattle.event_codec.specs.Texts.{text_spelled, IsName, IsShort}

abbrev pub IsClient : ℕ → Type 0
IsClient n = n < client_limit

abbrev pub status_spelled : Status → List ℕ
status_spelled s = u8_field (status_code s)

abbrev pub outcome_code : Outcome → ℕ
outcome_code New = 0
outcome_code Old = 1

abbrev pub outcome_spelled : Outcome → List ℕ
outcome_spelled o = u8_field (outcome_code o)

-- epoch and number
abbrev pub call_no_spelled : CallNo → List ℕ
call_no_spelled call_no = u32_field call_no.epoch ⌢ u32_field call_no.number

abbrev pub CallNoFits : CallNo → Type 0
CallNoFits call_no = HasBits 32 call_no.epoch & HasBits 32 call_no.number

-- owner, tag and status
abbrev pub session_mark_spelled : SessionMark → List ℕ
session_mark_spelled m = u8_field m.owner ⌢ u32_field m.tag ⌢ status_spelled m.status

abbrev pub SessionMarkFits : SessionMark → Type 0
SessionMarkFits m = IsClient m.owner & HasBits 32 m.tag & Any m.status

-- tag and outcome
abbrev pub end_mark_spelled : EndMark → List ℕ
end_mark_spelled m = u32_field m.tag ⌢ outcome_spelled m.outcome

abbrev pub EndMarkFits : EndMark → Type 0
EndMarkFits m = HasBits 32 m.tag & Any m.outcome

-- the session, how the client's last one ended, and the ids of its transfers
abbrev pub synced_spelled : Synced → List ℕ
synced_spelled x =
    option_spelled session_mark_spelled x.session
    ⌢ option_spelled end_mark_spelled x.ended
    ⌢ list_spelled u32_field x.transfers

abbrev pub SyncedFits : Synced → Type 0
SyncedFits x =
    OptionFits SessionMarkFits x.session
    & OptionFits EndMarkFits x.ended
    & ListFits (HasBits 32) transfer_limit x.transfers

-- what a refusal carries
abbrev pub details_spelled : Refusal → List ℕ
details_spelled (PackageInconsistent place) = u64_field place
details_spelled (MissingDependencies cluster needed req) = text_spelled cluster ⌢ text_spelled needed ⌢ text_spelled req
details_spelled _ = []

-- the refusal's number, and what it carries
abbrev pub refusal_spelled : Refusal → List ℕ
refusal_spelled r = u8_field (refusal_code r) ⌢ details_spelled r

abbrev pub RefusalFits : Refusal → Type 0
RefusalFits (PackageInconsistent place) = HasBits 64 place
RefusalFits (MissingDependencies cluster needed req) = IsName cluster & IsName needed & IsShort req
RefusalFits _ = ⊤

abbrev pub reply_spelled : Reply → List ℕ
reply_spelled Done = u8_field 0
reply_spelled (Started id) = u8_field 1 ⌢ u32_field id
reply_spelled (SyncedTo x) = u8_field 2 ⌢ synced_spelled x
reply_spelled (Refused r) = u8_field 3 ⌢ refusal_spelled r

abbrev pub ReplyFits : Reply → Type 0
ReplyFits Done = ⊤
ReplyFits (Started id) = HasBits 32 id
ReplyFits (SyncedTo x) = SyncedFits x
ReplyFits (Refused r) = RefusalFits r
