-- A node's state, as it is spelled.
use Rattle.std.specs.Prelude.{ℕ, ◌<◌, ◌≤◌, List, length, IfSome, Option, Some, None}
use Rattle.std.specs.List.{flat_map}
use Rattle.wire.specs.Fields.{u8_field, u16_field, u32_field, u64_field}
use Rattle.ucm_base.specs.Limits.{client_limit, cluster_limit, transfer_limit, line_limit, entry_limit}
use Rattle.pm_types.specs.declared.clusters.Extent.{Extent}
use Rattle.pm_types.specs.declared.history.Happened.{Happened}
use Rattle.pm_types.specs.declared.history.Happened.TheVariants.{Numbered, Unit as UnitAfter}
use Rattle.pm_types.specs.declared.history.Line.{Line}
use Rattle.pm_types.specs.declared.state.Kept.{Kept}
use Rattle.pm_types.specs.declared.state.StoredTransfer.{StoredTransfer}
use Rattle.pm_types.specs.declared.status.Phase.{Phase}
use Rattle.pm_types.specs.declared.transfers.Header.{Header}
use Rattle.pm_types.specs.NodeState.{SessionOf, phase_code}
use Rattle.pm_types.specs.Stored.{State}
use Rattle.event_codec.specs.Spelling.{◌⌢◌, ◌&◌, Any, HasBits, option_spelled, OptionFits, ManyFit, list_spelled, ListFits}
use Rattle.event_codec.specs.Calls.{call_name_spelled}
use Rattle.event_codec.specs.Clusters.{contents_spelled, ContentsFit, cluster_spelled, ClusterFits, change_spelled, ChangeFits}
use Rattle.event_codec.specs.Replies.{IsClient, call_no_spelled, CallNoFits, end_mark_spelled, EndMarkFits, outcome_spelled, reply_spelled, ReplyFits, status_spelled}

abbrev pub phase_spelled : Phase → List ℕ
phase_spelled phase = u8_field (phase_code phase)

-- id, client, size, received bytes, next counter and phase
abbrev pub header_spelled : Header → List ℕ
header_spelled h =
    u32_field h.id
    ⌢ u8_field h.client
    ⌢ u64_field h.size
    ⌢ u64_field h.received
    ⌢ u64_field h.next_counter
    ⌢ phase_spelled h.phase

abbrev pub HeaderFits : Header → Type 0
HeaderFits h =
    HasBits 32 h.id & IsClient h.client & HasBits 64 h.size & HasBits 64 h.received & HasBits 64 h.next_counter
    & Any h.phase

-- the header, the slot, and the parts from phase Transferred on
abbrev pub transfer_spelled : StoredTransfer → List ℕ
transfer_spelled t = header_spelled t.header ⌢ u8_field t.slot ⌢ contents_spelled t.contents

abbrev pub TransferFits : StoredTransfer → Type 0
TransferFits t = HeaderFits t.header & HasBits 8 t.slot & ContentsFit t.contents

-- the id in processing, or 0
abbrev pub id_or_0 : Option ℕ → ℕ
id_or_0 None = 0
id_or_0 (Some id) = id

-- an id isn't 0
abbrev pub IsId : ℕ → Type 0
IsId id = (0 < id) & HasBits 32 id

abbrev pub session_spelled : SessionOf Extent → List ℕ
session_spelled x =
    u8_field x.owner
    ⌢ u32_field x.tag
    ⌢ list_spelled cluster_spelled x.saved
    ⌢ list_spelled change_spelled x.changes
    ⌢ u32_field (id_or_0 x.processing)
    ⌢ u32_field x.units_done
    ⌢ u8_field x.verified
    ⌢ option_spelled outcome_spelled x.outcome

abbrev pub SessionFits : SessionOf Extent → Type 0
SessionFits x =
    IsClient x.owner
    & HasBits 32 x.tag
    & ListFits ClusterFits 255 x.saved
    & ListFits ChangeFits cluster_limit x.changes
    & OptionFits IsId x.processing
    & HasBits 32 x.units_done
    & HasBits 8 x.verified
    & OptionFits Any x.outcome

-- a client's last number, and the reply to it
abbrev pub kept_spelled : Kept → List ℕ
kept_spelled k = call_no_spelled k.no ⌢ reply_spelled k.reply

abbrev pub KeptFits : Kept → Type 0
KeptFits k = CallNoFits k.no & ReplyFits k.reply

-- 0, client, number, call and the refusal's number or 0; or 1 and the status
abbrev pub happened_spelled : Happened → List ℕ
happened_spelled (Numbered client call_no call refusal) =
    u8_field 0 ⌢ u8_field client ⌢ call_no_spelled call_no ⌢ call_name_spelled call ⌢ u8_field refusal
happened_spelled (UnitAfter status) = u8_field 1 ⌢ status_spelled status

abbrev pub HappenedFits : Happened → Type 0
HappenedFits (Numbered client call_no call refusal) =
    IsClient client & CallNoFits call_no & Any call & HasBits 8 refusal
HappenedFits (UnitAfter status) = Any status

abbrev pub line_spelled : Line → List ℕ
line_spelled line = u64_field line.place ⌢ happened_spelled line.happened

abbrev pub LineFits : Line → Type 0
LineFits line = HasBits 64 line.place & HappenedFits line.happened

-- a count of two bytes, and the lines
abbrev pub lines_spelled : List Line → List ℕ
lines_spelled lines = u16_field (length lines) ⌢ flat_map line_spelled lines

abbrev pub state_spelled : State → List ℕ
state_spelled s =
    status_spelled s.status
    ⌢ u32_field s.next_id
    ⌢ list_spelled cluster_spelled s.running
    ⌢ list_spelled transfer_spelled s.transfers
    ⌢ option_spelled session_spelled s.session
    ⌢ flat_map (option_spelled kept_spelled) s.last
    ⌢ flat_map (option_spelled end_mark_spelled) s.ended
    ⌢ u64_field s.entries
    ⌢ lines_spelled s.lines

abbrev pub StateFits : State → Type 0
StateFits s =
    Any s.status
    & HasBits 32 s.next_id
    & ListFits ClusterFits 255 s.running
    & ListFits TransferFits transfer_limit s.transfers
    & OptionFits SessionFits s.session
    & ManyFit (OptionFits KeptFits) client_limit s.last
    & ManyFit (OptionFits EndMarkFits) client_limit s.ended
    & (s.entries ≤ entry_limit)
    & ListFits LineFits line_limit s.lines

-- what has a spelling: counts of clusters in one byte, ids that aren't 0, and at most 2^60 entries
pub record HasSpelling (s : State) : Type 0 where
  pub running : length s.running ≤ 255
  pub saved : IfSome s.session (λ x. length x.saved ≤ 255)
  pub processing : IfSome s.session (λ x. IfSome x.processing (λ id. 0 < id))
  pub entries : s.entries ≤ entry_limit
