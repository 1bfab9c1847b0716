-- Records of a node's journal, as they are spelled.
use Rattle.std.specs.Prelude.{ℕ, ◌<◌, List, [], ◌∷◌, length, ⊤}
use Rattle.wire.specs.Fields.{u8_field, u32_field}
use Rattle.ucm_base.specs.declared.ids.CallNo.{CallNo}
use Rattle.ucm_base.specs.declared.parts.Part.{Part}
use Rattle.pm_types.specs.declared.replies.Reply.{Reply}
use Rattle.pm_types.specs.declared.replies.Reply.TheVariants.{Done, Refused}
use Rattle.event_codec.specs.declared.calls.StoredCall.{StoredCall}
use Rattle.event_codec.specs.declared.calls.StoredCall.TheVariants.{TransferExit}
use Rattle.event_codec.specs.declared.records.Record.{Record}
use Rattle.event_codec.specs.declared.records.Record.TheVariants.{Called, Exited, Worked}
use Rattle.event_codec.specs.Spelling.{◌⌢◌, ◌&◌, Any, HasBits, bool_spelled, list_spelled}
use Rattle.event_codec.specs.Calls.{call_spelled, CallFits}
use Rattle.event_codec.specs.Clusters.{part_spelled, ContentsFit}
use Rattle.event_codec.specs.Replies.{IsClient, call_no_spelled, CallNoFits, reply_spelled, ReplyFits, status_spelled}

-- client, number, call and reply
abbrev pub called_spelled : ℕ → CallNo → StoredCall → Reply → List ℕ
called_spelled client call_no call reply =
    u8_field client ⌢ call_no_spelled call_no ⌢ call_spelled call ⌢ reply_spelled reply

-- an accepted exit: of one part as a call, and then the part; of more client, number, id and the parts
abbrev pub exited_spelled : ℕ → CallNo → ℕ → List (Part ℕ) → List ℕ
exited_spelled client call_no id (part ∷ []) =
    u8_field 1 ⌢ called_spelled client call_no (TransferExit id) Done ⌢ part_spelled part
exited_spelled client call_no id parts =
    u8_field 3 ⌢ u8_field client ⌢ call_no_spelled call_no ⌢ u32_field id ⌢ list_spelled part_spelled parts

abbrev pub record_spelled : Record → List ℕ
record_spelled (Called client call_no call reply) = u8_field 1 ⌢ called_spelled client call_no call reply
record_spelled (Exited client call_no id parts) = exited_spelled client call_no id parts
record_spelled (Worked passed after) = u8_field 2 ⌢ bool_spelled passed ⌢ status_spelled after

-- an exit that is answered so is refused: the record of an accepted one has its parts
abbrev pub IsWithoutParts : StoredCall → Reply → Type 0
IsWithoutParts (TransferExit id) (Refused refusal) = ⊤
IsWithoutParts (TransferExit id) reply = ⊥
IsWithoutParts call reply = ⊤

-- a record of a kind that there is: an accepted exit has parts, and no other call has
abbrev pub IsOfAKind : Record → Type 0
IsOfAKind (Called client call_no call reply) = IsWithoutParts call reply
IsOfAKind (Exited client call_no id parts) = 0 < length parts
IsOfAKind (Worked passed after) = ⊤

abbrev pub FieldsFit : Record → Type 0
FieldsFit (Called client call_no call reply) = IsClient client & CallNoFits call_no & CallFits call & ReplyFits reply
FieldsFit (Exited client call_no id parts) = IsClient client & CallNoFits call_no & HasBits 32 id & ContentsFit parts
FieldsFit (Worked passed after) = Any passed & Any after

abbrev pub RecordFits : Record → Type 0
RecordFits r = IsOfAKind r & FieldsFit r
