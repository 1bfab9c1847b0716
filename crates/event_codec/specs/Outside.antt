-- Bytes that no value is in front of.
use Rattle.std.proofs.Common.{◌≡◌, ℕ, Bool, true, false, cond, List, [], ◌∷◌, ◌++◌, Some, None, Ok, Err, refl, sym, subst, ◌∙◌, ap, append_assoc, arith}
use Rattle.std.specs.Prelude.{⊤}
use Rattle.wire.specs.Fields.{u8_field, u32_field, u64_field}
use Rattle.ucm_base.specs.declared.ids.CallNo.{CallNo}
use Rattle.pm_types.specs.declared.history.Happened.TheVariants.{Numbered, Unit as UnitAfter}
use Rattle.pm_types.specs.declared.replies.Reply.{Reply}
use Rattle.pm_types.specs.declared.replies.Reply.TheVariants.{Done}
use Rattle.event_codec.specs.declared.calls.StoredCall.{StoredCall}
use Rattle.event_codec.specs.declared.calls.StoredCall.TheVariants.{TransferData, TransferExit, ProcessSwPackage}
use Rattle.event_codec.specs.declared.clusters.Several.{Several}
use Rattle.event_codec.specs.declared.records.Record.TheVariants.{Called, Exited, Worked}
use Rattle.event_codec.specs.Spelling.{◌⌢◌, ◌&◌, Any, HasBits, IsOutside, pair_spelled, PairFits, bool_spelled, list_spelled}
use Rattle.event_codec.specs.Texts.{text_spelled}
use Rattle.event_codec.specs.Calls.{call_spelled, CallFits, call_name_spelled}
use Rattle.event_codec.specs.Clusters.{part_spelled, PartFits, contents_spelled, ContentsFit, SeveralFit}
use Rattle.event_codec.specs.Replies.{IsClient, call_no_spelled, CallNoFits, status_spelled}
use Rattle.event_codec.specs.Records.{record_spelled, RecordFits, IsWithoutParts}
use Rattle.event_codec.specs.States.{happened_spelled, HappenedFits}
use Rattle.event_codec.specs.Unique.{parted, apart, unique-text}
use Rattle.event_codec.specs.UniqueRecords.{Fields, fields_spelled, FieldsAreFit, unique-fields}

-- a text that fails the test is no text that passes it
pub no_text : (test : List ℕ → Bool) (text rest bytes : List ℕ) → bytes ≡ text_spelled text ++ rest → test text ≡ false
    → IsOutside text_spelled (λ t. test t ≡ true) bytes
no_text test text rest bytes e fails v others f m =
    let same = ((unique-text {P = λ t. ⊤}).one text v rest others tt tt (sym e ∙ m)).0 in
    let yes : test text ≡ true = ap test same ∙ f in
    absurd (cc)

pub refused : {X E : Type 0} (b : Bool) (x : X) (e f : E) → cond b (Ok x) (Err e) ≡ Err f → b ≡ false
refused false x e f is = refl
refused true x e f is = absurd (cc)

pub not_there : {X : Type 0} (b : Bool) (x : X) → cond b (Some x) None ≡ None → b ≡ false
not_there false x is = refl
not_there true x is = absurd (cc)

-- where no fields of a call's record are, there is no such record
pub no_fields : (bytes : List ℕ) → IsOutside fields_spelled FieldsAreFit bytes
    → IsOutside record_spelled RecordFits (1 ∷ bytes)
no_fields bytes out (Called c n call reply) rest f e = out (c, (n, (call, reply))) rest f.1 (parted e).1
no_fields bytes out (Exited c n id (p ∷ [])) rest f e =
    let t : Fields = (c, (n, (TransferExit id, Done))) in
    out t (part_spelled p ++ rest) (f.1.0, (f.1.1.0, (f.1.1.1.0, tt))) ((parted e).1
    ∙ append_assoc (fields_spelled t) (part_spelled p) rest)
no_fields bytes out (Exited c n id []) rest f e = absurd (omega (arith, f.0))
no_fields bytes out (Exited c n id (p ∷ p' ∷ ps)) rest f e = absurd (apart e refl)
no_fields bytes out (Worked a b) rest f e = absurd (apart e refl)

-- behind the fields of an accepted exit a part is wanted: where none is, there is no such record
pub no_part : (bytes rest : List ℕ) (t : Fields) (id : ℕ) → t.1.1.0 ≡ TransferExit id → t.1.1.1 ≡ Done
    → FieldsAreFit t → bytes ≡ fields_spelled t ++ rest
    → IsOutside part_spelled PartFits rest → IsOutside record_spelled RecordFits (1 ∷ bytes)
no_part bytes rest t id call reply fits is out (Called c n other answer) more f e =
    let same = (unique-fields.one t (c, (n, (other, answer))) rest more fits f.1 (sym is ∙ (parted e).1)).0 in
    let P : StoredCall → Reply → Type 0 = λ c r. IsWithoutParts c r in
    let Q : Fields → Type 0 = λ x. IsWithoutParts x.1.1.0 x.1.1.1 in
    subst (P (TransferExit id)) reply (subst (λ (c : StoredCall). P c t.1.1.1) call (subst Q (sym same) f.0))
no_part bytes rest t id call reply fits is out (Exited c n j (p ∷ [])) more f e =
    let v : Fields = (c, (n, (TransferExit j, Done))) in
    let same = unique-fields.one t v rest (part_spelled p ++ more) fits (f.1.0, (f.1.1.0, (f.1.1.1.0, tt)))
    (sym is ∙ (parted e).1 ∙ append_assoc (fields_spelled v) (part_spelled p) more) in
    out p more f.1.1.1.1.1.0 same.1
no_part bytes rest t id call reply fits is out (Exited c n j []) more f e = absurd (omega (arith, f.0))
no_part bytes rest t id call reply fits is out (Exited c n j (p ∷ p' ∷ ps)) more f e = absurd (apart e refl)
no_part bytes rest t id call reply fits is out (Worked a b) more f e = absurd (apart e refl)

-- client, number, id and parts, as the code takes them
abbrev Exit : Type 0
Exit = ℕ × (CallNo × (ℕ × Several))

abbrev exit_spelled : Exit → List ℕ
exit_spelled t = u8_field t.0 ⌢ call_no_spelled t.1.0 ⌢ u32_field t.1.1.0 ⌢ list_spelled part_spelled t.1.1.1.contents

abbrev ExitFits : Exit → Type 0
ExitFits t = IsClient t.0 & CallNoFits t.1.0 & HasBits 32 t.1.1.0 & SeveralFit t.1.1.1.contents

pub no_exit_of_several : (bytes : List ℕ) → IsOutside exit_spelled ExitFits bytes
    → IsOutside record_spelled RecordFits (3 ∷ bytes)
no_exit_of_several bytes out (Exited c n id (p ∷ p' ∷ ps)) rest f e =
    let several : Several = record { contents = p ∷ p' ∷ ps } in
    out (c, (n, (id, several))) rest (f.1.0, (f.1.1.0, (f.1.1.1.0, (omega arith, f.1.1.1.1)))) (parted e).1
no_exit_of_several bytes out (Exited c n id []) rest f e = absurd (omega (arith, f.0))
no_exit_of_several bytes out (Exited c n id (p ∷ [])) rest f e = absurd (apart e refl)
no_exit_of_several bytes out (Called c n call reply) rest f e = absurd (apart e refl)
no_exit_of_several bytes out (Worked a b) rest f e = absurd (apart e refl)

-- a byte, and the fields that a call's number asks for
pub no_data : (bytes : List ℕ)
    → IsOutside (pair_spelled u32_field (pair_spelled u64_field u32_field))
    (PairFits (HasBits 32) (PairFits (HasBits 64) (HasBits 32))) bytes
    → IsOutside call_spelled CallFits (2 ∷ bytes)
no_data bytes out (TransferData a b c) rest f e = out (a, (b, c)) rest f (parted e).1
no_data bytes out v rest f e = absurd (apart e refl)

pub no_process : (bytes : List ℕ)
    → IsOutside (pair_spelled u32_field u32_field) (PairFits (HasBits 32) (HasBits 32)) bytes
    → IsOutside call_spelled CallFits (5 ∷ bytes)
no_process bytes out (ProcessSwPackage a b) rest f e = out (a, b) rest f (parted e).1
no_process bytes out v rest f e = absurd (apart e refl)

pub no_unit : (bytes : List ℕ) → IsOutside (pair_spelled bool_spelled status_spelled) (PairFits Any Any) bytes
    → IsOutside record_spelled RecordFits (2 ∷ bytes)
no_unit bytes out (Worked a b) rest f e = out (a, b) rest f.1 (parted e).1
no_unit bytes out (Called c n call reply) rest f e = absurd (apart e refl)
no_unit bytes out (Exited c n id []) rest f e = absurd (omega (arith, f.0))
no_unit bytes out (Exited c n id (p ∷ [])) rest f e = absurd (apart e refl)
no_unit bytes out (Exited c n id (p ∷ p' ∷ ps)) rest f e = absurd (apart e refl)

pub no_numbered : (bytes : List ℕ)
    → IsOutside (pair_spelled u8_field (pair_spelled call_no_spelled (pair_spelled call_name_spelled u8_field)))
    (PairFits IsClient (PairFits CallNoFits (PairFits Any (HasBits 8)))) bytes
    → IsOutside happened_spelled HappenedFits (0 ∷ bytes)
no_numbered bytes out (Numbered c n call r) rest f e = out (c, (n, (call, r))) rest f (parted e).1
no_numbered bytes out (UnitAfter s) rest f e = absurd (apart e refl)

pub no_one : (bytes : List ℕ) → IsOutside part_spelled PartFits bytes
    → IsOutside contents_spelled ContentsFit (1 ∷ bytes)
no_one bytes out [] rest f e = absurd (apart e refl)
no_one bytes out (p ∷ []) rest f e = out p rest f.1.0 (parted e).1
no_one bytes out (p ∷ p' ∷ ps) rest f e = absurd (apart e refl)

pub no_several : (bytes : List ℕ)
    → IsOutside {T = Several} (λ s. list_spelled part_spelled s.contents) (λ s. SeveralFit s.contents) bytes
    → IsOutside contents_spelled ContentsFit (2 ∷ bytes)
no_several bytes out [] rest f e = absurd (apart e refl)
no_several bytes out (p ∷ []) rest f e = absurd (apart e refl)
no_several bytes out (p ∷ p' ∷ ps) rest f e =
    let s : Several = record { contents = p ∷ p' ∷ ps } in out s rest (omega arith, f) (parted e).1
