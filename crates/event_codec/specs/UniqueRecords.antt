-- No spelling of a record begins another.
use Rattle.std.proofs.Common.{◌≡◌, ℕ, List, [], ◌∷◌, ◌++◌, refl, ap, sym, subst, ◌∙◌, append_assoc, arith}
use Rattle.ucm_base.specs.declared.ids.CallNo.{CallNo}
use Rattle.ucm_base.specs.declared.parts.Part.{Part}
use Rattle.pm_types.specs.declared.replies.Reply.{Reply}
use Rattle.pm_types.specs.declared.replies.Reply.TheVariants.{Done}
use Rattle.event_codec.specs.declared.calls.StoredCall.{StoredCall}
use Rattle.event_codec.specs.declared.calls.StoredCall.TheVariants.{TransferExit}
use Rattle.event_codec.specs.declared.records.Record.{Record}
use Rattle.event_codec.specs.declared.records.Record.TheVariants.{Called, Exited, Worked}
use Rattle.event_codec.specs.Spelling.{◌&◌, HasBits, IsUnique, list_spelled, pair_spelled, PairFits}
use Rattle.wire.specs.Fields.{u8_field, u32_field}
use Rattle.event_codec.specs.Calls.{CallFits}
use Rattle.event_codec.specs.Clusters.{part_spelled, SeveralFit}
use Rattle.event_codec.specs.Replies.{IsClient, call_no_spelled, CallNoFits, ReplyFits}
use Rattle.event_codec.specs.Records.{called_spelled, record_spelled, RecordFits, IsWithoutParts}
use Rattle.event_codec.specs.Unique.{parted, apart, unique-u8, unique-u32, unique-bool, unique-pair}
use Rattle.event_codec.specs.UniqueCalls.{unique-call}
use Rattle.event_codec.specs.UniqueClusters.{unique-part, unique-several}
use Rattle.event_codec.specs.UniqueReplies.{unique-status, unique-call_no, unique-reply}

-- client, number, call and reply
abbrev pub Fields : Type 0
Fields = ℕ × (CallNo × (StoredCall × Reply))

abbrev pub fields_spelled : Fields → List ℕ
fields_spelled t = called_spelled t.0 t.1.0 t.1.1.0 t.1.1.1

abbrev pub FieldsAreFit : Fields → Type 0
FieldsAreFit t = IsClient t.0 & CallNoFits t.1.0 & CallFits t.1.1.0 & ReplyFits t.1.1.1

pub unique-fields : IsUnique fields_spelled FieldsAreFit
unique-fields = unique-pair unique-u8 (unique-pair unique-call_no (unique-pair unique-call unique-reply))

-- client, number, id and parts
unique-exit : IsUnique
    (pair_spelled u8_field (pair_spelled call_no_spelled (pair_spelled u32_field (list_spelled part_spelled))))
    (PairFits IsClient (PairFits CallNoFits (PairFits (HasBits 32) SeveralFit)))
unique-exit = unique-pair unique-u8 (unique-pair unique-call_no (unique-pair unique-u32 unique-several))

-- a call without parts isn't the call that an accepted exit of one part begins with
no_exit : (v w : Fields) (rest others : List ℕ) → IsUnique fields_spelled FieldsAreFit → FieldsAreFit v → FieldsAreFit w
    → IsWithoutParts v.1.1.0 v.1.1.1 → (id : ℕ) → w.1.1.0 ≡ TransferExit id → w.1.1.1 ≡ Done
    → fields_spelled v ++ rest ≡ fields_spelled w ++ others → ⊥
no_exit v w rest others is f g without id call reply e =
    let same = (is.one v w rest others f g e).0 in
    let P : StoredCall → Reply → Type 0 = λ c r. IsWithoutParts c r in
    subst (P (TransferExit id)) (ap (λ (t : Fields). t.1.1.1) same ∙ reply)
    (subst (λ (c : StoredCall). P c v.1.1.1) (ap (λ (t : Fields). t.1.1.0) same ∙ call) without)

same_exit : (i j : ℕ) → TransferExit i ≡ TransferExit j → i ≡ j
same_exit i j e = cc

same_record : (v w : Record) (rest others : List ℕ) → RecordFits v → RecordFits w
    → record_spelled v ++ rest ≡ record_spelled w ++ others
    → (v ≡ w) × (rest ≡ others)
same_record (Called c n call reply) (Called d m other answer) rest others f g e =
    let same = unique-fields.one (c, (n, (call, reply))) (d, (m, (other, answer))) rest others f.1 g.1 (cc) in
    ((λ i. let t = same.0 i in Called t.0 t.1.0 t.1.1.0 t.1.1.1), same.1)
same_record (Called c n call reply) (Exited d m id (p ∷ [])) rest others f g e =
    let w : Fields = (d, (m, (TransferExit id, Done))) in
    absurd (no_exit (c, (n, (call, reply))) w rest (part_spelled p ++ others) unique-fields f.1
    (g.1.0, (g.1.1.0, (g.1.1.1.0, tt))) f.0 id refl refl
    ((parted e).1 ∙ append_assoc (fields_spelled w) (part_spelled p) others))
same_record (Exited c n id (p ∷ [])) (Called d m call reply) rest others f g e =
    let v : Fields = (c, (n, (TransferExit id, Done))) in
    absurd (no_exit (d, (m, (call, reply))) v others (part_spelled p ++ rest) unique-fields g.1
    (f.1.0, (f.1.1.0, (f.1.1.1.0, tt))) g.0 id refl refl
    (sym (parted e).1 ∙ append_assoc (fields_spelled v) (part_spelled p) rest))
same_record (Exited c n i (p ∷ [])) (Exited d m j (q ∷ [])) rest others f g e =
    let v : Fields = (c, (n, (TransferExit i, Done))) in
    let w : Fields = (d, (m, (TransferExit j, Done))) in
    let same = (unique-pair unique-fields unique-part).one (v, p) (w, q) rest others
    ((f.1.0, (f.1.1.0, (f.1.1.1.0, tt))), f.1.1.1.1.1.0) ((g.1.0, (g.1.1.0, (g.1.1.1.0, tt))), g.1.1.1.1.1.0)
    ((parted e).1) in
    let ids : i ≡ j = same_exit i j (ap (λ (t : Fields × Part ℕ). t.0.1.1.0) same.0) in
    ((λ k. let t = same.0 k in Exited t.0.0 t.0.1.0 (ids k) (t.1 ∷ [])), same.1)
same_record (Exited c n i (p ∷ p' ∷ ps)) (Exited d m j (q ∷ q' ∷ qs)) rest others f g e =
    let same = unique-exit.one (c, (n, (i, p ∷ p' ∷ ps))) (d, (m, (j, q ∷ q' ∷ qs))) rest others
    (f.1.0, (f.1.1.0, (f.1.1.1.0, (omega arith, f.1.1.1.1))))
    (g.1.0, (g.1.1.0, (g.1.1.1.0, (omega arith, g.1.1.1.1)))) ((parted e).1) in
    ((λ k. let t = same.0 k in Exited t.0 t.1.0 t.1.1.0 t.1.1.1), same.1)
same_record (Worked a b) (Worked c d) rest others f g e =
    let same = (unique-pair unique-bool unique-status).one (a, b) (c, d) rest others (tt, tt) (tt, tt) ((parted e).1) in
    ((λ k. let t = same.0 k in Worked t.0 t.1), same.1)
same_record (Exited c n id []) w rest others f g e = absurd (omega (arith, f.0))
same_record v (Exited d m id []) rest others f g e = absurd (omega (arith, g.0))
same_record (Called c n call reply) (Exited d m j (q ∷ q' ∷ qs)) rest others f g e = absurd (apart e refl)
same_record (Called c n call reply) (Worked a b) rest others f g e = absurd (apart e refl)
same_record (Exited c n id (p ∷ [])) (Exited d m j (q ∷ q' ∷ qs)) rest others f g e = absurd (apart e refl)
same_record (Exited c n id (p ∷ p' ∷ ps)) (Exited d m j (q ∷ [])) rest others f g e = absurd (apart e refl)
same_record (Exited c n id (p ∷ p' ∷ ps)) (Called d m other answer) rest others f g e = absurd (apart e refl)
same_record (Exited c n id (p ∷ [])) (Worked a b) rest others f g e = absurd (apart e refl)
same_record (Exited c n id (p ∷ p' ∷ ps)) (Worked a b) rest others f g e = absurd (apart e refl)
same_record (Worked a b) (Exited d m j (q ∷ [])) rest others f g e = absurd (apart e refl)
same_record (Worked a b) (Exited d m j (q ∷ q' ∷ qs)) rest others f g e = absurd (apart e refl)
same_record (Worked a b) (Called d m other answer) rest others f g e = absurd (apart e refl)

pub unique-record : IsUnique record_spelled RecordFits
unique-record = record { one = same_record }
