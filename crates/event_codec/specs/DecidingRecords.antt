-- Which record of a node's journal a list of numbers spells.
use Rattle.std.proofs.Common.{◌≡◌, inl, inr, ℕ, zero, suc, ◌<◌, List, [], ◌∷◌, ◌++◌, Option, refl, sym, ◌∙◌, ap, subst, append_assoc, arith}
use Rattle.wire.specs.Fields.{u8_field, u32_field, u64_field}
use Rattle.ucm_base.specs.declared.ids.CallNo.{CallNo}
use Rattle.ucm_base.specs.declared.parts.Part.{Part}
use Rattle.pm_types.specs.declared.replies.Reply.{Reply}
use Rattle.pm_types.specs.declared.replies.Reply.TheVariants.{Done, Started, Synced as SyncedTo, Refused}
use Rattle.event_codec.specs.declared.calls.StoredCall.{StoredCall}
use Rattle.event_codec.specs.declared.calls.StoredCall.TheVariants.{Sync, TransferStart, TransferData, TransferExit, DeleteTransfer, ProcessSwPackage, Activate, Finish, Rollback, RevertProcessedSwPackages, Cancel}
use Rattle.event_codec.specs.declared.records.Record.{Record}
use Rattle.event_codec.specs.declared.records.Record.TheVariants.{Called, Exited, Worked}
use Rattle.event_codec.specs.Spelling.{HasBits, IsOutside, bool_spelled, list_spelled, pair_spelled, PairFits}
use Rattle.event_codec.specs.Calls.{call_spelled, CallFits}
use Rattle.event_codec.specs.Clusters.{part_spelled, PartFits, SeveralFit}
use Rattle.event_codec.specs.Replies.{IsClient, call_no_spelled, CallNoFits, status_spelled}
use Rattle.event_codec.specs.Records.{called_spelled, record_spelled, RecordFits, IsWithoutParts}
use Rattle.event_codec.specs.Unique.{parted, apart, unique-u8, unique-u32, unique-u64, unique-bool}
use Rattle.event_codec.specs.UniqueCalls.{unique-call}
use Rattle.event_codec.specs.UniqueRecords.{Fields, fields_spelled, FieldsAreFit, unique-fields}
use Rattle.event_codec.specs.UniqueReplies.{unique-call_no}
use Rattle.event_codec.specs.Outside.{no_fields, no_part, no_data, no_process, no_unit}
use Rattle.event_codec.specs.Deciding.{Told, Tells, whole, tells-u32, tells-u64, tells-bool, tells-pair, tells-tagged, by_kind, alone}
use Rattle.event_codec.specs.DecidingReplies.{tells-client, tells-status, tells-call_no, tells-reply}
use Rattle.event_codec.specs.DecidingClusters.{tells-part, tells-several}

abbrev call_number : StoredCall → ℕ
call_number Sync = 0
call_number (TransferStart a) = 1
call_number (TransferData a b c) = 2
call_number (TransferExit a) = 3
call_number (DeleteTransfer a) = 4
call_number (ProcessSwPackage a b) = 5
call_number Activate = 6
call_number Finish = 7
call_number Rollback = 8
call_number RevertProcessedSwPackages = 9
call_number (Cancel a) = 10

abbrev call_fields : StoredCall → List ℕ
call_fields (TransferStart a) = u64_field a
call_fields (TransferData a b c) = u32_field a ++ (u64_field b ++ u32_field c)
call_fields (TransferExit a) = u32_field a
call_fields (DeleteTransfer a) = u32_field a
call_fields (ProcessSwPackage a b) = u32_field a ++ u32_field b
call_fields (Cancel a) = u32_field a
call_fields call = []

call_parts : (c : StoredCall) → call_spelled c ≡ call_number c ∷ call_fields c
call_parts (TransferStart a) = refl
call_parts (TransferData a b c) = refl
call_parts (TransferExit a) = refl
call_parts (DeleteTransfer a) = refl
call_parts (ProcessSwPackage a b) = refl
call_parts (Cancel a) = refl
call_parts Sync = refl
call_parts call = refl

call_below : (c : StoredCall) → call_number c < 11
call_below (TransferStart a) = omega arith
call_below (TransferData a b c) = omega arith
call_below (TransferExit a) = omega arith
call_below (DeleteTransfer a) = omega arith
call_below (ProcessSwPackage a b) = omega arith
call_below (Cancel a) = omega arith
call_below Sync = omega arith
call_below call = omega arith

module _ (bytes : List ℕ) where
  no_start : IsOutside u64_field (HasBits 64) bytes → IsOutside call_spelled CallFits (1 ∷ bytes)
  no_start out (TransferStart a) rest f e = out a rest f (parted e).1
  no_start out v rest f e = absurd (apart e refl)

  no_exit : IsOutside u32_field (HasBits 32) bytes → IsOutside call_spelled CallFits (3 ∷ bytes)
  no_exit out (TransferExit a) rest f e = out a rest f (parted e).1
  no_exit out v rest f e = absurd (apart e refl)

  no_delete : IsOutside u32_field (HasBits 32) bytes → IsOutside call_spelled CallFits (4 ∷ bytes)
  no_delete out (DeleteTransfer a) rest f e = out a rest f (parted e).1
  no_delete out v rest f e = absurd (apart e refl)

  no_cancel : IsOutside u32_field (HasBits 32) bytes → IsOutside call_spelled CallFits (10 ∷ bytes)
  no_cancel out (Cancel a) rest f e = out a rest f (parted e).1
  no_cancel out v rest f e = absurd (apart e refl)

tells-call : Tells call_spelled CallFits
tells-call = tells-tagged call_number call_fields call_parts 11 call_below each
  where
    each : (b : ℕ) → b < 11 → (bytes : List ℕ) → Told call_spelled CallFits (b ∷ bytes)
    each zero lt bytes = alone Sync 0 bytes tt refl
    each (suc zero) lt bytes =
        by_kind {P = CallFits} 1 bytes TransferStart (tells-u64 bytes) (λ x f. f) (λ x. refl) (no_start bytes)
    each (suc (suc zero)) lt bytes =
        by_kind {P = CallFits} 2 bytes (λ t. TransferData t.0 t.1.0 t.1.1)
        (tells-pair unique-u32 tells-u32 (tells-pair unique-u64 tells-u64 tells-u32) bytes) (λ x f. f) (λ x. refl)
        (no_data bytes)
    each (suc (suc (suc zero))) lt bytes =
        by_kind {P = CallFits} 3 bytes TransferExit (tells-u32 bytes) (λ x f. f) (λ x. refl) (no_exit bytes)
    each (suc (suc (suc (suc zero)))) lt bytes =
        by_kind {P = CallFits} 4 bytes DeleteTransfer (tells-u32 bytes) (λ x f. f) (λ x. refl) (no_delete bytes)
    each (suc (suc (suc (suc (suc zero))))) lt bytes =
        by_kind {P = CallFits} 5 bytes (λ t. ProcessSwPackage t.0 t.1) (tells-pair unique-u32 tells-u32 tells-u32 bytes)
        (λ x f. f) (λ x. refl) (no_process bytes)
    each (suc (suc (suc (suc (suc (suc zero)))))) lt bytes = alone Activate 6 bytes tt refl
    each (suc (suc (suc (suc (suc (suc (suc zero))))))) lt bytes = alone Finish 7 bytes tt refl
    each (suc (suc (suc (suc (suc (suc (suc (suc zero)))))))) lt bytes = alone Rollback 8 bytes tt refl
    each (suc (suc (suc (suc (suc (suc (suc (suc (suc zero))))))))) lt bytes =
        alone RevertProcessedSwPackages 9 bytes tt refl
    each (suc (suc (suc (suc (suc (suc (suc (suc (suc (suc zero)))))))))) lt bytes =
        by_kind {P = CallFits} 10 bytes Cancel (tells-u32 bytes) (λ x f. f) (λ x. refl) (no_cancel bytes)
    each (suc (suc (suc (suc (suc (suc (suc (suc (suc (suc (suc n))))))))))) lt bytes = absurd (omega (arith, lt))

tells-fields : Tells fields_spelled FieldsAreFit
tells-fields =
    tells-pair (unique-u8 {P = IsClient}) tells-client (tells-pair unique-call_no tells-call_no
    (tells-pair unique-call tells-call tells-reply))

-- the fields of a call, where an exit that is answered otherwise than by Done or a refusal is no record
module _ (bytes rest : List ℕ) (t : Fields) (fits : FieldsAreFit t) (is : bytes ≡ fields_spelled t ++ rest) where
  same_fields : (v : Fields) (others : List ℕ) → FieldsAreFit v → 1 ∷ bytes ≡ 1 ∷ (fields_spelled v ++ others) → t ≡ v
  same_fields v others f e = (unique-fields.one t v rest others fits f (sym is ∙ (parted e).1)).0

  as_called : IsWithoutParts t.1.1.0 t.1.1.1 → Told record_spelled RecordFits (1 ∷ bytes)
  as_called without = inl (record {
    value = Called t.0 t.1.0 t.1.1.0 t.1.1.1;
    rest = rest;
    fit = (without, fits);
    is = ap (λ b. 1 ∷ b) is;
  })

  with_part : (id : ℕ) → t.1.1.0 ≡ TransferExit id → t.1.1.1 ≡ Done → Told part_spelled PartFits rest
      → Told record_spelled RecordFits (1 ∷ bytes)
  with_part id call reply (inr out) = inr (no_part bytes rest t id call reply fits is out)
  with_part id call reply (inl x) = inl (record {
    value = Exited t.0 t.1.0 id (x.value ∷ []);
    rest = x.rest;
    fit = (omega arith, (fits.0, (fits.1.0, (subst CallFits call fits.1.1.0, (omega arith, (x.fit, tt))))));
    is = ap (λ b. 1 ∷ b) (is ∙ (λ i. called_spelled t.0 t.1.0 (call i) (reply i) ++ x.is i)
        ∙ sym (append_assoc (called_spelled t.0 t.1.0 (TransferExit id) Done) (part_spelled x.value) x.rest));
  })

  no_such_exit : (id : ℕ) → t.1.1.0 ≡ TransferExit id → (IsWithoutParts (TransferExit id) t.1.1.1 → ⊥)
      → (t.1.1.1 ≡ Done → ⊥) → IsOutside record_spelled RecordFits (1 ∷ bytes)
  no_such_exit id call parts reply (Called c n other answer) others f e =
      let same = same_fields (c, (n, (other, answer))) others f.1 e in
      parts (subst (λ (x : StoredCall). IsWithoutParts x t.1.1.1) call
      (subst (λ (x : Fields). IsWithoutParts x.1.1.0 x.1.1.1) (sym same) f.0))
  no_such_exit id call parts reply (Exited c n j (p ∷ [])) others f e =
      let v : Fields = (c, (n, (TransferExit j, Done))) in
      let same = same_fields v (part_spelled p ++ others) (f.1.0, (f.1.1.0, (f.1.1.1.0, tt)))
      (e ∙ ap (λ b. 1 ∷ b) (append_assoc (fields_spelled v) (part_spelled p) others)) in
      reply (ap (λ (x : Fields). x.1.1.1) same)
  no_such_exit id call parts reply (Exited c n j []) others f e = absurd (omega (arith, f.0))
  no_such_exit id call parts reply (Exited c n j (p ∷ q ∷ ps)) others f e = absurd (apart e refl)
  no_such_exit id call parts reply (Worked a b) others f e = absurd (apart e refl)

told_by : (bytes rest : List ℕ) (c : ℕ) (n : CallNo) (call : StoredCall) (reply : Reply)
    → FieldsAreFit (c, (n, (call, reply))) → bytes ≡ fields_spelled (c, (n, (call, reply))) ++ rest
    → Told record_spelled RecordFits (1 ∷ bytes)
told_by bytes rest c n (TransferExit id) Done fits is =
    with_part bytes rest (c, (n, (TransferExit id, Done))) fits is id refl refl (tells-part rest)
told_by bytes rest c n (TransferExit id) (Started a) fits is =
    inr (no_such_exit bytes rest (c, (n, (TransferExit id, Started a))) fits is id refl (λ no. no) (λ e. absurd (cc)))
told_by bytes rest c n (TransferExit id) (SyncedTo a) fits is =
    inr (no_such_exit bytes rest (c, (n, (TransferExit id, SyncedTo a))) fits is id refl (λ no. no) (λ e. absurd (cc)))
told_by bytes rest c n (TransferExit id) (Refused a) fits is =
    as_called bytes rest (c, (n, (TransferExit id, Refused a))) fits is tt
told_by bytes rest c n (TransferStart a) reply fits is =
    as_called bytes rest (c, (n, (TransferStart a, reply))) fits is tt
told_by bytes rest c n (TransferData x y z) reply fits is =
    as_called bytes rest (c, (n, (TransferData x y z, reply))) fits is tt
told_by bytes rest c n (DeleteTransfer a) reply fits is =
    as_called bytes rest (c, (n, (DeleteTransfer a, reply))) fits is tt
told_by bytes rest c n (ProcessSwPackage a b) reply fits is =
    as_called bytes rest (c, (n, (ProcessSwPackage a b, reply))) fits is tt
told_by bytes rest c n (Cancel a) reply fits is = as_called bytes rest (c, (n, (Cancel a, reply))) fits is tt
told_by bytes rest c n Sync reply fits is = as_called bytes rest (c, (n, (Sync, reply))) fits is tt
told_by bytes rest c n call reply fits is = as_called bytes rest (c, (n, (call, reply))) fits is tt

tells-called : (bytes : List ℕ) → Told record_spelled RecordFits (1 ∷ bytes)
tells-called bytes = elim (tells-fields bytes) [
  | inl x ↦ told_by bytes x.rest x.value.0 x.value.1.0 x.value.1.1.0 x.value.1.1.1 x.fit x.is
  | inr out ↦ inr (no_fields bytes out)
]

abbrev Exit : Type 0
Exit = ℕ × (CallNo × (ℕ × List (Part ℕ)))

abbrev exit_spelled : Exit → List ℕ
exit_spelled = pair_spelled u8_field (pair_spelled call_no_spelled (pair_spelled u32_field (list_spelled part_spelled)))

abbrev ExitFits : Exit → Type 0
ExitFits = PairFits IsClient (PairFits CallNoFits (PairFits (HasBits 32) SeveralFit))

no_exited : (bytes : List ℕ) → IsOutside exit_spelled ExitFits bytes → IsOutside record_spelled RecordFits (3 ∷ bytes)
no_exited bytes out (Exited c n id (p ∷ q ∷ ps)) rest f e =
    out (c, (n, (id, p ∷ q ∷ ps))) rest (f.1.0, (f.1.1.0, (f.1.1.1.0, (omega arith, f.1.1.1.1)))) (parted e).1
no_exited bytes out (Exited c n id []) rest f e = absurd (omega (arith, f.0))
no_exited bytes out (Exited c n id (p ∷ [])) rest f e = absurd (apart e refl)
no_exited bytes out (Called c n call reply) rest f e = absurd (apart e refl)
no_exited bytes out (Worked a b) rest f e = absurd (apart e refl)

exited_by : (bytes rest : List ℕ) (c : ℕ) (n : CallNo) (id : ℕ) (parts : List (Part ℕ))
    → ExitFits (c, (n, (id, parts))) → bytes ≡ exit_spelled (c, (n, (id, parts))) ++ rest
    → Told record_spelled RecordFits (3 ∷ bytes)
exited_by bytes rest c n id [] fits is = absurd (omega (arith, fits.1.1.1.0))
exited_by bytes rest c n id (p ∷ []) fits is = absurd (omega (arith, fits.1.1.1.0))
exited_by bytes rest c n id (p ∷ q ∷ ps) fits is = inl (record {
  value = Exited c n id (p ∷ q ∷ ps);
  rest = rest;
  fit = (omega arith, (fits.0, (fits.1.0, (fits.1.1.0, fits.1.1.1.1))));
  is = ap (λ b. 3 ∷ b) is;
})

tells-exited : (bytes : List ℕ) → Told record_spelled RecordFits (3 ∷ bytes)
tells-exited bytes = by (tells bytes)
  where
    tells : Tells exit_spelled ExitFits
    tells =
        tells-pair (unique-u8 {P = IsClient}) tells-client (tells-pair unique-call_no tells-call_no
        (tells-pair unique-u32 tells-u32 tells-several))

    by : Told exit_spelled ExitFits bytes → Told record_spelled RecordFits (3 ∷ bytes)
    by (inl x) = exited_by bytes x.rest x.value.0 x.value.1.0 x.value.1.1.0 x.value.1.1.1 x.fit x.is
    by (inr out) = inr (no_exited bytes out)

abbrev record_number : Record → ℕ
record_number (Called c n call reply) = 1
record_number (Worked a b) = 2
record_number (Exited c n id (p ∷ [])) = 1
record_number (Exited c n id parts) = 3

abbrev record_fields : Record → List ℕ
record_fields (Called c n call reply) = called_spelled c n call reply
record_fields (Worked a b) = bool_spelled a ++ status_spelled b
record_fields (Exited c n id (p ∷ [])) = called_spelled c n (TransferExit id) Done ++ part_spelled p
record_fields (Exited c n id parts) =
    u8_field c ++ (call_no_spelled n ++ (u32_field id ++ list_spelled part_spelled parts))

record_parts : (r : Record) → record_spelled r ≡ record_number r ∷ record_fields r
record_parts (Called c n call reply) = refl
record_parts (Worked a b) = refl
record_parts (Exited c n id []) = refl
record_parts (Exited c n id (p ∷ [])) = refl
record_parts (Exited c n id (p ∷ q ∷ ps)) = refl

record_below : (r : Record) → record_number r < 4
record_below (Called c n call reply) = omega arith
record_below (Worked a b) = omega arith
record_below (Exited c n id []) = omega arith
record_below (Exited c n id (p ∷ [])) = omega arith
record_below (Exited c n id (p ∷ q ∷ ps)) = omega arith

no_record_0 : (r : Record) → 0 ≡ record_number r → ⊥
no_record_0 (Called c n call reply) e = omega (arith, e)
no_record_0 (Worked a b) e = omega (arith, e)
no_record_0 (Exited c n id []) e = omega (arith, e)
no_record_0 (Exited c n id (p ∷ [])) e = omega (arith, e)
no_record_0 (Exited c n id (p ∷ q ∷ ps)) e = omega (arith, e)

pub tells-record : Tells record_spelled RecordFits
tells-record = tells-tagged record_number record_fields record_parts 4 record_below each
  where
    each : (b : ℕ) → b < 4 → (bytes : List ℕ) → Told record_spelled RecordFits (b ∷ bytes)
    each zero lt bytes =
        inr (λ v rest f e. no_record_0 v (parted (e ∙ ap (λ t. t ++ rest) (record_parts v))).0)
    each (suc zero) lt bytes = tells-called bytes
    each (suc (suc zero)) lt bytes =
        by_kind {P = RecordFits} 2 bytes (λ t. Worked t.0 t.1) (tells-pair unique-bool tells-bool tells-status bytes)
        (λ x f. (tt, f)) (λ x. refl) (no_unit bytes)
    each (suc (suc (suc zero))) lt bytes = tells-exited bytes
    each (suc (suc (suc (suc n)))) lt bytes = absurd (omega (arith, lt))

-- the record that the bytes are the spelling of, if they are one
unfoldable pub record_told : List ℕ → Option Record
record_told bytes = whole (tells-record bytes)
