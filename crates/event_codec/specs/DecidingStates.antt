-- Which state of a node a list of numbers spells.
use Rattle.std.proofs.Common.{◌≡◌, inl, inr, ℕ, zero, suc, ◌<◌, ◌≤◌, List, ◌∷◌, ◌++◌, get_or, Option, Some, None, refl, sym, ◌∙◌, ap, arith}
use Rattle.std.specs.List.{flat_map}
use Rattle.wire.specs.Fields.{u8_field, u16_field, u32_field, u64_field}
use Rattle.ucm_base.specs.Limits.{client_limit, cluster_limit, transfer_limit, line_limit, entry_limit}
use Rattle.pm_types.specs.declared.calls.CallName.TheVariants as name
use Rattle.pm_types.specs.declared.history.Happened.{Happened}
use Rattle.pm_types.specs.declared.history.Happened.TheVariants.{Numbered, Unit as UnitAfter}
use Rattle.pm_types.specs.declared.status.Phase.TheVariants.{Transferring}
use Rattle.pm_types.specs.NodeState.{phase_code}
use Rattle.pm_types.specs.Stored.{State}
use Rattle.event_codec.specs.Spelling.{Any, HasBits, IsOutside, IsUnique, ManyFit, option_spelled, OptionFits, pair_spelled, PairFits, ListFits}
use Rattle.event_codec.specs.Calls.{call_name_code, call_name_spelled}
use Rattle.event_codec.specs.Replies.{IsClient, call_no_spelled, CallNoFits, status_spelled, end_mark_spelled, EndMarkFits}
use Rattle.event_codec.specs.States.{IsId, id_or_0, phase_spelled, header_spelled, HeaderFits, transfer_spelled, TransferFits, session_spelled, SessionFits, kept_spelled, KeptFits, happened_spelled, HappenedFits, line_spelled, LineFits, lines_spelled, state_spelled, StateFits}
use Rattle.event_codec.specs.Unique.{parted, apart, unique-u8, unique-u16, unique-u32, unique-u64, unique-option, unique-many, unique-list}
use Rattle.event_codec.specs.UniqueCalls.{names, name_at, unique-call_name}
use Rattle.event_codec.specs.UniqueClusters.{unique-cluster, unique-change}
use Rattle.event_codec.specs.UniqueReplies.{unique-call_no, unique-end_mark, unique-status}
use Rattle.event_codec.specs.UniqueStates.{phases, phase_at, id_fits, unique-header, unique-transfer, unique-session, unique-kept, unique-processing, unique-line, unique-count}
use Rattle.event_codec.specs.Deciding.{Told, Tells, whole, test_at_most, tells-byte, tells-u16, tells-u32, tells-u64, tells-code, tells-pair, tells-by, tells-option, tells-many, tells-counted, tells-list, tells-narrow, tells-tagged, by_kind}
use Rattle.event_codec.specs.DecidingReplies.{tells-client, tells-status, tells-outcome, tells-call_no, tells-end_mark, tells-reply}
use Rattle.event_codec.specs.DecidingClusters.{tells-cluster, tells-change, tells-contents}

tells-phase : Tells phase_spelled Any
tells-phase = tells-code phase_code (λ n. get_or phases n Transferring) phase_at

tells-header : Tells header_spelled HeaderFits
tells-header =
    tells-by (λ h. (h.id, (h.client, (h.size, (h.received, (h.next_counter, h.phase))))))
    (λ t. record {
      id = t.0;
      client = t.1.0;
      size = t.1.1.0;
      received = t.1.1.1.0;
      next_counter = t.1.1.1.1.0;
      phase = t.1.1.1.1.1;
    }) (λ t f. refl)
    (tells-pair unique-u32 tells-u32 (tells-pair (unique-u8 {P = IsClient}) tells-client
    (tells-pair unique-u64 tells-u64 (tells-pair unique-u64 tells-u64 (tells-pair unique-u64 tells-u64 tells-phase)))))

tells-transfer : Tells transfer_spelled TransferFits
tells-transfer =
    tells-by (λ t. (t.header, (t.slot, t.contents)))
    (λ t. record { header = t.0; slot = t.1.0; contents = t.1.1 }) (λ t f. refl)
    (tells-pair unique-header tells-header (tells-pair (unique-u8 {P = HasBits 8}) tells-byte tells-contents))

abbrev id_of : ℕ → Option ℕ
id_of zero = None
id_of (suc n) = Some (suc n)

id_back : (n : ℕ) → id_or_0 (id_of n) ≡ n
id_back zero = refl
id_back (suc n) = refl

id_is : (n : ℕ) → HasBits 32 n → OptionFits IsId (id_of n)
id_is zero small = tt
id_is (suc n) small = (omega arith, small)

tells-processing : Tells (λ id. u32_field (id_or_0 id)) (OptionFits IsId)
tells-processing bytes = elim (tells-u32 bytes) [
  | inl x ↦ inl (record {
    value = id_of x.value;
    rest = x.rest;
    fit = id_is x.value x.fit;
    is = x.is ∙ ap (λ n. u32_field n ++ x.rest) (sym (id_back x.value));
  })
  | inr out ↦ inr (λ v rest f e. out (id_or_0 v) rest (id_fits v f) e)
]

tells-session : Tells session_spelled SessionFits
tells-session =
    tells-by (λ x. (x.owner, (x.tag, (x.saved, (x.changes, (x.processing, (x.units_done, (x.verified, x.outcome))))))))
    (λ t. record {
      owner = t.0;
      tag = t.1.0;
      saved = t.1.1.0;
      changes = t.1.1.1.0;
      processing = t.1.1.1.1.0;
      units_done = t.1.1.1.1.1.0;
      verified = t.1.1.1.1.1.1.0;
      outcome = t.1.1.1.1.1.1.1;
    }) (λ t f. refl)
    (tells-pair (unique-u8 {P = IsClient}) tells-client (tells-pair unique-u32 tells-u32
    (tells-pair (unique-list 255 unique-cluster) (tells-list unique-cluster tells-cluster 255)
    (tells-pair (unique-list cluster_limit unique-change) (tells-list unique-change tells-change cluster_limit)
    (tells-pair unique-processing tells-processing (tells-pair unique-u32 tells-u32
    (tells-pair (unique-u8 {P = HasBits 8}) tells-byte (tells-option tells-outcome))))))))

tells-kept : Tells kept_spelled KeptFits
tells-kept =
    tells-by (λ k. (k.no, k.reply)) (λ t. record { no = t.0; reply = t.1 }) (λ t f. refl)
    (tells-pair unique-call_no tells-call_no tells-reply)

tells-call_name : Tells call_name_spelled Any
tells-call_name = tells-code call_name_code (λ n. get_or names n name.Sync) name_at

abbrev happened_number : Happened → ℕ
happened_number (Numbered c n call r) = 0
happened_number (UnitAfter s) = 1

abbrev happened_fields : Happened → List ℕ
happened_fields (Numbered c n call r) =
    u8_field c ++ (call_no_spelled n ++ (call_name_spelled call ++ u8_field r))
happened_fields (UnitAfter s) = status_spelled s

happened_parts : (h : Happened) → happened_spelled h ≡ happened_number h ∷ happened_fields h
happened_parts (Numbered c n call r) = refl
happened_parts (UnitAfter s) = refl

happened_below : (h : Happened) → happened_number h < 2
happened_below (Numbered c n call r) = omega arith
happened_below (UnitAfter s) = omega arith

module _ (bytes : List ℕ) where
  no_numbered : IsOutside (pair_spelled u8_field (pair_spelled call_no_spelled
      (pair_spelled call_name_spelled u8_field)))
      (PairFits IsClient (PairFits CallNoFits (PairFits Any (HasBits 8)))) bytes
      → IsOutside happened_spelled HappenedFits (0 ∷ bytes)
  no_numbered out (Numbered c n call r) rest f e = out (c, (n, (call, r))) rest f (parted e).1
  no_numbered out (UnitAfter s) rest f e = absurd (apart e refl)

  no_unit : IsOutside status_spelled Any bytes → IsOutside happened_spelled HappenedFits (1 ∷ bytes)
  no_unit out (UnitAfter s) rest f e = out s rest tt (parted e).1
  no_unit out (Numbered c n call r) rest f e = absurd (apart e refl)

tells-happened : Tells happened_spelled HappenedFits
tells-happened = tells-tagged happened_number happened_fields happened_parts 2 happened_below each
  where
    each : (b : ℕ) → b < 2 → (bytes : List ℕ) → Told happened_spelled HappenedFits (b ∷ bytes)
    each zero lt bytes =
        by_kind {P = HappenedFits} 0 bytes (λ t. Numbered t.0 t.1.0 t.1.1.0 t.1.1.1)
        (tells-pair (unique-u8 {P = IsClient}) tells-client (tells-pair unique-call_no tells-call_no
        (tells-pair unique-call_name tells-call_name tells-byte)) bytes)
        (λ x f. f) (λ x. refl) (no_numbered bytes)
    each (suc zero) lt bytes =
        by_kind {P = HappenedFits} 1 bytes UnitAfter (tells-status bytes) (λ x f. tt) (λ x. refl) (no_unit bytes)
    each (suc (suc n)) lt bytes = absurd (omega (arith, lt))

tells-line : Tells line_spelled LineFits
tells-line =
    tells-by (λ l. (l.place, l.happened)) (λ t. record { place = t.0; happened = t.1 }) (λ t f. refl)
    (tells-pair unique-u64 tells-u64 tells-happened)

tells-lines : Tells lines_spelled (ListFits LineFits line_limit)
tells-lines = tells-counted counts count unique-line tells-line
  where
    counts : IsUnique u16_field (λ n. n ≤ line_limit)
    counts =
        record { one = λ v w rest others f g e. unique-u16.one v w rest others (omega (arith, f)) (omega (arith, g)) e }

    count : Tells u16_field (λ n. n ≤ line_limit)
    count = tells-narrow unique-u16 (λ n f. omega (arith, f)) (λ n f. test_at_most n line_limit) tells-u16

tells-count : Tells u64_field (λ n. n ≤ entry_limit)
tells-count = tells-narrow unique-u64 (λ n f. omega (arith, f)) (λ n f. test_at_most n entry_limit) tells-u64

pub tells-state : Tells state_spelled StateFits
tells-state =
    tells-by (λ s. (
      s.status,
      (
        s.next_id,
        (
          s.running,
          (s.transfers, (s.session, (s.last, (s.ended, (s.entries, s.lines))))),
        ),
      ),
    ))
    (λ t. record {
      status = t.0;
      next_id = t.1.0;
      running = t.1.1.0;
      transfers = t.1.1.1.0;
      session = t.1.1.1.1.0;
      last = t.1.1.1.1.1.0;
      ended = t.1.1.1.1.1.1.0;
      entries = t.1.1.1.1.1.1.1.0;
      lines = t.1.1.1.1.1.1.1.1;
    }) (λ t f. refl)
    (tells-pair unique-status tells-status (tells-pair unique-u32 tells-u32
    (tells-pair (unique-list 255 unique-cluster) (tells-list unique-cluster tells-cluster 255)
    (tells-pair (unique-list transfer_limit unique-transfer) (tells-list unique-transfer tells-transfer transfer_limit)
    (tells-pair (unique-option unique-session) (tells-option tells-session)
    (tells-pair lasts (tells-many (unique-option unique-kept) (tells-option tells-kept) client_limit)
    (tells-pair ends (tells-many (unique-option unique-end_mark) (tells-option tells-end_mark) client_limit)
    (tells-pair unique-count tells-count tells-lines))))))))
  where
    lasts : IsUnique (flat_map (option_spelled kept_spelled)) (ManyFit (OptionFits KeptFits) client_limit)
    lasts = unique-many client_limit (unique-option unique-kept)

    ends : IsUnique (flat_map (option_spelled end_mark_spelled)) (ManyFit (OptionFits EndMarkFits) client_limit)
    ends = unique-many client_limit (unique-option unique-end_mark)

-- the state that the bytes are the spelling of, if they are one
unfoldable pub state_told : List ℕ → Option State
state_told bytes = whole (tells-state bytes)
