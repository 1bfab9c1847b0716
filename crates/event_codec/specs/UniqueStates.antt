-- No spelling of a state begins another.
use Rattle.std.proofs.Common.{◌≡◌, ℕ, ◌≤◌, List, [], ◌∷◌, ◌++◌, length, get_or, Option, Some, None, refl, sym, ap, arith}
use Rattle.std.specs.List.{flat_map}
use Rattle.wire.specs.Fields.{u32_field, u64_field}
use Rattle.ucm_base.specs.Limits.{client_limit, cluster_limit, transfer_limit, line_limit, entry_limit}
use Rattle.pm_types.specs.declared.history.Happened.{Happened}
use Rattle.pm_types.specs.declared.history.Happened.TheVariants.{Numbered, Unit as UnitAfter}
use Rattle.pm_types.specs.declared.history.Line.{Line}
use Rattle.pm_types.specs.declared.status.Phase.{Phase}
use Rattle.pm_types.specs.declared.status.Phase.TheVariants.{Transferring, Transferred, Processing, Processed}
use Rattle.pm_types.specs.NodeState.{phase_code}
use Rattle.event_codec.specs.declared.state.InProcessing.{InProcessing}
use Rattle.event_codec.specs.declared.state.Entries.{Entries}
use Rattle.event_codec.specs.Spelling.{Any, HasBits, IsUnique, OptionFits, ListFits}
use Rattle.event_codec.specs.Replies.{IsClient}
use Rattle.event_codec.specs.States.{IsId, id_or_0, phase_spelled, header_spelled, HeaderFits, transfer_spelled, TransferFits, session_spelled, SessionFits, kept_spelled, KeptFits, happened_spelled, HappenedFits, line_spelled, LineFits, lines_spelled, state_spelled, StateFits}
use Rattle.event_codec.specs.Unique.{apart, unique-u8, unique-u16, unique-u32, unique-u64, unique-code, unique-pair, unique-by, unique-option, unique-many, unique-list}
use Rattle.event_codec.specs.UniqueCalls.{unique-call_name}
use Rattle.event_codec.specs.UniqueClusters.{unique-contents, unique-cluster, unique-change}
use Rattle.event_codec.specs.UniqueReplies.{unique-status, unique-outcome, unique-call_no, unique-end_mark, unique-reply}

pub phases : List Phase
phases = Transferring ∷ Transferred ∷ Processing ∷ Processed ∷ []

pub phase_at : (p : Phase) → get_or phases (phase_code p) Transferring ≡ p
unfolding phases
phase_at Transferring = refl
phase_at p = refl

pub unique-phase : IsUnique phase_spelled Any
unique-phase = unique-code phase_code (λ n. get_or phases n Transferring) phase_at

pub unique-header : IsUnique header_spelled HeaderFits
unique-header =
    unique-by (λ h. (h.id, (h.client, (h.size, (h.received, (h.next_counter, h.phase))))))
    (λ t. record {
      id = t.0;
      client = t.1.0;
      size = t.1.1.0;
      received = t.1.1.1.0;
      next_counter = t.1.1.1.1.0;
      phase = t.1.1.1.1.1;
    }) (λ h. refl)
    (unique-pair unique-u32 (unique-pair (unique-u8 {P = IsClient})
    (unique-pair unique-u64 (unique-pair unique-u64 (unique-pair unique-u64 unique-phase)))))

pub unique-transfer : IsUnique transfer_spelled TransferFits
unique-transfer =
    unique-by (λ t. (t.header, (t.slot, t.contents)))
    (λ t. record { header = t.0; slot = t.1.0; contents = t.1.1 }) (λ t. refl)
    (unique-pair unique-header (unique-pair (unique-u8 {P = HasBits 8}) unique-contents))

same_ids : (v w : Option ℕ) → OptionFits IsId v → OptionFits IsId w → id_or_0 v ≡ id_or_0 w → v ≡ w
same_ids None None f g e = refl
same_ids (Some a) (Some b) f g e = ap (λ (n : ℕ). Some n) e
same_ids None (Some b) f g e = absurd (omega (arith, g.0))
same_ids (Some a) None f g e = absurd (omega (arith, f.0))

pub id_fits : (v : Option ℕ) → OptionFits IsId v → HasBits 32 (id_or_0 v)
id_fits None f = omega arith
id_fits (Some id) f = f.1

pub unique-processing : IsUnique (λ id. u32_field (id_or_0 id)) (OptionFits IsId)
unique-processing = record {
  one = λ v w rest others f g e.
      let same = unique-u32.one (id_or_0 v) (id_or_0 w) rest others (id_fits v f) (id_fits w g) e in
      (same_ids v w f g same.0, same.1);
}

-- as the code keeps an id in processing
pub unique-id : IsUnique {T = InProcessing} (λ p. u32_field (id_or_0 p.id)) (λ p. OptionFits IsId p.id)
unique-id = unique-by (λ p. p.id) (λ id. record { id = id }) (λ p. refl) unique-processing

pub unique-session : IsUnique session_spelled SessionFits
unique-session =
    unique-by (λ x. (x.owner, (x.tag, (x.saved, (x.changes, (x.processing, (x.units_done, (x.verified, x.outcome))))))))
    (λ t. record {
      owner = t.0;
      tag = t.1.0;
      saved = t.1.1.0;
      changes = t.1.1.1.0;
      processing = t.1.1.1.1.0;
      units_done = t.1.1.1.1.1.0;
      verified = t.1.1.1.1.1.1.0;
      outcome = t.1.1.1.1.1.1.1;
    }) (λ x. refl)
    (unique-pair (unique-u8 {P = IsClient}) (unique-pair unique-u32
    (unique-pair (unique-list 255 unique-cluster) (unique-pair (unique-list cluster_limit unique-change)
    (unique-pair unique-processing (unique-pair unique-u32
    (unique-pair (unique-u8 {P = HasBits 8}) (unique-option unique-outcome))))))))

pub unique-kept : IsUnique kept_spelled KeptFits
unique-kept =
    unique-by (λ k. (k.no, k.reply)) (λ t. record { no = t.0; reply = t.1 }) (λ k. refl)
    (unique-pair unique-call_no unique-reply)

same_happened : (v w : Happened) (rest others : List ℕ) → HappenedFits v → HappenedFits w
    → happened_spelled v ++ rest ≡ happened_spelled w ++ others
    → (v ≡ w) × (rest ≡ others)
same_happened (Numbered c n call r) (Numbered d m other q) rest others f g e =
    let same = (unique-pair (unique-u8 {P = IsClient})
    (unique-pair unique-call_no (unique-pair unique-call_name (unique-u8 {P = HasBits 8})))).one
    (c, (n, (call, r))) (d, (m, (other, q))) rest others f g (cc) in
    ((λ i. let t = same.0 i in Numbered t.0 t.1.0 t.1.1.0 t.1.1.1), same.1)
same_happened (UnitAfter a) (UnitAfter b) rest others f g e =
    let same = unique-status.one a b rest others f g (cc) in (ap UnitAfter same.0, same.1)
same_happened v w rest others f g e = absurd (apart e refl)

pub unique-happened : IsUnique happened_spelled HappenedFits
unique-happened = record { one = same_happened }

pub unique-line : IsUnique line_spelled LineFits
unique-line =
    unique-by (λ l. (l.place, l.happened)) (λ t. record { place = t.0; happened = t.1 }) (λ l. refl)
    (unique-pair unique-u64 unique-happened)

pub unique-lines : IsUnique lines_spelled (ListFits LineFits line_limit)
unique-lines = record {
  one = λ v w rest others f g e.
      let tails = unique-pair unique-u16 (unique-many (length v) unique-line) in
      let heads =
      (unique-u16.one (length v) (length w) (flat_map line_spelled v ++ rest) (flat_map line_spelled w ++ others)
      (omega (arith, f.0)) (omega (arith, g.0)) e).0 in
      let same =
      tails.one (length v, v) (length w, w) rest others (omega (arith, f.0), (refl, f.1))
      (omega (arith, g.0), (sym heads, g.1)) e in
      (ap (λ (t : ℕ × List Line). t.1) same.0, same.1);
}

pub unique-count : IsUnique u64_field (λ n. n ≤ entry_limit)
unique-count =
    record { one = λ v w rest others f g e. unique-u64.one v w rest others (omega (arith, f)) (omega (arith, g)) e }

-- as the code keeps the count of entries
pub unique-entries : IsUnique {T = Entries} (λ e. u64_field e.count) (λ e. e.count ≤ entry_limit)
unique-entries = unique-by (λ e. e.count) (λ n. record { count = n }) (λ e. refl) unique-count

pub unique-state : IsUnique state_spelled StateFits
unique-state =
    unique-by (λ s. (
      s.status,
      (
        s.next_id,
        (
          s.running,
          (s.transfers, (s.session, (s.last, (s.ended, (s.entries, s.lines))))),
        ),
      ),
    ))
    (λ t. record {
      status = t.0;
      next_id = t.1.0;
      running = t.1.1.0;
      transfers = t.1.1.1.0;
      session = t.1.1.1.1.0;
      last = t.1.1.1.1.1.0;
      ended = t.1.1.1.1.1.1.0;
      entries = t.1.1.1.1.1.1.1.0;
      lines = t.1.1.1.1.1.1.1.1;
    }) (λ s. refl)
    (unique-pair unique-status (unique-pair unique-u32
    (unique-pair (unique-list 255 unique-cluster) (unique-pair (unique-list transfer_limit unique-transfer)
    (unique-pair (unique-option unique-session)
    (unique-pair (unique-many client_limit (unique-option unique-kept))
    (unique-pair (unique-many client_limit (unique-option unique-end_mark))
    (unique-pair unique-count unique-lines))))))))
