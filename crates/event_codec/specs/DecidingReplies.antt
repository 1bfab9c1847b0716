-- Which reply a list of numbers begins with, and of which call and status.
use Rattle.std.proofs.Common.{◌≡◌, inr, ℕ, zero, suc, ◌<◌, List, [], ◌∷◌, get_or, refl, ap, arith}
use Rattle.wire.specs.Fields.{u8_field, u32_field, u64_field}
use Rattle.ucm_base.specs.Limits.{client_limit, transfer_limit}
use Rattle.ucm_base.specs.Name.{is_cluster_name}
use Rattle.ucm_base.specs.Short.{is_short}
use Rattle.pm_types.specs.declared.replies.Refusal.{Refusal}
use Rattle.pm_types.specs.declared.replies.Refusal.TheVariants.{InsufficientMemory, IncorrectSize, InvalidTransferId, OperationNotPermitted, IncorrectBlock, InsufficientData, InvalidManifest, ServiceBusy, OldVersion, ActionNotApplicable, TooManyClusters, ClusterAlreadyChanged, PackageInconsistent, MissingDependencies}
use Rattle.pm_types.specs.declared.replies.Reply.{Reply}
use Rattle.pm_types.specs.declared.replies.Reply.TheVariants.{Done, Started, Synced as SyncedTo, Refused}
use Rattle.pm_types.specs.declared.status.Outcome.TheVariants.{New, Old}
use Rattle.pm_types.specs.declared.status.Status.TheVariants.{Idle}
use Rattle.pm_types.specs.NodeState.{status_code}
use Rattle.pm_types.specs.Refusals.{refusal_code}
use Rattle.event_codec.specs.Spelling.{Any, HasBits, IsOutside, pair_spelled, PairFits}
use Rattle.event_codec.specs.Texts.{text_spelled, IsName, IsShort}
use Rattle.event_codec.specs.Replies.{IsClient, status_spelled, outcome_code, outcome_spelled, call_no_spelled, CallNoFits, session_mark_spelled, SessionMarkFits, end_mark_spelled, EndMarkFits, synced_spelled, SyncedFits, details_spelled, refusal_spelled, RefusalFits, reply_spelled, ReplyFits}
use Rattle.event_codec.specs.Unique.{parted, apart, unique-u8, unique-u32, unique-text, unique-option}
use Rattle.event_codec.specs.UniqueReplies.{outcome_at, statuses, status_at, unique-end_mark, unique-session_mark}
use Rattle.event_codec.specs.Deciding.{Told, Tells, test_bool, test_below, tells-u8, tells-u32, tells-u64, tells-text, tells-code, tells-pair, tells-by, tells-option, tells-list, tells-tagged, by_kind, alone}
use Rattle.event_codec.specs.OutsideMaster.{missing_outside}

pub tells-client : Tells u8_field IsClient
tells-client = tells-u8 (λ n. test_below n client_limit)

pub tells-status : Tells status_spelled Any
tells-status = tells-code status_code (λ n. get_or statuses n Idle) status_at

pub tells-outcome : Tells outcome_spelled Any
tells-outcome = tells-code outcome_code (λ n. get_or (New ∷ Old ∷ []) n New) outcome_at

pub tells-call_no : Tells call_no_spelled CallNoFits
tells-call_no =
    tells-by (λ n. (n.epoch, n.number)) (λ t. record { epoch = t.0; number = t.1 }) (λ t f. refl)
    (tells-pair unique-u32 tells-u32 tells-u32)

-- a refusal that carries nothing, of this number
tells-bare : (v : Refusal) (bytes : List ℕ) → RefusalFits v → details_spelled v ≡ []
    → Told refusal_spelled RefusalFits (refusal_code v ∷ bytes)
tells-bare v bytes fit bare = alone v (refusal_code v) bytes fit (ap (λ d. refusal_code v ∷ d) bare)

no_inconsistent : (bytes : List ℕ) → IsOutside u64_field (HasBits 64) bytes
    → IsOutside refusal_spelled RefusalFits (7 ∷ bytes)
no_inconsistent bytes out (PackageInconsistent place) rest f e = out place rest f (parted e).1
no_inconsistent bytes out v rest f e = absurd (apart e refl)

pub tells-name : Tells text_spelled IsName
tells-name = tells-text (λ t. test_bool (is_cluster_name t))

tells-three : Tells (pair_spelled text_spelled (pair_spelled text_spelled text_spelled))
    (PairFits IsName (PairFits IsName IsShort))
tells-three =
    tells-pair (unique-text {P = IsName}) tells-name
    (tells-pair (unique-text {P = IsName}) tells-name (tells-text (λ t. test_bool (is_short t))))

refusal_number : (v : Refusal) → refusal_code v < 15
refusal_number (PackageInconsistent place) = omega arith
refusal_number (MissingDependencies a b c) = omega arith
refusal_number InsufficientMemory = omega arith
refusal_number v = omega arith

no_refusal_0 : (v : Refusal) → 0 ≡ refusal_code v → ⊥
no_refusal_0 (PackageInconsistent place) e = omega (arith, e)
no_refusal_0 (MissingDependencies a b c) e = omega (arith, e)
no_refusal_0 InsufficientMemory e = omega (arith, e)
no_refusal_0 v e = omega (arith, e)

pub tells-refusal : Tells refusal_spelled RefusalFits
tells-refusal = tells-tagged refusal_code details_spelled (λ v. refl) 15 refusal_number each
  where
    each : (b : ℕ) → b < 15 → (bytes : List ℕ) → Told refusal_spelled RefusalFits (b ∷ bytes)
    each zero lt bytes = inr (λ v rest f e. no_refusal_0 v (parted e).0)
    each (suc zero) lt bytes = tells-bare InsufficientMemory bytes tt refl
    each (suc (suc zero)) lt bytes = tells-bare IncorrectSize bytes tt refl
    each (suc (suc (suc zero))) lt bytes = tells-bare InvalidTransferId bytes tt refl
    each (suc (suc (suc (suc zero)))) lt bytes = tells-bare OperationNotPermitted bytes tt refl
    each (suc (suc (suc (suc (suc zero))))) lt bytes = tells-bare IncorrectBlock bytes tt refl
    each (suc (suc (suc (suc (suc (suc zero)))))) lt bytes = tells-bare InsufficientData bytes tt refl
    each (suc (suc (suc (suc (suc (suc (suc zero))))))) lt bytes =
        by_kind {P = RefusalFits} 7 bytes PackageInconsistent (tells-u64 bytes) (λ x f. f) (λ x. refl)
        (no_inconsistent bytes)
    each (suc (suc (suc (suc (suc (suc (suc (suc zero)))))))) lt bytes = tells-bare InvalidManifest bytes tt refl
    each (suc (suc (suc (suc (suc (suc (suc (suc (suc zero))))))))) lt bytes = tells-bare ServiceBusy bytes tt refl
    each (suc (suc (suc (suc (suc (suc (suc (suc (suc (suc zero)))))))))) lt bytes = tells-bare OldVersion bytes tt refl
    each (suc (suc (suc (suc (suc (suc (suc (suc (suc (suc (suc zero))))))))))) lt bytes =
        by_kind {P = RefusalFits} 11 bytes (λ t. MissingDependencies t.0 t.1.0 t.1.1) (tells-three bytes) (λ x f. f)
        (λ x. refl) (missing_outside bytes)
    each (suc (suc (suc (suc (suc (suc (suc (suc (suc (suc (suc (suc zero)))))))))))) lt bytes =
        tells-bare ActionNotApplicable bytes tt refl
    each (suc (suc (suc (suc (suc (suc (suc (suc (suc (suc (suc (suc (suc zero))))))))))))) lt bytes =
        tells-bare TooManyClusters bytes tt refl
    each (suc (suc (suc (suc (suc (suc (suc (suc (suc (suc (suc (suc (suc (suc zero)))))))))))))) lt bytes =
        tells-bare ClusterAlreadyChanged bytes tt refl
    each (suc (suc (suc (suc (suc (suc (suc (suc (suc (suc (suc (suc (suc (suc (suc n)))))))))))))))
        lt bytes = absurd (omega (arith, lt))

pub tells-session_mark : Tells session_mark_spelled SessionMarkFits
tells-session_mark =
    tells-by (λ m. (m.owner, (m.tag, m.status))) (λ t. record { owner = t.0; tag = t.1.0; status = t.1.1 })
    (λ t f. refl)
    (tells-pair (unique-u8 {P = IsClient}) tells-client (tells-pair unique-u32 tells-u32 tells-status))

pub tells-end_mark : Tells end_mark_spelled EndMarkFits
tells-end_mark =
    tells-by (λ m. (m.tag, m.outcome)) (λ t. record { tag = t.0; outcome = t.1 }) (λ t f. refl)
    (tells-pair unique-u32 tells-u32 tells-outcome)

pub tells-synced : Tells synced_spelled SyncedFits
tells-synced =
    tells-by (λ x. (x.session, (x.ended, x.transfers)))
    (λ t. record { session = t.0; ended = t.1.0; transfers = t.1.1 }) (λ t f. refl)
    (tells-pair (unique-option unique-session_mark) (tells-option tells-session_mark)
    (tells-pair (unique-option unique-end_mark) (tells-option tells-end_mark)
    (tells-list unique-u32 tells-u32 transfer_limit)))

abbrev reply_number : Reply → ℕ
reply_number Done = 0
reply_number (Started a) = 1
reply_number (SyncedTo a) = 2
reply_number (Refused a) = 3

abbrev reply_fields : Reply → List ℕ
reply_fields Done = []
reply_fields (Started a) = u32_field a
reply_fields (SyncedTo a) = synced_spelled a
reply_fields (Refused a) = refusal_spelled a

reply_parts : (r : Reply) → reply_spelled r ≡ reply_number r ∷ reply_fields r
reply_parts Done = refl
reply_parts (Started a) = refl
reply_parts (SyncedTo a) = refl
reply_parts (Refused a) = refl

reply_below : (r : Reply) → reply_number r < 4
reply_below Done = omega arith
reply_below (Started a) = omega arith
reply_below (SyncedTo a) = omega arith
reply_below (Refused a) = omega arith

module _ (bytes : List ℕ) where
  no_started : IsOutside u32_field (HasBits 32) bytes → IsOutside reply_spelled ReplyFits (1 ∷ bytes)
  no_started out (Started a) rest f e = out a rest f (parted e).1
  no_started out v rest f e = absurd (apart e refl)

  no_synced : IsOutside synced_spelled SyncedFits bytes → IsOutside reply_spelled ReplyFits (2 ∷ bytes)
  no_synced out (SyncedTo a) rest f e = out a rest f (parted e).1
  no_synced out v rest f e = absurd (apart e refl)

  no_refusal : IsOutside refusal_spelled RefusalFits bytes → IsOutside reply_spelled ReplyFits (3 ∷ bytes)
  no_refusal out (Refused a) rest f e = out a rest f (parted e).1
  no_refusal out v rest f e = absurd (apart e refl)

pub tells-reply : Tells reply_spelled ReplyFits
tells-reply = tells-tagged reply_number reply_fields reply_parts 4 reply_below each
  where
    each : (b : ℕ) → b < 4 → (bytes : List ℕ) → Told reply_spelled ReplyFits (b ∷ bytes)
    each zero lt bytes = alone Done 0 bytes tt refl
    each (suc zero) lt bytes =
        by_kind {P = ReplyFits} 1 bytes Started (tells-u32 bytes) (λ x f. f) (λ x. refl) (no_started bytes)
    each (suc (suc zero)) lt bytes =
        by_kind {P = ReplyFits} 2 bytes SyncedTo (tells-synced bytes) (λ x f. f) (λ x. refl) (no_synced bytes)
    each (suc (suc (suc zero))) lt bytes =
        by_kind {P = ReplyFits} 3 bytes Refused (tells-refusal bytes) (λ x f. f) (λ x. refl) (no_refusal bytes)
    each (suc (suc (suc (suc n)))) lt bytes = absurd (omega (arith, lt))
