-- No spelling of a reply begins another.
use Rattle.std.proofs.Common.{◌≡◌, ℕ, List, [], ◌∷◌, ◌++◌, get_or, refl, ap}
use Rattle.ucm_base.specs.Limits.{transfer_limit}
use Rattle.pm_types.specs.declared.replies.Refusal.{Refusal}
use Rattle.pm_types.specs.declared.replies.Refusal.TheVariants.{InsufficientMemory, IncorrectSize, InvalidTransferId, OperationNotPermitted, IncorrectBlock, InsufficientData, InvalidManifest, ServiceBusy, OldVersion, ActionNotApplicable, TooManyClusters, ClusterAlreadyChanged, PackageInconsistent, MissingDependencies}
use Rattle.pm_types.specs.declared.replies.Reply.{Reply}
use Rattle.pm_types.specs.declared.replies.Reply.TheVariants.{Done, Started, Synced as SyncedTo, Refused}
use Rattle.pm_types.specs.declared.status.Status.{Status}
use Rattle.pm_types.specs.declared.status.Status.TheVariants.{Idle, Ready, Processing, Activating, Verifying, Activated, RollingBack, RolledBack, CleaningUp}
use Rattle.pm_types.specs.declared.status.Outcome.{Outcome}
use Rattle.pm_types.specs.declared.status.Outcome.TheVariants.{New, Old}
use Rattle.pm_types.specs.NodeState.{status_code}
use Rattle.event_codec.specs.Spelling.{Any, IsUnique}
use Rattle.event_codec.specs.Texts.{IsName, IsShort}
use Rattle.event_codec.specs.Replies.{IsClient, status_spelled, outcome_code, outcome_spelled, call_no_spelled, CallNoFits, session_mark_spelled, SessionMarkFits, end_mark_spelled, EndMarkFits, synced_spelled, SyncedFits, refusal_spelled, RefusalFits, reply_spelled, ReplyFits}
use Rattle.event_codec.specs.Unique.{parted, apart, unique-u8, unique-u32, unique-u64, unique-text, unique-code, unique-pair, unique-by, unique-option, unique-list}

pub statuses : List Status
statuses = Idle ∷ Ready ∷ Processing ∷ Activating ∷ Verifying ∷ Activated ∷ RollingBack ∷ RolledBack ∷ CleaningUp ∷ []

pub status_at : (s : Status) → get_or statuses (status_code s) Idle ≡ s
unfolding statuses
status_at Idle = refl
status_at s = refl

pub unique-status : IsUnique status_spelled Any
unique-status = unique-code status_code (λ n. get_or statuses n Idle) status_at

pub outcome_at : (o : Outcome) → get_or (New ∷ Old ∷ []) (outcome_code o) New ≡ o
outcome_at New = refl
outcome_at Old = refl

pub unique-outcome : IsUnique outcome_spelled Any
unique-outcome = unique-code outcome_code (λ n. get_or (New ∷ Old ∷ []) n New) outcome_at

pub unique-call_no : IsUnique call_no_spelled CallNoFits
unique-call_no =
    unique-by (λ n. (n.epoch, n.number)) (λ t. record { epoch = t.0; number = t.1 }) (λ n. refl)
    (unique-pair unique-u32 unique-u32)

pub unique-session_mark : IsUnique session_mark_spelled SessionMarkFits
unique-session_mark =
    unique-by (λ m. (m.owner, (m.tag, m.status))) (λ t. record { owner = t.0; tag = t.1.0; status = t.1.1 }) (λ m. refl)
    (unique-pair (unique-u8 {P = IsClient}) (unique-pair unique-u32 unique-status))

pub unique-end_mark : IsUnique end_mark_spelled EndMarkFits
unique-end_mark =
    unique-by (λ m. (m.tag, m.outcome)) (λ t. record { tag = t.0; outcome = t.1 }) (λ m. refl)
    (unique-pair unique-u32 unique-outcome)

pub unique-synced : IsUnique synced_spelled SyncedFits
unique-synced =
    unique-by (λ x. (x.session, (x.ended, x.transfers)))
    (λ t. record { session = t.0; ended = t.1.0; transfers = t.1.1 }) (λ x. refl)
    (unique-pair (unique-option unique-session_mark)
    (unique-pair (unique-option unique-end_mark) (unique-list transfer_limit unique-u32)))

same_refusals : (v w : Refusal) (rest others : List ℕ) → RefusalFits v → RefusalFits w
    → refusal_spelled v ++ rest ≡ refusal_spelled w ++ others
    → (v ≡ w) × (rest ≡ others)
same_refusals (PackageInconsistent p) (PackageInconsistent q) rest others f g e =
    let same = unique-u64.one p q rest others f g (cc) in (ap PackageInconsistent same.0, same.1)
same_refusals (MissingDependencies a b c) (MissingDependencies x y z) rest others f g e =
    let three =
    unique-pair (unique-text {P = IsName}) (unique-pair (unique-text {P = IsName}) (unique-text {P = IsShort})) in
    let same = three.one (a, (b, c)) (x, (y, z)) rest others f g (cc) in
    ((λ i. let t = same.0 i in MissingDependencies t.0 t.1.0 t.1.1), same.1)
same_refusals InsufficientMemory InsufficientMemory rest others f g e = (refl, (parted e).1)
same_refusals IncorrectSize IncorrectSize rest others f g e = (refl, (parted e).1)
same_refusals InvalidTransferId InvalidTransferId rest others f g e = (refl, (parted e).1)
same_refusals OperationNotPermitted OperationNotPermitted rest others f g e = (refl, (parted e).1)
same_refusals IncorrectBlock IncorrectBlock rest others f g e = (refl, (parted e).1)
same_refusals InsufficientData InsufficientData rest others f g e = (refl, (parted e).1)
same_refusals InvalidManifest InvalidManifest rest others f g e = (refl, (parted e).1)
same_refusals ServiceBusy ServiceBusy rest others f g e = (refl, (parted e).1)
same_refusals OldVersion OldVersion rest others f g e = (refl, (parted e).1)
same_refusals ActionNotApplicable ActionNotApplicable rest others f g e = (refl, (parted e).1)
same_refusals TooManyClusters TooManyClusters rest others f g e = (refl, (parted e).1)
same_refusals ClusterAlreadyChanged ClusterAlreadyChanged rest others f g e = (refl, (parted e).1)
same_refusals v w rest others f g e = absurd (apart e refl)

pub unique-refusal : IsUnique refusal_spelled RefusalFits
unique-refusal = record { one = same_refusals }

same_replies : (v w : Reply) (rest others : List ℕ) → ReplyFits v → ReplyFits w
    → reply_spelled v ++ rest ≡ reply_spelled w ++ others
    → (v ≡ w) × (rest ≡ others)
same_replies (Started a) (Started b) rest others f g e =
    let same = unique-u32.one a b rest others f g (cc) in (ap Started same.0, same.1)
same_replies (SyncedTo a) (SyncedTo b) rest others f g e =
    let same = unique-synced.one a b rest others f g (cc) in (ap SyncedTo same.0, same.1)
same_replies (Refused a) (Refused b) rest others f g e =
    let same = unique-refusal.one a b rest others f g (cc) in (ap Refused same.0, same.1)
same_replies Done Done rest others f g e = (refl, (parted e).1)
same_replies v w rest others f g e = absurd (apart e refl)

pub unique-reply : IsUnique reply_spelled ReplyFits
unique-reply = record { one = same_replies }
