-- What is answered over a stored state's lists is the definition's answer of the state that it stands for.
use Rattle.std.proofs.Common.{◌≡◌, ℕ, ◌+◌, ◌*◌, ◌/◌, Bool, true, false, cond, List, [], ◌∷◌, map, filter, find, fold, length, option_map, Option, Some, None, refl, sym, ap, ap₂, ◌∙◌}
use Rattle.std.specs.List.{AllByRecursion}
use Rattle.std.specs.Prelude.{◌==◌}
use Rattle.ucm_base.specs.Parts.{Bytes}
use Rattle.pm_types.specs.declared.clusters.Extent.{Extent}
use Rattle.ucm_base.specs.declared.parts.Part.{Part}
use Rattle.pm_types.specs.declared.queries.Answer.TheVariants.{Clusters, Changes, Packages, Progress, Refused, History}
use Rattle.pm_types.specs.declared.queries.Query.TheVariants.{GetSwClusterInfo, GetSwClusterChangeInfo, GetSwPackages, GetSwProcessProgress, GetHistory}
use Rattle.pm_types.specs.declared.replies.Refusal.TheVariants.{InvalidTransferId}
use Rattle.pm_types.specs.declared.state.StoredTransfer.{StoredTransfer}
use Rattle.pm_types.specs.declared.status.Phase.{Phase}
use Rattle.pm_types.specs.declared.status.Phase.TheVariants.{Transferring, Transferred, Processing, Processed}
use Rattle.pm_types.specs.Clusters.{stored_units, units_of}
use Rattle.pm_types.specs.NodeState.{SessionOf, Transfer}
use Rattle.pm_types.specs.Histories.{Reading}
use Rattle.pm_types.specs.Queries.{answer, progress_of}
use Rattle.pm_types.specs.Stored.{State, Areas, cluster_meaning, change_meaning, session_meaning, transfer_meaning, meaning, IsPlaced}
use Rattle.pm_types.specs.Transfers.{is_of}
use Rattle.history_query.specs.Shown.{shown_cluster, shown_change, shown_transfer, changes_planned, is_between, units_done_in, percent_in, progress_at, progress_answer}
use Rattle.history_query.proofs.Found.{found-has}

map-of-map : {X Y Z : Type 0} (f : X → Y) (g : Y → Z) (xs : List X) → map (λ x. g (f x)) xs ≡ map g (map f xs)
map-of-map f g [] = refl
map-of-map f g (x ∷ xs) = ap (λ zs. g (f x) ∷ zs) (map-of-map f g xs)

-- a filter and a search by what a reading keeps
map-of-filter : {X Y Z : Type 0} (f : X → Y) (test : Y → Bool) (g : Y → Z) (xs : List X)
    → map (λ x. g (f x)) (filter (λ x. test (f x)) xs) ≡ map g (filter test (map f xs))
map-of-filter f test g [] = refl
map-of-filter {X} {Y} {Z} f test g (x ∷ xs) = go (test (f x)) (map-of-filter f test g xs)
  where
    go : (b : Bool) → map (λ x. g (f x)) (filter (λ x. test (f x)) xs) ≡ map g (filter test (map f xs))
        → map (λ x. g (f x)) (cond b (x ∷ filter (λ x. test (f x)) xs) (filter (λ x. test (f x)) xs))
        ≡ map g (cond b (f x ∷ filter test (map f xs)) (filter test (map f xs)))
    go true rest = ap (λ zs. g (f x) ∷ zs) rest
    go false rest = rest

find-of-map : {X Y : Type 0} (f : X → Y) (test : Y → Bool) (xs : List X)
    → find test (map f xs) ≡ option_map f (find (λ x. test (f x)) xs)
find-of-map f test [] = refl
find-of-map {X} {Y} f test (x ∷ xs) = go (test (f x)) (find-of-map f test xs)
  where
    go : (b : Bool) → find test (map f xs) ≡ option_map f (find (λ x. test (f x)) xs)
        → cond b (Some (f x)) (find test (map f xs)) ≡ option_map f (cond b (Some x) (find (λ x. test (f x)) xs))
    go true rest = refl
    go false rest = rest

-- a part's units go by the length of its payload
pub units-same : (n : ℕ) (parts : List (Part Bytes))
    → fold (λ (k : ℕ) (part : Part ℕ). k + units_of part.payload) n
    (map (λ part. record { manifest = part.manifest; payload = length part.payload }) parts)
    ≡ fold (λ (k : ℕ) (part : Part Bytes). k + units_of (length part.payload)) n parts
units-same n [] = refl
units-same n (part ∷ parts) = units-same (n + units_of (length part.payload)) parts

percent-same : (phase : Phase) (done done' all all' : ℕ) → done ≡ done' → all ≡ all'
    → percent_in phase done all ≡ elim phase [
      | Transferring ↦ 0
      | Transferred ↦ 0
      | Processing ↦ (100 * done') / all'
      | Processed ↦ 100
    ]
percent-same Transferring done done' all all' d a = refl
percent-same Transferred done done' all all' d a = refl
percent-same Processing done done' all all' d a = ap₂ (λ m n. (100 * m) / n) d a
percent-same Processed done done' all all' d a = refl

module _ (read : Reading) (areas : Areas) (s : State) (client : ℕ) where
  pub clusters-answered : Clusters (map shown_cluster s.running) ≡ answer (meaning read areas s) client GetSwClusterInfo
  clusters-answered = ap Clusters (map-of-map (cluster_meaning areas) shown_cluster s.running)

  pub changes-answered : Changes (map shown_change (changes_planned s.session))
      ≡ answer (meaning read areas s) client GetSwClusterChangeInfo
  changes-answered = ap Changes (shown s.session)
    where
      shown : (session : Option (SessionOf Extent))
          → map shown_change (changes_planned session)
          ≡ map shown_change (changes_planned (option_map (session_meaning areas) session))
      shown None = refl
      shown (Some x) = map-of-map (change_meaning areas) shown_change x.changes

  pub packages-answered : Packages (map (λ t. shown_transfer t.header)
      (filter (λ t. t.header.client == client) s.transfers)) ≡ answer (meaning read areas s) client GetSwPackages
  packages-answered =
      ap Packages (map-of-filter (transfer_meaning read areas) (λ t. t.header.client == client) (λ t.
      shown_transfer t.header) s.transfers)

  pub history-answered : (ge lt : ℕ) → History (filter (is_between ge lt) s.lines)
      ≡ answer (meaning read areas s) client (GetHistory ge lt)
  history-answered ge lt = refl

  pub progress-answered : AllByRecursion (IsPlaced read areas) s.transfers → (id : ℕ)
      → progress_answer (progress_at s.session (find (λ t. is_of client id t.header) s.transfers))
      ≡ answer (meaning read areas s) client (GetSwProcessProgress id)
  progress-answered placed id =
      told (find (λ t. is_of client id t.header) s.transfers) refl
      ∙ ap (λ (o : Option Transfer). elim o [
        | None ↦ Refused InvalidTransferId
        | Some t ↦ Progress (progress_of (meaning read areas s) t)
      ])
      (sym (find-of-map (transfer_meaning read areas) (λ t. is_of client id t.header) s.transfers))
    where
      done : (session : Option (SessionOf Extent))
          → units_done_in session ≡ units_done_in (option_map (session_meaning areas) session)
      done None = refl
      done (Some x) = refl

      told : (o : Option StoredTransfer) → find (λ t. is_of client id t.header) s.transfers ≡ o
          → progress_answer (progress_at s.session o)
          ≡ elim (option_map (transfer_meaning read areas) o) [
            | None ↦ Refused InvalidTransferId
            | Some t ↦ Progress (progress_of (meaning read areas s) t)
          ]
      told None found = refl
      told (Some t) found =
          let is = (found-has (λ t. is_of client id t.header) (IsPlaced read areas) s.transfers t placed found).1 in
          ap Progress (percent-same t.header.phase (units_done_in s.session) _ (stored_units t.contents) _
          (done s.session) (ap stored_units is.contents ∙ units-same 0 (transfer_meaning read areas t).parts))
