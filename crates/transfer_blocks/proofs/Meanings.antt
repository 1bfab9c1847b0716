-- What a put leaves of what transfers and clusters mean.
use Rattle.std.proofs.Common.{◌≡◌, ◌≢◌, ◌⊎◌, ⊎_elim, ℕ, ◌<◌, ◌≤◌, ◌==◌, Bool, true, false, cond, List, [], ◌∷◌, map, filter, take, Some, refl, sym, ap, ◌∙◌}
use Rattle.std.specs.Prelude.{if◌then◌else◌, find, option_map}
use Rattle.std.proofs.lemmas.Bool.{cases_eq}
use Rattle.std.proofs.lemmas.Simd.{map-map}
use Rattle.ucm_base.specs.Limits.{transfer_limit}
use Rattle.ucm_base.specs.Parts.{Bytes}
use Rattle.pm_types.specs.declared.clusters.Extent.{Extent}
use Rattle.pm_types.specs.declared.state.StoredTransfer.{StoredTransfer}
use Rattle.pm_types.specs.declared.status.Phase.TheVariants.{Transferring}
use Rattle.pm_types.specs.declared.transfers.Header.{Header}
use Rattle.pm_types.specs.NodeState.{Transfer as NodeTransfer, is_in}
use Rattle.pm_types.specs.Transfers.{parts_read, header_of}
use Rattle.pm_types.specs.Histories.{Reading}
use Rattle.pm_types.specs.Stored.{Areas, on_side, transfer_meaning}
use Rattle.transfer_blocks.specs.declared.area.Area.TheVariants.{Transfer}
use Rattle.transfer_blocks.specs.Areas.{content_of, AreasFit, LeavesOutside}
use Rattle.transfer_blocks.specs.Table.{stored_ids}
use Rattle.transfer_blocks.proofs.Bytes.{before-stands}
use Rattle.transfer_blocks.proofs.Areas.{elsewhere-stands}

-- a transfer with these bytes
abbrev read_as : Reading → Header → Bytes → NodeTransfer
read_as read h bytes = record {
  header = h;
  bytes = bytes;
  parts = if is_in Transferring h then []
      else parts_read (read bytes);
}

module _ (slot at n : ℕ) (old new : Areas) (is : slot < transfer_limit) (fit : AreasFit old)
    (left : LeavesOutside (Transfer slot) at n old new) where
  -- a transfer in another slot, or whose received bytes end before the range
  pub transfer-stands : (read : Reading) (t : StoredTransfer) → t.slot < transfer_limit
      → (t.slot ≢ slot) ⊎ (t.header.received ≤ at) → transfer_meaning read new t ≡ transfer_meaning read old t
  transfer-stands read t t_is apart =
      ap (read_as read t.header) (⊎_elim
      (λ differ. ap (take t.header.received)
      (elsewhere-stands (Transfer slot) old is fit (Transfer t.slot) at n new t_is (λ e. differ cc) left))
      (λ le. ⊎_elim
      (λ e. ap (λ k. take t.header.received (content_of (Transfer k) new)) e
      ∙ before-stands at n _ _ t.header.received le left.here
      ∙ ap (λ k. take t.header.received (content_of (Transfer k) old)) (sym e))
      (λ differ. ap (take t.header.received)
      (elsewhere-stands (Transfer slot) old is fit (Transfer t.slot) at n new t_is (λ e. differ cc) left))
      (cases_eq t.slot slot))
      apart)

  -- a cluster's content
  pub side-stands : (e : Extent) → on_side new e ≡ on_side old e
  side-stands e = ap (λ a. on_side a e) left.elsewhere

-- a search, a list of ids and a filter look at headers alone, so they say the same of transfers and of what they mean
module _ (read : Reading) (areas : Areas) where
  pub header-means : (test : Header → Bool) (ts : List StoredTransfer)
      → header_of (find (λ t. test t.header) (map (transfer_meaning read areas) ts))
      ≡ option_map (λ t. t.header) (find (λ t. test t.header) ts)
  header-means test [] = refl
  header-means test (t ∷ ts) = by-test (test t.header) (header-means test ts)
    where
      by-test : (b : Bool) → header_of (find (λ t. test t.header) (map (transfer_meaning read areas) ts))
          ≡ option_map (λ t. t.header) (find (λ t. test t.header) ts)
          → header_of (cond b (Some (transfer_meaning read areas t))
          (find (λ t. test t.header) (map (transfer_meaning read areas) ts)))
          ≡ option_map (λ t. t.header) (cond b (Some t) (find (λ t. test t.header) ts))
      by-test true rest = refl
      by-test false rest = rest

  pub filter-means : (test : Header → Bool) (ts : List StoredTransfer)
      → filter (λ t. test t.header) (map (transfer_meaning read areas) ts)
      ≡ map (transfer_meaning read areas) (filter (λ t. test t.header) ts)
  filter-means test [] = refl
  filter-means test (t ∷ ts) = by-test (test t.header) (filter-means test ts)
    where
      by-test : (b : Bool) → filter (λ t. test t.header) (map (transfer_meaning read areas) ts)
          ≡ map (transfer_meaning read areas) (filter (λ t. test t.header) ts)
          → cond b (transfer_meaning read areas t ∷ filter (λ t. test t.header) (map (transfer_meaning read areas) ts))
          (filter (λ t. test t.header) (map (transfer_meaning read areas) ts))
          ≡ map (transfer_meaning read areas)
          (cond b (t ∷ filter (λ t. test t.header) ts) (filter (λ t. test t.header) ts))
      by-test true rest = ap (λ ts. transfer_meaning read areas t ∷ ts) rest
      by-test false rest = rest

  pub ids-mean : (client : ℕ) (ts : List StoredTransfer)
      → map (λ (t : NodeTransfer). t.header.id)
      (filter (λ t. t.header.client == client) (map (transfer_meaning read areas) ts)) ≡ stored_ids ts client
  ids-mean client ts =
      ap (map (λ (t : NodeTransfer). t.header.id)) (filter-means (λ h. h.client == client) ts)
      ∙ map-map (λ (t : NodeTransfer). t.header.id) (transfer_meaning read areas)
      (filter (λ t. t.header.client == client) ts)
