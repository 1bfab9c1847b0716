-- What stored transfers mean, and what a change of one of them changes of that.
use Rattle.node_core.proofs.Names.{AllByRecursion, Areas, BeingProcessed, Found, Holding, AreCopied, IsCopiedIn, IsInOrder, IsPlaced, IsSound, RunsWhatItShould, extents_in, units_done}
use Rattle.node_core.proofs.Names.{List, Option, Phase, Reading, Some, State, StoredTransfer, Transfer, ap, arith, each-both, each-imp}
use Rattle.node_core.proofs.Names.{each-unmap, false, find, found-has, found_of, if◌then◌else◌, is_none, is_of, map, map-map}
use Rattle.node_core.proofs.Names.{numbers_rise, option_map, package_reading, refl, rise-above, rise-tail, slice_range, slots_differ, stored_header}
use Rattle.node_core.proofs.Names.{stored_of, subst, sym, take, take-add, transfer_meaning, true, with_length, [], ℕ, ◌++◌, ◌+◌}
use Rattle.node_core.proofs.Names.{◌<◌, ◌==◌, ◌∙◌, ◌∷◌, ◌≡◌}
use Rattle.node_core.proofs.Lists.{every, find-map, change-map}

abbrev pub ids : List StoredTransfer → List ℕ
ids ts = map (λ t. t.header.id) ts

abbrev pub found : ℕ → ℕ → List StoredTransfer → Option StoredTransfer
found client id ts = find (λ t. is_of client id t.header) ts

-- a transfer that is found has the id and the client
pub found-is : (client id : ℕ) (ts : List StoredTransfer) (u : StoredTransfer) → found client id ts ≡ Some u
    → (u.header.id ≡ id) × (u.header.client ≡ client)
found-is client id ts u e =
    grind (arith, found-has (λ t. is_of client id t.header) (λ _. Unit {0}) ts u (every (λ _. tt) ts))

-- and is the only one of its id
pub only : (client id : ℕ) (ts : List StoredTransfer) (u : StoredTransfer) → numbers_rise (ids ts) ≡ true
    → found client id ts ≡ Some u → AllByRecursion (λ t. (t.header.id == id) ≡ true → t ≡ u) ts
only client id [] u r e = tt
only client id (t ∷ ts) u r e =
    let above = each-unmap (λ n. t.header.id < n) (λ (v : StoredTransfer). v.header.id) ts
    (rise-above t.header.id (ids ts) r) in
    grind (
      arith,
      only client id ts u (rise-tail t.header.id (ids ts) r),
      found-is client id ts u,
      above,
      found-has (λ v. is_of client id v.header) (λ v. t.header.id < v.header.id) ts u above,
      each-imp,
    )

-- a fact of the one that is found is one of all of its id
pub only-has : (P : StoredTransfer → Type 0) (client id : ℕ) (ts : List StoredTransfer) (u : StoredTransfer)
    → numbers_rise (ids ts) ≡ true → found client id ts ≡ Some u → P u
    → AllByRecursion (λ t. (t.header.id == id) ≡ true → P t) ts
only-has P client id ts u r e own = each-imp _ _ (λ t same q. subst P (sym (same q)) own) ts (only client id ts u r e)

-- a change that keeps the slots
pub same-slots : (id : ℕ) (g : StoredTransfer → StoredTransfer) → ((t : StoredTransfer) → (g t).slot ≡ t.slot)
    → (ts : List StoredTransfer) → map (λ t. t.slot) (map (λ t. if t.header.id == id then g t else t) ts)
    ≡ map (λ t. t.slot) ts
same-slots id g keeps [] = refl
same-slots id g keeps (t ∷ ts) = grind (arith, same-slots id g keeps ts, keeps t)

-- a transfer that some header is found of
pub some-stored : (o : Option StoredTransfer) → is_none (option_map (λ t. t.header) o) ≡ false
    → (u : StoredTransfer) × (o ≡ Some u)
some-stored o e = grind arith

-- the header of a look-up
pub found-header : (ts : List StoredTransfer) (client id : ℕ)
    → stored_header ts client id ≡ option_map (λ (f : Found). f.header) (found_of ts client id)
found-header ts client id = grind arith

-- a part with its payload's length, of the bytes behind those that came
pub staged-bytes : (came n : ℕ) (content block : List ℕ) → slice_range content came (came + n) ≡ block
    → take (came + n) content ≡ take came content ++ block
staged-bytes came n content block staged = grind (arith, take-add came n content)

module _ (read : Reading) (areas : Areas) where
  -- what is found in what transfers mean is what the one that is found means
  pub found-means : (client id : ℕ) (ts : List StoredTransfer)
      → find (λ t. is_of client id t.header) (map (transfer_meaning read areas) ts)
      ≡ option_map (transfer_meaning read areas) (found client id ts)
  found-means client id ts = find-map (transfer_meaning read areas) (λ t. is_of client id t.header) ts

  -- a change of the one that is found
  pub changed-means : (client id : ℕ) (g : StoredTransfer → StoredTransfer) (h : Transfer
      → Transfer) (ts : List StoredTransfer) (u : StoredTransfer)
      → numbers_rise (ids ts) ≡ true → found client id ts ≡ Some u
      → transfer_meaning read areas (g u) ≡ h (transfer_meaning read areas u)
      → map (transfer_meaning read areas) (map (λ t. if t.header.id == id then g t else t) ts)
      ≡ map (λ t. if t.header.id == id then h t else t) (map (transfer_meaning read areas) ts)
  changed-means client id g h ts u r e same =
      change-map (transfer_meaning read areas) (λ t. t.header.id == id) g h ts
      (only-has (λ t. transfer_meaning read areas (g t) ≡ h (transfer_meaning read areas t)) client id ts u r e same)

-- a fact of what each transfer means is one of what the one that is found means
pub found-fact : (P : Transfer → Type 0) (areas : Areas) (client id : ℕ) (ts : List StoredTransfer) (u : StoredTransfer)
    → AllByRecursion P (map (transfer_meaning package_reading areas) ts) → stored_of ts client id ≡ Some u
    → P (transfer_meaning package_reading areas u)
found-fact P areas client id ts u each e =
    let means = transfer_meaning package_reading areas in
    (found-has (λ t. is_of client id t.header) (λ t. P (means t)) ts u (each-unmap P means ts each) e).1

-- only of a transfer in processing need anything be copied
pub copied-when : (areas : Areas) (s : State) (t : StoredTransfer) (phase : Phase)
    → (phase ≡ BeingProcessed
    → AreCopied areas (units_done s) (transfer_meaning package_reading areas t).parts (extents_in s t))
    → IsCopiedIn package_reading areas s t phase
copied-when areas s t phase each = grind arith

-- with what a state in order runs and plans another one is, where its transfers are placed and it runs what it should
pub order-of : {old new : Areas} {s : State} (n : State) → AllByRecursion (IsPlaced package_reading new) n.transfers
    → slots_differ (map (λ t. t.slot) n.transfers) ≡ true
    → RunsWhatItShould (record n { session = s.session; running = s.running }) → IsInOrder package_reading old s
    → IsInOrder package_reading new (record n { session = s.session; running = s.running })
order-of n placed slots runs i = record {
  clusters = i.clusters;
  session = i.session;
  transfers = placed;
  slots = slots;
  places = i.places;
  running = runs;
}

-- a state is in order by what its transfers mean
pub read-order : (old new : Areas) (s : State)
    → AllByRecursion (λ t. transfer_meaning package_reading new t ≡ transfer_meaning package_reading old t) s.transfers
    → IsInOrder package_reading old s → IsInOrder package_reading new s
read-order old new s each i = order-of s (each-both _ _ _ (λ t same placed. record {
  slot = placed.slot;
  contents = placed.contents ∙ ap (λ (m : Transfer). map with_length m.parts) (sym same);
}) s.transfers each i.transfers) i.slots i.running i

-- the ids of a sound node's transfers rise
pub rise : (v : Holding) → IsSound v → numbers_rise (ids v.state.transfers) ≡ true
rise v sound =
    ap numbers_rise
    (sym (map-map (λ (t : Transfer). t.header.id) (transfer_meaning package_reading v.areas) v.state.transfers))
    ∙ sound.fit.consistent.transfers.rise
