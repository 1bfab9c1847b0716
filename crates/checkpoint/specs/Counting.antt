-- Which half counts, and what the calls leave of the halves.
use Rattle.std.specs.Prelude.{◌≡◌, ◌≢◌, ◌⊎◌, ℕ, ◌+◌, ◌<◌, nat_lt, Bool, if◌then◌else◌, List, slice_index, Option, Some, None, IfSome}
use Rattle.disk_core.specs.Bytes.{Torn}
use Rattle.disk_area.specs.Windows.{window}
use Rattle.checkpoint.specs.Halves.{Body, begins, layout_of, other, head_area, journal_area, half_of, stored_in}

-- the body of a half that reads, where its state passes the test
abbrev pub told : (List ℕ → Bool) → Option Body → Option Body
told tells None = None
told tells (Some body) = if tells body.state then Some body else None

-- of two halves that read the one with the greater generation counts, of equal ones the lower
abbrev pub newest : ℕ → Option Body → Option Body → Option (ℕ × Body)
newest low None None = None
newest low (Some a) None = Some (low, a)
newest low None (Some b) = Some (low + 1, b)
newest low (Some a) (Some b) = if nat_lt a.generation b.generation then Some (low + 1, b) else Some (low, a)

-- the half that counts of the pair that begins with this one, among those whose states pass the test
abbrev pub counting : (List ℕ → Bool) → ℕ → List ℕ → Option (ℕ × Body)
counting tells low image = newest low (told tells (half_of low image)) (told tells (half_of (low + 1) image))

-- another half of its pair counts, or none
abbrev pub IsSpare : (List ℕ → Bool) → ℕ → List ℕ → Type 0
IsSpare tells half image = IfSome (counting tells (layout_of half).low image) (λ counts. counts.0 ≢ half)

-- a generation above that of this half, where it reads
abbrev pub IsNewer : ℕ → Option Body → Type 0
IsNewer generation None = Unit {0}
IsNewer generation (Some body) = body.generation < generation

-- a body, with a generation above that of the other half
abbrev pub IsAbove : Option Body → Option Body → Type 0
IsAbove None other = ⊥
IsAbove (Some body) other = IsNewer body.generation other

-- this half reads as before, or as nothing; the other one as before, and no byte outside the head of this half changed
pub record MayClose (half : ℕ) (old new : List ℕ) : Type 0 where
  pub outside : Torn (head_area half).at (head_area half).len old new
  pub reads : (half_of half new ≡ half_of half old) ⊎ (half_of half new ≡ None)
  pub beside : half_of (other half) new ≡ half_of (other half) old

-- closed, over a body that would count, with an empty journal
pub record CanOpen (half : ℕ) (image : List ℕ) : Type 0 where
  pub shut : slice_index (window (head_area half) image) 0 ≢ 1
  pub above : IsAbove (stored_in half image) (half_of (other half) image)
  pub journal : slice_index (window (head_area half) image) (layout_of half).journal_at ≡ 0

-- no byte changed but the gate of this half
abbrev pub GateAlone : ℕ → List ℕ → List ℕ → Type 0
GateAlone half old new = Torn (begins half) 1 old new

-- this half reads as nothing, and the other one as before
pub record StaysShut (half : ℕ) (old new : List ℕ) : Type 0 where
  pub gate : GateAlone half old new
  pub reads : half_of half new ≡ None
  pub beside : half_of (other half) new ≡ half_of (other half) old

-- this half reads as what was stored in it, behind which its journal is empty; the other one as before
pub record Opens (half : ℕ) (old new : List ℕ) : Type 0 where
  pub gate : GateAlone half old new
  pub reads : half_of half new ≡ stored_in half old
  pub beside : half_of (other half) new ≡ half_of (other half) old
  pub journal : slice_index (window (head_area half) new) (layout_of half).journal_at ≡ 0

-- the half stays shut, or opens
abbrev pub MayOpen : ℕ → List ℕ → List ℕ → Type 0
MayOpen half old new = StaysShut half old new ⊎ Opens half old new

-- the same half of the pair counts as before, and behind the half beside this one stand the same records
pub record KeepsCounting (tells : List ℕ → Bool) (half : ℕ) (old new : List ℕ) : Type 0 where
  pub counts : counting tells (layout_of half).low new ≡ counting tells (layout_of half).low old
  pub records : window (journal_area (other half)) new ≡ window (journal_area (other half)) old
