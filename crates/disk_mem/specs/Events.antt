-- What a record of writes, syncs and restarts says of a disk that began with zeros.
use Rattle.std.specs.Prelude.{◌≡◌, ◌⊎◌, ℕ, ◌+◌, ◌<◌, ◌≤◌, List, [], ◌∷◌, ◌++◌, length, take, drop, replicate, slice_index}
use Rattle.disk_core.specs.Bytes.{put_at}
use Rattle.disk_mem.specs.declared.event.Event.{Event}
use Rattle.disk_mem.specs.declared.event.Event.TheVariants.{Wrote, Synced, Restarted}
use Rattle.disk_mem.specs.declared.tear.Tear.{Tear}
use Rattle.disk_mem.specs.declared.tear.Tear.TheVariants.{Keep, Old, Ones}

-- what a read gives, what it gave at the last sync that succeeded, and the ranges that were written since, in order
pub record Course : Type 0 where
  pub now : List ℕ
  pub synced : List ℕ
  pub ranges : List (ℕ × ℕ)

-- with nothing pending
abbrev pub settled_at : List ℕ → Course
settled_at bytes = record { now = bytes; synced = bytes; ranges = [] }

-- after a write of so many bytes of which this piece stands
abbrev pub wrote : ℕ → ℕ → List ℕ → Course → Course
wrote at len piece c =
    record { now = put_at c.now at piece; synced = c.synced; ranges = c.ranges ++ (at, len) ∷ [] }

-- the byte 1 at every place of these ranges
abbrev pub with_ones : List (ℕ × ℕ) → List ℕ → List ℕ
with_ones [] bytes = bytes
with_ones (r ∷ rs) bytes = put_at (with_ones rs bytes) r.0 (replicate r.1 1)

-- what a restart makes of it: what was kept, what was there at the last sync, or ones
abbrev pub torn : Tear → Course → List ℕ
torn Keep c = c.now
torn Old c = c.synced
torn Ones c = with_ones c.ranges c.now

-- the course after these events, whose kept bytes stand in order in `pieces`
abbrev pub course_from : Tear → Course → List Event → List ℕ → Course
course_from tear c [] pieces = c
course_from tear c (Wrote at len kept ∷ es) pieces =
    course_from tear (wrote at len (take kept pieces) c) es (drop kept pieces)
course_from tear c (Synced ∷ es) pieces = course_from tear (settled_at c.now) es pieces
course_from tear c (Restarted ∷ es) pieces = course_from tear (settled_at (torn tear c)) es pieces

-- how many bytes these events kept
abbrev pub kept_by : List Event → ℕ
kept_by [] = 0
kept_by (Wrote at len kept ∷ es) = kept + kept_by es
kept_by (Synced ∷ es) = kept_by es
kept_by (Restarted ∷ es) = kept_by es

-- the place lies in none of the ranges
abbrev pub IsOutside : List (ℕ × ℕ) → ℕ → Type 0
IsOutside [] i = Unit {0}
IsOutside (r ∷ rs) i = ((i < r.0) ⊎ (r.0 + r.1 ≤ i)) × IsOutside rs i

-- the image has the same bytes as the content, but in these ranges
pub record IsImage (ranges : List (ℕ × ℕ)) (content image : List ℕ) : Type 0 where
  pub size : length image ≡ length content
  pub same : (i : ℕ) → IsOutside ranges i → slice_index image i ≡ slice_index content i

-- a crash may leave it
abbrev pub MayLeave : Course → List ℕ → Type 0
MayLeave c image = IsImage c.ranges c.now image

-- the course of a disk of this size
abbrev pub course_of : Tear → ℕ → List Event → List ℕ → Course
course_of tear size events pieces = course_from tear (settled_at (replicate size 0)) events pieces

-- a crash after k of these events might have left it, for some k from t on that isn't all of them
abbrev pub MightHaveLeft : Tear → ℕ → List Event → List ℕ → ℕ → List ℕ → Type 0
MightHaveLeft tear size events pieces t image =
    (k : ℕ) × (t ≤ k) × (k < length events) × MayLeave (course_of tear size (take k events) pieces) image
