-- What a disk keeps so that a restart can make what its tear says.
use Rattle.std.specs.Prelude.{◌≡◌, ℕ, ◌+◌, ◌≤◌, max, List, [], ◌∷◌, length, take, drop, replicate, slice_range}
use Rattle.disk_core.specs.Bytes.{put_at}
use Rattle.disk_mem.specs.declared.tear.Tear.{Tear}
use Rattle.disk_mem.specs.declared.tear.Tear.TheVariants.{Keep, Old, Ones}
use Rattle.disk_mem.specs.Events.{Course, with_ones}

-- what is kept of a write: its range, and the bytes that a restart puts there
abbrev pub ranges_kept : Tear → ℕ → ℕ → List (ℕ × ℕ)
ranges_kept Keep at len = []
ranges_kept Old at len = (at, len) ∷ []
ranges_kept Ones at len = (at, len) ∷ []

abbrev pub bytes_kept : Tear → List ℕ → ℕ → ℕ → List ℕ
bytes_kept Keep content at len = []
bytes_kept Old content at len = slice_range content at (at + len)
bytes_kept Ones content at len = replicate len 1

-- how many bytes these ranges have together
abbrev pub total : List (ℕ × ℕ) → ℕ
total [] = 0
total (r ∷ rs) = r.1 + total rs

-- where the last of these ranges ends
abbrev pub reach : List (ℕ × ℕ) → ℕ
reach [] = 0
reach (r ∷ rs) = max (r.0 + r.1) (reach rs)

-- each range lies within the disk
abbrev pub AllWithin : ℕ → List (ℕ × ℕ) → Type 0
AllWithin size ranges = reach ranges ≤ size

-- these bytes put into the ranges, the newest first, so that the oldest stay
abbrev pub mended : List (ℕ × ℕ) → List ℕ → List ℕ → List ℕ
mended [] bytes content = content
mended (r ∷ rs) bytes content = put_at (mended rs (drop r.1 bytes) content) r.0 (take r.1 bytes)

-- the ranges that are kept
abbrev pub ranges_torn : Tear → List (ℕ × ℕ) → List (ℕ × ℕ)
ranges_torn Keep ranges = []
ranges_torn Old ranges = ranges
ranges_torn Ones ranges = ranges

-- into what the kept bytes are put: ones into anything, old bytes into what a read gives
abbrev pub base : Tear → Course → List ℕ → List ℕ
base Keep c content = content
base Old c content = c.now
base Ones c content = content

-- and what that makes of it
abbrev pub aim : Tear → Course → List ℕ → List ℕ
aim Keep c content = content
aim Old c content = c.synced
aim Ones c content = with_ones c.ranges content

-- the kept bytes make of the course what its tear says
abbrev pub Mends : Tear → List (ℕ × ℕ) → List ℕ → Course → Type 0
Mends tear ranges bytes c = (ranges ≡ ranges_torn tear c.ranges)
    × ((content : List ℕ) → mended ranges bytes (base tear c content) ≡ aim tear c content)

-- what a restart needs of n things that writes need
abbrev pub more : Tear → ℕ → ℕ
more Keep n = 0
more Old n = n
more Ones n = n
