-- A disk in memory obeys its plan, and nothing else lets a call fail.
use Rattle.std.specs.Prelude.{◌≡◌, ℕ, ◌||◌, Bool, false, if◌then◌else◌, List, length, take, replicate}
use Rattle.fault_count.specs.Faults.{one_more}
use Rattle.disk_core.specs.declared.plan.FailKind.{FailKind}
use Rattle.disk_core.specs.declared.plan.FailKind.TheVariants.{Read, Write, Sync}
use Rattle.disk_core.specs.Bytes.{put_at}
use Rattle.disk_core.specs.Plans.{no_faults}
use Rattle.disk_core.specs.Calls.{Call, reserves, reads, writes, syncs, restarts, arms}
use Rattle.disk_mem.specs.declared.strikes.Fate.{Fate}
use Rattle.disk_mem.specs.declared.tear.Tear.{Tear}
use Rattle.disk_mem.specs.declared.mem.MemDisk.{MemDisk}
use Rattle.disk_mem.specs.Events.{Course, settled_at, wrote, torn}
use Rattle.disk_mem.specs.Medium.{course}
use Rattle.disk_mem.specs.Strikes.{fate_of, numbers_of, counted, is_bad, is_stop, kept_of}

-- the call failed just where this fate says so, and was counted
pub record IsJudged (kind : FailKind) (fate : Fate) (failed : Bool) (old new : MemDisk) : Type 0 where
  pub word : failed ≡ is_bad fate
  pub faults : new.faults ≡ (if failed then one_more old.faults else old.faults)
  pub stopped : new.strikes.stopped ≡ (old.strikes.stopped || is_stop fate)
  pub numbers : numbers_of new.strikes ≡ counted kind old.strikes
  pub calm : old.strikes.plan ≡ no_faults → failed ≡ false

-- power is as it was, and no call was counted
pub record IsUnjudged (old new : MemDisk) : Type 0 where
  pub stopped : new.strikes.stopped ≡ old.strikes.stopped
  pub numbers : numbers_of new.strikes ≡ numbers_of old.strikes

-- the tear stays, and what was written goes this way
pub record Goes (way : Course → Course) (old new : MemDisk) : Type 0 where
  pub tear : new.medium.tear ≡ old.medium.tear
  pub course : course new.medium ≡ way (course old.medium)

-- no way at all
abbrev pub stays : Course → Course
stays c = c

-- what is written is there for good, unless the sync failed
abbrev pub synced : Bool → Course → Course
synced failed c = if failed then c else settled_at c.now

-- a write keeps just the bytes that its fate says
pub record Keeps (fate : Fate) (at : ℕ) (piece : List ℕ) (old new : MemDisk) : Type 0 where
  pub bytes : new.medium.pages.bytes ≡ put_at old.medium.pages.bytes at (take (kept_of fate (length piece)) piece)
  pub goes : Goes (wrote at (length piece) (take (kept_of fate (length piece)) piece)) old new

-- power is there again, over what the tear makes of the bytes
pub record IsRestarted (failed : Bool) (old new : MemDisk) : Type 0 where
  pub succeeds : failed ≡ false
  pub bytes : new.medium.pages.bytes ≡ torn old.medium.tear (course old.medium)
  pub goes : Goes (λ c. settled_at (torn old.medium.tear c)) old new
  pub stopped : new.strikes.stopped ≡ false
  pub numbers : numbers_of new.strikes ≡ numbers_of old.strikes
  pub faults : new.faults ≡ old.faults

-- a plan that is armed counts from here
pub record IsArmed (armed : Bool) (old new : MemDisk) : Type 0 where
  pub stopped : new.strikes.stopped ≡ false
  pub numbers : numbers_of new.strikes ≡ (if armed then (0, 0, 0) else numbers_of old.strikes)

abbrev pub Obeys : MemDisk → Call → MemDisk → Type 0
Obeys old reserves new = IsUnjudged old new × Goes stays old new
Obeys old (reads failed) new = IsJudged Read (fate_of Read old.strikes) failed old new × Goes stays old new
Obeys old (writes at piece failed) new =
    IsJudged Write (fate_of Write old.strikes) failed old new × Keeps (fate_of Write old.strikes) at piece old new
Obeys old (syncs failed) new =
    IsJudged Sync (fate_of Sync old.strikes) failed old new × Goes (synced failed) old new
Obeys old (restarts failed) new = IsRestarted failed old new
Obeys old (arms armed) new = IsArmed armed old new × Goes stays old new

-- no call was made yet
pub record IsNew (disk : MemDisk) : Type 0 where
  pub stopped : disk.strikes.stopped ≡ false
  pub numbers : numbers_of disk.strikes ≡ (0, 0, 0)
  pub faults : disk.faults ≡ 0

-- nothing was written yet, and this is the tear of a restart
pub record IsFresh (tear : Tear) (size : ℕ) (disk : MemDisk) : Type 0 where
  pub tears : disk.medium.tear ≡ tear
  pub zeros : course disk.medium ≡ settled_at (replicate size 0)
