-- New disks in memory are unused.
use Rattle.std.proofs.Common.{◌≡◌, ◌≤◌, ℕ, zero, suc, List, [], ◌∷◌, ◌++◌, length, take, replicate, refl, ap, ◌∙◌, subst, sym, arith}
use Rattle.std.specs.List.{AllByRecursion}
use Rattle.std.proofs.lemmas.List.{length-replicate}
use Rattle.disk_core.specs.Images.{Only}
use Rattle.disk_core.specs.Plans.{no_faults}
use Rattle.disk_mem.specs.declared.mem.MemDisk.{MemDisk}
use Rattle.disk_mem.specs.Medium.{images}
use Rattle.slot_store.specs.Extents.{node_end}
use Rattle.ucm_base.specs.Limits.{node_limit}
use Rattle.ucm_prog.specs.Disks.{AreDisks, IsUnused, master_end}

abbrev pub Is : ℕ → MemDisk → Type 0
Is size d = IsUnused size d.medium.pages.bytes (images d.medium) d.strikes.plan

-- a disk of zeros
pub new_unused : (size : ℕ) (d : MemDisk) → d.medium.pages.bytes ≡ replicate size 0
    → Only d.medium.pages.bytes (images d.medium) → d.strikes.plan ≡ no_faults → Is size d
new_unused size d zeros durable unarmed =
    let long : length d.medium.pages.bytes ≡ size = ap length zeros ∙ length-replicate {A = ℕ} size 0 in
    record {
      large = omega (arith, long);
      zeros = zeros ∙ ap (λ n. replicate {A = ℕ} n 0) (sym long);
      durable = durable;
      unarmed = unarmed;
    }

pub one_more : (P : MemDisk → Type 0) (ds : List MemDisk) (d : MemDisk) → AllByRecursion P ds → P d
    → AllByRecursion P (ds ++ d ∷ [])
one_more P [] d all is = (is, tt)
one_more P (e ∷ ds) d all is = (all.0, one_more P ds d all.1 is)

taken : (P : MemDisk → Type 0) (ds : List MemDisk) (n : ℕ) → AllByRecursion P ds → AllByRecursion P (take n ds)
taken P [] zero all = tt
taken P [] (suc n) all = tt
taken P (d ∷ ds) zero all = tt
taken P (d ∷ ds) (suc n) all = (all.0, taken P ds n all.1)

pub are_disks : (master : MemDisk) (nodes : List MemDisk) → Is master_end master → node_limit ≤ length nodes
    → AllByRecursion (Is node_end) nodes → AreDisks Is (master ∷ nodes)
are_disks master nodes first many each = (first, many, taken (Is node_end) nodes node_limit each)
