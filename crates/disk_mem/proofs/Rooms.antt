-- The room of a disk, also for what a restart puts back.
use Rattle.std.proofs.Common.{◌≡◌, ℕ, ◌+◌, ◌*◌, ◌/◌, ◌≤◌, refl, arith}
use Rattle.disk_mem.specs.declared.tear.Tear.{Tear}
use Rattle.disk_mem.specs.declared.tear.Tear.TheVariants.{Keep, Old, Ones}
use Rattle.disk_mem.specs.Tears.{more}

-- what two things need
pub more-add : (tear : Tear) (a b : ℕ) → more tear (a + b) ≡ more tear a + more tear b
more-add Keep a b = refl
more-add Old a b = refl
more-add Ones a b = refl

-- one write of n bytes more, of which k stand: of the pages
pub pages_wrote : (tear : Tear) (ranges bytes writes room ranges' bytes' writes' room' n k spare spare' : ℕ)
    → writes ≡ writes' + 1 → room ≡ room' + n → k ≤ n → ranges' ≡ ranges + more tear 1 → bytes' ≡ bytes + more tear n
    → 2 * ranges + bytes / 4096 + more tear (3 * writes + room / 4096) + 2 * writes + room / 4096 ≤ spare
    → spare ≤ spare' + (k / 4096 + 2)
    → 2 * ranges' + bytes' / 4096 + more tear (3 * writes' + room' / 4096) + 2 * writes' + room' / 4096 ≤ spare'
pages_wrote Keep ranges bytes writes room ranges' bytes' writes' room' n k spare spare' w r le rs bs fits took =
    omega (arith, w, r, le, rs, bs, fits, took)
pages_wrote Old ranges bytes writes room ranges' bytes' writes' room' n k spare spare' w r le rs bs fits took =
    omega (arith, w, r, le, rs, bs, fits, took)
pages_wrote Ones ranges bytes writes room ranges' bytes' writes' room' n k spare spare' w r le rs bs fits took =
    omega (arith, w, r, le, rs, bs, fits, took)

-- and of the leaves
pub leaves_wrote : (tear : Tear) (ranges bytes writes room ranges' bytes' writes' room' n k spare spare' : ℕ)
    → writes ≡ writes' + 1 → room ≡ room' + n → k ≤ n → ranges' ≡ ranges + more tear 1 → bytes' ≡ bytes + more tear n
    → 2 * ranges + bytes / 2097152 + more tear (3 * writes + room / 2097152) + 2 * writes + room / 2097152 ≤ spare
    → spare ≤ spare' + (k / 2097152 + 2)
    → 2 * ranges' + bytes' / 2097152 + more tear (3 * writes' + room' / 2097152) + 2 * writes' + room' / 2097152
    ≤ spare'
leaves_wrote Keep ranges bytes writes room ranges' bytes' writes' room' n k spare spare' w r le rs bs fits took =
    omega (arith, w, r, le, rs, bs, fits, took)
leaves_wrote Old ranges bytes writes room ranges' bytes' writes' room' n k spare spare' w r le rs bs fits took =
    omega (arith, w, r, le, rs, bs, fits, took)
leaves_wrote Ones ranges bytes writes room ranges' bytes' writes' room' n k spare spare' w r le rs bs fits took =
    omega (arith, w, r, le, rs, bs, fits, took)
