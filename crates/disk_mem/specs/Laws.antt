-- Laws of a disk in memory.
use Rattle.std.specs.Prelude.{◌≡◌, ◌⊎◌, ℕ, List, length, refl}
use Rattle.std.proofs.Common.{inl, inr, sym, ◌∙◌, ap, subst, arith}
use Rattle.disk_mem.specs.declared.event.Event.{Event}
use Rattle.disk_mem.specs.declared.tear.Tear.{Tear}
use Rattle.disk_mem.specs.Events.{Course, course_of, IsImage, MayLeave, MightHaveLeft}

pub reads_as_image : (c : Course) (bytes : List ℕ) → c.now ≡ bytes → MayLeave c bytes
reads_as_image c bytes is = subst (λ (b : List ℕ). IsImage c.ranges c.now b) is
    (record { size = refl; same = λ i out. refl })

pub image_size : (c : Course) (bytes image : List ℕ) → c.now ≡ bytes → MayLeave c image → length image ≡ length bytes
image_size c bytes image is here = here.size ∙ ap (λ (b : List ℕ). length b) is

pub only_now : (tear : Tear) (size : ℕ) (events : List Event) (pieces image : List ℕ)
    → MayLeave (course_of tear size events pieces) image ⊎ MightHaveLeft tear size events pieces (length events) image
    → MayLeave (course_of tear size events pieces) image
only_now tear size events pieces image (inl now) = now
only_now tear size events pieces image (inr past) =
    let le = past.1 in let lt = past.2 in absurd (omega (arith, le, lt))
