-- Putting back what the ranges written since a sync are to hold.
use Rattle.std.proofs.Common.{◌≡◌, ◌⊎◌, inl, inr, ⊎_elim, ℕ, ◌+◌, ◌-◌, ◌<◌, ◌≤◌, List, [], ◌∷◌, ◌++◌, length, take, drop, get_or, replicate, refl, sym, ◌∙◌, ap, subst, arith, append_assoc, length-append, length-drop, take-append-drop}
use Rattle.std.proofs.lemmas.List.{take-append-le, drop-append-le, take_all, drop_all, length-take-le, append-nil, length-replicate}
use Rattle.std.specs.List.{slice_range}
use Rattle.disk_core.specs.Bytes.{put_at, Torn}
use Rattle.disk_core.proofs.Pieces.{length-put_at, put-before, put-after, length-range}
use Rattle.disk_mem.specs.declared.tear.Tear.{Tear}
use Rattle.disk_mem.specs.declared.tear.Tear.TheVariants.{Keep, Old, Ones}
use Rattle.disk_mem.specs.Events.{Course, settled_at, wrote, torn, with_ones, IsOutside, IsImage}
use Rattle.disk_mem.specs.Tears.{ranges_kept, bytes_kept, total, AllWithin, mended, Mends}
use Rattle.disk_mem.proofs.Images.{widened}
use Rattle.disk_mem.proofs.Steps.{take_range}

-- one range more
pub mended_push : (rs : List (ℕ × ℕ)) (bytes more content : List ℕ) (at n : ℕ) → total rs ≡ length bytes
    → length more ≡ n → mended (rs ++ (at, n) ∷ []) (bytes ++ more) content ≡ mended rs bytes (put_at content at more)
mended_push [] [] more content at n all long = ap (λ (p : List ℕ). put_at content at p)
    (take_all n more (omega (arith, long)))
mended_push [] (b ∷ bytes) more content at n all long = absurd (omega (arith, all))
mended_push (r ∷ rs) bytes more content at n all long =
    let fits : r.1 ≤ length bytes = omega (arith, all) in
    (λ i. put_at (mended (rs ++ (at, n) ∷ []) (drop-append-le r.1 bytes more fits i) content) r.0
    (take-append-le r.1 bytes more fits i))
    ∙ ap (λ (xs : List ℕ). put_at xs r.0 (take r.1 bytes))
    (mended_push rs (drop r.1 bytes) more content at n (omega (arith, all, length-drop r.1 bytes)) long)

with_ones_push : (rs : List (ℕ × ℕ)) (content : List ℕ) (at n : ℕ)
    → with_ones (rs ++ (at, n) ∷ []) content ≡ with_ones rs (put_at content at (replicate n 1))
with_ones_push [] content at n = refl
with_ones_push (r ∷ rs) content at n =
    ap (λ (xs : List ℕ). put_at xs r.0 (replicate r.1 1)) (with_ones_push rs content at n)

pub total-push : (rs : List (ℕ × ℕ)) (at n : ℕ) → total (rs ++ (at, n) ∷ []) ≡ total rs + n
total-push [] at n = omega arith
total-push (r ∷ rs) at n = omega (arith, total-push rs at n)

pub within_push : (size : ℕ) (rs : List (ℕ × ℕ)) (at n : ℕ) → AllWithin size rs → at + n ≤ size
    → AllWithin size (rs ++ (at, n) ∷ [])
within_push size [] at n all fits = omega (arith, fits)
within_push size (r ∷ rs) at n all fits =
    omega (arith, all, within_push size rs at n (omega (arith, all)) fits)

pub within_front : (size : ℕ) (rs : List (ℕ × ℕ)) (at n : ℕ) → AllWithin size (rs ++ (at, n) ∷ [])
    → AllWithin size rs × (at + n ≤ size)
within_front size [] at n all = (omega arith, omega (arith, all))
within_front size (r ∷ rs) at n all =
    let rest = within_front size rs at n (omega (arith, all)) in
    (omega (arith, all, rest.0), rest.1)

-- what is mended has the content's size, and differs in the ranges alone
module _ (content : List ℕ) where
  fits_in : (r : ℕ × ℕ) (rs : List (ℕ × ℕ)) (bytes : List ℕ) → AllWithin (length content) (r ∷ rs)
      → total (r ∷ rs) ≡ length bytes → length (mended rs (drop r.1 bytes) content) ≡ length content
      → r.0 + length (take r.1 bytes) ≤ length (mended rs (drop r.1 bytes) content)
  fits_in r rs bytes all is size = omega (arith, all, length-take-le r.1 bytes (omega (arith, is)), size)

  pub mended_size : (rs : List (ℕ × ℕ)) (bytes : List ℕ) → AllWithin (length content) rs → total rs ≡ length bytes
      → length (mended rs bytes content) ≡ length content
  mended_size [] bytes all is = refl
  mended_size (r ∷ rs) bytes all is =
      let rest = mended_size rs (drop r.1 bytes) (omega (arith, all)) (omega (arith, is, length-drop r.1 bytes)) in
      length-put_at r.0 (take r.1 bytes) (mended rs (drop r.1 bytes) content) (fits_in r rs bytes all is rest) ∙ rest

  pub mended_image : (rs : List (ℕ × ℕ)) (bytes : List ℕ) → AllWithin (length content) rs → total rs ≡ length bytes
      → IsImage rs content (mended rs bytes content)
  mended_image rs bytes all is = record { size = mended_size rs bytes all is; same = same rs bytes all is }
    where
      same : (rs : List (ℕ × ℕ)) (bytes : List ℕ) → AllWithin (length content) rs → total rs ≡ length bytes
          → (i : ℕ) → IsOutside rs i → get_or (mended rs bytes content) i 0 ≡ get_or content i 0
      same [] bytes all is i out = refl
      same (r ∷ rs) bytes all is i out =
          let fits = fits_in r rs bytes all is
          (mended_size rs (drop r.1 bytes) (omega (arith, all)) (omega (arith, is, length-drop r.1 bytes))) in
          let long : length (take r.1 bytes) ≡ r.1 = length-take-le r.1 bytes (omega (arith, is)) in
          ⊎_elim
          (λ lt. put-before r.0 (take r.1 bytes) (mended rs (drop r.1 bytes) content) fits i lt)
          (λ ge. put-after r.0 (take r.1 bytes) (mended rs (drop r.1 bytes) content) fits i (omega (arith, ge, long)))
          out.0
          ∙ same rs (drop r.1 bytes) (omega (arith, all)) (omega (arith, is, length-drop r.1 bytes)) i out.1

-- what a torn range held, put back
torn_back : (at n : ℕ) (old new : List ℕ) → Torn at n old new → at + n ≤ length old
    → put_at new at (slice_range old at (at + n)) ≡ old
torn_back at n old new torn fits =
    let part : List ℕ = slice_range old at (at + n) in
    let long : length part ≡ n = omega (arith, length-range old at (at + n) fits) in
    ap (λ (m : ℕ). (take at new ++ part) ++ drop (at + m) new) long
    ∙ (λ i. (torn.before i ++ part) ++ torn.after i)
    ∙ ap (λ (xs : List ℕ). xs ++ drop (at + n) old) (take_range old at (at + n) (omega arith))
    ∙ take-append-drop (at + n) old

-- a write more
module _ (at n : ℕ) (piece : List ℕ) (short : length piece ≤ n) (ranges : List (ℕ × ℕ)) (bytes : List ℕ)
    (all : total ranges ≡ length bytes) (c : Course) (fits : at + n ≤ length c.now) where
  pub mends_wrote : (tear : Tear) → Mends tear ranges bytes c
      → Mends tear (ranges ++ ranges_kept tear at n) (bytes ++ bytes_kept tear c.now at n) (wrote at n piece c)
  mends_wrote Keep mends = (
    append-nil ranges ∙ mends.0,
    λ content. (λ i. mended (append-nil ranges i) (append-nil bytes i) content) ∙ mends.1 content,
  )
  mends_wrote Old mends = (
    ap (λ (rs : List (ℕ × ℕ)). rs ++ (at, n) ∷ []) mends.0,
    λ content. mended_push ranges bytes (slice_range c.now at (at + n)) (put_at c.now at piece) at n all
        (omega (arith, length-range c.now at (at + n) fits))
        ∙ ap (λ (xs : List ℕ). mended ranges bytes xs) (torn_back at n c.now (put_at c.now at piece)
        (widened at (length piece) n c.now (put_at c.now at piece) short
        (Rattle.disk_core.proofs.Pieces.put_torn at piece c.now (omega (arith, short, fits)))) fits)
        ∙ mends.1 content,
  )
  mends_wrote Ones mends = (
    ap (λ (rs : List (ℕ × ℕ)). rs ++ (at, n) ∷ []) mends.0,
    λ content. mended_push ranges bytes (replicate n 1) content at n all (length-replicate {A = ℕ} n 1)
        ∙ mends.1 (put_at content at (replicate n 1)) ∙ sym (with_ones_push c.ranges content at n),
  )

  pub total_wrote : (tear : Tear)
      → total (ranges ++ ranges_kept tear at n) ≡ length (bytes ++ bytes_kept tear c.now at n)
  total_wrote Keep = ap total (append-nil ranges) ∙ all ∙ ap length (sym (append-nil bytes))
  total_wrote Old = omega (
    arith,
    total-push ranges at n,
    all,
    length-append bytes (slice_range c.now at (at + n)),
    length-range c.now at (at + n) fits,
  )
  total_wrote Ones = omega (
    arith,
    total-push ranges at n,
    all,
    length-append bytes (replicate n 1),
    length-replicate {A = ℕ} n 1,
  )

  pub within_wrote : (tear : Tear) (size : ℕ) → at + n ≤ size → AllWithin size ranges
      → AllWithin size (ranges ++ ranges_kept tear at n)
  within_wrote Keep size le within = subst (λ (rs : List (ℕ × ℕ)). AllWithin size rs) (sym (append-nil ranges)) within
  within_wrote Old size le within = within_push size ranges at n within le
  within_wrote Ones size le within = within_push size ranges at n within le

-- what is mended is what the tear says
pub mends_torn : (tear : Tear) (ranges : List (ℕ × ℕ)) (bytes : List ℕ) (c : Course) → Mends tear ranges bytes c
    → mended ranges bytes c.now ≡ torn tear c
mends_torn Keep ranges bytes c mends = mends.1 c.now
mends_torn Old ranges bytes c mends = mends.1 c.now
mends_torn Ones ranges bytes c mends = mends.1 c.now

-- with nothing pending a restart changes nothing
pub torn_settled : (tear : Tear) (content : List ℕ) → torn tear (settled_at content) ≡ content
torn_settled Keep content = refl
torn_settled Old content = refl
torn_settled Ones content = refl

-- with nothing pending nothing is kept
pub mends_none : (tear : Tear) (bytes content : List ℕ)
    → Mends tear [] bytes (record { now = content; synced = content; ranges = [] })
mends_none Keep bytes content = (refl, λ xs. refl)
mends_none Old bytes content = (refl, λ xs. refl)
mends_none Ones bytes content = (refl, λ xs. refl)

-- what a restart leaves is one of the images
pub torn_image : (tear : Tear) (ranges : List (ℕ × ℕ)) (bytes : List ℕ) (c : Course) → Mends tear ranges bytes c
    → AllWithin (length c.now) ranges → total ranges ≡ length bytes → IsImage c.ranges c.now (torn tear c)
torn_image Keep ranges bytes c mends within all = record { size = refl; same = λ i out. refl }
torn_image Old ranges bytes c mends within all =
    subst (λ (p : List (ℕ × ℕ) × List ℕ). IsImage p.0 c.now p.1) (λ i. (mends.0 i, mends.1 c.now i))
    (mended_image c.now ranges bytes within all)
torn_image Ones ranges bytes c mends within all =
    subst (λ (p : List (ℕ × ℕ) × List ℕ). IsImage p.0 c.now p.1)
    (λ i. (mends.0 i, mends_torn Ones ranges bytes c mends i)) (mended_image c.now ranges bytes within all)
