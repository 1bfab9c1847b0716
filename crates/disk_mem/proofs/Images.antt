-- What a write and a sync do to the images.
use Rattle.std.proofs.Common.{◌≡◌, ◌⊎◌, inl, inr, ℕ, ◌+◌, ◌-◌, ◌<◌, ◌≤◌, List, [], ◌∷◌, ◌++◌, length, take, drop, get_or, refl, sym, ◌∙◌, ap, subst, arith, length-drop}
use Rattle.std.proofs.lemmas.List.{length-take-le, get_or-take, get_or-drop, ext_get_or, drop-drop}
use Rattle.std.proofs.lemmas.Bool.{cases_lt}
use Rattle.disk_core.specs.Bytes.{put_at, Torn}
use Rattle.disk_core.specs.Images.{Follows, Only, Allows}
use Rattle.disk_core.proofs.Pieces.{length-put_at, put-before, put-after, put-within}
use Rattle.disk_mem.specs.Events.{Course, settled_at, wrote, IsOutside, IsImage, MayLeave}

-- with nothing pending there is one image
pub only_one : (content image : List ℕ) → IsImage [] content image → image ≡ content
only_one content image is = ext_get_or 0 image content is.size (λ i lt. is.same i tt)

-- the two agree but in n bytes
pub torn_elsewhere : (at n : ℕ) (old new : List ℕ) → Torn at n old new → at + n ≤ length old → (i : ℕ)
    → (i < at) ⊎ (at + n ≤ i) → get_or new i 0 ≡ get_or old i 0
torn_elsewhere at n old new t le i (inl lt) = sym (get_or-take at new i 0 lt)
    ∙ ap (λ (xs : List ℕ). get_or xs i 0) t.before ∙ get_or-take at old i 0 lt
torn_elsewhere at n old new t le i (inr ge) =
    let is : i ≡ at + n + (i - (at + n)) = omega (arith, ge) in
    ap (λ (k : ℕ). get_or new k 0) is ∙ sym (get_or-drop (at + n) new (i - (at + n)) 0)
    ∙ ap (λ (xs : List ℕ). get_or xs (i - (at + n)) 0) t.after
    ∙ get_or-drop (at + n) old (i - (at + n)) 0 ∙ ap (λ (k : ℕ). get_or old k 0) (sym is)

-- each image after a write is one from before it, torn in the range
pub follows : (at n : ℕ) (ranges : List (ℕ × ℕ)) (old new : List ℕ) → at + n ≤ length old → Torn at n old new
    → Follows (Torn at n) (IsImage ranges old) (IsImage ((at, n) ∷ ranges) new)
follows at n ranges old new le torn image is =
    let part : List ℕ = take n (drop at old) in
    let long : length part ≡ n = length-take-le n (drop at old) (omega (arith, length-drop at old, le)) in
    let le' : at + length part ≤ length image = omega (arith, long, is.size, torn.size, le) in
    let was : List ℕ = put_at image at part in (
      was,
      record {
        size = length-put_at at part image le' ∙ is.size
            ∙ torn.size;
        same = λ i out. same i out (cases_lt i at);
      },
      record {
        size = sym (length-put_at at part image le');
        before = sym (fronts image part le');
        after = sym (backs image part le' long);
      },
    )
  where
    fronts : (xs part : List ℕ) → at + length part ≤ length xs → take at (put_at xs at part) ≡ take at xs
    fronts xs part fits = (Rattle.disk_core.proofs.Pieces.put_torn at part xs fits).before

    backs : (xs part : List ℕ) → at + length part ≤ length xs → length part ≡ n
        → drop (at + n) (put_at xs at part) ≡ drop (at + n) xs
    backs xs part fits long =
        ap (λ (k : ℕ). drop (at + k) (put_at xs at part)) (sym long)
        ∙ (Rattle.disk_core.proofs.Pieces.put_torn at part xs fits).after ∙ ap (λ (k : ℕ). drop (at + k) xs) long

    same : (i : ℕ) → IsOutside ranges i → (i < at) ⊎ (at ≤ i)
        → get_or (put_at image at (take n (drop at old))) i 0 ≡ get_or old i 0
    same i out (inl lt) =
        let part : List ℕ = take n (drop at old) in
        let long : length part ≡ n = length-take-le n (drop at old) (omega (arith, length-drop at old, le)) in
        put-before at part image (omega (arith, long, is.size, torn.size, le)) i lt ∙ is.same i (inl lt, out)
        ∙ torn_elsewhere at n old new torn le i (inl lt)
    same i out (inr ge) = elim (cases_lt i (at + n)) [
      | inl lt ↦
          let part : List ℕ = take n (drop at old) in
          let long : length part ≡ n = length-take-le n (drop at old) (omega (arith, length-drop at old, le)) in
          put-within at part image (omega (arith, long, is.size, torn.size, le)) i ge (omega (arith, lt, long))
          ∙ get_or-take n (drop at old) (i - at) 0 (omega (arith, lt, ge)) ∙ get_or-drop at old (i - at) 0
          ∙ ap (λ (k : ℕ). get_or old k 0) (omega (arith, ge))
      | inr past ↦
          let part : List ℕ = take n (drop at old) in
          let long : length part ≡ n = length-take-le n (drop at old) (omega (arith, length-drop at old, le)) in
          put-after at part image (omega (arith, long, is.size, torn.size, le)) i (omega (arith, past, long))
          ∙ is.same i (inr past, out) ∙ torn_elsewhere at n old new torn le i (inr past)
    ]

-- and whatever is torn in the range from one of before is an image after it
pub allows : (at n : ℕ) (ranges : List (ℕ × ℕ)) (old new : List ℕ) → at + n ≤ length old → Torn at n old new
    → Allows (Torn at n) (IsImage ranges old) (IsImage ((at, n) ∷ ranges) new)
allows at n ranges old new le torn d c was cut = record {
  size = cut.size ∙ was.size ∙ sym torn.size;
  same = λ i out. torn_elsewhere at n d c cut (omega (arith, was.size, le)) i out.0 ∙ was.same i out.1
      ∙ sym (torn_elsewhere at n old new torn le i out.0);
}

-- a torn write of fewer bytes is one of more
pub widened : (at k n : ℕ) (old new : List ℕ) → k ≤ n → Torn at k old new → Torn at n old new
widened at k n old new le t = record {
  size = t.size;
  before = t.before;
  after = further new ∙ ap (λ (xs : List ℕ). drop (n - k) xs) t.after ∙ sym (further old);
}
  where
    further : (xs : List ℕ) → drop (at + n) xs ≡ drop (n - k) (drop (at + k) xs)
    further xs = ap (λ (m : ℕ). drop m xs) (omega (arith, le)) ∙ sym (drop-drop (n - k) (at + k) xs)

-- a range more, as the last or as the first
outside_push : (rs : List (ℕ × ℕ)) (r : ℕ × ℕ) (i : ℕ) → IsOutside (r ∷ rs) i → IsOutside (rs ++ r ∷ []) i
outside_push [] r i out = out
outside_push (s ∷ rs) r i out = (out.1.0, outside_push rs r i (out.0, out.1.1))

outside_front : (rs : List (ℕ × ℕ)) (r : ℕ × ℕ) (i : ℕ) → IsOutside (rs ++ r ∷ []) i → IsOutside (r ∷ rs) i
outside_front [] r i out = out
outside_front (s ∷ rs) r i out = let rest = outside_front rs r i out.1 in (rest.0, (out.0, rest.1))

-- a write of n bytes of which a piece stands
module _ (at n : ℕ) (piece old next : List ℕ) (short : length piece ≤ n) (fits : at + n ≤ length old)
    (is : next ≡ put_at old at piece) where
  pub wrote_torn : Torn at n old next
  wrote_torn = subst (λ (xs : List ℕ). Torn at n old xs) (sym is)
      (widened at (length piece) n old (put_at old at piece) short
      (Rattle.disk_core.proofs.Pieces.put_torn at piece old (omega (arith, short, fits))))

  pub wrote_size : length next ≡ length old
  wrote_size = wrote_torn.size

-- what a crash may leave behind it
module _ (at n : ℕ) (piece : List ℕ) (c : Course) (short : length piece ≤ n) (fits : at + n ≤ length c.now) where
  pub wrote_follows : Follows (Torn at n) (MayLeave c) (MayLeave (wrote at n piece c))
  wrote_follows image is = follows at n c.ranges c.now (put_at c.now at piece) fits
      (wrote_torn at n piece c.now (put_at c.now at piece) short fits refl) image
      (record { size = is.size; same = λ i out. is.same i (outside_push c.ranges (at, n) i out) })

  pub wrote_allows : Allows (Torn at n) (MayLeave c) (MayLeave (wrote at n piece c))
  wrote_allows d x was cut =
      let here = allows at n c.ranges c.now (put_at c.now at piece) fits
      (wrote_torn at n piece c.now (put_at c.now at piece) short fits refl) d x was cut in
      record { size = here.size; same = λ i out. here.same i (outside_front c.ranges (at, n) i out) }

-- with nothing pending a crash leaves the content
pub only_settled : (c : Course) (content : List ℕ) → c ≡ settled_at content → Only content (MayLeave c)
only_settled c content is image here = only_one content image (subst (λ (k : Course). MayLeave k image) is here)
