-- What one event more does to a record.
use Rattle.std.proofs.Common.{◌≡◌, ◌⊎◌, inl, inr, ⊎_elim, ℕ, zero, suc, ◌+◌, ◌-◌, ◌<◌, ◌≤◌, List, [], ◌∷◌, ◌++◌, length, take, drop, replicate, refl, sym, ◌∙◌, ap, subst, arith, append_assoc, length-append, length-drop}
use Rattle.std.proofs.lemmas.List.{take-append-le, drop-append-le, take_all, drop_all, append-nil}
use Rattle.std.proofs.lemmas.Bool.{cases_lt}
use Rattle.disk_core.specs.Moments.{Elapses}
use Rattle.disk_mem.specs.declared.event.Event.{Event}
use Rattle.disk_mem.specs.declared.event.Event.TheVariants.{Wrote, Synced, Restarted}
use Rattle.disk_mem.specs.declared.tear.Tear.{Tear}
use Rattle.disk_mem.specs.Events.{Course, settled_at, wrote, torn, course_from, course_of, kept_by, IsImage, MayLeave, MightHaveLeft}

pub kept-push : (es : List Event) (e : Event) → kept_by (es ++ e ∷ []) ≡ kept_by es + kept_by (e ∷ [])
kept-push [] e = omega arith
kept-push (Wrote at len kept ∷ es) e = omega (arith, kept-push es e)
kept-push (Synced ∷ es) e = kept-push es e
kept-push (Restarted ∷ es) e = kept-push es e

kept-take : (k : ℕ) (es : List Event) → kept_by (take k es) ≤ kept_by es
kept-take zero es = omega arith
kept-take (suc k) [] = omega arith
kept-take (suc k) (Wrote at len kept ∷ es) = omega (arith, kept-take k es)
kept-take (suc k) (Synced ∷ es) = kept-take k es
kept-take (suc k) (Restarted ∷ es) = kept-take k es

module _ (tear : Tear) where
  -- bytes behind the kept ones change nothing
  course-more : (c : Course) (es : List Event) (pieces more : List ℕ) → kept_by es ≤ length pieces
      → course_from tear c es (pieces ++ more) ≡ course_from tear c es pieces
  course-more c [] pieces more le = refl
  course-more c (Wrote at len kept ∷ es) pieces more le =
      (λ i. course_from tear (wrote at len (take-append-le kept pieces more (omega (arith, le)) i) c) es
      (drop-append-le kept pieces more (omega (arith, le)) i))
      ∙ course-more (wrote at len (take kept pieces) c) es (drop kept pieces) more
      (omega (arith, le, length-drop kept pieces))
  course-more c (Synced ∷ es) pieces more le = course-more (settled_at c.now) es pieces more le
  course-more c (Restarted ∷ es) pieces more le = course-more (settled_at (torn tear c)) es pieces more le

  -- an event behind the others
  course-push : (c : Course) (es : List Event) (e : Event) (pieces more : List ℕ) → kept_by es ≡ length pieces
      → course_from tear c (es ++ e ∷ []) (pieces ++ more)
      ≡ course_from tear (course_from tear c es pieces) (e ∷ []) more
  course-push c [] e [] more all = refl
  course-push c [] e (p ∷ pieces) more all = absurd (omega (arith, all))
  course-push c (Wrote at len kept ∷ es) e pieces more all =
      (λ i. course_from tear (wrote at len (take-append-le kept pieces more (omega (arith, all)) i) c) (es ++ e ∷ [])
      (drop-append-le kept pieces more (omega (arith, all)) i))
      ∙ course-push (wrote at len (take kept pieces) c) es e (drop kept pieces) more
      (omega (arith, all, length-drop kept pieces))
  course-push c (Synced ∷ es) e pieces more all = course-push (settled_at c.now) es e pieces more all
  course-push c (Restarted ∷ es) e pieces more all = course-push (settled_at (torn tear c)) es e pieces more all

  module _ (size : ℕ) (es later : List Event) (pieces : List ℕ) (kept : kept_by es ≡ length pieces) where
    pub course_wrote : (at len n : ℕ) (more all : List ℕ) → later ≡ es ++ Wrote at len n ∷ [] → all ≡ pieces ++ more
        → length more ≡ n → course_of tear size later all ≡ wrote at len more (course_of tear size es pieces)
    course_wrote at len n more all later_is all_is long =
        (λ i. course_of tear size (later_is i) (all_is i))
        ∙ course-push (settled_at (replicate size 0)) es (Wrote at len n) pieces more kept
        ∙ ap (λ (p : List ℕ). wrote at len p (course_of tear size es pieces)) (take_all n more (omega (arith, long)))

    pub course_synced : later ≡ es ++ Synced ∷ []
        → course_of tear size later pieces ≡ settled_at (course_of tear size es pieces).now
    course_synced later_is =
        (λ i. course_of tear size (later_is i) (sym (append-nil pieces) i))
        ∙ course-push (settled_at (replicate size 0)) es Synced pieces [] kept

    pub course_restarted : later ≡ es ++ Restarted ∷ []
        → course_of tear size later pieces ≡ settled_at (torn tear (course_of tear size es pieces))
    course_restarted later_is =
        (λ i. course_of tear size (later_is i) (sym (append-nil pieces) i))
        ∙ course-push (settled_at (replicate size 0)) es Restarted pieces [] kept

  -- what a crash since t may have left
  abbrev pub Left : ℕ → List Event → List ℕ → ℕ → List ℕ → Type 0
  Left size es pieces t image =
      MayLeave (course_of tear size es pieces) image ⊎ MightHaveLeft tear size es pieces t image

  -- one event more
  module _ (size : ℕ) (es later : List Event) (e : Event) (pieces more all : List ℕ)
      (later_is : later ≡ es ++ e ∷ []) (all_is : all ≡ pieces ++ more) (kept : kept_by es ≡ length pieces) where
    len : length later ≡ length es + 1
    len = ap length later_is ∙ length-append es (e ∷ [])

    front : (k : ℕ) → k ≤ length es → take k later ≡ take k es
    front k le = ap (λ (l : List Event). take k l) later_is ∙ take-append-le k es (e ∷ []) le

    same_then : (k : ℕ) → k ≤ length es → course_of tear size (take k later) all
        ≡ course_of tear size (take k es) pieces
    same_then k le =
        (λ i. course_of tear size (front k le i) (all_is i))
        ∙ course-more (settled_at (replicate size 0)) (take k es) pieces more
        (let few = kept-take k es in omega (arith, few, kept))

    whole : course_of tear size (take (length es) es) pieces ≡ course_of tear size es pieces
    whole = ap (λ (l : List Event). course_of tear size l pieces) (take_all (length es) es (omega arith))

    pub elapses_push : Elapses (length es) (length later) (Left size es pieces) (Left size later all)
        (MayLeave (course_of tear size later all))
    elapses_push = record {
      later = omega (arith, len);
      nothing_else = λ t c le left. ⊎_elim (λ now. inr now)
          (λ (had : MightHaveLeft tear size later all t c). inl (old t c had (cases_lt had.0 (length es)))) left;
      keeps = λ t c le left. inr (⊎_elim (λ now. (
        length es,
        le,
        omega (arith, len),
        subst (λ (k : Course). MayLeave k c) (sym (same_then (length es) (omega arith) ∙ whole)) now,
      )) (λ (had : MightHaveLeft tear size es pieces t c). let lt = had.2 in (
        had.0,
        had.1,
        omega (arith, lt, len),
        subst (λ (k : Course). MayLeave k c) (sym (same_then had.0 (omega (arith, lt)))) had.3,
      )) left);
      counts_now = λ t c le now. inl now;
    }
      where
        old : (t : ℕ) (c : List ℕ) → (had : MightHaveLeft tear size later all t c)
            → (had.0 < length es) ⊎ (length es ≤ had.0) → Left size es pieces t c
        old t c had (inl lt) = inr (
          had.0,
          had.1,
          lt,
          subst (λ (k : Course). MayLeave k c) (same_then had.0 (omega (arith, lt))) had.3,
        )
        old t c had (inr ge) =
            let lt = had.2 in
            let k_is : had.0 ≡ length es = omega (arith, lt, ge, len) in
            inl (subst (λ (k : Course). MayLeave k c)
            (same_then had.0 (omega (arith, k_is))
            ∙ ap (λ (k : ℕ). course_of tear size (take k es) pieces) k_is ∙ whole) had.3)
