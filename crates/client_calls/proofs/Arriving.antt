-- What arrivals keep.
use Rattle.std.specs.Prelude.{◌≡◌, ◌⊎◌, List, [], ◌∷◌, ◌++◌, Option, Some, None}
use Rattle.std.specs.List.{AllByRecursion}
use Rattle.std.proofs.Common.{refl, sym, ap, subst, ◌∙◌, inl, inr, arith}
use Rattle.ucm_base.specs.declared.ids.CallNo.{CallNo}
use Rattle.sub_core.specs.Made.{Made}
use Rattle.client_calls.specs.Calls.{AreBelow, IsAnswered, IsBelow, Known, Posted, Rise, Settles, entry_of}
use Rattle.client_calls.specs.Arrivals.{AreOf, Arrived, IsAmong, IsDoubtOf, IsOf, MayArrive, MayEnter}
use Rattle.client_calls.specs.Laws.{AnsweredStays, EntriesArePosted, MoreMayBePosted}

pub below-self : (a : CallNo) → IsBelow a a → ⊥
below-self a h = grind arith

pub not-both : (a b : CallNo) → IsBelow a b → IsBelow b a → ⊥
not-both a b h g = grind arith

-- a list with one more at its end
pub all-and : {A : Type 0} (P : A → Type 0) (xs : List A) (x : A) → AllByRecursion P xs → P x
    → AllByRecursion P (xs ++ x ∷ [])
all-and P [] x all h = (h, tt)
all-and P (y ∷ ys) x all h = (all.0, all-and P ys x all.1 h)

-- and the one at its end
pub last-of : {A : Type 0} (P : A → Type 0) (xs : List A) (x : A) → AllByRecursion P (xs ++ x ∷ []) → P x
last-of P [] x all = all.0
last-of P (y ∷ ys) x all = last-of P ys x all.1

rise-and : (ms : List Made) (m : Made) → Rise ms → AreBelow ms m.at → Rise (ms ++ m ∷ [])
rise-and [] m rise below = (tt, tt)
rise-and (n ∷ ns) m rise below = (all-and (λ x. IsBelow n.at x.at) ns m rise.0 below.0, rise-and ns m rise.1 below.1)

-- one more entry of one of the messages, above all
with-one : (posts : List Posted) (mine : List Made) (m : Made) → AllByRecursion (IsOf posts) mine → Rise mine
    → IsOf posts m → AreBelow mine m.at → AreOf posts (record { mine = mine ++ m ∷ []; doubt = None })
with-one posts mine m each rise of below = record {
  each = all-and (IsOf posts) mine m each of;
  rise = rise-and mine m rise below;
  doubt = tt;
}

settled-of : (posts : List Posted) (mine : List Made) (doubt : Option Made) (settled : List Made)
    → AreOf posts (record { mine = mine; doubt = doubt }) → Settles doubt mine settled
    → AreOf posts (record { mine = settled; doubt = None })
settled-of posts mine None settled h is =
    subst (λ ms. AreOf posts (record { mine = ms; doubt = None })) (sym is) h
settled-of posts mine (Some d) settled h (inl is) = subst (λ ms. AreOf posts (record { mine = ms; doubt = None })) (sym
    is)
    (record { each = h.each; rise = h.rise; doubt = tt })
settled-of posts mine (Some d) settled h (inr is) =
    subst (λ ms. AreOf posts (record { mine = ms; doubt = None })) (sym is)
    (with-one posts mine d h.each h.rise h.doubt.0 h.doubt.1)

entered-of : (posts : List Posted) (p : Posted) (mine : List Made) (after : Known) → IsAmong p posts
    → AreOf posts (record { mine = mine; doubt = None }) → MayEnter p mine after → AreOf posts after
entered-of posts p mine after among h (inl is) = subst (AreOf posts) (sym is) h
entered-of posts p mine after among h (inr (inl (reply, below, is))) = subst (AreOf posts) (sym is)
    (with-one posts mine (entry_of p reply) h.each h.rise
    (record { post = p; among = among; number = refl; call = refl }) below)
entered-of posts p mine after among h (inr (inr (reply, below, is))) = subst (AreOf posts) (sym is)
    (record {
      each = h.each;
      rise = h.rise;
      doubt = (record { post = p; among = among; number = refl; call = refl }, below);
    })

one-of : (posts : List Posted) (p : Posted) (known after : Known) → IsAmong p posts → AreOf posts known
    → MayArrive p known after → AreOf posts after
one-of posts p known after among h (inl is) = subst (AreOf posts) (sym is) h
one-of posts p known after among h (inr (settled, settles, enters)) =
    entered-of posts p settled after among (settled-of posts known.mine known.doubt settled h settles) enters

all-of : (posts came : List Posted) (known after : Known) → AllByRecursion (λ p. IsAmong p posts) came
    → AreOf posts known → Arrived came known after → AreOf posts after
all-of posts [] known after among h is = subst (AreOf posts) (sym is) h
all-of posts (p ∷ ps) known after among h (then, first, rest) =
    all-of posts ps then after among.1 (one-of posts p known then among.0 h first) rest

pub entries-posted : EntriesArePosted
entries-posted = (
  (λ posts. record { each = tt; rise = tt; doubt = tt }),
  (λ posts known after h come. all-of posts come.came known after come.among h come.arrived),
)

pub among-more : (more posts : List Posted) (p : Posted) → IsAmong p posts → IsAmong p (more ++ posts)
among-more [] posts p h = h
among-more (q ∷ qs) posts p h = inr (among-more qs posts p h)

pub of-more : (more posts : List Posted) (m : Made) → IsOf posts m → IsOf (more ++ posts) m
of-more more posts m h =
    record { post = h.post; among = among-more more posts h.post h.among; number = h.number; call = h.call }

pub all-of-more : (more posts : List Posted) (ms : List Made) → AllByRecursion (IsOf posts) ms
    → AllByRecursion (IsOf (more ++ posts)) ms
all-of-more more posts [] all = tt
all-of-more more posts (m ∷ ms) all = (of-more more posts m all.0, all-of-more more posts ms all.1)

doubt-more : (more posts : List Posted) (mine : List Made) (doubt : Option Made) → IsDoubtOf posts mine doubt
    → IsDoubtOf (more ++ posts) mine doubt
doubt-more more posts mine None h = tt
doubt-more more posts mine (Some d) h = (of-more more posts d h.0, h.1)

pub more-posted : MoreMayBePosted
more-posted more posts known h = record {
  each = all-of-more more posts known.mine h.each;
  rise = h.rise;
  doubt = doubt-more more posts known.mine known.doubt h.doubt;
}

-- one of these has what all have
pub among-all : (P : Posted → Type 0) (posts : List Posted) (p : Posted) → AllByRecursion P posts → IsAmong p posts
    → P p
among-all P [] p all h = absurd h
among-all P (q ∷ qs) p all (inl is) = subst P (sym is) all.0
among-all P (q ∷ qs) p all (inr h) = among-all P qs p all.1 h

-- what isn't above the newest entry can't be above all
not-above : (at : CallNo) (older : List Made) (newest : Made) (p : Posted) → newest.at ≡ at
    → (p.at ≡ at) ⊎ IsBelow p.at at → AreBelow (older ++ newest ∷ []) p.at → ⊥
not-above at older newest p is (inl same) below =
    below-self at (subst (IsBelow at) same (subst (λ a. IsBelow a p.at) is (last-of (λ m. IsBelow m.at p.at) older
    newest below)))
not-above at older newest p is (inr low) below =
    not-both p.at at low (subst (λ a. IsBelow a p.at) is (last-of (λ m. IsBelow m.at p.at) older newest below))

module _ (at : CallNo) (older : List Made) (newest : Made) (is : newest.at ≡ at) where
  abbrev there : Known
  there = record { mine = older ++ newest ∷ []; doubt = None }

  one-stays : (p : Posted) (after : Known) → (p.at ≡ at) ⊎ IsBelow p.at at → MayArrive p there after → after ≡ there
  one-stays p after low (inl same) = same
  one-stays p after low (inr (settled, same, inl e)) = e ∙ ap (λ ms. record { mine = ms; doubt = None }) same
  one-stays p after low (inr (settled, same, inr (inl (reply, below, e)))) =
      absurd (not-above at older newest p is low (subst (λ ms. AreBelow ms p.at) same below))
  one-stays p after low (inr (settled, same, inr (inr (reply, below, e)))) =
      absurd (not-above at older newest p is low (subst (λ ms. AreBelow ms p.at) same below))

  all-stay : (posts came : List Posted) (after : Known) → AllByRecursion (λ p. (p.at ≡ at) ⊎ IsBelow p.at at) posts
      → AllByRecursion (λ p. IsAmong p posts) came → Arrived came there after → after ≡ there
  all-stay posts [] after low among e = e
  all-stay posts (p ∷ ps) after low among (then, first, rest) =
      let same = one-stays p then (among-all (λ p. (p.at ≡ at) ⊎ IsBelow p.at at) posts p low among.0) first in
      all-stay posts ps after low among.1 (subst (λ k. Arrived ps k after) same rest)

pub answered-stays : AnsweredStays
answered-stays at reply posts known after answered low come =
    let same : known ≡ there at answered.older answered.newest answered.number = known-is known answered in
    all-stay at answered.older answered.newest answered.number posts come.came after low come.among
    (subst (λ k. Arrived come.came k after) same come.arrived)
    ∙ sym same
  where
    known-is : (k : Known) → (h : IsAnswered at reply k) → k ≡ there at h.older h.newest h.number
    known-is k h =
        ap (λ (ms : List Made). record { mine = ms; doubt = k.doubt }) h.split
        ∙ ap (λ (d : Option Made). record { mine = h.older ++ h.newest ∷ []; doubt = d }) h.settled
