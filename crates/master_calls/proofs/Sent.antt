-- Messages that were sent, by their numbers.
use Rattle.std.specs.Prelude.{◌≡◌, ℕ, suc, ◌+◌, ◌<◌, ◌≤◌, Bool, true, false, List, [], ◌∷◌, ◌++◌, map, length}
use Rattle.std.specs.List.{AllByRecursion}
use Rattle.std.proofs.Common.{refl, sym, ap, ◌∙◌, inl, inr, arith}
use Rattle.ucm_base.specs.declared.ids.CallNo.{CallNo}
use Rattle.world.specs.Messages.{Message}
use Rattle.sub_core.specs.Made.{Made, numbers_from, sent_early}
use Rattle.sub_core.specs.Sends.{AreNumbered}
use Rattle.client_calls.specs.Calls.{AreBelow, IsBelow, Posted}
use Rattle.client_calls.specs.Arrivals.{IsAmong}
use Rattle.master_calls.specs.Turn.{early_in, late_in, post_of, posts_in}

-- messages of the end phase, and those before it
abbrev pub AllDecided : Bool → List Message → Type 0
AllDecided b sent = AllByRecursion (λ m. m.decided ≡ b) sent

pub early-of : (late early : List Message) → AllDecided true late → AllDecided false early
    → early_in (late ++ early) ≡ posts_in early
early-of [] [] l e = refl
early-of [] (m ∷ ms) l e = rw e.0 (ap (λ ps. post_of m ∷ ps) (early-of [] ms tt e.1))
early-of (m ∷ ms) early l e = rw l.0 (early-of ms early l.1 e)

pub late-of : (late early : List Message) → AllDecided true late → AllDecided false early
    → late_in (late ++ early) ≡ posts_in late
late-of [] [] l e = refl
late-of [] (m ∷ ms) l e = rw e.0 (late-of [] ms tt e.1)
late-of (m ∷ ms) early l e = rw l.0 (ap (λ ps. post_of m ∷ ps) (late-of ms early l.1 e))

pub count-of : (late early : List Message) → AllDecided true late → AllDecided false early
    → sent_early (late ++ early) ≡ length early
count-of [] [] l e = refl
count-of [] (m ∷ ms) l e = rw e.0 (ap suc (count-of [] ms tt e.1))
count-of (m ∷ ms) early l e = rw l.0 (count-of ms early l.1 e)

-- where the newest was sent before the decision, all were
pub none-late : (m : Message) (older late early : List Message) → m ∷ older ≡ late ++ early → AllDecided true late
    → m.decided ≡ false → late ≡ []
none-late m older [] early split l e = refl
none-late m older (n ∷ ns) early split l e =
    let same : m ≡ n = cc split in
    absurd (cc (sym e ∙ (ap (λ (x : Message). x.decided) same ∙ l.0)))

pub numbered-later : (epoch first : ℕ) (late early : List Message) → AreNumbered epoch first (late ++ early)
    → AllByRecursion (λ m. (m.at.epoch ≡ epoch) × (first + length early ≤ m.at.number)) late
numbered-later epoch first [] early numbered = tt
numbered-later epoch first (m ∷ ms) early numbered = (
  (ap (λ (a : CallNo). a.epoch) numbered.0, grind (arith, numbered.0, longer ms)),
  numbered-later epoch first ms early numbered.1,
)
  where
    longer : (ms : List Message) → length early ≤ length (ms ++ early)
    longer [] = omega arith
    longer (m ∷ ms) = let rest = longer ms in omega (arith, rest)

pub numbered-rest : (epoch first : ℕ) (late early : List Message) → AreNumbered epoch first (late ++ early)
    → AreNumbered epoch first early
numbered-rest epoch first [] early numbered = numbered
numbered-rest epoch first (m ∷ ms) early numbered = numbered-rest epoch first ms early numbered.1

-- calls with numbers one after another are below a number behind them
pub numbers-below : (epoch first : ℕ) (made : List Made) (at : CallNo)
    → map (λ m. m.at) made ≡ numbers_from epoch first (length made) → at.epoch ≡ epoch
    → first + length made ≤ at.number → AreBelow made at
numbers-below epoch first [] at is same high = tt
numbers-below epoch first (m ∷ ms) at is same high = (
  inr (one, less),
  numbers-below epoch (first + 1) ms at rest same
      more,
)
  where
    head : m.at ≡ record { epoch = epoch; number = first }
    head = cc is

    rest : map (λ m. m.at) ms ≡ numbers_from epoch (first + 1) (length ms)
    rest = cc is

    one : m.at.epoch ≡ at.epoch
    one = ap (λ (a : CallNo). a.epoch) head ∙ sym same

    less : m.at.number < at.number
    less = grind (arith, head, high)

    more : first + 1 + length ms ≤ at.number
    more = omega (arith, high)

-- and those before the last are below it
pub numbers-before : (epoch first : ℕ) (made : List Made) (x : Made)
    → map (λ m. m.at) (made ++ x ∷ []) ≡ numbers_from epoch first (length (made ++ x ∷ [])) → AreBelow made x.at
numbers-before epoch first [] x is = tt
numbers-before epoch first (m ∷ ms) x is = (go ms (cc is), numbers-before epoch (first + 1) ms x (cc is))
  where
    head : m.at ≡ record { epoch = epoch; number = first }
    head = cc is

    lasts : (low : ℕ) (ms : List Made) → map (λ m. m.at) (ms ++ x ∷ []) ≡ numbers_from epoch low (length (ms ++ x ∷ []))
        → (x.at.epoch ≡ epoch) × (low ≤ x.at.number)
    lasts low [] e = let at : x.at ≡ record { epoch = epoch; number = low } = cc e in
        (ap (λ (a : CallNo). a.epoch) at, grind (arith, at))
    lasts low (n ∷ ns) e = let h = lasts (low + 1) ns (cc e) in (h.0, omega (arith, h.1))

    go : (ms : List Made)
        → map (λ m. m.at) (ms ++ x ∷ []) ≡ numbers_from epoch (first + 1) (length (ms ++ x ∷ []))
        → IsBelow m.at x.at
    go ms e = let h = lasts (first + 1) ms e in inr (
      ap (λ (a : CallNo). a.epoch) head ∙ sym h.0,
      grind (
        arith,
        head,
        h.1,
      ),
    )

pub among-split : (sent : List Message) (p : Posted) → IsAmong p (posts_in sent)
    → IsAmong p (late_in sent ++ early_in sent)
among-split [] p h = absurd h
among-split (m ∷ ms) p h = go m.decided refl h (λ x. among-split ms p x)
  where
    left : (xs ys : List Posted) → IsAmong p (xs ++ ys) → (q : Posted) → IsAmong p (xs ++ q ∷ ys)
    left [] ys h q = inr h
    left (x ∷ xs) ys (inl is) q = inl is
    left (x ∷ xs) ys (inr h) q = inr (left xs ys h q)

    here : (xs ys : List Posted) (q : Posted) → p ≡ q → IsAmong p (xs ++ q ∷ ys)
    here [] ys q is = inl is
    here (x ∷ xs) ys q is = inr (here xs ys q is)

    go : (b : Bool) → m.decided ≡ b → IsAmong p (posts_in (m ∷ ms))
        → (IsAmong p (posts_in ms) → IsAmong p (late_in ms ++ early_in ms))
        → IsAmong p (late_in (m ∷ ms) ++ early_in (m ∷ ms))
    go true d (inl is) older = rw d (inl is)
    go true d (inr h) older = rw d (inr (older h))
    go false d (inl is) older = rw d (here (late_in ms) (early_in ms) (post_of m) is)
    go false d (inr h) older = rw d (left (late_in ms) (early_in ms) (older h) (post_of m))
