-- Looking for a range that is met, and adding one that meets none.
use Rattle.std.proofs.Common.{◌≡◌, ◌<◌, ◌≤◌, ◌+◌, ◌∙◌, ℕ, Bool, true, false, cond, List, [], ◌∷◌, refl, sym, ap, arith}
use Rattle.std.specs.Prelude.{◌==◌, ◌&&◌, ◌||◌, not, nat_lt, nat_le, filter}
use Rattle.std.specs.List.{list_any}
use Rattle.std.specs.declared.cmp.Ordering.{Ordering}
use Rattle.std.specs.declared.cmp.Ordering.TheVariants.{Less, Equal, Greater}
use Rattle.std.specs.Ordering.{nat_cmp, ordering_then, is_le, match_ordering}
use Rattle.std.specs.BTreeMap.{insert_entry}
use Rattle.std.specs.BTreeMap.Range.{range_contains}
use Rattle.std.specs.declared.ops.Bound.TheVariants.{Included, Unbounded}
use Rattle.std.proofs.lemmas.Bool.Decides.{nat_tests}
use Rattle.range_set.specs.Ranges.{is_apart, is_met, meets, track_range}

-- the order of keys
abbrev pub key_cmp : ℕ × ℕ → ℕ × ℕ → Ordering
key_cmp x y = ordering_then (nat_cmp x.0 y.0) (nat_cmp x.1 y.1)

-- a place lies below the entries that begin at `low` of a track
abbrev below : ℕ → ℕ → ℕ → ℕ → Bool
below q b track low = nat_lt q track || ((q == track) && nat_lt b low)

-- a range that ends below all entries meets none
pub none-met : (q a b track low : ℕ) (es : List ((ℕ × ℕ) × ℕ)) → is_apart track low es ≡ true
    → below q b track low ≡ true → is_met es q a b ≡ false
none-met q a b track low [] apart under = refl
none-met q a b track low (e ∷ es) apart under =
    let here : meets q a b e ≡ false = grind (arith, nat_tests) in
    let rest : is_apart e.0.0 (e.0.1 + 1) es ≡ true = grind (arith, nat_tests) in
    let on : below q b e.0.0 (e.0.1 + 1) ≡ true = grind (arith, nat_tests) in
    rw here (none-met q a b e.0.0 (e.0.1 + 1) es rest on)

-- whether the first entry meets a range that doesn't end before it
abbrev pub first_met : ℕ → ℕ → List ((ℕ × ℕ) × ℕ) → Bool
first_met q b [] = false
first_met q b (e ∷ es) = (e.0.0 == q) && nat_le e.1 b

-- an entry doesn't end before a place
abbrev pub is_from : ℕ → ℕ → (ℕ × ℕ) × ℕ → Bool
is_from q a e = range_contains key_cmp (Included (q, a)) Unbounded e.0

found-at : (q a b track low : ℕ) (e : (ℕ × ℕ) × ℕ) (es : List ((ℕ × ℕ) × ℕ)) (from : Bool) → is_from q a e ≡ from
    → is_apart track low (e ∷ es) ≡ true → is_met es q a b ≡ first_met q b (filter (is_from q a) es)
    → (meets q a b e || is_met es q a b) ≡ first_met q b (cond from (e ∷ filter (is_from q a) es)
    (filter (is_from q a) es))
found-at q a b track low e es false at apart rest =
    let here : meets q a b e ≡ false = grind (arith, nat_tests) in rw here rest
found-at q a b track low e es true at apart rest =
    let more : is_apart e.0.0 (e.0.1 + 1) es ≡ true = grind (arith, nat_tests) in
    after (first_met q b (e ∷ [])) refl more
  where
    after : (hit : Bool) → first_met q b (e ∷ []) ≡ hit → is_apart e.0.0 (e.0.1 + 1) es ≡ true
        → (meets q a b e || is_met es q a b) ≡ first_met q b (e ∷ [])
    after true hit more = let here : meets q a b e ≡ true = grind (arith, nat_tests) in rw (here, hit) refl
    after false hit more =
        let here : meets q a b e ≡ false = grind (arith, nat_tests) in
        let under : below q b e.0.0 (e.0.1 + 1) ≡ true = grind (arith, nat_tests) in
        rw (here, hit) (none-met q a b e.0.0 (e.0.1 + 1) es more under)

-- the first entry that doesn't end before a range tells whether one is met
pub first-met : (q a b track low : ℕ) (es : List ((ℕ × ℕ) × ℕ)) → is_apart track low es ≡ true
    → is_met es q a b ≡ first_met q b (filter (is_from q a) es)
first-met q a b track low [] apart = refl
first-met q a b track low (e ∷ es) apart =
    let more : is_apart e.0.0 (e.0.1 + 1) es ≡ true = grind (arith, nat_tests) in
    found-at q a b track low e es (is_from q a e) refl apart (first-met q a b e.0.0 (e.0.1 + 1) es more)

-- a range that meets none, from `low` on, behind the entries before it and before those behind it
abbrev added : List ((ℕ × ℕ) × ℕ) → ℕ → ℕ → ℕ → List ((ℕ × ℕ) × ℕ)
added es track first last = insert_entry key_cmp es (track, last) first

-- the entries stay apart, and one more is met
pub record IsAdded (t low : ℕ) (es : List ((ℕ × ℕ) × ℕ)) (track first last : ℕ) : Type 0 where
  pub apart : is_apart t low (added es track first last) ≡ true
  pub met : (q a b : ℕ) → is_met (added es track first last) q a b
      ≡ (meets q a b (track_range track first last) || is_met es q a b)

-- what a place above an entry says of a range that doesn't meet it
behind : (e : (ℕ × ℕ) × ℕ) (track first last : ℕ) → key_cmp (track, last) e.0 ≡ Greater → nat_le e.1 e.0.1 ≡ true
    → meets track first last e ≡ false → (nat_lt e.0.0 track || ((e.0.0 == track) && nat_le (e.0.1 + 1) first)) ≡ true
behind e track first last at order free = grind (arith, nat_tests)

swapped : (x y z : Bool) → (x || (y || z)) ≡ (y || (x || z))
swapped true true z = refl
swapped true false z = refl
swapped false true z = refl
swapped false false z = refl

-- where a key stands to that of an entry
place-of : (t low : ℕ) (e : (ℕ × ℕ) × ℕ) (es : List ((ℕ × ℕ) × ℕ)) (track first last : ℕ) (place : Ordering)
    → key_cmp (track, last) e.0 ≡ place → is_apart t low (e ∷ es) ≡ true
    → (nat_lt t track || ((t == track) && nat_le low first)) ≡ true → first ≤ last
    → (meets track first last e || is_met es track first last) ≡ false
    → ((nat_lt e.0.0 track || ((e.0.0 == track) && nat_le (e.0.1 + 1) first)) ≡ true
    → IsAdded e.0.0 (e.0.1 + 1) es track first last)
    → (is_apart t low (match_ordering place (track_range track first last ∷ e ∷ es) ((e.0, first) ∷ es)
    (e ∷ added es track first last)) ≡ true)
    × ((q a b : ℕ) → is_met (match_ordering place (track_range track first last ∷ e ∷ es) ((e.0, first) ∷ es)
    (e ∷ added es track first last)) q a b
    ≡ (meets q a b (track_range track first last) || (meets q a b e || is_met es q a b)))
place-of t low e es track first last Less at apart from order free rest =
    (grind (arith, nat_tests), λ q a b. refl)
place-of t low e es track first last Equal at apart from order free rest = absurd (grind (arith, nat_tests))
place-of t low e es track first last Greater at apart from order free rest =
    let here : meets track first last e ≡ false = grind (arith, nat_tests) in
    let ends : nat_le e.1 e.0.1 ≡ true = grind (arith, nat_tests) in
    let head : ((nat_lt t e.0.0 || ((t == e.0.0) && nat_le low e.1)) && nat_le e.1 e.0.1) ≡ true = grind
    (arith, nat_tests) in
    let r : IsAdded e.0.0 (e.0.1 + 1) es track first last = rest (behind e track first last at ends here) in
    (rw head r.apart, λ q a b. ap (λ m. meets q a b e || m) (r.met q a b) ∙ swapped (meets q a b e) _ _)

-- a range that meets none is added
pub insert-added : (t low : ℕ) (es : List ((ℕ × ℕ) × ℕ)) (track first last : ℕ) → is_apart t low es ≡ true
    → (nat_lt t track || ((t == track) && nat_le low first)) ≡ true → first ≤ last
    → is_met es track first last ≡ false → IsAdded t low es track first last
insert-added t low [] track first last apart from order free =
    record { apart = grind (arith, nat_tests); met = λ q a b. refl }
insert-added t low (e ∷ es) track first last apart from order free =
    let more : is_apart e.0.0 (e.0.1 + 1) es ≡ true = grind (arith, nat_tests) in
    let others : is_met es track first last ≡ false = grind (arith, nat_tests) in
    let p = place-of t low e es track first last (key_cmp (track, last) e.0) refl apart from order free
    (λ on. insert-added e.0.0 (e.0.1 + 1) es track first last more on order others) in
    record { apart = p.0; met = p.1 }

-- any range lies behind the beginning
pub from-none : (track first : ℕ) → (nat_lt 0 track || ((0 == track) && nat_le 0 first)) ≡ true
from-none track first = grind (arith, nat_tests)

pub found-first : (q a b : ℕ) (es : List ((ℕ × ℕ) × ℕ)) (e : (ℕ × ℕ) × ℕ) (rest : List ((ℕ × ℕ) × ℕ))
    → is_apart 0 0 es ≡ true → filter (is_from q a) es ≡ e ∷ rest
    → is_met es q a b ≡ ((e.0.0 == q) && nat_le e.1 b)
found-first q a b es e rest apart is = first-met q a b 0 0 es apart ∙ ap (first_met q b) is

pub found-none : (q a b : ℕ) (es : List ((ℕ × ℕ) × ℕ)) → is_apart 0 0 es ≡ true → filter (is_from q a) es ≡ []
    → is_met es q a b ≡ false
found-none q a b es apart is = first-met q a b 0 0 es apart ∙ ap (first_met q b) is

-- whether the tracks are the same
pub same-track : (x q : ℕ) (near : Bool) → x ≡ q → near ≡ ((x == q) && near)
same-track x q true h = grind (arith, nat_tests)
same-track x q false h = grind (arith, nat_tests)

pub other-track : (x q : ℕ) (near : Bool) → (x ≡ q → ⊥) → (x == q) ≡ ((x == q) && near)
other-track x q near h = let no : (x == q) ≡ false = grind (arith, nat_tests) in rw no refl
