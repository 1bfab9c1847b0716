-- Facts of each element of a list, searches, and rising numbers.
use Rattle.node_laws.proofs.Names.{◌≡◌, refl, ℕ, ◌<◌, ◌≤◌, Bool, true, false, List, [], ◌∷◌, ◌++◌, length, arith, cond}
use Rattle.node_laws.proofs.Names.{find, filter, map, nat_lt, Some, list_any, AllByRecursion, both_true, and_parts}
use Rattle.node_laws.proofs.Names.{ltb-true, numbers_rise, not, ◌||◌, is_none, Option, None, option_or, Header, Refusal}
use Rattle.node_laws.proofs.Names.{Transferring, Transferred, BeingProcessed, Transfer, is_in, first_refusal, header_of}
use Rattle.node_laws.proofs.Names.{ap, ◌==◌, if◌then◌else◌, option_map, eqb-true, is_of}

pub each-append : {X : Type 0} (P : X → Type 0) (xs ys : List X) → AllByRecursion P xs → AllByRecursion P ys
    → AllByRecursion P (xs ++ ys)
each-append P [] ys h k = k
each-append P (x ∷ xs) ys h k = (h.0, each-append P xs ys h.1 k)

pub each-first : {X : Type 0} (P : X → Type 0) (xs ys : List X) → AllByRecursion P (xs ++ ys) → AllByRecursion P xs
each-first P [] ys h = tt
each-first P (x ∷ xs) ys h = (h.0, each-first P xs ys h.1)

pub each-imp : {X : Type 0} (P Q : X → Type 0) → ((x : X) → P x → Q x) → (xs : List X) → AllByRecursion P xs
    → AllByRecursion Q xs
each-imp P Q f [] h = tt
each-imp P Q f (x ∷ xs) h = (f x h.0, each-imp P Q f xs h.1)

pub each-both : {X : Type 0} (P Q R : X → Type 0) → ((x : X) → P x → Q x → R x) → (xs : List X) → AllByRecursion P xs
    → AllByRecursion Q xs → AllByRecursion R xs
each-both P Q R f [] h k = tt
each-both P Q R f (x ∷ xs) h k = (f x h.0 k.0, each-both P Q R f xs h.1 k.1)

pub each-map : {X Y : Type 0} (P : Y → Type 0) (f : X → Y) (xs : List X) → AllByRecursion (λ x. P (f x)) xs
    → AllByRecursion P (map f xs)
each-map P f [] h = tt
each-map P f (x ∷ xs) h = (h.0, each-map P f xs h.1)

pub each-unmap : {X Y : Type 0} (P : Y → Type 0) (f : X → Y) (xs : List X) → AllByRecursion P (map f xs)
    → AllByRecursion (λ x. P (f x)) xs
each-unmap P f [] h = tt
each-unmap P f (x ∷ xs) h = (h.0, each-unmap P f xs h.1)

pub each-filter : {X : Type 0} (P : X → Type 0) (p : X → Bool) (xs : List X) → AllByRecursion P xs
    → AllByRecursion P (filter p xs)
each-filter P p [] h = tt
each-filter P p (x ∷ xs) h = grind (arith, each-filter P p xs h.1)

-- what passes a filter passes its test
pub each-passes : {X : Type 0} (p : X → Bool) (xs : List X) → AllByRecursion (λ x. p x ≡ true) (filter p xs)
each-passes p [] = tt
each-passes {X} p (x ∷ xs) = grind (arith, each-passes p xs)

pub length-filter : {X : Type 0} (p : X → Bool) (xs : List X) → length (filter p xs) ≤ length xs
length-filter p [] = omega arith
length-filter p (x ∷ xs) = grind (arith, length-filter p xs)

-- what a search finds passes its test and has each element's fact
pub found-has : {X : Type 0} (p : X → Bool) (P : X → Type 0) (xs : List X) (x : X) → AllByRecursion P xs
    → find p xs ≡ Some x → (p x ≡ true) × P x
found-has p P [] x h e = absurd (cc)
found-has {X} p P (y ∷ ys) x h e = grind (arith, found-has p P ys x h.1)

-- a search goes through a filter that lets all that it looks for pass
pub find-filter : {X : Type 0} (p q : X → Bool) → ((x : X) → p x ≡ true → q x ≡ true) → (xs : List X)
    → find p (filter q xs) ≡ find p xs
find-filter p q f [] = refl
find-filter {X} p q f (x ∷ xs) = grind (arith, find-filter p q f xs)

-- and so does the test that some element passes
pub any-filter : {X : Type 0} (p q : X → Bool) (xs : List X) → AllByRecursion (λ x. p x ≡ true → q x ≡ true) xs
    → list_any p xs ≡ true → list_any p (filter q xs) ≡ true
any-filter p q [] f h = h
any-filter {X} p q (x ∷ xs) f h = grind (arith, any-filter p q xs f.1)

pub any-more : {X : Type 0} (p : X → Bool) (xs ys : List X) → list_any p xs ≡ true → list_any p (xs ++ ys) ≡ true
any-more p [] ys h = absurd (cc)
any-more p (x ∷ xs) ys h = grind (arith, any-more p xs ys)

-- numbers that rise
pub rise-tail : (a : ℕ) (ns : List ℕ) → numbers_rise (a ∷ ns) ≡ true → numbers_rise ns ≡ true
rise-tail a x r = grind arith

pub rise-above : (a : ℕ) (ns : List ℕ) → numbers_rise (a ∷ ns) ≡ true → AllByRecursion (λ n. a < n) ns
rise-above a [] r = tt
rise-above a (b ∷ ns) r =
    let parts = and_parts (nat_lt a b) (numbers_rise (b ∷ ns)) r in
    let first = ltb-true a b parts.0 in
    (first, each-imp _ _ (λ n h. omega (arith, first, h)) ns (rise-above b ns parts.1))

rise-onto : (a : ℕ) (ns : List ℕ) → AllByRecursion (λ n. a < n) ns → numbers_rise ns ≡ true
    → numbers_rise (a ∷ ns) ≡ true
rise-onto a x h r = grind arith

pub rise-append : (ns : List ℕ) (n : ℕ) → numbers_rise ns ≡ true → AllByRecursion (λ m. m < n) ns
    → numbers_rise (ns ++ n ∷ []) ≡ true
rise-append [] n r b = refl
rise-append (a ∷ []) n r b = grind arith
rise-append (a ∷ c ∷ ns) n r b =
    let parts = and_parts (nat_lt a c) (numbers_rise (c ∷ ns)) r in
    both_true parts.0 (rise-append (c ∷ ns) n parts.1 b.1)

pub rise-filter : {X : Type 0} (f : X → ℕ) (p : X → Bool) (xs : List X) → numbers_rise (map f xs) ≡ true
    → numbers_rise (map f (filter p xs)) ≡ true
rise-filter f p [] r = refl
rise-filter {X} f p (x ∷ xs) r = go (p x) (rise-filter f p xs (rise-tail (f x) (map f xs) r))
  where
    go : (b : Bool) → numbers_rise (map f (filter p xs)) ≡ true
        → numbers_rise (map f (cond b (x ∷ filter p xs) (filter p xs))) ≡ true
    go true rest =
        rise-onto (f x) (map f (filter p xs))
        (each-map _ f (filter p xs) (each-filter _ p xs (each-unmap _ f xs (rise-above (f x) (map f xs) r)))) rest
    go false rest = rest

-- What a call that isn't refused shows.
-- no test of a table that doesn't refuse holds
pub rows-clear : (rows : List (Bool × Refusal)) → first_refusal rows ≡ None → AllByRecursion (λ row. row.0 ≡ false) rows
rows-clear [] e = tt
rows-clear ((false, r) ∷ rows) e = (refl, rows-clear rows e)
rows-clear ((true, r) ∷ rows) e = absurd (cc)

pub both-none : {X : Type 0} (o q : Option X) → option_or o q ≡ None → (o ≡ None) × (q ≡ None)
both-none x q e = grind arith

pub neither : (a b : Bool) → (a || b) ≡ false → (a ≡ false) × (b ≡ false)
neither false b e = (refl, e)
neither true b e = absurd (cc)

pub not-false : (b : Bool) → not b ≡ false → b ≡ true
not-false true e = refl
not-false false e = absurd (cc)

pub not-true : (b : Bool) → not b ≡ true → b ≡ false
not-true true e = absurd (cc)
not-true false e = refl

pub or-false : (b : Bool) → (b || false) ≡ true → b ≡ true
or-false true e = refl
or-false false e = absurd (cc)

pub some-header : (o : Option Transfer) → is_none (header_of o) ≡ false → (u : Transfer) × (o ≡ Some u)
some-header x e = grind arith

pub some-transfer : (o : Option Transfer) → is_none o ≡ false → (u : Transfer) × (o ≡ Some u)
some-transfer x e = grind arith

pub is-transferring : (h : Header) → is_in Transferring h ≡ true → h.phase ≡ Transferring
is-transferring h e = grind arith

pub is-transferred : (h : Header) → is_in Transferred h ≡ true → h.phase ≡ Transferred
is-transferred h e = grind arith

pub is-processing : (h : Header) → is_in BeingProcessed h ≡ true → h.phase ≡ BeingProcessed
is-processing h e = grind arith

-- One transfer changes, and the others stay.
abbrev pub ids : List Transfer → List ℕ
ids ts = map (λ t. t.header.id) ts

abbrev pub found : ℕ → ℕ → List Transfer → Option Transfer
found client id ts = find (λ t. is_of client id t.header) ts

-- the transfer of an id changed, another as it is
abbrev pub changed : ℕ → (Transfer → Transfer) → Transfer → Transfer
changed id f t = if t.header.id == id then f t else t

-- a transfer that is found has the id and the client
pub found-is : (client id : ℕ) (ts : List Transfer) (u : Transfer) → found client id ts ≡ Some u
    → (u.header.id ≡ id) × (u.header.client ≡ client)
found-is client id ts u e =
    let own = and_parts (u.header.id == id) (u.header.client == client)
    (found-has (λ t. is_of client id t.header) (λ _. Unit {0}) ts u (every ts) e).0 in
    (eqb-true _ _ own.0, eqb-true _ _ own.1)
  where
    every : (us : List Transfer) → AllByRecursion (λ _. Unit {0}) us
    every [] = tt
    every (_ ∷ us) = (tt, every us)

-- and is the only one of its id
pub only : (client id : ℕ) (ts : List Transfer) (u : Transfer) → numbers_rise (ids ts) ≡ true
    → found client id ts ≡ Some u → AllByRecursion (λ t. (t.header.id == id) ≡ true → t ≡ u) ts
only client id [] u r e = tt
only client id (t ∷ ts) u r e =
    go (is_of client id t.header) refl e (only client id ts u (rise-tail t.header.id (ids ts) r))
  where
    above : AllByRecursion (λ v. t.header.id < v.header.id) ts
    above = each-unmap (λ n. t.header.id < n) (λ (v : Transfer). v.header.id) ts (rise-above t.header.id (ids ts) r)

    go : (b : Bool) → is_of client id t.header ≡ b → cond b (Some t) (found client id ts) ≡ Some u
        → (found client id ts ≡ Some u → AllByRecursion (λ v. (v.header.id == id) ≡ true → v ≡ u) ts)
        → AllByRecursion (λ v. (v.header.id == id) ≡ true → v ≡ u) (t ∷ ts)
    go true q k rec =
        let same : t.header.id ≡ id = eqb-true _ _ (and_parts (t.header.id == id) (t.header.client == client) q).0 in
        (λ _. cc, each-imp _ _ (λ v m w. absurd (let z = eqb-true _ _ w in let f : ⊥ = omega (arith, m) in f)) ts above)
    go false q k rec =
        let there = found-has (λ v. is_of client id v.header) (λ v. t.header.id < v.header.id) ts u above k in
        let same : u.header.id ≡ id = (found-is client id ts u k).0 in
        (λ w. absurd (let z = eqb-true _ _ w in let f : ⊥ = omega (arith, there.1) in f), rec k)

-- a relation of each transfer to what becomes of it
pub each-changed : (R : Transfer → Transfer → Type 0) (client id : ℕ) (f : Transfer
    → Transfer) (ts : List Transfer) (u : Transfer) → numbers_rise (ids ts) ≡ true → found client id ts ≡ Some u
    → ((t : Transfer) → (t.header.id == id) ≡ false → R t t) → R u (f u) → AllByRecursion (λ t. R t (changed id f t)) ts
each-changed R client id f ts u r e other own = each-imp _ _ (λ t. go t) ts (only client id ts u r e)
  where
    go : (t : Transfer) → ((t.header.id == id) ≡ true → t ≡ u) → R t (changed id f t)
    go t h = grind (arith)

-- a fact of each transfer
pub all-changed : (P Q : Transfer → Type 0) (client id : ℕ) (f : Transfer
    → Transfer) (ts : List Transfer) (u : Transfer) → numbers_rise (ids ts) ≡ true → found client id ts ≡ Some u
    → AllByRecursion P ts → ((t : Transfer) → (t.header.id == id) ≡ false → P t → Q t) → (P u → Q (f u))
    → AllByRecursion Q (map (changed id f) ts)
all-changed P Q client id f ts u r e h other own =
    each-map Q (changed id f) ts
    (each-both P _ _ (λ t p k. k p) ts h (each-changed (λ t v. P t → Q v) client id f ts u r e other own))

-- a test that each transfer answers as before
pub any-changed : (p : Transfer → Bool) (g : Transfer → Transfer) (ts : List Transfer)
    → AllByRecursion (λ t. p (g t) ≡ p t) ts → list_any p (map g ts) ≡ list_any p ts
any-changed p g [] h = refl
any-changed p g (t ∷ ts) h = rw h.0 (ap (λ b. p t || b) (any-changed p g ts h.1))

-- a change that leaves the id and the client
pub record KeepsNames (f : Transfer → Transfer) : Type 0 where
  pub id : (t : Transfer) → (f t).header.id ≡ t.header.id
  pub client : (t : Transfer) → (f t).header.client ≡ t.header.client

pub ids-changed : (id : ℕ) (f : Transfer → Transfer) → KeepsNames f → (ts : List Transfer)
    → ids (map (changed id f) ts) ≡ ids ts
ids-changed id f k [] = refl
ids-changed id f k (t ∷ ts) = grind (arith, ids-changed id f k ts)

pub found-changed : (owner n id : ℕ) (f : Transfer → Transfer) → KeepsNames f → (ts : List Transfer)
    → found owner n (map (changed id f) ts) ≡ option_map (changed id f) (found owner n ts)
found-changed owner n id f k [] = refl
found-changed owner n id f k (t ∷ ts) = grind (arith, found-changed owner n id f k ts)
