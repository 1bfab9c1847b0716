-- Reading needs word by word.
use Rattle.std.proofs.Common.{◌≡◌, ◌<◌, ◌+◌, ◌++◌, ◌∙◌, ℕ, List, [], ◌∷◌, Result, Ok, Err, Bor, length, map, drop, get_or, drop-cons, append_assoc, add-one, refl, sym, ap}
use Rattle.std.proofs.Math.ListN.{get_or-map, length-map}
use Rattle.ucm_base.specs.declared.parts.Need.{Need}
use Rattle.scenario.specs.declared.why.Why.{Why}
use Rattle.scenario.specs.Readings.{◌>>=◌}
use Rattle.scenario.specs.Words.{need_in, needs_in}

-- some needs before those that follow them
abbrev pub after : List Need → Result (List Need) Why → Result (List Need) Why
after needs (Ok more) = Ok (needs ++ more)
after needs (Err why) = Err why

-- a need before those that follow it
abbrev pub before : Result Need Why → Result (List Need) Why → Result (List Need) Why
before need more = need >>= λ n. more >>= λ ns. Ok (n ∷ ns)

after-before : (needs : List Need) (need : Need) (more : Result (List Need) Why)
    → after needs (before (Ok need) more) ≡ after (needs ++ need ∷ []) more
after-before needs need (Ok more) = ap Ok (sym (append_assoc needs (need ∷ []) more))
after-before needs need (Err why) = refl

next : (all : Result (List Need) Why) (needs : List Need) (i : ℕ) (words : List (Bor (List ℕ))) (d : Bor (List ℕ))
    → all ≡ after needs (needs_in (drop i (map (λ w. w.now) words))) → i < length words
    → all ≡ after needs (before (need_in (get_or words i d).now) (needs_in (drop (i + 1) (map (λ w. w.now) words))))
next all needs i words d so_far h =
    let texts = map (λ (w : Bor (List ℕ)). w.now) words in
    let lt : i < length texts = rw length-map h in
    let split : drop i texts ≡ get_or texts i d.now ∷ drop (i + 1) texts =
    drop-cons texts i d.now lt ∙ rw add-one refl in
    so_far ∙ ap (λ ws. after needs (needs_in ws)) split
    ∙ ap (λ w. after needs (before (need_in w) (needs_in (drop (i + 1) texts))))
    (get_or-map (λ (w : Bor (List ℕ)). w.now) words i d)

pub next-read : (all : Result (List Need) Why) (needs : List Need) (i : ℕ) (words : List (Bor (List ℕ)))
    (d : Bor (List ℕ)) (need : Need) → all ≡ after needs (needs_in (drop i (map (λ w. w.now) words)))
    → i < length words → need_in (get_or words i d).now ≡ Ok need
    → all ≡ after (needs ++ need ∷ []) (needs_in (drop (i + 1) (map (λ w. w.now) words)))
next-read all needs i words d need so_far h read =
    next all needs i words d so_far h
    ∙ ap (λ r. after needs (before r (needs_in (drop (i + 1) (map (λ w. w.now) words))))) read
    ∙ after-before needs need (needs_in (drop (i + 1) (map (λ w. w.now) words)))

pub next-refused : (all : Result (List Need) Why) (needs : List Need) (i : ℕ) (words : List (Bor (List ℕ)))
    (d : Bor (List ℕ)) (why : Why) → all ≡ after needs (needs_in (drop i (map (λ w. w.now) words))) → i < length words
    → need_in (get_or words i d).now ≡ Err why → all ≡ Err why
next-refused all needs i words d why so_far h read =
    next all needs i words d so_far h
    ∙ ap (λ r. after needs (before r (needs_in (drop (i + 1) (map (λ w. w.now) words))))) read
