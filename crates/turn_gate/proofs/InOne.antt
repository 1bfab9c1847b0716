-- Lists of numbers are told apart by the one list that is made of them.
use Rattle.std.proofs.Common.{◌≡◌, ℕ, List, [], ◌∷◌, ◌++◌, length, refl, arith}
use Rattle.turn_gate.specs.InOne.{in_one}

-- two lists that go on from beginnings of one length
both-same : (xs ys us vs : List ℕ) → length xs ≡ length ys → xs ++ us ≡ ys ++ vs → (xs ≡ ys) × (us ≡ vs)
both-same [] [] us vs long same = (refl, same)
both-same [] (y ∷ ys) us vs long same = absurd (omega (arith, long))
both-same (x ∷ xs) [] us vs long same = absurd (omega (arith, long))
both-same (x ∷ xs) (y ∷ ys) us vs long same =
    let head : x ≡ y = cc same in
    let tail : xs ++ us ≡ ys ++ vs = cc same in
    let rest = both-same xs ys us vs (omega (arith, long)) tail in
    let whole : x ∷ xs ≡ y ∷ ys = cc (head, rest.0) in
    (whole, rest.1)

pub in_one-injective : (xs ys : List (List ℕ)) → in_one xs ≡ in_one ys → xs ≡ ys
in_one-injective [] [] same = refl
in_one-injective [] (y ∷ ys) same = absurd (cc same)
in_one-injective (x ∷ xs) [] same = absurd (cc same)
in_one-injective (x ∷ xs) (y ∷ ys) same =
    let long : length x ≡ length y = cc same in
    let tail : x ++ in_one xs ≡ y ++ in_one ys = cc same in
    let both = both-same x y (in_one xs) (in_one ys) long tail in
    let rest = in_one-injective xs ys both.1 in
    cc (both.0, rest)
