-- What was taken or put piece by piece.
use Rattle.std.proofs.Common.{◌≡◌, ◌+◌, ◌-◌, ◌++◌, ◌∙◌, ℕ, List, Option, Some, None, option_map, length, take, drop, refl, sym, ap, append_assoc, arith}
use Rattle.std.proofs.lemmas.List.{length-drop, take-append-drop, drop-drop}
use Rattle.std.proofs.Math.Seq.{take-add, take-length}

-- a slice from d on is the rest from d on
pub rest-from : (d : ℕ) (xs : List ℕ) → take (length xs - d) (drop d xs) ≡ drop d xs
rest-from d xs = rw (← length-drop d xs) (take-length (drop d xs))

put-more : (x : Option (List ℕ)) (a b : List ℕ)
    → option_map (λ w. w ++ b) (option_map (λ w. w ++ a) x) ≡ option_map (λ w. w ++ (a ++ b)) x
put-more None a b = refl
put-more (Some w) a b = ap Some (append_assoc w a b)

-- the first n bytes were put, and then m more of the rest
pub put-next : (x y z : Option (List ℕ)) (n m : ℕ) (bytes : List ℕ) → y ≡ option_map (λ w. w ++ take n bytes) x
    → z ≡ option_map (λ w. w ++ take m (take (length bytes - n) (drop n bytes))) y
    → z ≡ option_map (λ w. w ++ take (n + m) bytes) x
put-next x y z n m bytes first next =
    next ∙ ap (λ t. option_map (λ w. w ++ take m t) y) (rest-from n bytes)
    ∙ ap (option_map (λ w. w ++ take m (drop n bytes))) first ∙ put-more x (take n bytes) (take m (drop n bytes))
    ∙ ap (λ t. option_map (λ w. w ++ t) x) (sym (take-add n m bytes))

-- from d on, m bytes were copied to the front
pub taken-next : (d m : ℕ) (bytes into : List ℕ) → take (0 + m) into ≡ take m (take (length bytes - d) (drop d bytes))
    → drop d bytes ≡ take m into ++ drop (d + m) bytes
taken-next d m bytes into copied =
    let zero : 0 + m ≡ m = omega arith in
    let same : take m into ≡ take m (drop d bytes) = (rw zero at copied) ∙ ap (take m) (rest-from d bytes) in
    rw (same, ← drop-drop m d bytes) (sym (take-append-drop m (drop d bytes)))
