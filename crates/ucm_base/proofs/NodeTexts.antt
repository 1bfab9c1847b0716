-- The text of a set of nodes with one node more.
use Rattle.std.proofs.Common.{◌≡◌, ◌<◌, ◌+◌, ◌++◌, ◌∙◌, ◌∷◌, [], ℕ, Bool, true, false, List, length, take, get_or, refl, sym, ap, append_assoc, arith}
use Rattle.std.specs.Prelude.{codes}
use Rattle.std.specs.Fmt.{decimal}
use Rattle.std.specs.List.{flat_map, join_by}
use Rattle.std.proofs.lemmas.Grind.{flat_map-append}
use Rattle.std.proofs.lemmas.List.{append-nil, length-take-le, take_more}
use Rattle.ucm_base.specs.Printed.{numbers_from}

-- what stands between these numbers and one more
abbrev pub separator : List ℕ → List ℕ
separator [] = []
separator (n ∷ ns) = codes ","

abbrev pub joined : List ℕ → List ℕ
joined ns = join_by decimal (codes ",") ns

one-more : (ns : List ℕ) (m : ℕ) → joined (ns ++ m ∷ []) ≡ joined ns ++ (separator ns ++ decimal m)
one-more [] m = append-nil (decimal m)
one-more (n ∷ ns) m =
    let behind : ℕ → List ℕ = λ x. codes "," ++ decimal x in
    ap (λ t. decimal n ++ t) (flat_map-append behind ns (m ∷ []) ∙ ap (λ t. flat_map behind ns ++ t)
    (append-nil (behind m)))
    ∙ sym (append_assoc (decimal n) (flat_map behind ns) (behind m))

flagged : (n : ℕ) (flags : List Bool) → numbers_from n (flags ++ true ∷ []) ≡ numbers_from n flags ++ (n + length flags)
    ∷ []
flagged n [] = ap (λ m. m ∷ []) (omega arith)
flagged n (true ∷ flags) =
    ap (λ ns. n ∷ ns) (flagged (n + 1) flags) ∙ ap (λ m. n ∷ (numbers_from (n + 1) flags ++ m ∷ [])) (omega arith)
flagged n (false ∷ flags) = flagged (n + 1) flags ∙ ap (λ m. numbers_from (n + 1) flags ++ m ∷ []) (omega arith)

unflagged : (n : ℕ) (flags : List Bool) → numbers_from n (flags ++ false ∷ []) ≡ numbers_from n flags
unflagged n [] = refl
unflagged n (true ∷ flags) = ap (λ ns. n ∷ ns) (unflagged (n + 1) flags)
unflagged n (false ∷ flags) = unflagged (n + 1) flags

-- the numbers up to a flagged node
pub with-node : (flags : List Bool) (i : ℕ) → i < length flags → get_or flags i false ≡ true
    → numbers_from 1 (take (i + 1) flags) ≡ numbers_from 1 (take i flags) ++ (i + 1) ∷ []
with-node flags i below is =
    ap (numbers_from 1) (take_more flags i false below ∙ ap (λ x. take i flags ++ x ∷ []) is)
    ∙ flagged 1 (take i flags)
    ∙ ap (λ m. numbers_from 1 (take i flags) ++ m ∷ []) (ap (λ m. 1 + m) (length-take-le i flags (omega (arith, below)))
    ∙ omega arith)

-- the numbers up to another node
pub without-node : (flags : List Bool) (i : ℕ) → i < length flags → get_or flags i false ≡ false
    → numbers_from 1 (take (i + 1) flags) ≡ numbers_from 1 (take i flags)
without-node flags i below is =
    ap (numbers_from 1) (take_more flags i false below ∙ ap (λ x. take i flags ++ x ∷ []) is) ∙ unflagged 1
    (take i flags)

-- numbers and one more, as they are written one after another
pub joined-more : (ns all : List ℕ) (m : ℕ) → all ≡ ns ++ m ∷ [] → joined ns ++ (separator ns ++ decimal m) ≡ joined all
joined-more ns all m is = sym (one-more ns m) ∙ ap joined (sym is)

-- behind any number stands a comma
pub comma : (ns all : List ℕ) (m : ℕ) → all ≡ ns ++ m ∷ [] → codes "," ≡ separator all
comma [] all m is = ap separator (sym is)
comma (n ∷ ns) all m is = ap separator (sym is)
