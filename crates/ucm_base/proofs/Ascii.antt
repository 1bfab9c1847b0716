-- Names and short texts are ASCII, and so UTF-8.
use Rattle.std.proofs.Common.{◌≡◌, ◌<◌, ℕ, zero, suc, List, [], ◌∷◌, Bool, true, arith}
use Rattle.std.specs.Prelude.{slice_index}
use Rattle.std.specs.List.{list_all}
use Rattle.std.specs.Str.{IsUtf8}
use Rattle.std.proofs.lemmas.Str.{IsUtf8-from_ascii}
use Rattle.semver.proofs.Segments.{and-left, and-right}
use Rattle.ucm_base.specs.Name.{is_cluster_name, is_name_byte}
use Rattle.ucm_base.specs.Short.{is_short, is_visible}

ascii : (p : ℕ → Bool) → ((x : ℕ) → p x ≡ true → x < 128) → (xs : List ℕ) → list_all p xs ≡ true → (i : ℕ)
    → slice_index xs i < 128
ascii p small [] h i = omega arith
ascii p small (x ∷ xs) h zero = small x (and-left (p x) (list_all p xs) h)
ascii p small (x ∷ xs) h (suc i) = ascii p small xs (and-right (p x) (list_all p xs) h) i

visible-ascii : (x : ℕ) → is_visible x ≡ true → x < 128
visible-ascii x h = grind arith

pub short-utf8 : (xs : List ℕ) → is_short xs ≡ true → IsUtf8 xs
short-utf8 xs h = IsUtf8-from_ascii xs (ascii is_visible visible-ascii xs (and-right _ (list_all is_visible xs) h))

name-ascii : (x : ℕ) → is_name_byte x ≡ true → x < 128
name-ascii x h = grind arith

pub name-utf8 : (xs : List ℕ) → is_cluster_name xs ≡ true → IsUtf8 xs
name-utf8 xs h = IsUtf8-from_ascii xs (ascii is_name_byte name-ascii xs (and-right _ (list_all is_name_byte xs) h))
