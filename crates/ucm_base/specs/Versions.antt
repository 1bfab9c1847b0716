-- Versions and requirements: short texts that `semver` reads (Semantic Versioning 2.0.0).
use Rattle.std.specs.Prelude.{◌&&◌, ℕ, Bool, List, [], Result, Ok, Err}
use Rattle.std.specs.Result.{is_ok}
use Rattle.std.specs.Ordering.{nat_cmp, ordering_then, is_gt}
use Rattle.std.specs.declared.cmp.Ordering.{Ordering}
use Rattle.semver.specs.Order.{pre_cmp}
use Rattle.semver.specs.Parse.{Parts, Held, version_parts, req_of}
use Rattle.semver.specs.EvalViews.{matches_views}
use Rattle.semver.specs.declared.error.Error.{Error}
use Rattle.ucm_base.specs.Short.{is_short}

abbrev pub is_version_text : List ℕ → Bool
is_version_text text = is_short text && is_ok (version_parts text)

abbrev pub is_req_text : List ℕ → Bool
is_req_text text = is_short text && is_ok (req_of text)

abbrev pub value_or : {A : Type 0} → A → Result A Error → A
value_or other (Ok x) = x
value_or other (Err e) = other

-- the parts of a version's text
abbrev pub version_of : List ℕ → Parts
version_of text = value_or (0, 0, 0, [], []) (version_parts text)

-- the comparators of a requirement's text
abbrev pub comparators_of : List ℕ → List Held
comparators_of text = value_or [] (req_of text)

-- by major, minor and patch number, then by pre-release
abbrev pub parts_cmp : Parts → Parts → Ordering
parts_cmp a b =
    ordering_then (nat_cmp a.0 b.0)
    (ordering_then (nat_cmp a.1 b.1) (ordering_then (nat_cmp a.2 b.2) (pre_cmp a.3 b.3)))

-- the precedence of two versions, by their texts
abbrev pub precedence_of : List ℕ → List ℕ → Ordering
precedence_of a b = parts_cmp (version_of a) (version_of b)

-- whether a version is of higher precedence than another
abbrev pub is_newer : List ℕ → List ℕ → Bool
is_newer version than = is_gt (precedence_of version than)

-- whether a requirement accepts a version
abbrev pub accepts : List ℕ → List ℕ → Bool
accepts req version = matches_views (comparators_of req) (version_of version)
