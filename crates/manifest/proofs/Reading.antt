-- What a text and an array read as.
use Rattle.std.proofs.Common.{◌≡◌, List, ℕ, Bool, true, false, length, map, Some, None, Result, Ok, Err, IfOk, refl}
use Rattle.std.specs.Prelude.{nat_le, if◌then◌else◌}
use Rattle.std.proofs.lemmas.List.{length-map}
use Rattle.std.specs.Str.{IsUtf8, is_utf8}
use Rattle.std.proofs.lemmas.Str.{IsUtf8-from_is_utf8, is_utf8-from_IsUtf8}
use Rattle.serde_json.specs.Data.{Data}
use Rattle.serde_json.specs.Find.{as_array}
use Rattle.serde_json.specs.Read.{read}
use Rattle.serde_json.specs.View.{view, items_view}
use Rattle.serde_json.specs.declared.value.Value.{Value}
use Rattle.ucm_base.specs.Limits.{need_limit}
use Rattle.manifest.specs.Trees.{all_of}
use Rattle.manifest.specs.Form.{manifest_of, manifest_of_tree, need_of_tree, needs_of_tree}
use Rattle.manifest.proofs.Lists.{items_list-view}

-- where the text is JSON
pub manifest_of-read : (t : List ℕ) (d : Data) → IsUtf8 t → read t ≡ Some d → manifest_of t ≡ manifest_of_tree d
unfolding manifest_of
manifest_of-read t d u r = rw (is_utf8-from_IsUtf8 t u, r) refl

none_by : (t : List ℕ) (b : Bool) → is_utf8 t ≡ b → (IsUtf8 t → read t ≡ None) → manifest_of t ≡ None
unfolding manifest_of
none_by t true e h = rw (e, h (IsUtf8-from_is_utf8 t e)) refl
none_by t false e h = rw e refl

-- where it is none
pub manifest_of-none : (t : List ℕ) → (IsUtf8 t → read t ≡ None) → manifest_of t ≡ None
manifest_of-none t h = none_by t (is_utf8 t) refl h

pub both : {T E : Type 0} (r : Result T E) (P Q : T → Type 0) → IfOk r P → IfOk r Q → IfOk r (λ x. P x × Q x)
both (Ok x) P Q p q = (p, q)
both (Err e) P Q p q = tt

-- the needs of an array of values
pub counted : (d : Data) (vs : List Value) (few : Bool) → Some (items_view vs) ≡ as_array d
    → few ≡ nat_le (length vs) need_limit
    → needs_of_tree d ≡ (if few then all_of need_of_tree (map view vs) else None)
counted d vs few e is = rw (← e, items_list-view vs, length-map vs view, is) refl
