-- What a text and an array read as.
use Rattle.std.proofs.Common.{◌≡◌, List, ℕ, Bool, true, false, length, map, Some, None, refl}
use Rattle.std.specs.Prelude.{if◌then◌else◌}
use Rattle.std.proofs.lemmas.List.{length-map}
use Rattle.std.specs.Str.{IsUtf8, is_utf8}
use Rattle.std.proofs.lemmas.Str.{IsUtf8-from_is_utf8, is_utf8-from_IsUtf8}
use Rattle.serde_json.specs.Data.{Data}
use Rattle.serde_json.specs.Find.{as_array}
use Rattle.serde_json.specs.Read.{read}
use Rattle.serde_json.specs.View.{view, items_view}
use Rattle.serde_json.specs.declared.value.Value.{Value}
use Rattle.manifest.specs.Trees.{all_of}
use Rattle.manifest.proofs.Lists.{items_list-view}
use Rattle.vehicle_package.specs.Plan.{are_few, plan_of, plan_of_tree, step_of_tree, steps_of_tree}

module _ (count : ℕ) (t : List ℕ) where
  -- where the text is JSON
  pub plan_of-read : (d : Data) → IsUtf8 t → read t ≡ Some d → plan_of count t ≡ plan_of_tree count d
  unfolding plan_of
  plan_of-read d u r = rw (is_utf8-from_IsUtf8 t u, r) refl

  none_by : (b : Bool) → is_utf8 t ≡ b → (IsUtf8 t → read t ≡ None) → plan_of count t ≡ None
  unfolding plan_of
  none_by true e h = rw (e, h (IsUtf8-from_is_utf8 t e)) refl
  none_by false e h = rw e refl

  -- where it is none
  pub plan_of-none : (IsUtf8 t → read t ≡ None) → plan_of count t ≡ None
  plan_of-none h = none_by (is_utf8 t) refl h

-- the steps of an array of values
pub counted : (count : ℕ) (d : Data) (vs : List Value) (few : Bool) → Some (items_view vs) ≡ as_array d
    → few ≡ are_few (length vs)
    → steps_of_tree count d ≡ (if few then all_of (step_of_tree count) (map view vs) else None)
counted count d vs few e is = rw (← e, items_list-view vs, length-map vs view, is) refl
