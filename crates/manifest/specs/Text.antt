-- The canonical text of a manifest: JSON without blanks, with the keys in the order of their bytes.
use Rattle.std.specs.Prelude.{ℕ, List, [], ◌∷◌, codes, map}
use Rattle.std.specs.List.{concat, join_with_byte}
use Rattle.hex.specs.Hex.{encode_lower}
use Rattle.json.specs.Print.{quoted}
use Rattle.ucm_base.specs.declared.parts.Action.{Action}
use Rattle.ucm_base.specs.declared.parts.Action.TheVariants.{Install, Update, Remove}
use Rattle.ucm_base.specs.declared.parts.Need.{Need}
use Rattle.ucm_base.specs.declared.parts.Manifest.{Manifest}

-- the word of an action
abbrev pub action_word : Action → List ℕ
action_word Install = codes "install"
action_word Update = codes "update"
action_word Remove = codes "remove"

-- `{"name":..,"req":..}`
abbrev pub need_text : Need → List ℕ
need_text n = concat
    (codes "{\"name\":" ∷ quoted n.name ∷ codes ",\"req\":" ∷ quoted n.req ∷ codes "}" ∷ [])

-- the needs, with a comma between each two
abbrev pub needs_text : List Need → List ℕ
needs_text ns = join_with_byte 44 (map need_text ns)

-- `{"action":..,"name":..,"needs":[..],"sha256":..,"version":..}`
abbrev pub manifest_text : Manifest → List ℕ
manifest_text m = concat
    (codes "{\"action\":" ∷ quoted (action_word m.action)
    ∷ codes ",\"name\":" ∷ quoted m.name
    ∷ codes ",\"needs\":[" ∷ needs_text m.needs ∷ codes "]"
    ∷ codes ",\"sha256\":" ∷ quoted (encode_lower m.sha256)
    ∷ codes ",\"version\":" ∷ quoted m.version ∷ codes "}" ∷ [])
