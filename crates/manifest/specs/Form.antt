-- The manifest of a tree and of a text.
use Rattle.std.specs.Prelude.{ℕ, nat_le, if◌then◌else◌, List, length, codes, Option, Some, None, option_and_then}
use Rattle.std.specs.Str.{is_utf8, bytes_eq}
use Rattle.serde_json.specs.Data.{Data}
use Rattle.serde_json.specs.Find.{as_str, as_array}
use Rattle.serde_json.specs.Read.{read}
use Rattle.manifest.specs.Digits.{digest_of_text}
use Rattle.ucm_base.specs.Limits.{need_limit}
use Rattle.ucm_base.specs.Name.{is_cluster_name}
use Rattle.ucm_base.specs.Versions.{is_req_text, is_version_text}
use Rattle.manifest.specs.Trees.{all_of, field, has_keys, items_list, only}
use Rattle.ucm_base.specs.declared.parts.Action.{Action}
use Rattle.ucm_base.specs.declared.parts.Action.TheVariants.{Install, Update, Remove}
use Rattle.ucm_base.specs.declared.parts.Need.{Need}
use Rattle.ucm_base.specs.declared.parts.Manifest.{Manifest}

-- a cluster's name
abbrev pub name_of_tree : Data → Option (List ℕ)
name_of_tree d = option_and_then (only is_cluster_name) (as_str d)

-- a version
abbrev pub version_of_tree : Data → Option (List ℕ)
version_of_tree d = option_and_then (only is_version_text) (as_str d)

-- a requirement
abbrev pub req_of_tree : Data → Option (List ℕ)
req_of_tree d = option_and_then (only is_req_text) (as_str d)

-- a digest, in lower-case hexadecimal text
abbrev pub digest_of_tree : Data → Option (List ℕ)
digest_of_tree d = option_and_then digest_of_text (as_str d)

-- the action of a word
abbrev pub action_named : List ℕ → Option Action
action_named s = if bytes_eq s (codes "install") then Some Install
    else if bytes_eq s (codes "update") then Some Update
    else if bytes_eq s (codes "remove") then Some Remove
    else None

-- an action's word
abbrev pub action_of_tree : Data → Option Action
action_of_tree d = option_and_then action_named (as_str d)

-- the need of these parts, where each is there
abbrev pub need_with : Option (List ℕ) → Option (List ℕ) → Option Need
need_with (Some name) (Some req) = Some (record { name = name; req = req })
need_with name req = None

-- an object with exactly the keys `name` and `req`
abbrev pub need_of_tree : Data → Option Need
need_of_tree d = if has_keys 2 d
    then need_with (field (codes "name") name_of_tree d) (field (codes "req") req_of_tree d)
    else None

-- an array of at most 16 needs
abbrev pub needs_of_tree : Data → Option (List Need)
needs_of_tree d = option_and_then
    (λ ds. if nat_le (length (items_list ds)) need_limit
    then all_of need_of_tree (items_list ds) else None)
    (as_array d)

-- the manifest of these parts, where each is there
abbrev pub manifest_with : Option Action → Option (List ℕ) → Option (List ℕ) → Option (List ℕ)
    → Option (List Need) → Option Manifest
manifest_with (Some action) (Some name) (Some sha256) (Some version) (Some needs) =
    Some (record {
      action = action;
      name = name;
      version = version;
      needs = needs;
      sha256 = sha256;
    })
manifest_with action name sha256 version needs = None

-- an object with exactly the keys `action`, `name`, `needs`, `sha256` and `version`
abbrev pub manifest_of_tree : Data → Option Manifest
manifest_of_tree d = if has_keys 5 d
    then manifest_with
    (field (codes "action") action_of_tree d)
    (field (codes "name") name_of_tree d)
    (field (codes "sha256") digest_of_tree d)
    (field (codes "version") version_of_tree d)
    (field (codes "needs") needs_of_tree d)
    else None

-- the manifest of a text: UTF-8, and JSON whose tree is a manifest's
unfoldable pub manifest_of : List ℕ → Option Manifest
manifest_of text = if is_utf8 text then option_and_then manifest_of_tree (read text) else None
