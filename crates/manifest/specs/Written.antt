-- The tree of a manifest.
use Rattle.std.specs.Prelude.{List, codes, map}
use Rattle.hex.specs.Hex.{encode_lower}
use Rattle.serde_json.specs.Data.{Data, string, array, object, member, no_members}
use Rattle.serde_json.specs.View.{items_of}
use Rattle.manifest.specs.Text.{action_word}
use Rattle.ucm_base.specs.declared.parts.Need.{Need}
use Rattle.ucm_base.specs.declared.parts.Manifest.{Manifest}

-- an object of a need's name and requirement
abbrev pub need_tree : Need → Data
need_tree n = object
    (member (codes "name") (string n.name)
    (member (codes "req") (string n.req) no_members))

-- an array of needs
abbrev pub needs_tree : List Need → Data
needs_tree ns = array (items_of (map need_tree ns))

-- an object of a manifest's five parts
abbrev pub manifest_tree : Manifest → Data
manifest_tree m = object
    (member (codes "action") (string (action_word m.action))
    (member (codes "name") (string m.name)
    (member (codes "needs") (needs_tree m.needs)
    (member (codes "sha256") (string (encode_lower m.sha256))
    (member (codes "version") (string m.version) no_members)))))
