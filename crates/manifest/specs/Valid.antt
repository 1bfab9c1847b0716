-- What every need and every manifest is: its parts have their forms.
use Rattle.std.specs.Prelude.{◌≡◌, ◌≤◌, ℕ, true, List, length}
use Rattle.std.specs.List.{All}
use Rattle.hex.specs.Hex.{IsBytes}
use Rattle.ucm_base.specs.Limits.{need_limit}
use Rattle.ucm_base.specs.Name.{is_cluster_name}
use Rattle.ucm_base.specs.Versions.{is_req_text, is_version_text}
use Rattle.ucm_base.specs.declared.parts.Need.{Need}
use Rattle.ucm_base.specs.declared.parts.Manifest.{Manifest}

-- 32 bytes
pub record IsDigest (digest : List ℕ) : Type 0 where
  pub size : length digest ≡ 32
  pub bytes : IsBytes digest

-- a name and a requirement
pub record IsNeed (n : Need) : Type 0 where
  pub name : is_cluster_name n.name ≡ true
  pub req : is_req_text n.req ≡ true

-- a name, a version, at most 16 needs and a digest
pub record IsManifest (m : Manifest) : Type 0 where
  pub name : is_cluster_name m.name ≡ true
  pub version : is_version_text m.version ≡ true
  pub needs : All IsNeed m.needs
  pub few : length m.needs ≤ need_limit
  pub sha256 : IsDigest m.sha256
