-- Texts: a length of one byte, and the bytes.
use Rattle.std.specs.Prelude.{◌≡◌, ℕ, true, List, length}
use Rattle.wire.specs.Fields.{u8_field}
use Rattle.ucm_base.specs.Name.{is_cluster_name}
use Rattle.ucm_base.specs.Short.{is_short}
use Rattle.ucm_base.specs.Versions.{is_version_text, is_req_text}
use Rattle.event_codec.specs.Spelling.{◌⌢◌}

abbrev pub text_spelled : List ℕ → List ℕ
text_spelled t = u8_field (length t) ⌢ t

abbrev pub IsName : List ℕ → Type 0
IsName t = is_cluster_name t ≡ true

abbrev pub IsShort : List ℕ → Type 0
IsShort t = is_short t ≡ true

abbrev pub IsVersion : List ℕ → Type 0
IsVersion t = is_version_text t ≡ true

abbrev pub IsReq : List ℕ → Type 0
IsReq t = is_req_text t ≡ true
