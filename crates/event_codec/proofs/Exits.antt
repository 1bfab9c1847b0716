-- The spelling of an accepted exit, by how many parts there are.
use Rattle.std.proofs.Common.{◌≡◌, ℕ, List, [], ◌∷◌, length, refl, sym, ◌∙◌, ap, arith}
use Rattle.std.specs.List.{flat_map}
use Rattle.std.proofs.lemmas.List.{append-nil}
use Rattle.std.proofs.lemmas.List.Concat.{flat_map-cons}
use Rattle.wire.specs.Fields.{u8_field, u32_field}
use Rattle.ucm_base.specs.declared.ids.CallNo.{CallNo}
use Rattle.ucm_base.specs.declared.parts.Part.{Part}
use Rattle.event_codec.specs.Spelling.{◌⌢◌, list_spelled}
use Rattle.event_codec.specs.Clusters.{part_spelled}
use Rattle.event_codec.specs.Replies.{call_no_spelled}
use Rattle.event_codec.specs.Records.{exited_spelled}

module _ (client : ℕ) (call_no : CallNo) (id : ℕ) where
  pub exit_of_one : (parts : List (Part ℕ)) → length parts ≡ 1
      → exited_spelled client call_no id parts
      ≡ u8_field 1 ⌢ u8_field client ⌢ call_no_spelled call_no ⌢ u8_field 3 ⌢ u32_field id ⌢ u8_field 0
      ⌢ flat_map part_spelled parts
  exit_of_one [] n = absurd (omega arith)
  exit_of_one (p ∷ []) n =
      ap (λ t. u8_field 1 ⌢ u8_field client ⌢ call_no_spelled call_no ⌢ u8_field 3 ⌢ u32_field id ⌢ u8_field 0 ⌢ t)
      (sym (flat_map-cons part_spelled p [] ∙ append-nil (part_spelled p)))
  exit_of_one (p ∷ p' ∷ ps) n = absurd (omega arith)

  pub exit_of_more : (parts : List (Part ℕ)) → (length parts ≡ 1 → ⊥)
      → exited_spelled client call_no id parts
      ≡ u8_field 3 ⌢ u8_field client ⌢ call_no_spelled call_no ⌢ u32_field id ⌢ list_spelled part_spelled parts
  exit_of_more [] one = refl
  exit_of_more (p ∷ []) one = absurd (one refl)
  exit_of_more (p ∷ p' ∷ ps) one = refl
