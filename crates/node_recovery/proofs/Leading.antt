-- What is found stands for what the image does.
use Rattle.std.proofs.Common.{◌≡◌, ℕ, List, Option, Some, None, sym, ◌∙◌, ap, subst}
use Rattle.std.specs.Prelude.{IfSome, IsSome}
use Rattle.checkpoint.specs.Halves.{Body, layout_of}
use Rattle.checkpoint.specs.declared.layout.Layout.{Layout}
use Rattle.event_log.specs.Meaning.{current, state_of}
use Rattle.disk_core.specs.Images.{EachImage}
use Rattle.event_log.specs.Finds.{IsFound}
use Rattle.event_log.specs.Holds.{Holds}
use Rattle.pm_types.specs.Stored.{State}
use Rattle.event_log.specs.declared.log.Log.{Log}
use Rattle.event_codec.specs.DecidingStates.{state_told}
use Rattle.node_recovery.specs.Images.{CanRecover, after_bytes, stored_in}

-- a half counts where a log is found
pub half_counts : (log : Log) (text : List ℕ) (records : List (List ℕ)) (image : List ℕ)
    → IsFound state_told (layout_of 2) log text records image
    → current state_told (layout_of 2) image ≡ Some (log.half, record { generation = log.generation; state = text })
half_counts log text records image is =
    ap (λ (l : Layout). current state_told l image) (sym is.pair) ∙ is.stands.counts

pub not_none : (log : Log) (text : List ℕ) (records : List (List ℕ)) (image : List ℕ)
    → IsFound state_told (layout_of 2) log text records image
    → current state_told (layout_of 2) image ≡ None → ⊥
not_none log text records image is none =
    let no : None ≡ Some (log.half, record { generation = log.generation; state = text }) =
    sym none ∙ half_counts log text records image is in absurd (cc)

-- and what it leads to is a state
pub leads_on : (log : Log) (text : List ℕ) (records : List (List ℕ)) (image : List ℕ)
    → IsFound state_told (layout_of 2) log text records image → CanRecover image
    → stored_in image ≡ state_of state_told after_bytes text records
    → IsSome (state_of state_told after_bytes text records)
leads_on log text records image is can means =
    subst IsSome means (subst (λ (o : Option (ℕ × Body)). IfSome o (λ half. IsSome (stored_in image)))
    (half_counts log text records image is) can.allowed)

-- as the code reads text and records
module _ (read_text text : List ℕ) (read_records records : List (List ℕ)) (same_text : read_text ≡ text)
    (same_records : read_records ≡ records) where
  same_state : state_of state_told after_bytes text records ≡ state_of state_told after_bytes read_text read_records
  same_state = λ i. state_of state_told after_bytes (sym same_text i) (sym same_records i)

  pub read_some : (log : Log) (image : List ℕ) → IsFound state_told (layout_of 2) log text records image
      → CanRecover image → stored_in image ≡ state_of state_told after_bytes text records
      → IsSome (state_of state_told after_bytes read_text read_records)
  read_some log image is can means = subst IsSome same_state (leads_on log text records image is can means)

  pub read_state : (image : List ℕ) (s : State) → stored_in image ≡ state_of state_told after_bytes text records
      → state_of state_told after_bytes read_text read_records ≡ Some s → stored_in image ≡ Some s
  read_state image s means folded = means ∙ same_state ∙ folded

  pub read_holds : (log : Log) (images : List ℕ → Type 0) (s : State)
      → EachImage images (Holds state_told after_bytes log (state_of state_told after_bytes text records))
      → state_of state_told after_bytes read_text read_records ≡ Some s
      → EachImage images (Holds state_told after_bytes log (Some s))
  read_holds log images s holds folded =
      λ c now. subst (λ (o : Option State). Holds state_told after_bytes log o c) (same_state ∙ folded) (holds c now)
