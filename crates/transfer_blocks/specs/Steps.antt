-- Calls of a staging, one after another.
use Rattle.std.specs.Prelude.{◌≡◌, ◌≢◌, ℕ, List, [], ◌∷◌, Result, Ok, Err}
use Rattle.ucm_base.specs.Parts.{Bytes}
use Rattle.pm_types.specs.Stored.{Areas}
use Rattle.transfer_blocks.specs.declared.area.Area.{Area}
use Rattle.transfer_blocks.specs.declared.fault.StagingError.{StagingError}
use Rattle.transfer_blocks.specs.declared.fault.StagingError.TheVariants.{Failed}
use Rattle.transfer_blocks.specs.Areas.{content_of, with_content, overwritten}

-- how a call ended, whatever it gave
abbrev pub End : Type 0
End = Result (Unit {0}) StagingError

abbrev pub ended : {X : Type 0} → Result X StagingError → End
ended (Ok given) = Ok tt
ended (Err fault) = Err fault

-- a call, and how it ended
pub data Step : Type 0 where
  puts : (area : Area) (at : ℕ) (bytes : Bytes) (end : End) → Step
  gets : (end : End) → Step

abbrev pub end_of : Step → End
end_of (puts area at bytes end) = end
end_of (gets end) = end

-- these calls lead from old to new, each as the staging says of it
abbrev pub Ran : {S : Type 0} → (S → Step → S → Type 0) → List Step → S → S → Type 0
Ran obeys [] old new = new ≡ old
Ran {S} obeys (step ∷ steps) old new = (mid : S) × obeys old step mid × Ran obeys steps mid new

-- the call succeeded
abbrev pub IsDone : Step → Type 0
IsDone step = end_of step ≡ Ok tt

-- it succeeded, or wanted memory
abbrev pub HasNoFault : Step → Type 0
HasNoFault step = end_of step ≢ Err Failed

-- areas that hold these bytes at this place of one of them
abbrev pub with_bytes : Area → ℕ → Bytes → Areas → Areas
with_bytes area at bytes areas = with_content area (overwritten at bytes (content_of area areas)) areas

-- what areas that held this hold after these calls, where each succeeded
abbrev pub wrote : List Step → Areas → Areas
wrote [] areas = areas
wrote (puts area at bytes end ∷ steps) areas = wrote steps (with_bytes area at bytes areas)
wrote (gets end ∷ steps) areas = wrote steps areas
