-- Runs of calls of a staging, one after the other.
use Rattle.std.proofs.Common.{List, [], ◌∷◌, ◌++◌, subst, refl, ◌≡◌}
use Rattle.pm_types.specs.Stored.{Areas}
use Rattle.transfer_blocks.specs.Steps.{Step, puts, gets, Ran, with_bytes, wrote}

-- a run, and one behind it
pub ran_both : {S : Type 0} (obeys : S → Step → S → Type 0) (first second : List Step) (a b c : S)
    → Ran obeys first a b → Ran obeys second b c → Ran obeys (first ++ second) a c
ran_both obeys [] second a b c ran more = subst (λ s. Ran obeys second s c) ran more
ran_both obeys (step ∷ first) second a b c ran more =
    (ran.0, ran.1, ran_both obeys first second ran.0 b c ran.2 more)

-- what areas hold after both
pub wrote_both : (first second : List Step) (areas : Areas) → wrote (first ++ second) areas ≡ wrote second
    (wrote first areas)
wrote_both [] second areas = refl
wrote_both (puts area at bytes end ∷ first) second areas = wrote_both first second (with_bytes area at bytes areas)
wrote_both (gets end ∷ first) second areas = wrote_both first second areas
