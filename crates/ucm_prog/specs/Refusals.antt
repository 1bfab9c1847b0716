-- What is written where an input is refused.
use Rattle.std.specs.Prelude.{ℕ, List, [], ◌∷◌, ◌++◌, codes}
use Rattle.std.specs.Fmt.{decimal}
use Rattle.scenario.specs.declared.why.Why.{Why}
use Rattle.scenario.specs.Reasons.{why_text}
use Rattle.ucm_prog.specs.declared.status.ExitStatus.{ExitStatus}
use Rattle.ucm_prog.specs.declared.status.ExitStatus.TheVariants.{InputRefused}

-- a status, and the bytes that are written
pub record Output : Type 0 where
  pub status : ExitStatus
  pub text : List ℕ

abbrev pub refused_output : List ℕ → Output
refused_output why = record { status = InputRefused; text = codes "refused " ++ why ++ 10 ∷ [] }

-- a line that is refused, or 0 for what is judged behind all lines
abbrev pub line_refusal : ℕ → Why → List ℕ
line_refusal line why = codes "line " ++ decimal line ++ codes " " ++ why_text why

-- of an input that is longer than its limit
abbrev pub too_long_output : Output
too_long_output = refused_output (codes "too long")
