-- What a replay that ended says of the output.
use Rattle.std.proofs.Common.{◌≡◌, ℕ, List, Bool, Result, Ok, Err, IfOk, String, Global, string_bytes, sym, subst, ap, ◌∙◌}
use Rattle.std.specs.Prelude.{if◌then◌else◌, is_ok, IsOk}
use Rattle.std.specs.List.{insert}
use Rattle.scenario.specs.declared.script.Script.{Script}
use Rattle.node_replay.specs.declared.running.Replayed.{Replayed}
use Rattle.node_replay.specs.declared.running.Replayed.TheVariants.{Printed, Unformatted}
use Rattle.node_replay.specs.Standing.{IsEnded}
use Rattle.ucm_prog.specs.declared.status.ExitStatus.{ExitStatus}
use Rattle.ucm_prog.specs.declared.status.ExitStatus.TheVariants.{Successful, LeftUnfinished}
use Rattle.ucm_prog.specs.Outputs.{IsReplay, unformatted_line}

-- what was put back
pub inserted : {A E U : Type 0} (r : Result U E) (after others : List A) (d : A)
    → after ≡ (if is_ok r then insert others 1 d else others) → IsOk r → after ≡ insert others 1 d
inserted (Ok u) after others d is ok = is
inserted (Err e) after others d is ok = absurd (cc)

module _ {E : Type 0} (script : Script) (attached : List ℕ) (before now : ℕ) (images : List ℕ → Type 0)
    (r : Result Replayed E) (x : Replayed) (ended : IfOk r (IsEnded script attached before now images)) (is : r ≡ Ok x)
  where
    ended_so : IsEnded script attached before now images x
    ended_so = subst (λ y. IfOk y (IsEnded script attached before now images)) is ended

    pub printed_so : (text : String Global) (bytes : List ℕ) → x ≡ Printed text → bytes ≡ string_bytes text
        → IsReplay script attached Successful bytes before now images
    printed_so text bytes so same =
        subst (λ t. IsReplay script attached Successful t before now images) (sym same)
        (subst (IsEnded script attached before now images) so ended_so)

    pub left_so : (faults : ℕ) (status : ExitStatus) (bytes : List ℕ) → x ≡ Unformatted faults
        → (status ≡ LeftUnfinished) × (bytes ≡ unformatted_line faults)
        → IsReplay script attached status bytes before now images
    left_so faults status bytes so out =
        let rose = subst (IsEnded script attached before now images) so ended_so in
        subst (λ s. IsReplay script attached s bytes before now images) (sym out.0)
        (rose.0, out.1 ∙ ap unformatted_line rose.1)
