use Rattle.std.proofs.Common.{◌≡◌, ◌⊎◌, List, Result, Ok, Err, inl, inr, rules}
use Rattle.std.proofs.lemmas.Result.{IfErr-weaker, IfOk-weaker}
use Rattle.ucm_base.specs.declared.parts.Part.{Part}
use Rattle.package_reader.proofs.Again.{package_is_read}
use Rattle.package_reader.proofs.Readings.{refused-contents}
use Rattle.package_reader.proofs.Taken.{contents_are_package, contents_are_parts, contents_lie_within}
use Rattle.package_reader.proofs.read.read_package.Goals as goal

pub returns-clause-package : goal.returns-clause-package
returns-clause-package c =
    IfOk-weaker c.contents_of.result _ _ (λ parts e.
    contents_are_package c.args.bytes.now parts (λ i. let small = c.type_inv.bytes i in search rules) e)
    c.contents_of.ensures.ok

pub returns-clause-only : goal.returns-clause-only
returns-clause-only c parts is =
    IfErr-weaker c.contents_of.result _ _ (λ e told. elim told [
      | inl memory ↦ memory
      | inr refused ↦
          absurd (refused-contents c.args.bytes.now parts e (package_is_read c.args.bytes.now parts is) refused)
    ]) c.contents_of.ensures.err

pub returns-clause-parts : goal.returns-clause-parts
returns-clause-parts c =
    IfOk-weaker c.contents_of.result _ _ (λ parts e.
    contents_are_parts c.args.bytes.now parts e) c.contents_of.ensures.ok

pub returns-clause-within : goal.returns-clause-within
returns-clause-within c =
    IfOk-weaker c.contents_of.result _ _ (λ parts e.
    contents_lie_within c.args.bytes.now parts e) c.contents_of.ensures.ok
