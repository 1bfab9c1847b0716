use Rattle.std.proofs.Common.{◌∙◌, sym, true≢false}
use Rattle.std.proofs.lemmas.Result.{IfOk-weaker, IfErr-weaker}
use Rattle.manifest.proofs.Reading.{manifest_of-read, manifest_of-none}
use Rattle.manifest.proofs.read.read_manifest.Goals as goal

pub returns-in-Ok : goal.returns-in-Ok
returns-in-Ok c =
    let is = manifest_of-read c.args.bytes.now _ c.in-Ok.ensures.ok.0 c.in-Ok.ensures.ok.1 in (
      IfOk-weaker c.manifest_in.result _ _ (λ m h. is ∙ h) c.manifest_in.ensures.0,
      IfErr-weaker c.manifest_in.result _ _ (λ e h bad. is ∙ h bad) c.manifest_in.ensures.1,
    )

pub returns-in-Err-2 : goal.returns-in-Err-2
returns-in-Err-2 c = (
  tt,
  λ _.
      manifest_of-none c.args.bytes.now
      (c.in-Err.ensures.err (λ m. true≢false (sym (c.is_memory.ensures.1 m) ∙ c.if-is_memory.false))),
)
