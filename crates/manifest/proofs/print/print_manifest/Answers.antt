use Rattle.std.proofs.Common.{◌≤◌, ◌∙◌, ap, length, subst, sym, Some}
use Rattle.std.proofs.lemmas.Result.{IfOk-weaker}
use Rattle.serde_json.specs.Data.{depth}
use Rattle.serde_json.specs.View.{view}
use Rattle.serde_json.specs.Written.{has_float, compact_text}
use Rattle.manifest.proofs.Reading.{manifest_of-read, both}
use Rattle.manifest.proofs.Lengths.{manifest_short}
use Rattle.manifest.proofs.Trees.{manifest_back, manifest_written, no_float, low}
use Rattle.manifest.proofs.print.print_manifest.Goals as goal

pub returns-clause-text : goal.returns-clause-text
returns-clause-text c =
    let m = c.args.m.now in
    let is = c.in_ok-value.ensures.tree in
    IfOk-weaker c.to_vec.result _ _ (λ b h. h (ap has_float is ∙ no_float m) ∙ ap compact_text is
    ∙ manifest_written m) c.to_vec.ensures.text

pub returns-clause-back : goal.returns-clause-back
returns-clause-back c =
    let m = c.args.m.now in
    let is = c.in_ok-value.ensures.tree in
    let shallow : depth (view c.in_ok-value.value) ≤ 127 = rw is (low m) in
    IfOk-weaker c.to_vec.result _ _ (λ b h. manifest_of-read b.items _ h.0 (h.1 shallow ∙ ap Some is)
    ∙ manifest_back m c.in_ok-value.ensures.form)
    (both c.to_vec.result _ _ c.to_vec.ensures.utf8 c.to_vec.ensures.reads_back)

pub returns-clause-short : goal.returns-clause-short
returns-clause-short c =
    let m = c.args.m.now in
    let is = c.in_ok-value.ensures.tree in
    let short = manifest_short m c.in_ok-value.ensures.form in
    IfOk-weaker c.to_vec.result _ _ (λ b h.
    subst (λ t. length t ≤ 4096) (sym (h (ap has_float is ∙ no_float m) ∙ ap compact_text is ∙ manifest_written m))
    short) c.to_vec.ensures.text
