use Rattle.std.proofs.Common.{◌≡◌, ◌+◌, ℕ, ap, ◌∙◌, arith, Vec, Global}
use Rattle.std.specs.List.{slice_range}
use Rattle.std.proofs.lemmas.Result.{IfOk-weaker}
use Rattle.disk_area.specs.Windows.{window}
use Rattle.disk_area.proofs.Windows.{window_range}
use Rattle.disk_area.proofs.area.Area.read.Goals as goal

pub returns-clause-bytes : goal.returns-clause-bytes
returns-clause-bytes g c =
    let area = c.args.self.now in
    let seen = g.D.Disk.seen c.args.disk.now in
    let end : area.at + c.args.at + c.args.len ≡ area.at + (c.args.at + c.args.len) = omega arith in
    let same =
    ap (λ (n : ℕ). slice_range seen (area.at + c.args.at) n) end
    ∙ window_range area seen c.args.at (c.args.at + c.args.len) (omega arith) c.requires.range in
    IfOk-weaker c.read.result _ (λ (v : Vec ℕ Global). v.items ≡ slice_range (window area seen) c.args.at
    (c.args.at + c.args.len)) (λ v is. is ∙ same) c.read.ensures.bytes
