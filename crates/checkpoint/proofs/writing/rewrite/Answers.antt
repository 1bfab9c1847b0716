use Rattle.std.proofs.Common.{◌≡◌, ℕ, List, length, inr, subst, arith}
use Rattle.disk_core.specs.Bytes.{Puts, Torn}
use Rattle.disk_core.specs.Images.{From}
use Rattle.disk_core.proofs.Moments.{joined}
use Rattle.disk_area.specs.Windows.{window, InArea}
use Rattle.disk_area.proofs.Windows.{length-window}
use Rattle.disk_area.proofs.Steps.{both}
use Rattle.checkpoint.specs.Quiet.{Quiet, Shut, Rewritten}
use Rattle.checkpoint.proofs.Gates.{quiet_behind, rewritten_on}
use Rattle.checkpoint.proofs.writing.rewrite.Goals as goal

pub returns-in_err-write_synced-clause-any_moment : goal.returns-in_err-write_synced-clause-any_moment
returns-in_err-write_synced-clause-any_moment g c =
    let d = g.D.Disk in
    let old = c.args.disk.now in
    let area = c.args.area in
    let s = d.seen old in
    let m = d.seen c.close.new.disk in
    let n = length c.args.body.now in
    joined d.moment d.left_since old c.close.new.disk c.write_synced.new.disk (InArea area Quiet s)
    (From (d.images c.close.new.disk) (InArea area
    (Torn 1 n))) c.close.ensures.any_moment c.write_synced.ensures.any_moment
    (λ x from.
    let torn =
    subst (λ (b : List ℕ). InArea area (Torn 1 n) b x) (c.in_ok-close.ensures.durable from.0 from.1) from.2 in
    both area Shut (Torn 1 n) Quiet s m x c.in_ok-close.ensures.shut torn
    (λ shut t most. inr (quiet_behind most (window area s) (window area m) (window area x) n shut t)))

pub returns-clause-any_moment : goal.returns-clause-any_moment
returns-clause-any_moment g c =
    let d = g.D.Disk in
    let old = c.args.disk.now in
    let area = c.args.area in
    let s = d.seen old in
    let m = d.seen c.close.new.disk in
    let n = length c.args.body.now in
    joined d.moment d.left_since old c.close.new.disk c.write_synced.new.disk (InArea area Quiet s)
    (From (d.images c.close.new.disk) (InArea area
    (Torn 1 n))) c.close.ensures.any_moment c.write_synced.ensures.any_moment
    (λ x from.
    let torn =
    subst (λ (b : List ℕ). InArea area (Torn 1 n) b x) (c.in_ok-close.ensures.durable from.0 from.1) from.2 in
    both area Shut (Torn 1 n) Quiet s m x c.in_ok-close.ensures.shut torn
    (λ shut t most. inr (quiet_behind most (window area s) (window area m) (window area x) n shut t)))

pub returns-clause-written : goal.returns-clause-written
returns-clause-written g c =
    let d = g.D.Disk in
    let area = c.args.area in
    let s = d.seen c.args.disk.now in
    let m = d.seen c.close.new.disk in
    let x = d.seen c.write_synced.new.disk in
    let body = c.args.body.now in
    let long : length (window area s) ≡ area.len = length-window area s c.requires.inside in
    both area Shut (Puts 1 body) (Rewritten body) s m x c.in_ok-close.ensures.shut
    (c.in_ok-write_synced.ensures.written x (g.met.D.Disk.reads_as_image c.write_synced.new.disk))
    (λ shut put. rewritten_on body (window area s) (window area m) (window area x) shut
    (omega (arith, long, c.requires.fits)) put)
