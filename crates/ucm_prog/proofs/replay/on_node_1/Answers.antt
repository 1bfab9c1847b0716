use Rattle.std.proofs.Common.{◌<◌, ℕ, Vec, Global, get_or, vec_len, vec_capacity, ap, ◌∙◌, arith}
use Rattle.std.proofs.lemmas.Result.{IfOk-weaker}
use Rattle.std.specs.List.{remove}
use Rattle.ucm_prog.specs.declared.output.Output.{Output}
use Rattle.ucm_prog.specs.declared.status.ExitStatus.TheVariants.{Successful}
use Rattle.ucm_prog.specs.Disks.{IsUnused}
use Rattle.ucm_prog.specs.Outputs.{IsReplay}
use Rattle.ucm_prog.proofs.Replays.{inserted, left_so, printed_so}
use Rattle.ucm_prog.proofs.Unused.{found, many, put_back, unused_blank, unused_extents}
use Rattle.ucm_prog.proofs.replay.on_node_1.Goals as goal

pub replay-disk-requires-clause-extents : goal.replay-disk-requires-clause-extents
replay-disk-requires-clause-extents g c =
    let D = g.D.Disk in
    let d = c.remove-disk.result in
    unused_extents (D.seen d) (D.images d) (D.armed d) (found D.seen D.images D.armed c.args.disks.now.items _ d
    c.requires.disks c.reserve.ensures.items c.remove-disk.ensures.value)

pub replay-disk-requires-clause-blank : goal.replay-disk-requires-clause-blank
replay-disk-requires-clause-blank g c =
    let D = g.D.Disk in
    let d = c.remove-disk.result in
    unused_blank (D.seen d) (D.images d) (D.armed d) (found D.seen D.images D.armed c.args.disks.now.items _ d
    c.requires.disks c.reserve.ensures.items c.remove-disk.ensures.value)

pub replay-disk-requires-clause-unarmed : goal.replay-disk-requires-clause-unarmed
replay-disk-requires-clause-unarmed g c =
    let D = g.D.Disk in
    let is : _ = found D.seen D.images D.armed c.args.disks.now.items _ c.remove-disk.result
    c.requires.disks c.reserve.ensures.items c.remove-disk.ensures.value in
    is.unarmed

pub returns-in-Printed-clause-ends : goal.returns-in-Printed-clause-ends
returns-in-Printed-clause-ends g c =
    let D = g.D.Disk in
    let d = c.remove-disk.result in
    let d' = c.replay-disk.result.0 in
    let disks = c.args.disks.now.items in
    let same = c.reserve.ensures.items in
    let room : vec_len c.remove-disk.new.self < vec_capacity c.remove-disk.new.self =
    omega (arith, c.in_ok-reserve.ensures.ok, c.remove-disk.ensures.len, c.remove-disk.ensures.capacity) in
    put_back (λ e e'. IsReplay c.args.script.now c.args.attached.now Successful c.into_bytes.result.items
    (D.fault_count e) (D.fault_count e') (D.images e')) disks c.remove-disk.new.self.items c.insert.new.self.items d d'
    (many (λ size e. IsUnused size (D.seen e) (D.images e) (D.armed e)) disks c.requires.disks)
    (c.remove-disk.ensures.value ∙ ap (λ ds. get_or ds 1 d) same)
    (c.remove-disk.ensures.items ∙ ap (λ ds. remove ds 1) same)
    (inserted c.insert.result c.insert.new.self.items c.remove-disk.new.self.items d' c.insert.ensures.items
    (c.insert.ensures.succeeds room))
    (printed_so c.args.script.now c.args.attached.now (D.fault_count d) (D.fault_count d') (D.images d')
    c.replay-disk.result.1 c.in_ok-text.field-0 c.replay-disk.ensures.ended c.in_ok-text.was c.in-Printed.text
    c.into_bytes.result.items c.in-Printed.is (ap (λ (v : Vec ℕ Global). v.items) c.into_bytes.ensures.value))

pub returns-clause-ends : goal.returns-clause-ends
returns-clause-ends g c =
    let D = g.D.Disk in
    let d = c.remove-disk.result in
    let d' = c.replay-disk.result.0 in
    let disks = c.args.disks.now.items in
    let same = c.reserve.ensures.items in
    let room : vec_len c.remove-disk.new.self < vec_capacity c.remove-disk.new.self =
    omega (arith, c.in_ok-reserve.ensures.ok, c.remove-disk.ensures.len, c.remove-disk.ensures.capacity) in
    IfOk-weaker c.unformatted.result _ _
    (λ (o : Output) out.
    put_back (λ e e'. IsReplay c.args.script.now c.args.attached.now o.status o.bytes.items
    (D.fault_count e) (D.fault_count e') (D.images e')) disks c.remove-disk.new.self.items c.insert.new.self.items d d'
    (many (λ size e. IsUnused size (D.seen e) (D.images e) (D.armed e)) disks c.requires.disks)
    (c.remove-disk.ensures.value ∙ ap (λ ds. get_or ds 1 d) same)
    (c.remove-disk.ensures.items ∙ ap (λ ds. remove ds 1) same)
    (inserted c.insert.result c.insert.new.self.items c.remove-disk.new.self.items d' c.insert.ensures.items
    (c.insert.ensures.succeeds room))
    (left_so c.args.script.now c.args.attached.now (D.fault_count d) (D.fault_count d') (D.images d')
    c.replay-disk.result.1 c.in_ok-text.field-0 c.replay-disk.ensures.ended c.in_ok-text.was c.in-Unformatted.faults
    o.status o.bytes.items c.in-Unformatted.is out))
    c.unformatted.ensures
