use Rattle.std.proofs.lemmas.Result.{IfOk-weaker}
use Rattle.disk_mem.specs.declared.mem.MemDisk.{MemDisk}
use Rattle.checkpoint.specs.Halves.{layout_of}
use Rattle.disk_tries.proofs.FourHalves.{zeros_have}
use Rattle.disk_tries.proofs.turns.blank.Goals as goal

pub returns-clause-pair : goal.returns-clause-pair
returns-clause-pair c =
    IfOk-weaker c.new.result _ _ (λ (d : MemDisk) zeros. zeros_have c.args.size
    (layout_of c.args.half) _ c.requires zeros) c.new.ensures.zeros
