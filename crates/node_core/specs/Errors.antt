-- Why nothing was reserved.
use Rattle.std.specs.Prelude.{Result, Ok, Err}
use Rattle.transfer_blocks.specs.Steps.{End}
use Rattle.transfer_blocks.specs.declared.fault.StagingError.{StagingError}
use Rattle.transfer_blocks.specs.declared.fault.StagingError.TheVariants.{Failed, OutOfMemory}
use Rattle.node_core.specs.declared.node.ReserveError.{ReserveError}
use Rattle.node_core.specs.declared.node.ReserveError.TheVariants.{StagingFailed, OutOfMemory as no_memory}

-- what a fault of the staging means
abbrev pub error_of : StagingError → ReserveError
error_of Failed = StagingFailed
error_of OutOfMemory = no_memory

-- and the fault of the staging that this tells
abbrev pub fault_of : ReserveError → StagingError
fault_of StagingFailed = Failed
fault_of no_memory = OutOfMemory

-- how a call that makes ready ended
abbrev pub end_by : {X : Type 0} → Result X ReserveError → End
end_by (Ok given) = Ok tt
end_by (Err why) = Err (fault_of why)
