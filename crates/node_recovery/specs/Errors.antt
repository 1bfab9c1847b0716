-- Why no state was found, by what the log below says.
use Rattle.checkpoint.specs.declared.fault.StoreError.{StoreError}
use Rattle.checkpoint.specs.declared.fault.StoreError.TheVariants as store
use Rattle.node_recovery.specs.declared.opening.OpenError.{OpenError}
use Rattle.node_recovery.specs.declared.opening.OpenError.TheVariants.{Failed, OutOfMemory}

abbrev pub error_of : StoreError → OpenError
error_of store.Failed = Failed
error_of store.OutOfMemory = OutOfMemory
