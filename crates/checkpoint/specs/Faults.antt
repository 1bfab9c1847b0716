-- The fault of a store that a failed read is.
use Rattle.disk_core.specs.declared.fault.ReadError.{ReadError}
use Rattle.disk_core.specs.declared.fault.ReadError.TheVariants.{Failed as read_failed, OutOfMemory as no_memory_to_read}
use Rattle.checkpoint.specs.declared.fault.StoreError.{StoreError}
use Rattle.checkpoint.specs.declared.fault.StoreError.TheVariants.{Failed, OutOfMemory}

abbrev pub fault_of : ReadError → StoreError
fault_of read_failed = Failed
fault_of no_memory_to_read = OutOfMemory
