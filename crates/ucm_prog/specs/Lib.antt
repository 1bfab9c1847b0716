pub mod Commands
pub mod Refusals
pub mod Inspect
pub mod Outcome
pub mod Outputs
pub mod Disks
