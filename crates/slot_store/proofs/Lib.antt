pub mod Apart
pub mod Held
pub mod Runs
pub mod Puts
