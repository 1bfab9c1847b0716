pub mod Lines
pub mod Done
pub mod Installed
pub mod Standing
