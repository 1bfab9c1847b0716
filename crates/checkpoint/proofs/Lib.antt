pub mod Places
pub mod Gates
pub mod Bodies
pub mod Fronts
pub mod Counts
pub mod Steps
pub mod Switches
