pub mod Windows
pub mod Steps
