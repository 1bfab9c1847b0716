pub mod Reasons
pub mod Readings
pub mod Attached
pub mod Words
pub mod Blocks
pub mod Events
pub mod Lines
pub mod Scripts
