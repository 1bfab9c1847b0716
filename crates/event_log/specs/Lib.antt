pub mod Meaning
pub mod Holds
pub mod Doubts
pub mod Finds
pub mod Settles
pub mod Beside
pub mod Runs
