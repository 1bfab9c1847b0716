pub mod Bytes
pub mod Areas
pub mod Lists
pub mod Meanings
pub mod Runs
pub mod Slots
pub mod Tables
