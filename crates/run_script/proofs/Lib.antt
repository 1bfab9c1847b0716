pub mod FirstWords
pub mod Indexes
pub mod Reached
pub mod Forms
pub mod Fates
pub mod Vehicles
pub mod Planned
