pub mod Content
pub mod Steps
pub mod Images
pub mod History
pub mod Mending
pub mod Rooms
