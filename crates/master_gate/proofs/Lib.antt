pub mod Settles
pub mod Becomes
pub mod Stands
pub mod Seats
pub mod Rises
