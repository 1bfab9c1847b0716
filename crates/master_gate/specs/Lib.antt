pub mod Adds
pub mod Room
pub mod Stands
pub mod Laws
pub mod Seats
