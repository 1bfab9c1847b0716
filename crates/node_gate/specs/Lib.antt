pub mod Calls
pub mod Clients
pub mod Laws
pub mod Room
pub mod Seats
pub mod Stands
