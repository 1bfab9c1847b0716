pub mod Calls
pub mod Arrivals
pub mod Laws
