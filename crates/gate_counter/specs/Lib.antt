pub mod Ticks
pub mod Rises
pub mod Counters
pub mod Laws
pub mod Seats
