pub mod Parts
pub mod Views
pub mod Rule
pub mod Steps
pub mod Known
pub mod Seats
pub mod Mine
pub mod InOne
