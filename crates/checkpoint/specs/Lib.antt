pub mod Halves
pub mod Counting
pub mod Faults
pub mod Quiet
