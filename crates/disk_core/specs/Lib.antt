pub mod Bytes
pub mod Images
pub mod Moments
pub mod Room
pub mod Calls
pub mod Plans
pub mod Served
