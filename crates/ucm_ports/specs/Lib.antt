pub mod Plan
pub mod Memory
pub mod Reading
