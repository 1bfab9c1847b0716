pub mod Halves
pub mod Mapped
