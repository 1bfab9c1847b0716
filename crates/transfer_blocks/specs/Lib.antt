pub mod Areas
pub mod Steps
pub mod Table
