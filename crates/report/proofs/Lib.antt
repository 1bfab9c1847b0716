pub mod Spelled
pub mod Entered
pub mod Rising
