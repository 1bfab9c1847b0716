pub mod Serving
pub mod Open
pub mod Answers
