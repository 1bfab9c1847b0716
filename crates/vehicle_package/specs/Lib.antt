pub mod Answers
pub mod Plan
pub mod Written
pub mod Fields
pub mod Changes
pub mod Reading
pub mod Spelling
pub mod Printed
