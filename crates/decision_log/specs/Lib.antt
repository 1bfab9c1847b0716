pub mod Folds
pub mod Known
pub mod Answers
pub mod Left
