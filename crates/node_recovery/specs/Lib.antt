pub mod Folds
pub mod Allowed
pub mod Deciding
pub mod Images
pub mod Errors
pub mod Recorded
