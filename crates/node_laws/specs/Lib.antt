pub mod Fit
pub mod Runs
pub mod Appends
pub mod NewestKept
pub mod Others
