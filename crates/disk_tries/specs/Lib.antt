pub mod Fits
pub mod Tallies
pub mod TallyLogs
