pub mod Lists
pub mod Exits
pub mod Fitting
pub mod Bits
pub mod Sizes
