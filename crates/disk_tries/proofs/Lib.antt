mod Zeros
pub mod FourHalves
pub mod Folds
