pub mod Again
pub mod Blocks
pub mod Readings
pub mod Manifests
pub mod Sizes
pub mod Taken
pub mod Walk
pub mod Lies
