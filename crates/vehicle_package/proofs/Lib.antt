pub mod Plans
pub mod Trees
pub mod Lengths
pub mod Walk
pub mod Manifests
pub mod Steps
pub mod Taken
pub mod Again
mod Worked
mod Twice
