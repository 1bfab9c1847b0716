mod Calm
mod Doing
mod Legal
mod Made
mod Meant
pub mod Zeros
