pub mod NeedWords
pub mod Cuts
pub mod FirstWords
mod Worked
