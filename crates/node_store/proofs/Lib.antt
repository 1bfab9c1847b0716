mod Asked
pub mod Entered
mod EnteredWork
mod Recorded
mod Staged
mod Steps
mod Blank
mod Reopened
mod Entries
