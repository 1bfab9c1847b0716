pub mod Taken
pub mod Changes
pub mod Tables
pub mod Folded
pub mod Texts
pub mod Leading
pub mod Recorded
pub mod RecordedWork
