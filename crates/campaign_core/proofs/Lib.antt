pub mod Flagged
pub mod Appended
pub mod Codes
pub mod Worked
pub mod Within
pub mod Changes
