pub mod Answered
pub mod Valid
pub mod Places
pub mod Found
