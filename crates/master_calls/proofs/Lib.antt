pub mod Arriving
pub mod Sent
pub mod Sending
pub mod Turning
pub mod Turned
pub mod Due
pub mod Ended
