mod Installing
mod MemDisks
mod Outputs
mod Replays
mod Unused
