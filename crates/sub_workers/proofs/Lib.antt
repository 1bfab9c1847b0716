pub mod Counting
mod Going
