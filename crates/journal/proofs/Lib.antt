pub mod Lists
pub mod Appends
pub mod Moments
pub mod Firsts
pub mod Grammars
