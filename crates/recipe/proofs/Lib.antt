pub mod FirstLine
pub mod With
pub mod Sizes
pub mod Forms
pub mod Attached
