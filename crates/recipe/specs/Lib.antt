pub mod Packages
pub mod Lines
pub mod Named
pub mod Made
pub mod Recipes
pub mod Packing
