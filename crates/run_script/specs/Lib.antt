pub mod Words
pub mod RunLines
pub mod InForm
pub mod Taken
pub mod Plans
pub mod Above
pub mod Scripts
pub mod Printed
