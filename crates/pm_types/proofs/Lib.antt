pub mod IdTexts
pub mod Codes
