pub mod Digits
pub mod Trees
pub mod Form
pub mod Read
pub mod Valid
pub mod Text
pub mod Written
