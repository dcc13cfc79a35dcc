pub mod Digit
pub mod Rule
