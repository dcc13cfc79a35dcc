pub mod Decimals
pub mod Hexadecimals
pub mod Texts
