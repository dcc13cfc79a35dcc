pub mod Encodes
pub mod Written
