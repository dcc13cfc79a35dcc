pub mod Counts
pub mod Lines
pub mod Spaced
pub mod Written
