pub mod Records
pub mod Reading
pub mod Written
pub mod Torn
pub mod Example
pub mod Cuts
