pub mod Reading
pub mod Back
pub mod Holds
pub mod Whole
pub mod Torn
pub mod Written
pub mod Examples
pub mod Cuts
