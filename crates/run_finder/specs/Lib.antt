pub mod Find
pub mod Reading
pub mod Demand
pub mod Calls
pub mod Example
