pub mod Analysis
pub mod Outcome
