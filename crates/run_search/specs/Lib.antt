pub mod Acceptable
pub mod Search
pub mod Steps
pub mod Found
pub mod Reports
