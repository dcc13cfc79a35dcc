pub mod Entries
pub mod Error
pub mod Link
pub mod Outcome
pub mod Result
pub mod Warning
