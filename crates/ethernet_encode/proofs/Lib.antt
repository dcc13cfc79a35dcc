pub mod Anew
pub mod Encodes
pub mod Outputs
pub mod Questions
