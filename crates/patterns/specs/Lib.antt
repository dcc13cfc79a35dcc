pub mod Detect
pub mod Entries
pub mod Laws
pub mod Seen
pub mod Steps
pub mod Stretches
