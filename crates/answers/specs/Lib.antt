pub mod Parts
pub mod Told
