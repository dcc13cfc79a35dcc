pub mod Laws
pub mod Padding
pub mod State
