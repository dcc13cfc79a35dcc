pub mod Answers
pub mod Laws
pub mod Paddings
pub mod Stores
pub mod Stretches
pub mod Texts
