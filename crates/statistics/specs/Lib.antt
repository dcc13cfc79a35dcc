pub mod Change
pub mod Laws
pub mod Statistics
