pub mod Back
pub mod Change
pub mod Count
pub mod Front
pub mod Longest
pub mod More
pub mod Walk
