pub mod Answers
pub mod Change
pub mod Counting
pub mod Sums
