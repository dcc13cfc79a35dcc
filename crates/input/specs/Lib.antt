pub mod Answer
pub mod Room
