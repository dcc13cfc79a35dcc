pub mod Change
pub mod Decode
pub mod Example
pub mod Frame
pub mod Limits
pub mod RoundTrip
