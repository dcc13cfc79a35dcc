pub mod Functions
pub mod Headers
