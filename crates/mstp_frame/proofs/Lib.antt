pub mod FrameTypes
pub mod Header
pub mod Sizes
