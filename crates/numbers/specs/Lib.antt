pub mod Layout
pub mod Named
pub mod State
