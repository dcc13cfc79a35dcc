pub mod Messages
pub mod Npdus
