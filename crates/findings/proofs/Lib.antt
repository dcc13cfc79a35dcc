pub mod Filled
pub mod NoFindings
pub mod Quiet
pub mod Stored
