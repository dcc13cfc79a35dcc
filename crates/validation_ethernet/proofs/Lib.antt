pub mod NoFindings
pub mod Parts
pub mod Validity
