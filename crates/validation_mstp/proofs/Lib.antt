pub mod NoFindings
pub mod Validity
