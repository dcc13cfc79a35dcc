pub mod Tests
pub mod Validity
