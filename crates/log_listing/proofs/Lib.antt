pub mod Records
pub mod Lines
pub mod Listings
