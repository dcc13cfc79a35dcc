pub mod Function
pub mod Header
pub mod RoundTrip
