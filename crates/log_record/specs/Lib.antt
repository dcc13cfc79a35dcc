pub mod Kind
pub mod Record
pub mod Read
