pub mod Changes
pub mod Text
