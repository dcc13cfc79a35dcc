pub mod Trial
pub mod Trials
