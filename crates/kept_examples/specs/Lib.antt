pub mod Meeting
pub mod Rows
pub mod WrongRules
pub mod Moments
