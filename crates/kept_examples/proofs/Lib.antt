pub mod Meeting
pub mod WrongRules
pub mod Moments
