pub mod Runs
pub mod Torn
pub mod Seals
pub mod Deaths
pub mod WrongRules
