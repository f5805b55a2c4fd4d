pub mod Rows
pub mod Torn
pub mod Seals
pub mod Deaths
pub mod WrongRules
