pub mod Counts
pub mod Edits
pub mod Written
