pub mod Images
pub mod Answers
pub mod Entries
pub mod Laws
