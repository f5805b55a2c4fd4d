pub mod Journals
pub mod Steps
pub mod Seals
pub mod Worlds
pub mod Examples
