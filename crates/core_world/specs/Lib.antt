pub mod Ties
pub mod Readings
pub mod Journals
pub mod Sights
pub mod Beside
pub mod Quiet
pub mod Steps
pub mod Events
