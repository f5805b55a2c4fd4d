pub mod Reading
pub mod Wanting
pub mod Listing
pub mod Saying
