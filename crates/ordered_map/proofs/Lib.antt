pub mod Spots
pub mod Flat
pub mod Close
pub mod Halves
pub mod Search
pub mod Found
pub mod Whole
