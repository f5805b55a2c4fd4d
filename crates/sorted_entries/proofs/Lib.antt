pub mod Sorted
pub mod Spots
pub mod Places
