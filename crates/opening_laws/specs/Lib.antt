pub mod Bytes
pub mod Regions
pub mod FirstDisks
pub mod Starts
pub mod Again
