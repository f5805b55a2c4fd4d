pub mod Writing
pub mod Prefixes
pub mod Regions
pub mod Sights
