pub mod Ways
pub mod Depth
pub mod Entries
pub mod Needed
pub mod Lines
