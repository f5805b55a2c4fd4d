pub mod Caches
pub mod Flags
